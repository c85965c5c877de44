-- What contracts see of the machine's files and streams: how many calls failed, and no content.
use Rattle.std.specs.Prelude.{ℕ}

-- how many calls failed, counted in 64 bits from 0
pub record HostState : Type 0 where
  pub faults : ℕ
