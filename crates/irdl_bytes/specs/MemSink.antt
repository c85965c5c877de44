-- A stream in memory, and what a write does to it.
--
--   SinkState             what contracts see of it
--   space s               how many bytes more it takes
--   write_fails s piece   a write of this piece fails
--   after_write s piece   the stream after that write
use Rattle.std.specs.Prelude.{ℕ, ◌-◌, ◌||◌, ◌++◌, Bool, List, length, take, nat_lt, if◌then◌else◌}
use Rattle.irdl_bytes.specs.Outside.{next_count}
use Rattle.irdl_bytes.specs.Planned.{is_planned}

-- The bytes written; the number of bytes that no write passes; how many writes were made; the
-- numbers of those planned to fail; how many failed.
pub record SinkState : Type 0 where
  pub bytes : List ℕ
  pub limit : ℕ
  pub calls : ℕ
  pub planned : List ℕ
  pub faults : ℕ

-- how many bytes more fit, none where the limit is reached or passed
abbrev pub space : SinkState → ℕ
space s = s.limit - length s.bytes

-- a write fails where it is planned to, and where its piece has no space
abbrev pub write_fails : SinkState → List ℕ → Bool
write_fails s piece = is_planned s.calls s.planned || nat_lt (space s) (length piece)

-- A write that is planned to fail appends nothing, and any other as much as has space. Each is
-- counted, and where it fails, so is a fault.
abbrev pub after_write : SinkState → List ℕ → SinkState
after_write s piece = record s {
  bytes = if is_planned s.calls s.planned then s.bytes else s.bytes ++ take (space s) piece;
  calls = next_count s.calls;
  faults = if write_fails s piece then next_count s.faults else s.faults;
}
