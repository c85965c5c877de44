-- Calls that are planned to fail, each named by its number.
--
-- The calls of an object are counted from 1 since it was made. The count is kept in 64 bits and
-- stands still at the greatest number; no number names a call after that one.
--
--   is_planned calls planned    the call after so many is one of those planned to fail
--   none_later calls planned    no call after so many is
use Rattle.std.specs.Prelude.{ℕ, ◌+◌, ◌&&◌, Bool, List, nat_eq, nat_lt, nat_le}
use Rattle.std.specs.List.{list_any, list_all}
use Rattle.irdl_bytes.specs.Outside.{greatest_count}

-- the call after so many is planned to fail
abbrev pub is_planned : ℕ → List ℕ → Bool
is_planned calls planned =
    nat_lt calls greatest_count && list_any (λ k. nat_eq k (calls + 1)) planned

-- each call planned to fail is among the first so many
abbrev pub none_later : ℕ → List ℕ → Bool
none_later calls planned = list_all (λ k. nat_le k calls) planned
