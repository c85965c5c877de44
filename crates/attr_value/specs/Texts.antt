-- Where the bytes of a text are.
--
--   bytes_of bytes    the bytes of a text that are kept so
--   IsWithin bytes    a text that is kept in place is no longer than its room
--
-- Inside: no public clause rests on this.
use Rattle.std.specs.Prelude.{ℕ, ◌≤◌, List, take}
use Rattle.attr_value.specs.declared.text.Bytes.{Bytes}
use Rattle.attr_value.specs.declared.text.Bytes.TheVariants.{Short, Long}
use Rattle.attr_value.specs.declared.text.TheConstants.{SHORT_LIMIT}

-- the first bytes of the room, so many as the length says, or those on the heap
abbrev pub bytes_of : Bytes → List ℕ
bytes_of (Short len array) = take len array
bytes_of (Long bytes) = bytes.value.items

-- the length is at most that of the room
abbrev pub IsWithin : Bytes → Type 0
IsWithin (Short len array) = len ≤ SHORT_LIMIT
IsWithin (Long bytes) = Unit {0}
