-- The numbers of integer types: which may be written, and which are kept.
--
--   power n               2 to the power of n, as a signed number
--   IsNumberWidth width   numbers may be so wide
--   HasNumbers kind       numbers may have an integer type of the kind
--   lowest kind           the least number that may be written at the kind
--   limit kind            one more than the greatest
--   IsInRange kind n      the number n may be written at the kind
--   kept kind n           the number that is kept of n
--   kept_kind kind        the kind in whose range the kept numbers lie
--   IsKept kind n         n is a number that is kept at the kind
use Rattle.std.specs.Prelude.{ℕ, ◌-◌, ◌^◌, ◌≤◌, ℤ, pos, neg_ℤ, ◌-ℤ◌, ◌≤ℤ◌, ◌<ℤ◌, int_le}
use Rattle.std.specs.Prelude.{if◌then◌else◌}
use Rattle.attr_value.specs.declared.kind.IntKind.{IntKind}
use Rattle.attr_value.specs.declared.kind.IntKind.TheVariants.{Index, Signless, Signed, Unsigned}
use Rattle.attr_value.specs.declared.number.TheConstants.{NUMBER_WIDTH_LIMIT}

-- 2 to the power of n
abbrev pub power : ℕ → ℤ
power n = pos (2 ^ n)

-- a number has 1 bit to so many as the limit says
abbrev pub IsNumberWidth : ℕ → Type 0
IsNumberWidth width = (1 ≤ width) × (width ≤ NUMBER_WIDTH_LIMIT)

-- numbers may have an integer type of the kind
abbrev pub HasNumbers : IntKind → Type 0
HasNumbers Index = Unit {0}
HasNumbers (Signless width) = IsNumberWidth width
HasNumbers (Signed width) = IsNumberWidth width
HasNumbers (Unsigned width) = IsNumberWidth width

-- the least number that may be written
abbrev pub lowest : IntKind → ℤ
lowest Index = neg_ℤ (power 63)
lowest (Signless width) = neg_ℤ (power (width - 1))
lowest (Signed width) = neg_ℤ (power (width - 1))
lowest (Unsigned width) = pos 0

-- the least number that is too large. Signless numbers may be written with a sign or without one.
abbrev pub limit : IntKind → ℤ
limit Index = power 63
limit (Signless width) = power width
limit (Signed width) = power (width - 1)
limit (Unsigned width) = power width

-- a number may be written at a kind
abbrev pub IsInRange : IntKind → ℤ → Type 0
IsInRange kind n = (lowest kind ≤ℤ n) × (n <ℤ limit kind)

-- The number that is kept: a signless one of the upper half stands for the negative one with the
-- same bits.
abbrev pub kept : IntKind → ℤ → ℤ
kept (Signless width) n = if int_le (power (width - 1)) n then n -ℤ power width else n
kept kind n = n

-- the kind in whose range the kept numbers lie
abbrev pub kept_kind : IntKind → IntKind
kept_kind (Signless width) = Signed width
kept_kind kind = kind

-- a number that is kept at a kind
abbrev pub IsKept : IntKind → ℤ → Type 0
IsKept kind n = HasNumbers kind × IsInRange (kept_kind kind) n
