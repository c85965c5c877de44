-- Numbers behind value names: the `1` of `%x#1`, and the size `2` of the pack `%x:2`.
--
-- Digits may be many, and zeros may stand first. A number of a use past the greatest of 32 bits is
-- that one, which is past every pack. A pack has 1 to `PACK_LIMIT` values, in decimal; any other
-- size is wrong, and then the pack is defined with count 0.
--
--   use_number number          the number of a use: 0 where none is written
--   number_place place number  where it stands: at the use's place where none is written
--   pack_size digits           the size that digits spell, or none where it is wrong
--   pack_count pack            how many values a name stands for: 1 where no size is written
use Rattle.std.specs.Prelude.{ℕ, Bool, ◌&&◌, min, nat_le, if◌then◌else◌}
use Rattle.std.specs.declared.option.Option.{Option}
use Rattle.std.specs.declared.option.Option.TheVariants.{Some, None}
use Rattle.generic_syntax.specs.declared.module_cst.NumberCst.{NumberCst}
use Rattle.grammar.specs.Looks.{all_digits, decimal}
use Rattle.ir_lexer.specs.Spelling.{Text}
use Rattle.module_names.specs.declared.number.TheConstants.{GREATEST, PACK_LIMIT}

-- the number that decimal digits spell, or the greatest of 32 bits where it is greater
abbrev pub number_in : Text → ℕ
number_in digits = min (decimal 0 digits) GREATEST

-- the number of a use
abbrev pub use_number : Option NumberCst → ℕ
use_number None = 0
use_number (Some n) = number_in n.digits

-- where the number of a use at this place stands
abbrev pub number_place : ℕ → Option NumberCst → ℕ
number_place place None = place
number_place place (Some n) = n.place

-- a pack may have so many values
abbrev pub is_pack_size : ℕ → Bool
is_pack_size n = nat_le 1 n && nat_le n PACK_LIMIT

-- the size that digits spell, if they are decimal and a pack may have it
abbrev pub pack_size : Text → Option ℕ
pack_size digits =
    if all_digits digits && is_pack_size (decimal 0 digits) then Some (decimal 0 digits) else None

-- a size, or 0 where it is wrong
abbrev pub size_or_0 : Option ℕ → ℕ
size_or_0 (Some n) = n
size_or_0 None = 0

-- how many values a name stands for; 0 of a wrong size
abbrev pub pack_count : Option NumberCst → ℕ
pack_count None = 1
pack_count (Some n) = size_or_0 (pack_size n.digits)
