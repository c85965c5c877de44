-- What the predicates that come with the program say of values.
--
--   is_type v        every type
--   is_float v       float types
--   is_signless v    signless integer types
--   is_positive v    numbers whose kept number is greater than 0
--   is_nonempty v    strings of at least one byte
--   is_static v      shaped types without an unknown dimension
--   is_known d       a dimension that is known
--   is_float_head, is_signless_head, is_positive_head, is_nonempty_head, is_static_head
--                    the same of the heads of such values
use Rattle.std.specs.Prelude.{Bool, true, false, ◌∷◌, pos, int_lt}
use Rattle.std.specs.List.{list_all}
use Rattle.attr_value.specs.declared.head.Head.{Head}
use Rattle.attr_value.specs.declared.head.Head.TheVariants as h
use Rattle.attr_value.specs.declared.kind.Dim.{Dim}
use Rattle.attr_value.specs.declared.kind.Dim.TheVariants.{Known, Unknown}
use Rattle.attr_value.specs.declared.kind.IntKind.TheVariants.{Signless}
use Rattle.attr_value.specs.Heads.{is_type_head}
use Rattle.attr_value.specs.Values.{Value}

-- the value is a type
abbrev pub is_type : Value → Bool
is_type v = is_type_head v.head

-- the head of a float type
abbrev pub is_float_head : Head → Bool
is_float_head (h.Float kind) = true
is_float_head _ = false

-- the value is a float type
abbrev pub is_float : Value → Bool
is_float v = is_float_head v.head

-- the head of a signless integer type
abbrev pub is_signless_head : Head → Bool
is_signless_head (h.Int (Signless width)) = true
is_signless_head _ = false

-- the value is a signless integer type
abbrev pub is_signless : Value → Bool
is_signless v = is_signless_head v.head

-- the head of a number whose kept number is greater than 0
abbrev pub is_positive_head : Head → Bool
is_positive_head (h.Number kind n) = int_lt (pos 0) n
is_positive_head _ = false

-- the value is a number whose kept number is greater than 0
abbrev pub is_positive : Value → Bool
is_positive v = is_positive_head v.head

-- the head of a string of at least one byte
abbrev pub is_nonempty_head : Head → Bool
is_nonempty_head (h.Str (byte ∷ bytes)) = true
is_nonempty_head _ = false

-- the value is a string of at least one byte
abbrev pub is_nonempty : Value → Bool
is_nonempty v = is_nonempty_head v.head

-- a dimension that is known
abbrev pub is_known : Dim → Bool
is_known (Known n) = true
is_known Unknown = false

-- the head of a shaped type without an unknown dimension
abbrev pub is_static_head : Head → Bool
is_static_head (h.Shaped kind dims) = list_all is_known dims
is_static_head _ = false

-- the value is a shaped type without an unknown dimension
abbrev pub is_static : Value → Bool
is_static v = is_static_head v.head
