-- What a value is: a head, and a list of values, its kids.
--
-- Types and attributes are values alike. The kids of a function type are its inputs and then its
-- results, those of a dictionary the values in the order of its keys, those of a dialect's value
-- its parameters, and the kid of a shaped or complex type is its element type.
--
--   Values              a list of values
--   Value               a value
--   value head kids     the value with this head and these kids
--   list_of vs          the values of such a list, one by one
--   greatest_depth vs   the greatest depth in such a list
--   depth v             1 without kids, else one more than the greatest depth of a kid
use Rattle.std.specs.Prelude.{ℕ, ◌+◌, List, [], ◌∷◌, max}
use Rattle.attr_value.specs.declared.head.Head.{Head}

-- A list of values. For each there is its head, its kids, and then the values behind it.
pub data Values : Type 0 where
  none : Values
  more : Head → Values → Values → Values

-- a head and the kids
pub record Value : Type 0 where
  pub head : Head
  pub kids : Values

-- the value with this head and these kids
abbrev pub value : Head → Values → Value
value head kids = record { head = head; kids = kids }

-- the values, one by one
abbrev pub list_of : Values → List Value
list_of none = []
list_of (more head kids rest) = value head kids ∷ list_of rest

-- the greatest depth in a list, 0 where it has no value
abbrev pub greatest_depth : Values → ℕ
greatest_depth none = 0
greatest_depth (more head kids rest) = max (greatest_depth kids + 1) (greatest_depth rest)

-- 1 without kids, else one more than the greatest depth of a kid
abbrev pub depth : Value → ℕ
depth v = greatest_depth v.kids + 1
