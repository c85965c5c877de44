-- Tables of values that grow: more values come behind those that are there, which keep their ids.
--
--   Extends old new     new is the table old with more values behind it
use Rattle.std.specs.Prelude.{◌≡◌, List, ◌++◌}
use Rattle.attr_value.specs.Values.{Value}

-- the values of the first table in their order, and then more
pub record Extends (old new : List Value) : Type 0 where
  pub more : List Value
  pub is : new ≡ old ++ more
