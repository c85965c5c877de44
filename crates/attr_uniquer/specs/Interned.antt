-- What keeping a value does to a table of values.
--
--   Interned old new v i     the value v has the id i, and earlier ids keep their values
use Rattle.std.specs.Prelude.{◌≡◌, ◌⊎◌, ℕ, List, [], ◌∷◌, ◌++◌, slice_get}
use Rattle.std.specs.declared.option.Option.TheVariants.{Some}
use Rattle.attr_value.specs.Values.{Value}

-- The value stands at the place i, and the table is as it was or has the value added at its end.
pub record Interned (old new : List Value) (v : Value) (i : ℕ) : Type 0 where
  pub stands : slice_get new i ≡ Some v
  pub kept : (new ≡ old) ⊎ (new ≡ old ++ v ∷ [])
