-- A list of predicates, by what they are called and what they say.
--
-- What a predicate is called and what it says are ghost members of its trait, which a clause hands
-- in: `names title natives.now`, `tests property natives.now`.
--
--   names title natives       the bytes of each predicate's name, in order
--   tests property natives    what each predicate says of a value, in order
--   count natives             how many predicates there are
--   says tests i v            what the test at a place says of a value
use Rattle.std.specs.Prelude.{ℕ, Bool, false, List, map, length, slice_index_or}
use Rattle.attr_value.specs.Values.{Value}
use Rattle.native_predicate.specs.declared.natives.Natives.{Natives}

module _ {I : Type 0} {Self : I → Type 0} where
  -- the bytes of each predicate's name
  abbrev pub names : ((i : I) × Self i → List ℕ) → Natives I Self → List (List ℕ)
  names title natives = map (λ p. title (p.vtable, p.value)) natives.list.items

  -- what each predicate says of a value
  abbrev pub tests : ((i : I) × Self i → Value → Bool) → Natives I Self → List (Value → Bool)
  tests property natives = map (λ p. property (p.vtable, p.value)) natives.list.items

  -- how many predicates there are
  abbrev pub count : Natives I Self → ℕ
  count natives = length natives.list.items

-- what the test at a place says of a value, which is false where there is none
abbrev pub says : List (Value → Bool) → ℕ → Value → Bool
says tests i v = slice_index_or tests i (λ other. false) v
