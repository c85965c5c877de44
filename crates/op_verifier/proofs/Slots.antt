-- What one question does to what is asked: it is what giving a variable a value does in the solver.
use Rattle.std.proofs.Common.{◌≡◌, ℕ, ◌+◌, ◌<◌, List, [], ◌∷◌, ◌++◌, length}
use Rattle.std.proofs.Common.{Some, None, slice_set, refl, arith}
use Rattle.std.proofs.lemmas.List.{length-set}
use Rattle.std.specs.List.{AllByRecursion}
use Rattle.std.specs.Prelude.{slice_index_or}
use Rattle.attr_value.specs.declared.head.ValueId.{ValueId}
use Rattle.attr_value.specs.Ids.{at}
use Rattle.attr_value.specs.Values.{Value}
use Rattle.dialect_defs.specs.declared.body.VarId.{VarId}
use Rattle.dialect_defs.specs.Assignments.{Has}
use Rattle.constraint_solver.specs.Roots.{assigned}
use Rattle.constraint_solver.specs.Search.{Forced}
use Rattle.constraint_solver.proofs.Given.{forced-set, forced-same, refuted}
use Rattle.op_verifier.specs.Asked.{Slots, Asks, Refuses}

-- what holds of each item and of one more
pub all-push : {X : Type 0} (P : X → Type 0) (xs : List X) (x : X) → AllByRecursion P xs → P x
    → AllByRecursion P (xs ++ x ∷ [])
all-push P [] x all p = (p, tt)
all-push P (y ∷ ys) x all p = (all.0, all-push P ys x all.1 p)

module _ (values : List Value) where
  -- the least values that give a variable its own are asked of it
  asks-of-forced : (n : ℕ) (s t : Slots) (var : VarId) (x : Value) → length t ≡ length s
      → Forced n (assigned values s) (assigned values t) (λ a. Has a var x)
      → Asks values s t (λ a. Has a var x)
  asks-of-forced n s t var x size f = record {
    size = size;
    down = λ a w has. (f.least a w has, tt);
    up = λ a w all. (λ v y has. w v y (f.grown v y has), w var x f.holds);
  }

  -- a variable that nothing was asked of gets a value
  pub ask-first : (s : Slots) (var : VarId) (id : ValueId)
      → slice_index_or s var.0 None ≡ None → var.0 < length s
      → Asks values s (slice_set s var.0 (Some id)) (λ a. Has a var (at values id.0))
  ask-first s var id free within =
      asks-of-forced (var.0 + 1) s (slice_set s var.0 (Some id)) var (at values id.0)
      (length-set s var.0 (Some id))
      (forced-set values s var id free within (var.0 + 1) (omega arith))

  -- a variable that has the value gets it again
  pub ask-again : (s : Slots) (var : VarId) (id other : ValueId)
      → slice_index_or s var.0 None ≡ Some other → at values other.0 ≡ at values id.0
      → Asks values s s (λ a. Has a var (at values id.0))
  ask-again s var id other has same =
      asks-of-forced (var.0 + 1) s s var (at values id.0) refl
      (forced-same values (var.0 + 1) s var other id has same)

  -- a variable that has another value is refused
  pub ask-other : (s : Slots) (var : VarId) (id other : ValueId)
      → slice_index_or s var.0 None ≡ Some other → (at values other.0 ≡ at values id.0 → ⊥)
      → Refuses values s (λ a. Has a var (at values id.0))
  ask-other s var id other has differ = record { none = refuted values s var other id has differ }
