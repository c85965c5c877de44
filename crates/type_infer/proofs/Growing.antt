-- What stays the same where a table of values grows.
use Rattle.std.proofs.Common.{◌≡◌, ◌∙◌, suc, List, [], ◌∷◌, length, Some, None, refl, ap, arith}
use Rattle.attr_value.specs.Ids.{at}
use Rattle.attr_value.specs.Values.{Value}
use Rattle.constraint_solver.specs.Grown.{Extends}
use Rattle.constraint_solver.specs.Roots.{assigned}
use Rattle.constraint_solver.proofs.Grows.{at-grows, length-grows}
use Rattle.type_infer.specs.Asked.{Slots, AreKnownSlots}

module _ (old new : List Value) (grew : Extends old new) where
  -- known ids stand for the same values
  pub assigned-grew : (slots : Slots) → AreKnownSlots (length old) slots
      → assigned new slots ≡ assigned old slots
  assigned-grew [] known = refl
  assigned-grew (None ∷ slots) known =
      ap (λ l. None ∷ l) (assigned-grew slots (λ i id e. known (suc i) id e))
  assigned-grew (Some id ∷ slots) known =
      let first : at new id.0 ≡ at old id.0 = at-grows grew id.0 (known 0 id refl) in
      let rest = assigned-grew slots (λ i other e. known (suc i) other e) in
      ap (λ x. Some x ∷ assigned new slots) first ∙ ap (λ l. Some (at old id.0) ∷ l) rest

  pub known-grew : (slots : Slots) → AreKnownSlots (length old) slots
      → AreKnownSlots (length new) slots
  known-grew slots known i id e =
      let w = known i id e in omega (arith, w, length-grows grew)
