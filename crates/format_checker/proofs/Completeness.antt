-- Whether all that has to be shown is, by what is known of what was shown.
use Rattle.std.proofs.Common.{◌≡◌, ℕ, ◌<◌, ◌↔◌, Bool, true, false, List, ◌∙◌, subst, IsTrue}
use Rattle.std.proofs.lemmas.Bool.{false≢true}
use Rattle.dialect_defs.specs.declared.definition.OpDef.{OpDef}
use Rattle.dialect_defs.specs.declared.format.Element.{Element}
use Rattle.format_checker.specs.declared.shown.Shown.{Shown}
use Rattle.format_checker.specs.declared.shown.Thing.{Thing}
use Rattle.format_checker.specs.Shown.{showings, AreShown, ShowsAll}
use Rattle.format_checker.specs.Tables.{Saw, holds}

-- where a table hasn't all numbers, not all things of them are shown
pub not-shown : (op : OpDef) (es : List Element) (s : Shown) (f : ℕ → Thing) (table : ℕ → Bool)
    (n count : ℕ) (r : Bool) → Saw (showings op es) s → ((k : ℕ) → table k ≡ holds s (f k))
    → (IsTrue r ↔ ((k : ℕ) → k < n → table k ≡ true)) → n ≡ count → r ≡ false
    → (IsTrue false → ShowsAll op es) × (AreShown op es f count → IsTrue false)
not-shown op es s f table n count true saw is means same e = absurd (cc)
not-shown op es s f table n count false saw is means same e = (
  λ t. absurd (false≢true t),
  λ all. means.1 (λ k less. is k ∙ saw.knows (f k) ∙ all k (subst (λ m. k < m) same less)),
)
