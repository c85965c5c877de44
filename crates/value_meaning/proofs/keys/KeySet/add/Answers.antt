use Rattle.std.proofs.Common.{◌≡◌, ◌↔◌, inl, inr, ℕ, Bool, true, false, cond, not, bytes_eq}
use Rattle.std.proofs.Common.{IsTrue, List, [], ◌∷◌, ◌++◌, Contains, refl, sym, ◌∙◌, ap, subst}
use Rattle.std.proofs.lemmas.List.Elements.{Contains-append_left, Contains-push}
use Rattle.std.proofs.lemmas.List.Elements.{Contains-push_cases}
use Rattle.std.proofs.lemmas.Slice.Eq.{bytes_eq-Decides}
use Rattle.value_meaning.proofs.keys.KeySet.add.Goals as goal

twice : (a : Bool) → not (not a) ≡ a
twice true = refl
twice false = refl

-- with one key more, a key is held where it is this one or was held before
held-more : (seen : List (List ℕ)) (key other : List ℕ) (old new : Bool)
    → IsTrue old ↔ Contains seen other → new ≡ cond (bytes_eq key other) true old
    → IsTrue new ↔ Contains (seen ++ key ∷ []) other
held-more seen key other old new is e = go (bytes_eq key other) refl
  where
    go : (one : Bool) → bytes_eq key other ≡ one
        → IsTrue new ↔ Contains (seen ++ key ∷ []) other
    go true one =
        let same : key ≡ other = (bytes_eq-Decides key other).0 one in (
          λ found. subst (λ k. Contains (seen ++ key ∷ []) k) same (Contains-push seen key),
          λ among. e ∙ ap (λ b. cond b true old) one,
        )
    go false one =
        let as_old : new ≡ old = e ∙ ap (λ b. cond b true old) one in (
          λ found. Contains-append_left seen (key ∷ []) other (is.0 (sym as_old ∙ found)),
          λ among. elim (Contains-push_cases seen key other among) as (λ _. new ≡ true) [
            | inl before ↦ as_old ∙ is.1 before
            | inr same ↦
                let yes : bytes_eq key other ≡ true = (bytes_eq-Decides key other).1 same in
                absurd (cc)
          ],
        )

pub returns-in-Ok-clause-value : goal.returns-in-Ok-clause-value
returns-in-Ok-clause-value c = λ seen is.
    let known = ap not c.in-Ok.ensures.added ∙ twice _ in (
      λ found. (is.same c.args.key.now).0 (sym known ∙ found),
      λ among. known ∙ (is.same c.args.key.now).1 among,
    )

pub returns-in-Ok-clause-ok : goal.returns-in-Ok-clause-ok
returns-in-Ok-clause-ok c = λ seen is. record {
  same = λ other.
      held-more seen c.args.key.now other _ _ (is.same other)
      (c.in-Ok.ensures.updates.0 (record { ref_ptr = (0, 0); now = other }));
}
