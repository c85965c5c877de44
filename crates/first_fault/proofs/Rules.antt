-- The first of the faults that a rule finds of marks, as they come one by one.
use Rattle.std.proofs.Common.{◌≡◌, ◌⊎◌, inl, inr, List, [], ◌∷◌, ◌++◌, refl, ◌∙◌, ap, subst, append_assoc}
use Rattle.std.specs.declared.option.Option.{Option}
use Rattle.std.specs.declared.option.Option.TheVariants.{Some, None}
use Rattle.first_fault.specs.declared.fault.Fault.{Fault}
use Rattle.first_fault.specs.Firsts.{earlier_of, IsFirst, Rule, IsFaultBy}
use Rattle.first_fault.proofs.Firsts.{first-same, first-either, first-one}

-- where a cut of a list with one more lies
data Cut {M : Type 0} (ms before : List M) (m mark : M) (after : List M) : Type 0 where
  last : ms ≡ before → m ≡ mark → Cut ms before m mark after
  earlier_on : (rest : List M) → ms ≡ before ++ mark ∷ rest → Cut ms before m mark after

cut-cons : {M : Type 0} (x : M) {ms before after : List M} {m mark : M}
    → Cut ms before m mark after → Cut (x ∷ ms) (x ∷ before) m mark after
cut-cons x (last p q) = last (ap (λ l. x ∷ l) p) q
cut-cons x (earlier_on rest p) = earlier_on rest (ap (λ l. x ∷ l) p)

cut-of : {M : Type 0} (ms before after : List M) (m mark : M)
    → ms ++ m ∷ [] ≡ before ++ mark ∷ after → Cut ms before m mark after
cut-of [] [] after m mark e = last refl (cc)
cut-of [] (b ∷ []) after m mark e = absurd (cc)
cut-of [] (b ∷ c ∷ before) after m mark e = absurd (cc)
cut-of (x ∷ ms) [] after m mark e = earlier_on ms (let h : x ≡ mark = cc in ap (λ y. y ∷ ms) h)
cut-of {M = M} (x ∷ ms) (b ∷ before) after m mark e =
    let head : x ≡ b = cc in
    let tail : ms ++ m ∷ [] ≡ before ++ mark ∷ after = cc in
    subst (λ (z : M). Cut (x ∷ ms) (z ∷ before) m mark after) head
    (cut-cons x (cut-of ms before after m mark tail))

module _ {M : Type 0} (rule : Rule M) (ms : List M) (m : M) where
  -- a fault stays one with one mark more
  in-front : (f : Fault) → IsFaultBy rule ms f → IsFaultBy rule (ms ++ m ∷ []) f
  in-front f x = record {
    before = x.before;
    mark = x.mark;
    after = x.after ++ m ∷ [];
    cut = ap (λ w. w ++ m ∷ []) x.cut ∙ append_assoc x.before (x.mark ∷ x.after) (m ∷ []);
    is = x.is;
  }

  at-last : (f : Fault) → rule ms m ≡ Some f → IsFaultBy rule (ms ++ m ∷ []) f
  at-last f e = record { before = ms; mark = m; after = []; cut = refl; is = e }

  one-of : (f : Fault) → IsFaultBy rule (ms ++ m ∷ []) f
      → IsFaultBy rule ms f ⊎ (rule ms m ≡ Some f)
  one-of f x = go (cut-of ms x.before x.after m x.mark x.cut)
    where
      go : Cut ms x.before m x.mark x.after → IsFaultBy rule ms f ⊎ (rule ms m ≡ Some f)
      go (last p q) = inr (ap (λ b. rule b m) p ∙ ap (λ k. rule x.before k) q ∙ x.is)
      go (earlier_on rest p) =
          inl (record { before = x.before; mark = x.mark; after = rest; cut = p; is = x.is })

  -- with one mark more, the first fault is the earlier of the first so far and the mark's own
  pub first-more : (a : Option Fault) → IsFirst (IsFaultBy rule ms) a
      → IsFirst (IsFaultBy rule (ms ++ m ∷ [])) (earlier_of a (rule ms m))
  first-more a x =
      first-same (λ f. IsFaultBy rule ms f ⊎ (rule ms m ≡ Some f))
      (IsFaultBy rule (ms ++ m ∷ [])) (earlier_of a (rule ms m))
      (λ f z. elim z as (λ _. IsFaultBy rule (ms ++ m ∷ []) f) [
        | inl p ↦ in-front f p
        | inr q ↦ at-last f q
      ])
      one-of
      (first-either (IsFaultBy rule ms) (λ f. rule ms m ≡ Some f) a (rule ms m) x
      (first-one (rule ms m)))

-- without marks there is no fault
pub first-none : {M : Type 0} (rule : Rule M) → IsFirst (IsFaultBy rule []) None
first-none {M = M} rule = λ f x. nothing x.before x.mark x.after x.cut
  where
    nothing : (before : List M) (mark : M) (after : List M) → [] ≡ before ++ mark ∷ after → ⊥
    nothing [] mark after e = absurd (cc)
    nothing (b ∷ before) mark after e = absurd (cc)
