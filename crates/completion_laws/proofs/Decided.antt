-- Values are the same, or they aren't: so what isn't other than a value is it.
use Rattle.std.proofs.Common.{◌≡◌, ◌≢◌, ◌⊎◌, inl, inr, Bool, true, false, refl, sym, subst}
use Rattle.std.specs.declared.option.Option.{Option}
use Rattle.std.specs.declared.option.Option.TheVariants.{Some, None}
use Rattle.attr_value.specs.contracts.head.HeadPartialEq.TheImpl as head
use Rattle.attr_value.specs.contracts.head.HeadEq.TheImpl.Laws as head_eq
use Rattle.attr_value.specs.declared.head.Head.{Head}
use Rattle.attr_value.specs.Values.{Value, Values, none, more, value}
use Rattle.attr_value.proofs.SameHead.{same-head}
use Rattle.module_meaning.proofs.Places.{some-same}

-- heads are the same, or not
decided-head : (a b : Head) → (a ≡ b) ⊎ (a ≢ b)
decided-head a b = go (head.ghosts.eq a b) refl
  where
    go : (t : Bool) → head.ghosts.eq a b ≡ t → (a ≡ b) ⊎ (a ≢ b)
    go true is = inl (same-head a b is)
    go false is = inr (λ same.
        (let itself : head.ghosts.eq a a ≡ true = head_eq.laws-law.refl a in
        let other : head.ghosts.eq a a ≡ false =
        subst (λ (x : Head). head.ghosts.eq a x ≡ false) (sym same) is in
        absurd (cc)))

-- so are lists of values
decided-values : (a b : Values) → (a ≡ b) ⊎ (a ≢ b)
decided-values none none = inl refl
decided-values none (more h ks rest) = inr (λ e. absurd (cc))
decided-values (more h ks rest) none = inr (λ e. absurd (cc))
decided-values (more h ks rest) (more j ls tail) =
    by (decided-head h j) (decided-values ks ls) (decided-values rest tail)
  where
    by : (h ≡ j) ⊎ (h ≢ j) → (ks ≡ ls) ⊎ (ks ≢ ls) → (rest ≡ tail) ⊎ (rest ≢ tail)
        → (more h ks rest ≡ more j ls tail) ⊎ (more h ks rest ≢ more j ls tail)
    by (inl a) (inl b) (inl c) = inl (λ i. more (a i) (b i) (c i))
    by (inr a) b c = inr (λ e. (let same : h ≡ j = cc in a same))
    by (inl a) (inr b) c = inr (λ e. (let same : ks ≡ ls = cc in b same))
    by (inl a) (inl b) (inr c) = inr (λ e. (let same : rest ≡ tail = cc in c same))

-- and values
decided-value : (a b : Value) → (a ≡ b) ⊎ (a ≢ b)
decided-value a b = by (decided-head a.head b.head) (decided-values a.kids b.kids)
  where
    by : (a.head ≡ b.head) ⊎ (a.head ≢ b.head) → (a.kids ≡ b.kids) ⊎ (a.kids ≢ b.kids)
        → (a ≡ b) ⊎ (a ≢ b)
    by (inl h) (inl ks) = inl (λ i. value (h i) (ks i))
    by (inr h) ks = inr (λ e. h (λ i. (e i).head))
    by (inl h) (inr ks) = inr (λ e. ks (λ i. (e i).kids))

-- a place that isn't without this value has it
pub not-other : (o : Option Value) (v : Value) → (o ≢ Some v → ⊥) → o ≡ Some v
not-other None v there = absurd (there (λ e. absurd (cc)))
not-other (Some w) v there = by (decided-value w v)
  where
    by : (w ≡ v) ⊎ (w ≢ v) → Some w ≡ Some v
    by (inl same) = λ i. Some (same i)
    by (inr other) = absurd (there (λ e. other (some-same w v e)))
