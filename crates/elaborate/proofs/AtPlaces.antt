-- What stands at a place of a list.
--
--   made-of, made        of a list that was mapped
--   known-at             of ids that are known
--   same-id              ids are the same where their numbers are
--   something-shown      where something stands at a place the list isn't empty
use Rattle.std.proofs.Common.{◌≡◌, ◌≢◌, ◌<◌, ℕ, zero, suc, List, [], ◌∷◌, length, map, refl, sym}
use Rattle.std.proofs.Common.{◌∙◌, ap, subst, arith, slice_get, option_map, Some}
use Rattle.std.proofs.lemmas.Option.{slice_get-map, slice_get_within}
use Rattle.std.specs.declared.option.Option.{Option}
use Rattle.std.specs.declared.option.Option.TheVariants.{None}
use Rattle.attr_value.specs.declared.head.ValueId.{ValueId}
use Rattle.attr_value.specs.Ids.{AreKnown}
use Rattle.module_meaning.proofs.Places.{some-same}

module _ {A B : Type 0} (f : A → B) where
  -- something of which it was made
  pub made-of : (xs : List A) (ys : List B) (i : ℕ) (y : B) → map f xs ≡ ys
      → slice_get ys i ≡ Some y → (x : A) × (slice_get xs i ≡ Some x) × (f x ≡ y)
  made-of xs ys i y e is =
      let there : option_map f (slice_get xs i) ≡ Some y =
      sym (slice_get-map f xs i) ∙ ap (λ l. slice_get l i) e ∙ is in
      go (slice_get xs i) refl there
    where
      go : (o : Option A) → slice_get xs i ≡ o → option_map f o ≡ Some y
          → (x : A) × (slice_get xs i ≡ Some x) × (f x ≡ y)
      go None s e = absurd (cc)
      go (Some x) s e = (x, s, some-same (f x) y e)

  -- what was made of something
  pub made : (xs : List A) (ys : List B) (i : ℕ) (x : A) → map f xs ≡ ys
      → slice_get xs i ≡ Some x → slice_get ys i ≡ Some (f x)
  made xs ys i x e is =
      ap (λ l. slice_get l i) (sym e) ∙ slice_get-map f xs i ∙ ap (option_map f) is

-- ids of a list are known
pub known-at : (n : ℕ) (ids : List ValueId) (i : ℕ) (id : ValueId) → AreKnown n ids
    → slice_get ids i ≡ Some id → id.0 < n
known-at n [] i id k is = absurd (cc)
known-at n (x ∷ ids) zero id (k, ks) is =
    subst (λ (v : ValueId). v.0 < n) (some-same x id is) k
known-at n (x ∷ ids) (suc i) id (k, ks) is = known-at n ids i id ks is

-- ids are the same where their numbers are
abbrev id-of : ℕ → ValueId
id-of n = record { 0 = n }

pub same-id : (a b : ValueId) → a.0 ≡ b.0 → a ≡ b
same-id a b e = ap id-of e

-- a list isn't empty where something stands at a place of it
pub something-shown : (xs : List ValueId) (i : ℕ) (x : ValueId) → slice_get xs i ≡ Some x → xs ≢ []
something-shown xs i x is = λ empty.
    let within = slice_get_within xs i x is in
    let none = ap length empty in
    omega (arith, within, none)
