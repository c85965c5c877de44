-- Lists that go together item by item, and the items that are reached in them.
use Rattle.std.proofs.Common.{◌≡◌, ℕ, zero, suc, ◌+◌, ◌<◌, ◌⊎◌, inl, inr, Bool, true, false, if◌then◌else◌, List, [], ◌∷◌, ◌++◌, length, take, refl, sym, ◌∙◌, ap, subst, arith}
use Rattle.std.proofs.lemmas.Bool.{cases_lt}
use Rattle.std.proofs.lemmas.List.{take_more}
use Rattle.std.proofs.lemmas.Option.{same_Some, slice_get_within, get_or_from_slice_get}
use Rattle.std.proofs.lemmas.Slice.Zip.{all_zipped_more}
use Rattle.std.specs.List.{AllZip, slice_get}
use Rattle.std.specs.declared.option.Option.TheVariants.{Some}
use Rattle.ir_lexer.specs.Spelling.{Text}
use Rattle.irdl_engine.specs.InOrder.{IsReached}

-- ---- items by their numbers

-- nothing is found in an empty list
pub none-there : {A : Type 0} (n : ℕ) (x : A) → slice_get [] n ≡ Some x → ⊥
none-there n x e = absurd (cc)

-- an item of a front stands there in the list
pub take-there : {A : Type 0} (xs : List A) (i n : ℕ) (x : A) → n < i → slice_get xs n ≡ Some x
    → slice_get (take i xs) n ≡ Some x
take-there [] i n x less e = absurd (none-there n x e)
take-there (a ∷ xs) zero n x less e = absurd (omega arith)
take-there (a ∷ xs) (suc i) zero x less e = e
take-there (a ∷ xs) (suc i) (suc n) x less e = take-there xs i n x (omega arith) e

-- what is found with one item more was there before, or is this item
pub push-there : {A : Type 0} (xs : List A) (y : A) (n : ℕ) (x : A)
    → slice_get (xs ++ y ∷ []) n ≡ Some x → (slice_get xs n ≡ Some x) ⊎ (y ≡ x)
push-there [] y zero x e = inr (same_Some y x e)
push-there [] y (suc n) x e = absurd (none-there n x e)
push-there (a ∷ xs) y zero x e = inl e
push-there (a ∷ xs) y (suc n) x e = push-there xs y n x e

-- one item is found at a place
pub there-once : {A : Type 0} (xs : List A) (m n : ℕ) (x y : A) → m ≡ n
    → slice_get xs m ≡ Some x → slice_get xs n ≡ Some y → x ≡ y
there-once xs m n x y e a b = same_Some x y (sym a ∙ ap (slice_get xs) e ∙ b)

-- ---- pairs of items

-- the partner of an item
pub zip-there : {A B : Type 0} (R : A → B → Type 0) (xs : List A) (ys : List B) → AllZip R xs ys
    → (n : ℕ) (x : A) → slice_get xs n ≡ Some x → (y : B) × R x y
zip-there R [] ys h n x e = absurd (none-there n x e)
zip-there R (a ∷ xs) [] h n x e = absurd h
zip-there R (a ∷ xs) (b ∷ ys) h zero x e = (b, subst (λ z. R z b) (same_Some a x e) h.0)
zip-there R (a ∷ xs) (b ∷ ys) h (suc n) x e = zip-there R xs ys h.1 n x e

-- there are as many
pub zip-length : {A B : Type 0} (R : A → B → Type 0) (xs : List A) (ys : List B) → AllZip R xs ys
    → length xs ≡ length ys
zip-length R [] [] h = refl
zip-length R [] (b ∷ ys) h = absurd h
zip-length R (a ∷ xs) [] h = absurd h
zip-length R (a ∷ xs) (b ∷ ys) h = ap suc (zip-length R xs ys h.1)

-- where each item has one partner, a list has one list of them
pub zip-once : {A B : Type 0} (R : A → B → Type 0)
    → ((x : A) (y z : B) → R x y → R x z → y ≡ z)
    → (xs : List A) (ys zs : List B) → AllZip R xs ys → AllZip R xs zs → ys ≡ zs
zip-once R once [] [] [] h k = refl
zip-once R once [] [] (c ∷ zs) h k = absurd k
zip-once R once [] (b ∷ ys) zs h k = absurd h
zip-once R once (a ∷ xs) [] zs h k = absurd h
zip-once R once (a ∷ xs) (b ∷ ys) [] h k = absurd k
zip-once R once (a ∷ xs) (b ∷ ys) (c ∷ zs) h k =
    ap (λ y. y ∷ ys) (once a b c h.0 k.0) ∙ ap (λ l. c ∷ l) (zip-once R once xs ys zs h.1 k.1)

-- the front with one item more, and its partners with one more
pub zip-more : {A B : Type 0} (R : A → B → Type 0) (xs : List A) (ys : List B) (i : ℕ) (x : A)
    (y : B) → slice_get xs i ≡ Some x → AllZip R (take i xs) ys → R x y
    → AllZip R (take (i + 1) xs) (ys ++ y ∷ [])
zip-more R xs ys i x y at h r =
    let longer : take (i + 1) xs ≡ take i xs ++ x ∷ [] =
    take_more xs i x (slice_get_within xs i x at)
    ∙ ap (λ z. take i xs ++ z ∷ []) (get_or_from_slice_get xs i x x at) in
    subst (λ l. AllZip R l (ys ++ y ∷ [])) (sym longer) (all_zipped_more R (take i xs) ys x y h r)

-- ---- reached items

-- where each item of a front has a partner that shows a property, the next one is reached
pub reaches : {B : Type 0} (R : Text → B → Type 0) (P : Text → Type 0)
    → ((x : Text) (y : B) → R x y → P x)
    → (xs : List Text) (ys : List B) (i : ℕ) (x : Text)
    → AllZip R (take i xs) ys → slice_get xs i ≡ Some x → IsReached P xs i x
reaches R P shows xs ys i x h at = record {
  there = at;
  before = λ n earlier less e.
      let found = zip-there R (take i xs) ys h n earlier (take-there xs i n earlier less e) in
      shows earlier found.0 found.1;
}

-- one item that hasn't the property is reached
pub reached-once : (P : Text → Type 0) (xs : List Text) (m n : ℕ) (x y : Text)
    → IsReached P xs m x → IsReached P xs n y → (P x → ⊥) → (P y → ⊥) → (m ≡ n) × (x ≡ y)
reached-once P xs m n x y a b not-x not-y = elim (cases_lt m n) [
  | inl less ↦ absurd (not-x (b.before m x less a.there))
  | inr le ↦ elim (cases_lt n m) [
    | inl less ↦ absurd (not-y (a.before n y less b.there))
    | inr same ↦
        let e : m ≡ n = omega arith in (e, there-once xs m n x y e a.there b.there)
  ]
]

-- ---- what a push leaves

-- a push that succeeded put the item behind the others
pub pushed : {A : Type 0} (ok : Bool) (old new : List A) (x : A) → true ≡ ok
    → new ≡ (if ok then old ++ x ∷ [] else old) → new ≡ old ++ x ∷ []
pushed false old new x e h = absurd (cc)
pushed true old new x e h = h
