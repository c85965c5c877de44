-- Two lists side by side: put together, cut, and place by place.
use Rattle.std.proofs.Common.{◌≡◌, ℕ, zero, suc, List, [], ◌∷◌, ◌++◌, length, arith, Some}
use Rattle.std.proofs.Common.{slice_get}
use Rattle.std.specs.List.{AllZip}
use Rattle.module_meaning.proofs.Places.{some-same}
use Rattle.std.proofs.Common.{refl, ap, subst}

module _ {A B : Type 0} (R : A → B → Type 0) where
  -- one behind the other
  pub zip-joined : (xs zs : List A) (ys ws : List B) → AllZip R xs ys → AllZip R zs ws
      → AllZip R (xs ++ zs) (ys ++ ws)
  zip-joined [] zs [] ws p q = q
  zip-joined [] zs (y ∷ ys) ws p q = absurd p
  zip-joined (x ∷ xs) zs [] ws p q = absurd p
  zip-joined (x ∷ xs) zs (y ∷ ys) ws (p, ps) q = (p, zip-joined xs zs ys ws ps q)

  -- and apart, where the first are as long
  pub zip-cut : (xs zs : List A) (ys ws : List B) → length xs ≡ length ys
      → AllZip R (xs ++ zs) (ys ++ ws) → AllZip R xs ys × AllZip R zs ws
  zip-cut [] zs [] ws e p = (tt, p)
  zip-cut [] zs (y ∷ ys) ws e p = absurd (omega arith)
  zip-cut (x ∷ xs) zs [] ws e p = absurd (omega arith)
  zip-cut (x ∷ xs) zs (y ∷ ys) ws e (p, ps) =
      let rest = zip-cut xs zs ys ws (omega arith) ps in ((p, rest.0), rest.1)

  -- as long as each other
  pub zip-long : (xs : List A) (ys : List B) → AllZip R xs ys → length xs ≡ length ys
  zip-long [] [] p = refl
  zip-long [] (y ∷ ys) p = absurd p
  zip-long (x ∷ xs) [] p = absurd p
  zip-long (x ∷ xs) (y ∷ ys) (p, ps) = ap suc (zip-long xs ys ps)

  -- what stands at one place
  pub zip-at : (xs : List A) (ys : List B) (i : ℕ) (x : A) (y : B) → AllZip R xs ys
      → slice_get xs i ≡ Some x → slice_get ys i ≡ Some y → R x y
  zip-at [] ys i x y p a b = absurd (cc)
  zip-at (z ∷ xs) [] i x y p a b = absurd p
  zip-at (z ∷ xs) (w ∷ ys) zero x y (p, ps) a b =
      subst (λ v. R v y) (some-same z x a) (subst (λ v. R z v) (some-same w y b) p)
  zip-at (z ∷ xs) (w ∷ ys) (suc i) x y (p, ps) a b = zip-at xs ys i x y ps a b

  -- lists as long as each other, by their places
  pub zip-places : (xs : List A) (ys : List B) → length xs ≡ length ys
      → ((i : ℕ) (x : A) (y : B) → slice_get xs i ≡ Some x → slice_get ys i ≡ Some y → R x y)
      → AllZip R xs ys
  zip-places [] [] e h = tt
  zip-places [] (y ∷ ys) e h = absurd (omega arith)
  zip-places (x ∷ xs) [] e h = absurd (omega arith)
  zip-places (x ∷ xs) (y ∷ ys) e h =
      (h 0 x y refl refl, zip-places xs ys (omega arith) (λ i z w a b. h (suc i) z w a b))

module _ {A B : Type 0} (R S : A → B → Type 0) (more : (x : A) (y : B) → R x y → S x y) where
  -- what is said of each pair, where more follows
  pub zip-wider : (xs : List A) (ys : List B) → AllZip R xs ys → AllZip S xs ys
  zip-wider [] [] p = tt
  zip-wider [] (y ∷ ys) p = absurd p
  zip-wider (x ∷ xs) [] p = absurd p
  zip-wider (x ∷ xs) (y ∷ ys) (p, ps) = (more x y p, zip-wider xs ys ps)
