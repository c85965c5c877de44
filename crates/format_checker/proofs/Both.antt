-- The first that two lists give together, for loops over both.
use Rattle.std.proofs.Common.{◌≡◌, ℕ, suc, ◌+◌, ◌<◌, ◌≤◌, List, [], ◌∷◌, length, drop, get_or, refl, sym, ◌∙◌, ap, arith, drop-cons, drop_of_length-le, Option, Some, None}
use Rattle.std.specs.Option.{option_or}
use Rattle.format_checker.specs.Anchors.{first_of_both}

-- the list from a place on, by the item there
pub cut-at : {A : Type 0} (xs : List A) (i : ℕ) (x : A) → i < length xs → x ≡ get_or xs i x
    → drop i xs ≡ x ∷ drop (i + 1) xs
cut-at xs i x less is =
    let next : suc i ≡ i + 1 = omega arith in
    drop-cons xs i x less
    ∙ ap (λ e. e ∷ drop (suc i) xs) (sym is)
    ∙ ap (λ n. x ∷ drop n xs) next

-- none is given before a place: all that there is is given from there on
pub record NoneBefore {A B C : Type 0} (f : A → B → Option C) (xs : List A) (ys : List B) (i : ℕ)
    : Type 0 where
  pub same : first_of_both f (drop i xs) (drop i ys) ≡ first_of_both f xs ys

module _ {A B C : Type 0} (f : A → B → Option C) (xs : List A) (ys : List B) where
  pub none-at-first : NoneBefore f xs ys 0
  none-at-first = record { same = refl }

  at-place : (i : ℕ) (x : A) (y : B) → i < length xs → i < length ys → x ≡ get_or xs i x
      → y ≡ get_or ys i y → first_of_both f (drop i xs) (drop i ys)
      ≡ option_or (f x y) (first_of_both f (drop (i + 1) xs) (drop (i + 1) ys))
  at-place i x y less more is are =
      ap (λ l. first_of_both f l (drop i ys)) (cut-at xs i x less is)
      ∙ ap (λ l. first_of_both f (x ∷ drop (i + 1) xs) l) (cut-at ys i y more are)

  -- both items give none
  pub none-more : (i : ℕ) (x : A) (y : B) → i < length xs → i < length ys → x ≡ get_or xs i x
      → y ≡ get_or ys i y → f x y ≡ None → NoneBefore f xs ys i → NoneBefore f xs ys (i + 1)
  none-more i x y less more is are none before = record {
    same =
        ap (λ o. option_or o (first_of_both f (drop (i + 1) xs) (drop (i + 1) ys))) (sym none)
        ∙ sym (at-place i x y less more is are)
        ∙ before.same;
  }

  -- they give one
  pub first-is : (i : ℕ) (x : A) (y : B) (z : C) → i < length xs → i < length ys
      → x ≡ get_or xs i x → y ≡ get_or ys i y → f x y ≡ Some z → NoneBefore f xs ys i
      → Some z ≡ first_of_both f xs ys
  first-is i x y z less more is are one before =
      ap (λ o. option_or o (first_of_both f (drop (i + 1) xs) (drop (i + 1) ys))) (sym one)
      ∙ sym (at-place i x y less more is are)
      ∙ before.same

  none-left : (l : List B) → first_of_both f [] l ≡ None
  none-left l = refl

  none-right : (l : List A) → first_of_both f l [] ≡ None
  none-right [] = refl
  none-right (x ∷ l) = refl

  -- one of the lists ends
  pub none-first : (i : ℕ) → length xs ≤ i → NoneBefore f xs ys i → None ≡ first_of_both f xs ys
  none-first i le before =
      sym (ap (λ l. first_of_both f l (drop i ys)) (drop_of_length-le xs {i = i} le)) ∙ before.same

  pub none-second : (i : ℕ) → length ys ≤ i → NoneBefore f xs ys i → None ≡ first_of_both f xs ys
  none-second i le before =
      sym (ap (λ l. first_of_both f (drop i xs) l) (drop_of_length-le ys {i = i} le)
      ∙ none-right (drop i xs))
      ∙ before.same
