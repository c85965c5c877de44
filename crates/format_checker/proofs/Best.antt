-- The first look that meets others, for the loop from the right.
use Rattle.std.proofs.Common.{◌≡◌, ℕ, zero, suc, ◌+◌, ◌<◌, ◌≤◌, Bool, true, false, List, [], ◌∷◌, length, drop, get_or, slice_get, refl, sym, ◌∙◌, ap, arith, Some, None, if◌then◌else◌, drop_of_length-le, nat_lt}
use Rattle.std.proofs.lemmas.Option.{slice_get_past}
use Rattle.format_checker.specs.declared.look.Look.{Look}
use Rattle.format_checker.specs.Meeting.{meets_some, precedes, sooner, first_meeting}
use Rattle.format_checker.proofs.Both.{cut-at}

pub item-at : {A : Type 0} (xs : List A) (i : ℕ) (x : A) → i < length xs → x ≡ get_or xs i x
    → slice_get xs i ≡ Some x
item-at [] i x less is = absurd (omega arith)
item-at (y ∷ xs) zero x less is = ap (λ z. Some z) (sym is)
item-at (y ∷ xs) (suc i) x less is = item-at xs i x (omega arith) is

not-less : (a b : ℕ) → false ≡ nat_lt a b → b ≤ a
not-less a b e = grind arith

-- what a look-up doesn't find
pub none-at : {A : Type 0} (xs : List A) (i : ℕ) → false ≡ nat_lt i (length xs)
    → slice_get xs i ≡ None
none-at xs i e = slice_get_past xs i (not-less i (length xs) e)

past-end : {A : Type 0} (xs : List A) → slice_get xs (length xs) ≡ None
past-end [] = refl
past-end (x ∷ xs) = past-end xs

-- no look is left
pub best-end : (own others : List Look)
    → slice_get own (length own) ≡ first_meeting (drop (length own) own) others
best-end own others =
    past-end own
    ∙ ap (λ l. first_meeting l others) (sym (drop_of_length-le own {i = length own} (omega arith)))

module _ (own others : List Look) (at best : ℕ) (look : Look) (less : at < length own)
    (is : look ≡ get_or own at look)
    (known : slice_get own best ≡ first_meeting (drop (at + 1) own) others) where
  with-look : (b : Bool) → meets_some look others ≡ b
      → first_meeting (drop at own) others
      ≡ (if b then Some (sooner look (slice_get own best)) else slice_get own best)
  with-look b e =
      ap (λ l. first_meeting l others) (cut-at own at look less is)
      ∙ ap (λ x. if x then Some (sooner look (first_meeting (drop (at + 1) own) others))
      else first_meeting (drop (at + 1) own) others) e
      ∙ ap (λ r. if b then Some (sooner look r) else r) (sym known)

  -- it comes behind the best of those after it
  pub best-stays : (other : Look) → meets_some look others ≡ true → slice_get own best ≡ Some other
      → precedes other look ≡ true → slice_get own best ≡ first_meeting (drop at own) others
  best-stays other e there before =
      there
      ∙ ap (λ b. Some (if b then other else look)) (sym before)
      ∙ ap (λ r. Some (sooner look r)) (sym there)
      ∙ sym (with-look true e)

  -- it doesn't
  pub best-moves : (other : Look) → meets_some look others ≡ true → slice_get own best ≡ Some other
      → precedes other look ≡ false → slice_get own at ≡ first_meeting (drop at own) others
  best-moves other e there before =
      item-at own at look less is
      ∙ ap (λ b. Some (if b then other else look)) (sym before)
      ∙ ap (λ r. Some (sooner look r)) (sym there)
      ∙ sym (with-look true e)

  -- there is none after it
  pub best-first : meets_some look others ≡ true → slice_get own best ≡ None
      → slice_get own at ≡ first_meeting (drop at own) others
  best-first e none =
      item-at own at look less is
      ∙ ap (λ r. Some (sooner look r)) (sym none)
      ∙ sym (with-look true e)
