-- Branches, for the loops over them.
use Rattle.std.proofs.Common.{◌≡◌, ℕ, zero, suc, ◌+◌, ◌-◌, ◌<◌, ◌≤◌, Bool, true, false, ◌&&◌, List, [], ◌∷◌, ◌++◌, length, drop, get_or, refl, sym, ◌∙◌, ap, arith, if◌then◌else◌, drop-cons, drop_of_length-le, Option, append_assoc, leb-true}
use Rattle.std.specs.Prelude.{nat_le}
use Rattle.std.proofs.lemmas.List.{drop-drop}
use Rattle.dialect_defs.specs.declared.definition.OpDef.{OpDef}
use Rattle.dialect_defs.specs.declared.format.Element.{Element}
use Rattle.format_checker.specs.declared.look.Look.{Look}
use Rattle.format_checker.specs.Columns.{kind_of, is_anchor, counts_empty, counts_starts, counts_open, branch_empty, branch_starts, branch_open}

false-if : (b : Bool) → (b ≡ true → ⊥) → b ≡ false
false-if true never = absurd (never refl)
false-if false never = refl

and-true : (a b : Bool) → (a && b) ≡ true → (a ≡ true) × (b ≡ true)
and-true true b e = (refl, e)
and-true false b e = absurd (cc)

leb-less : (a b : ℕ) → nat_le a b ≡ false → b < a
leb-less a b e = grind arith

drop-more : (i : ℕ) (xs : List Element) → drop (i + 1) xs ≡ drop 1 (drop i xs)
drop-more i xs = sym (drop-drop 1 i xs)

one-more : (i : ℕ) → suc i ≡ i + 1
one-more i = omega arith

nothing-more : {A : Type 0} (xs : List A) → xs ++ [] ≡ xs
nothing-more [] = refl
nothing-more (x ∷ xs) = ap (λ l. x ∷ l) (nothing-more xs)

module _ (op : OpDef) (anchor : Option ℕ) (items : List Element) where
  -- an item of a branch may be empty
  abbrev empty_at : ℕ → Element → Bool
  empty_at i e = counts_empty op (is_anchor anchor i) (kind_of e)

  -- all from this place on may be
  abbrev from : ℕ → Bool
  from i = branch_empty op anchor i (drop i items)

  -- the items from a place on, by the first of them
  cut : (i : ℕ) (e : Element) → i < length items → e ≡ get_or items i e
      → drop i items ≡ e ∷ drop (i + 1) items
  cut i e less is =
      drop-cons items i e less
      ∙ ap (λ x. x ∷ drop (suc i) items) (sym is)
      ∙ ap (λ n. e ∷ drop n items) (one-more i)

  step : (i : ℕ) (e : Element) → i < length items → e ≡ get_or items i e
      → from i ≡ (empty_at i e && from (i + 1))
  step i e less is =
      ap (branch_empty op anchor i) (cut i e less is)

  pub from-end : from (length items) ≡ true
  from-end = ap (branch_empty op anchor (length items)) (drop_of_length-le items {i = length items} (omega arith))

  both-true : (a b : Bool) → a ≡ true → b ≡ true → (a && b) ≡ true
  both-true a b e f = rw (e, f) refl

  -- one item more
  pub from-back : (at : ℕ) (e : Element) → 0 < at → at ≤ length items
      → e ≡ get_or items (at - 1) e → empty_at (at - 1) e ≡ true → from at ≡ true
      → from (at - 1) ≡ true
  from-back at e some le is empty more =
      let next : at - 1 + 1 ≡ at = omega arith in
      step (at - 1) e (omega arith) is
      ∙ both-true (empty_at (at - 1) e) (from (at - 1 + 1)) empty (ap from next ∙ more)

  behind-empty : (i : ℕ) (xs : List Element) → branch_empty op anchor i xs ≡ true
      → branch_empty op anchor (i + 1) (drop 1 xs) ≡ true
  behind-empty i [] e = refl
  behind-empty i (x ∷ xs) e = (and-true (empty_at i x) (branch_empty op anchor (i + 1) xs) e).1

  -- what may be empty from a place on may be from each later one
  up : (n i k : ℕ) → i + n ≡ k → from i ≡ true → from k ≡ true
  up zero i k e more = let same : i ≡ k = omega arith in ap from (sym same) ∙ more
  up (suc n) i k e more =
      up n (i + 1) k (omega arith)
      (ap (branch_empty op anchor (i + 1)) (drop-more i items) ∙ behind-empty i (drop i items) more)

  -- the last item that isn't empty, or none
  pub data Stops (at : ℕ) : Type 0 where
    front : at ≡ 0 → Stops at
    full : (e : Element) → 0 < at → e ≡ get_or items (at - 1) e → empty_at (at - 1) e ≡ false
        → Stops at

  before : (at k : ℕ) → at ≤ length items → k < at → Stops at → from k ≡ true → ⊥
  before at k le less (front none) more = omega arith
  before at k le less (full e some is no-empty) more =
      let here = up (at - 1 - k) k (at - 1) (omega arith) more in
      let both = and-true (empty_at (at - 1) e) (from (at - 1 + 1))
      (sym (step (at - 1) e (omega arith) is) ∙ here) in
      absurd (cc (both.0, no-empty))

  -- all from a place on may be empty exactly where it isn't before that item
  pub empty-from : (at : ℕ) → at ≤ length items → from at ≡ true → Stops at → (k : ℕ)
      → k ≤ length items → from k ≡ nat_le at k
  empty-from at le more stops k within = go (nat_le at k) refl
    where
      go : (b : Bool) → nat_le at k ≡ b → from k ≡ b
      go true e = up (k - at) at k (omega (arith, leb-true at k e)) more
      go false e = false-if (from k) (λ h. before at k le (leb-less at k e) stops h)

  -- ---- starts

  abbrev starts_from : ℕ → List Look
  starts_from i = branch_starts op anchor i (drop i items)

  starts-step : (i : ℕ) (e : Element) → i < length items → e ≡ get_or items i e
      → starts_from i ≡ counts_starts op (is_anchor anchor i) (kind_of e)
      ++ (if empty_at i e then starts_from (i + 1) else [])
  starts-step i e less is =
      ap (branch_starts op anchor i) (cut i e less is)

  -- one item that may be empty
  pub starts-on : (found more total : List Look) (i : ℕ) (e : Element) → i < length items
      → e ≡ get_or items i e → found ++ starts_from i ≡ total
      → more ≡ found ++ counts_starts op (is_anchor anchor i) (kind_of e) → empty_at i e ≡ true
      → more ++ starts_from (i + 1) ≡ total
  starts-on found more total i e less is so put empty =
      let own = counts_starts op (is_anchor anchor i) (kind_of e) in
      ap (λ l. l ++ starts_from (i + 1)) put
      ∙ append_assoc found own (starts_from (i + 1))
      ∙ ap (λ b. found ++ (own ++ (if b then starts_from (i + 1) else []))) (sym empty)
      ∙ ap (λ l. found ++ l) (sym (starts-step i e less is))
      ∙ so

  -- one that isn't
  pub starts-stop : (found more total : List Look) (i : ℕ) (e : Element) → i < length items
      → e ≡ get_or items i e → found ++ starts_from i ≡ total
      → more ≡ found ++ counts_starts op (is_anchor anchor i) (kind_of e) → empty_at i e ≡ false
      → more ≡ total
  starts-stop found more total i e less is so put no-empty =
      let own = counts_starts op (is_anchor anchor i) (kind_of e) in
      put
      ∙ ap (λ l. found ++ l) (sym (nothing-more own))
      ∙ ap (λ b. found ++ (own ++ (if b then starts_from (i + 1) else []))) (sym no-empty)
      ∙ ap (λ l. found ++ l) (sym (starts-step i e less is))
      ∙ so

  -- none is left
  pub starts-end : (found total : List Look) (i : ℕ) → length items ≤ i
      → found ++ starts_from i ≡ total → found ≡ total
  starts-end found total i le so =
      let none : found ≡ found ++ [] = sym (nothing-more found) in
      none
      ∙ ap (λ xs. found ++ branch_starts op anchor i xs) (sym (drop_of_length-le items {i = i} le))
      ∙ so

  -- ---- open looks

  abbrev open_from : ℕ → List Look
  open_from i = branch_open op anchor i (drop i items)

  open-step : (i : ℕ) (e : Element) → i < length items → e ≡ get_or items i e
      → open_from i ≡ (if from (i + 1) then counts_open op (is_anchor anchor i) (kind_of e) else [])
      ++ open_from (i + 1)
  open-step i e less is =
      ap (branch_open op anchor i) (cut i e less is)

  -- one item more
  pub open-on : (found more total : List Look) (i : ℕ) (e : Element) (b : Bool) → i < length items
      → e ≡ get_or items i e → found ++ open_from i ≡ total → from (i + 1) ≡ b
      → more ≡ found ++ (if b then counts_open op (is_anchor anchor i) (kind_of e) else [])
      → more ++ open_from (i + 1) ≡ total
  open-on found more total i e b less is so same put =
      let own = counts_open op (is_anchor anchor i) (kind_of e) in
      ap (λ l. l ++ open_from (i + 1)) put
      ∙ append_assoc found (if b then own else []) (open_from (i + 1))
      ∙ ap (λ x. found ++ ((if x then own else []) ++ open_from (i + 1))) (sym same)
      ∙ ap (λ l. found ++ l) (sym (open-step i e less is))
      ∙ so

  -- none is left
  pub open-end : (found total : List Look) (i : ℕ) → length items ≤ i
      → found ++ open_from i ≡ total → found ≡ total
  open-end found total i le so =
      let none : found ≡ found ++ [] = sym (nothing-more found) in
      none
      ∙ ap (λ xs. found ++ branch_open op anchor i xs) (sym (drop_of_length-le items {i = i} le))
      ∙ so
