-- Entries in the order of their keys: what it is to sort them, and when they can be sorted.
--
-- The order in which entries are given doesn't matter (`sorted-permuted`), and what stands beside
-- the keys doesn't either (`sorted-map`).
use Rattle.std.proofs.Common.{◌≡◌, ℕ, zero, suc, ◌<◌, Bool, true, false, cond}
use Rattle.std.proofs.Common.{◌↔◌, List, [], ◌∷◌, map, length, get_or, set, swap}
use Rattle.std.proofs.Common.{refl, sym, ◌∙◌, ap, subst, arith, bytes_eq}
use Rattle.std.proofs.Common.{option_map, option_and_then}
use Rattle.std.proofs.lemmas.List.Elements.{All-from_recursion, recursion_from_All}
use Rattle.std.proofs.lemmas.List.Sorted.{IsPermutation-refl, IsPermutation-cons}
use Rattle.std.proofs.lemmas.List.Sorted.{IsPermutation-swap, IsPermutation-trans}
use Rattle.std.proofs.lemmas.List.Sorted.{IsPermutation-sym, IsPermutation-map}
use Rattle.std.proofs.lemmas.List.Sorted.{IsPermutation-keeps, All-permutation}
use Rattle.std.proofs.lemmas.List.Sorted.{length_permutation}
use Rattle.std.specs.List.{AllByRecursion}
use Rattle.std.specs.List.Sorted.{IsPermutation}
use Rattle.std.specs.declared.option.Option.{Option}
use Rattle.std.specs.declared.option.Option.TheVariants.{Some, None}
use Rattle.attr_value.specs.Heads.{text_lt, Ascend}
use Rattle.ir_lexer.specs.Spelling.{Text}
use Rattle.value_meaning.specs.Spelled.{with_entry, sorted_entries}
use Rattle.value_meaning.proofs.TextOrder.{Rank, before, same, behind, rank}
use Rattle.value_meaning.proofs.TextOrder.{lt-itself, eq-itself, lt-trans}

module _ {A : Type 0} where
  -- the keys of entries
  abbrev pub keys_of : List (Text × A) → List Text
  keys_of es = map (λ e. e.0) es

  -- ---- the order in which entries are given

  -- an entry goes behind one that stands before it
  behind-head : (e g : Text × A) → text_lt e.0 g.0 ≡ false → bytes_eq e.0 g.0 ≡ false
      → (more : Option (List (Text × A)))
      → option_and_then (with_entry e) (option_map (λ gs. g ∷ gs) more)
      ≡ option_map (λ gs. g ∷ gs) (option_and_then (with_entry e) more)
  behind-head e g less eq None = refl
  behind-head e g less eq (Some gs) = rw (less, eq) refl

  -- an entry doesn't go to another of its key
  with-twice : (a b : Text × A) → a.0 ≡ b.0 → (gs : List (Text × A))
      → option_and_then (with_entry a) (with_entry b gs) ≡ None
  with-twice a b e [] = rw (e, lt-itself b.0, eq-itself b.0) refl
  with-twice a b e (g ∷ gs) = go (with-twice a b e gs) (rank b.0 g.0)
    where
      go : option_and_then (with_entry a) (with_entry b gs) ≡ None → Rank b.0 g.0
          → option_and_then (with_entry a) (with_entry b (g ∷ gs)) ≡ None
      go rest (before p q r s) = rw (p, e, lt-itself b.0, eq-itself b.0) refl
      go rest (same k) = rw (k, lt-itself g.0, eq-itself g.0) refl
      go rest (behind p q r s) =
          rw (q, r)
          (behind-head a g (ap (λ x. text_lt x g.0) e ∙ q) (ap (λ x. bytes_eq x g.0) e ∙ r)
          (with_entry b gs)
          ∙ ap (option_map (λ hs. g ∷ hs)) rest)

  -- of two entries, the one that stands first may come last
  with-less : (a b : Text × A) → text_lt a.0 b.0 ≡ true → text_lt b.0 a.0 ≡ false
      → bytes_eq a.0 b.0 ≡ false → bytes_eq b.0 a.0 ≡ false → (gs : List (Text × A))
      → option_and_then (with_entry a) (with_entry b gs)
      ≡ option_and_then (with_entry b) (with_entry a gs)
  with-less a b p q r s [] = rw (p, q, s) refl
  with-less a b p q r s (g ∷ gs) = go (with-less a b p q r s gs) (rank b.0 g.0) (rank a.0 g.0)
    where
      Same : Type 0
      Same = option_and_then (with_entry a) (with_entry b (g ∷ gs))
          ≡ option_and_then (with_entry b) (with_entry a (g ∷ gs))

      -- both stand before what is there
      both : text_lt b.0 g.0 ≡ true → text_lt a.0 g.0 ≡ true → Same
      both bg ag = rw (bg, ag, p, q, s, bg) refl

      -- b is there already
      there : b.0 ≡ g.0 → text_lt a.0 g.0 ≡ true → Same
      there k ag = rw (ag, q, s) (rw (k, lt-itself g.0, eq-itself g.0) refl)

      -- what is there stands between them
      between : text_lt a.0 g.0 ≡ true → text_lt b.0 g.0 ≡ false → bytes_eq b.0 g.0 ≡ false → Same
      between ag bg eq = rw (ag, bg, eq, q, s) (front (with_entry b gs))
        where
          front : (more : Option (List (Text × A)))
              → option_and_then (with_entry a) (option_map (λ hs. g ∷ hs) more)
              ≡ option_map (λ hs. a ∷ hs) (option_map (λ hs. g ∷ hs) more)
          front None = refl
          front (Some hs) = rw ag refl

      -- a is there already
      found : text_lt a.0 g.0 ≡ false → bytes_eq a.0 g.0 ≡ true → text_lt b.0 g.0 ≡ false
          → bytes_eq b.0 g.0 ≡ false → Same
      found ag is bg eq = rw (bg, eq, ag, is) (none (with_entry b gs))
        where
          none : (more : Option (List (Text × A)))
              → option_and_then (with_entry a) (option_map (λ hs. g ∷ hs) more) ≡ None
          none None = refl
          none (Some hs) = rw (ag, is) refl

      go : option_and_then (with_entry a) (with_entry b gs)
          ≡ option_and_then (with_entry b) (with_entry a gs)
          → Rank b.0 g.0 → Rank a.0 g.0 → Same
      go rest (before bg _ _ _) _ = both bg (lt-trans a.0 b.0 g.0 p bg)
      go rest (same k) _ = there k (subst (λ x. text_lt a.0 x ≡ true) k p)
      go rest (behind gb bg eq _) (before ag _ _ _) = between ag bg eq
      go rest (behind gb bg eq _) (same k) =
          found (ap (λ x. text_lt x g.0) k ∙ lt-itself g.0)
          (ap (λ x. bytes_eq x g.0) k ∙ eq-itself g.0) bg eq
      go rest (behind gb bg eq _) (behind ga ag neq _) =
          rw (bg, eq, ag, neq)
          (behind-head a g ag neq (with_entry b gs)
          ∙ ap (option_map (λ hs. g ∷ hs)) rest
          ∙ sym (behind-head b g bg eq (with_entry a gs)))

  -- two entries may come in either order
  with-turned : (a b : Text × A) (gs : List (Text × A))
      → option_and_then (with_entry a) (with_entry b gs)
      ≡ option_and_then (with_entry b) (with_entry a gs)
  with-turned a b gs = go (rank a.0 b.0)
    where
      go : Rank a.0 b.0 → option_and_then (with_entry a) (with_entry b gs)
          ≡ option_and_then (with_entry b) (with_entry a gs)
      go (before p q r s) = with-less a b p q r s gs
      go (same e) = with-twice a b e gs ∙ sym (with-twice b a (sym e) gs)
      go (behind p q r s) = sym (with-less b a p q s r gs)

  -- two lists are sorted alike
  abbrev Alike : List (Text × A) → List (Text × A) → Type 0
  Alike xs ys = sorted_entries xs ≡ sorted_entries ys

  alike-tail : (x : Text × A) (xs ys : List (Text × A)) → Alike xs ys → Alike (x ∷ xs) (x ∷ ys)
  alike-tail x xs ys e = ap (option_and_then (with_entry x)) e

  alike-turned : (x y : Text × A) (xs : List (Text × A)) → Alike (x ∷ y ∷ xs) (y ∷ x ∷ xs)
  alike-turned x y xs = go (sorted_entries xs)
    where
      go : (more : Option (List (Text × A)))
          → option_and_then (with_entry x) (option_and_then (with_entry y) more)
          ≡ option_and_then (with_entry y) (option_and_then (with_entry x) more)
      go None = refl
      go (Some gs) = with-turned x y gs

  -- the head and an entry behind it change places
  alike-head : (l : List (Text × A)) (j : ℕ) (x d : Text × A) → j < length l
      → Alike (x ∷ l) (get_or l j d ∷ set l j x)
  alike-head [] j x d h = absurd (omega arith)
  alike-head (y ∷ l) zero x d h = alike-turned x y l
  alike-head (y ∷ l) (suc j) x d h =
      alike-turned x y l
      ∙ alike-tail y (x ∷ l) (get_or l j d ∷ set l j x) (alike-head l j x d (omega arith))
      ∙ alike-turned y (get_or l j d) (set l j x)

  -- two entries change places
  alike-set : (l : List (Text × A)) (i j : ℕ) (d : Text × A) → i < length l → j < length l
      → Alike l (set (set l i (get_or l j d)) j (get_or l i d))
  alike-set [] i j d p q = absurd (omega arith)
  alike-set (x ∷ l) zero zero d p q = refl
  alike-set (x ∷ l) zero (suc j) d p q = alike-head l j x d (omega arith)
  alike-set (x ∷ l) (suc i) zero d p q = alike-head l i x d (omega arith)
  alike-set (x ∷ l) (suc i) (suc j) d p q =
      alike-tail x l (set (set l i (get_or l j d)) j (get_or l i d))
      (alike-set l i j d (omega arith) (omega arith))

  alike-swap : (l : List (Text × A)) (i j : ℕ) → i < length l → j < length l
      → Alike l (swap l i j)
  alike-swap [] i j p q = refl
  alike-swap (x ∷ l) i j p q = alike-set (x ∷ l) i j x p q

  -- in whatever order entries are given, they are sorted alike
  pub sorted-permuted : (xs ys : List (Text × A)) → IsPermutation xs ys
      → sorted_entries xs ≡ sorted_entries ys
  sorted-permuted xs ys moved =
      IsPermutation-keeps xs (Alike xs) refl (λ l i j p q e. e ∙ alike-swap l i j p q) ys moved

  -- ---- what is sorted

  -- how an entry e goes between others: in front of them, or behind their head
  data Put (e g : Text × A) (gs hs : List (Text × A)) : Type 0 where
    first : text_lt e.0 g.0 ≡ true → hs ≡ e ∷ g ∷ gs → Put e g gs hs
    later : (more : List (Text × A)) → text_lt g.0 e.0 ≡ true → with_entry e gs ≡ Some more
        → hs ≡ g ∷ more → Put e g gs hs

  put-of : (e g : Text × A) (gs hs : List (Text × A)) → with_entry e (g ∷ gs) ≡ Some hs
      → Put e g gs hs
  put-of e g gs hs put = go (rank e.0 g.0)
    where
      behind-it : text_lt g.0 e.0 ≡ true → (more : Option (List (Text × A)))
          → with_entry e gs ≡ more → option_map (λ ws. g ∷ ws) more ≡ Some hs → Put e g gs hs
      behind-it less None is put = absurd (cc)
      behind-it less (Some ws) is put = later ws less is (cc)

      go : Rank e.0 g.0 → Put e g gs hs
      go (before p q r s) =
          let is : Some (e ∷ g ∷ gs) ≡ Some hs = rw p at put in first p (cc)
      go (same k) =
          let less = ap (λ x. text_lt x g.0) k ∙ lt-itself g.0 in
          let eq = ap (λ x. bytes_eq x g.0) k ∙ eq-itself g.0 in
          let is : None ≡ Some hs = rw (less, eq) at put in absurd (cc)
      go (behind p q r s) = behind-it p (with_entry e gs) refl (rw (q, r) at put)

  -- an entry goes between others, which stay as they are
  with-permutes : (e : Text × A) (gs hs : List (Text × A)) → with_entry e gs ≡ Some hs
      → IsPermutation (e ∷ gs) hs
  with-permutes e [] hs put =
      let is : e ∷ [] ≡ hs = cc in subst (IsPermutation (e ∷ [])) is (IsPermutation-refl (e ∷ []))
  with-permutes e (g ∷ gs) hs put = go (with-permutes e gs) (put-of e g gs hs put)
    where
      turned : IsPermutation (e ∷ g ∷ gs) (g ∷ e ∷ gs)
      turned = IsPermutation-swap (e ∷ g ∷ gs) (g ∷ e ∷ gs) 0 1 (omega arith) (omega arith) refl

      go : ((ws : List (Text × A)) → with_entry e gs ≡ Some ws → IsPermutation (e ∷ gs) ws)
          → Put e g gs hs → IsPermutation (e ∷ g ∷ gs) hs
      go rest (first less is) =
          subst (IsPermutation (e ∷ g ∷ gs)) (sym is) (IsPermutation-refl (e ∷ g ∷ gs))
      go rest (later ws less put is) =
          subst (IsPermutation (e ∷ g ∷ gs)) (sym is)
          (IsPermutation-trans (e ∷ g ∷ gs) (g ∷ e ∷ gs) (g ∷ ws) turned
          (IsPermutation-cons g (e ∷ gs) ws (rest ws put)))

  -- an entry that stands behind another goes behind it
  with-behind : (g e : Text × A) (gs hs : List (Text × A)) → text_lt g.0 e.0 ≡ true
      → Ascend (keys_of (g ∷ gs)) → with_entry e gs ≡ Some hs → Ascend (keys_of (g ∷ hs))
  with-behind g e [] hs less up put =
      let is : e ∷ [] ≡ hs = cc in subst (λ ws. Ascend (keys_of (g ∷ ws))) is (less, tt)
  with-behind g e (k ∷ ks) hs less up put = go (with-behind k e ks) (put-of e k ks hs put)
    where
      go : ((ws : List (Text × A)) → text_lt k.0 e.0 ≡ true → Ascend (keys_of (k ∷ ks))
          → with_entry e ks ≡ Some ws → Ascend (keys_of (k ∷ ws)))
          → Put e k ks hs → Ascend (keys_of (g ∷ hs))
      go rest (first ek is) =
          subst (λ ws. Ascend (keys_of (g ∷ ws))) (sym is) (less, (ek, up.1))
      go rest (later ws ke put is) =
          subst (λ ws. Ascend (keys_of (g ∷ ws))) (sym is) (up.0, rest ws ke up.1 put)

  with-ascends : (e : Text × A) (gs hs : List (Text × A)) → with_entry e gs ≡ Some hs
      → Ascend (keys_of gs) → Ascend (keys_of hs)
  with-ascends e [] hs put up =
      let is : e ∷ [] ≡ hs = cc in subst (λ ws. Ascend (keys_of ws)) is tt
  with-ascends e (g ∷ gs) hs put up = go (put-of e g gs hs put)
    where
      go : Put e g gs hs → Ascend (keys_of hs)
      go (first less is) = subst (λ ws. Ascend (keys_of ws)) (sym is) (less, up)
      go (later ws less put is) =
          subst (λ ws. Ascend (keys_of ws)) (sym is) (with-behind g e gs ws less up put)

  -- what entries are sorted to: what those behind the head are, with the head among them
  data Sorts (e : Text × A) (es sorted : List (Text × A)) : Type 0 where
    sorts : (more : List (Text × A)) → sorted_entries es ≡ Some more
        → with_entry e more ≡ Some sorted → Sorts e es sorted

  sorts-of : (e : Text × A) (es sorted : List (Text × A)) → sorted_entries (e ∷ es) ≡ Some sorted
      → Sorts e es sorted
  sorts-of e es sorted is = go (sorted_entries es) refl is
    where
      go : (more : Option (List (Text × A))) → sorted_entries es ≡ more
          → option_and_then (with_entry e) more ≡ Some sorted → Sorts e es sorted
      go None p q = absurd (cc)
      go (Some gs) p q = sorts gs p q

  -- sorting moves entries alone
  pub sorted-permutes : (es sorted : List (Text × A)) → sorted_entries es ≡ Some sorted
      → IsPermutation es sorted
  sorted-permutes [] sorted is =
      let none : [] ≡ sorted = cc in subst (IsPermutation []) none (IsPermutation-refl [])
  sorted-permutes (e ∷ es) sorted is = go (sorted-permutes es) (sorts-of e es sorted is)
    where
      go : ((ws : List (Text × A)) → sorted_entries es ≡ Some ws → IsPermutation es ws)
          → Sorts e es sorted → IsPermutation (e ∷ es) sorted
      go rest (sorts gs more put) =
          IsPermutation-trans (e ∷ es) (e ∷ gs) sorted (IsPermutation-cons e es gs (rest gs more))
          (with-permutes e gs sorted put)

  -- sorted entries ascend by their keys
  pub sorted-ascends : (es sorted : List (Text × A)) → sorted_entries es ≡ Some sorted
      → Ascend (keys_of sorted)
  sorted-ascends [] sorted is =
      let none : [] ≡ sorted = cc in subst (λ ws. Ascend (keys_of ws)) none tt
  sorted-ascends (e ∷ es) sorted is = go (sorted-ascends es) (sorts-of e es sorted is)
    where
      go : ((ws : List (Text × A)) → sorted_entries es ≡ Some ws → Ascend (keys_of ws))
          → Sorts e es sorted → Ascend (keys_of sorted)
      go rest (sorts gs more put) = with-ascends e gs sorted put (rest gs more)

  -- there are as many as before
  pub sorted-length : (es sorted : List (Text × A)) → sorted_entries es ≡ Some sorted
      → length sorted ≡ length es
  sorted-length es sorted is = length_permutation es sorted (sorted-permutes es sorted is)

  -- what holds of all that stands beside the keys still does
  pub sorted-all : (P : A → Type 0) (es sorted : List (Text × A)) → sorted_entries es ≡ Some sorted
      → AllByRecursion P (map (λ e. e.1) es) ↔ AllByRecursion P (map (λ e. e.1) sorted)
  sorted-all P es sorted is =
      (moved es sorted there, moved sorted es (IsPermutation-sym es sorted there))
    where
      there : IsPermutation es sorted
      there = sorted-permutes es sorted is

      moved : (xs ys : List (Text × A)) → IsPermutation xs ys
          → AllByRecursion P (map (λ e. e.1) xs) → AllByRecursion P (map (λ e. e.1) ys)
      moved xs ys p all =
          recursion_from_All P (map (λ e. e.1) ys)
          (All-permutation P (map (λ e. e.1) xs) (map (λ e. e.1) ys)
          (IsPermutation-map (λ e. e.1) xs ys p) (All-from_recursion P (map (λ e. e.1) xs) all))

  -- entries that ascend are sorted
  pub sorted-same : (es : List (Text × A)) → Ascend (keys_of es) → sorted_entries es ≡ Some es
  sorted-same [] up = refl
  sorted-same (e ∷ []) up = refl
  sorted-same (e ∷ g ∷ gs) up =
      ap (option_and_then (with_entry e)) (sorted-same (g ∷ gs) up.1) ∙ rw up.0 refl

  -- entries that ascend are what the same entries in any order are sorted to
  pub sorted-once : (es sorted : List (Text × A)) → IsPermutation es sorted
      → Ascend (keys_of sorted) → sorted_entries es ≡ Some sorted
  sorted-once es sorted moved up = sorted-permuted es sorted moved ∙ sorted-same sorted up

-- ---- what stands beside keys

module _ {A B : Type 0} (f : A → B) where
  -- the same entry, with what f makes of what stands beside its key
  abbrev at_entry : Text × A → Text × B
  at_entry e = (e.0, f e.1)

  with-map : (e : Text × A) (gs : List (Text × A))
      → with_entry (at_entry e) (map at_entry gs) ≡ option_map (map at_entry) (with_entry e gs)
  with-map e [] = refl
  with-map e (g ∷ gs) = go (text_lt e.0 g.0) (bytes_eq e.0 g.0) (with_entry e gs) (with-map e gs)
    where
      go : (less eq : Bool) (more : Option (List (Text × A)))
          → with_entry (at_entry e) (map at_entry gs) ≡ option_map (map at_entry) more
          → cond less (Some (at_entry e ∷ at_entry g ∷ map at_entry gs))
          (cond eq None
          (option_map (λ es. at_entry g ∷ es) (with_entry (at_entry e) (map at_entry gs))))
          ≡ option_map (map at_entry)
          (cond less (Some (e ∷ g ∷ gs)) (cond eq None (option_map (λ es. g ∷ es) more)))
      go true eq more rest = refl
      go false true more rest = refl
      go false false None rest = ap (option_map (λ es. at_entry g ∷ es)) rest
      go false false (Some ws) rest = ap (option_map (λ es. at_entry g ∷ es)) rest

  -- entries are sorted by their keys alone
  pub sorted-map : (es : List (Text × A))
      → sorted_entries (map (λ e. (e.0, f e.1)) es)
      ≡ option_map (map (λ e. (e.0, f e.1))) (sorted_entries es)
  sorted-map [] = refl
  sorted-map (e ∷ es) =
      ap (option_and_then (with_entry (at_entry e))) (sorted-map es) ∙ go (sorted_entries es)
    where
      go : (more : Option (List (Text × A)))
          → option_and_then (with_entry (at_entry e)) (option_map (map at_entry) more)
          ≡ option_map (map at_entry) (option_and_then (with_entry e) more)
      go None = refl
      go (Some gs) = with-map e gs
