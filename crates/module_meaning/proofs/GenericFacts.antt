-- The facts of successors and of regions, by their places: which they tell of, and what is said of
-- each.
use Rattle.std.proofs.Common.{◌≡◌, ℕ, zero, suc, ◌+◌, ◌<◌, ◌==◌, Bool, true, false, ◌||◌, List}
use Rattle.std.proofs.Common.{[], ◌∷◌, ◌++◌, length, map, refl, subst, arith}
use Rattle.std.proofs.Common.{Some, inl, inr, ◌⊎◌, slice_get, IsSomeAnd}
use Rattle.std.proofs.lemmas.Bool.{cases_lt}
use Rattle.std.specs.List.{AllByRecursion}
use Rattle.generic_syntax.specs.declared.cst.NameCst.{NameCst}
use Rattle.generic_syntax.specs.declared.module_cst.RegionCst.{RegionCst}
use Rattle.grammar.specs.Looks.{is_among}
use Rattle.ir_lexer.specs.Spelling.{Text}
use Rattle.module_meaning.proofs.Places.{some-same}
use Rattle.module_meaning.specs.Facts.{Fact, region_is, successor_is, Topic, region_topic, is_of}
use Rattle.module_meaning.specs.Facts.{successor_topic, tells}
use Rattle.module_meaning.specs.Facts.{successor_facts, region_facts}

-- ---- lists, place by place

-- where two lists are the same, mapped, what stands at a place of one stands in the other
pub map-places : {A B C : Type 0} (f : A → C) (g : B → C) (xs : List A) (ys : List B)
    → map f xs ≡ map g ys → (i : ℕ) (x : A) → slice_get xs i ≡ Some x
    → IsSomeAnd (slice_get ys i) (λ y. f x ≡ g y)
map-places f g [] ys e i x is = absurd (cc)
map-places f g (a ∷ xs) [] e i x is = absurd (cc)
map-places f g (a ∷ xs) (b ∷ ys) e zero x is =
    let heads : f a ≡ g b = cc in
    let same : a ≡ x = some-same a x is in
    subst (λ z. f z ≡ g b) same heads
map-places f g (a ∷ xs) (b ∷ ys) e (suc i) x is =
    let tails : map f xs ≡ map g ys = cc in map-places f g xs ys tails i x is

-- and the other way round, where they are as long
pub places-map : {A B C : Type 0} (f : A → C) (g : B → C) (xs : List A) (ys : List B)
    → length xs ≡ length ys
    → ((i : ℕ) (x : A) → slice_get xs i ≡ Some x → IsSomeAnd (slice_get ys i) (λ y. f x ≡ g y))
    → map f xs ≡ map g ys
places-map f g [] [] e h = refl
places-map f g [] (b ∷ ys) e h = absurd (omega arith)
places-map f g (a ∷ xs) [] e h = absurd (omega arith)
places-map f g (a ∷ xs) (b ∷ ys) e h =
    let first : f a ≡ g b = h 0 a refl in
    let rest : map f xs ≡ map g ys =
    places-map f g xs ys (omega arith) (λ i x is. h (suc i) x is) in
    cc

-- what stands at a place stands below the length
pub within : {A : Type 0} (xs : List A) (i : ℕ) (P : A → Type 0) → IsSomeAnd (slice_get xs i) P
    → i < length xs
within [] i P h = absurd h
within (x ∷ xs) zero P h = omega arith
within (x ∷ xs) (suc i) P h = let below : i < length xs = within xs i P h in omega arith

-- below the length something stands
pub stands : {A : Type 0} (xs : List A) (i : ℕ) → i < length xs
    → (x : A) × (slice_get xs i ≡ Some x)
stands [] i l = absurd (omega arith)
stands (x ∷ xs) zero l = (x, refl)
stands (x ∷ xs) (suc i) l = stands xs i (omega arith)

-- two numbers with the same ones below them
pub same-bounds : (m n : ℕ) → ((i : ℕ) → i < m → i < n) → ((i : ℕ) → i < n → i < m) → m ≡ n
same-bounds m n f g = elim (cases_lt m n) [
  | inl less ↦ let never : m < m = g m less in absurd (omega arith)
  | inr least ↦ elim (cases_lt n m) [
    | inl less ↦ let never : n < n = f n less in absurd (omega arith)
    | inr most ↦ omega arith
  ]
]

-- ---- facts of successors and of regions

-- facts of two lists tell what one of them tells
pub tells-left : (a b : List Fact) (t : Topic) → tells a t ≡ true → tells (a ++ b) t ≡ true
tells-left [] b t e = absurd (cc)
tells-left (f ∷ a) b t e = go (is_of t f) refl e (λ l. tells-left a b t l)
  where
    go : (c : Bool) → is_of t f ≡ c → (c || tells a t) ≡ true
        → (tells a t ≡ true → tells (a ++ b) t ≡ true) → (c || tells (a ++ b) t) ≡ true
    go true is e more = refl
    go false is e more = more e

pub tells-right : (a b : List Fact) (t : Topic) → tells b t ≡ true → tells (a ++ b) t ≡ true
tells-right [] b t e = e
tells-right (f ∷ a) b t e = go (is_of t f) (tells-right a b t e)
  where
    go : (c : Bool) → tells (a ++ b) t ≡ true → (c || tells (a ++ b) t) ≡ true
    go true more = refl
    go false more = more

pub tells-either : (a b : List Fact) (t : Topic) → tells (a ++ b) t ≡ true
    → (tells a t ≡ true) ⊎ (tells b t ≡ true)
tells-either [] b t e = inr e
tells-either (f ∷ a) b t e = go (is_of t f) e (λ l. tells-either a b t l)
  where
    go : (c : Bool) → (c || tells (a ++ b) t) ≡ true
        → (tells (a ++ b) t ≡ true → (tells a t ≡ true) ⊎ (tells b t ≡ true))
        → ((c || tells a t) ≡ true) ⊎ (tells b t ≡ true)
    go true e more = inl refl
    go false e more = more e

-- successors are told by their places
pub tells-successor : (k i : ℕ) (ss : List NameCst) → i < length ss
    → tells (successor_facts k ss) (successor_topic (k + i)) ≡ true
tells-successor k i [] l = absurd (omega arith)
tells-successor k zero (s ∷ ss) l =
    let here : (k == (k + 0)) ≡ true = grind (arith) in rw here refl
tells-successor k (suc i) (s ∷ ss) l =
    let later : tells (successor_facts (suc k) ss) (successor_topic (suc k + i)) ≡ true =
    tells-successor (suc k) i ss (omega arith) in
    let same : suc k + i ≡ k + suc i = omega arith in
    let moved : tells (successor_facts (suc k) ss) (successor_topic (k + suc i)) ≡ true =
    subst (λ (n : ℕ). tells (successor_facts (suc k) ss) (successor_topic n) ≡ true) same later in
    tells-right (successor_is k s ∷ []) (successor_facts (suc k) ss) (successor_topic (k + suc i))
    moved

pub tells-region : (k i : ℕ) (rs : List RegionCst) → i < length rs
    → tells (region_facts k rs) (region_topic (k + i)) ≡ true
tells-region k i [] l = absurd (omega arith)
tells-region k zero (r ∷ rs) l =
    let here : (k == (k + 0)) ≡ true = grind (arith) in rw here refl
tells-region k (suc i) (r ∷ rs) l =
    let later : tells (region_facts (suc k) rs) (region_topic (suc k + i)) ≡ true =
    tells-region (suc k) i rs (omega arith) in
    let same : suc k + i ≡ k + suc i = omega arith in
    let moved : tells (region_facts (suc k) rs) (region_topic (k + suc i)) ≡ true =
    subst (λ (n : ℕ). tells (region_facts (suc k) rs) (region_topic n) ≡ true) same later in
    tells-right (region_is k r ∷ []) (region_facts (suc k) rs) (region_topic (k + suc i)) moved

-- and none beyond them
pub successor-told : (k i : ℕ) (ss : List NameCst)
    → tells (successor_facts k ss) (successor_topic i) ≡ true → i < k + length ss
successor-told k i [] e = absurd (cc)
successor-told k i (s ∷ ss) e = go (k == i) refl e (λ l. successor-told (suc k) i ss l)
  where
    go : (b : Bool) → (k == i) ≡ b → (b || tells (successor_facts (suc k) ss) (successor_topic i))
        ≡ true → (tells (successor_facts (suc k) ss) (successor_topic i) ≡ true
        → i < suc k + length ss) → i < k + suc (length ss)
    go true is e more = let same : k ≡ i = grind (arith, is) in omega arith
    go false is e more = let below : i < suc k + length ss = more e in omega arith

pub region-told : (k i : ℕ) (rs : List RegionCst)
    → tells (region_facts k rs) (region_topic i) ≡ true → i < k + length rs
region-told k i [] e = absurd (cc)
region-told k i (r ∷ rs) e = go (k == i) refl e (λ l. region-told (suc k) i rs l)
  where
    go : (b : Bool) → (k == i) ≡ b → (b || tells (region_facts (suc k) rs) (region_topic i)) ≡ true
        → (tells (region_facts (suc k) rs) (region_topic i) ≡ true → i < suc k + length rs)
        → i < k + suc (length rs)
    go true is e more = let same : k ≡ i = grind (arith, is) in omega arith
    go false is e more = let below : i < suc k + length rs = more e in omega arith

-- successors tell of no region, and regions of no successor
pub successors-apart : (k i : ℕ) (ss : List NameCst)
    → tells (successor_facts k ss) (region_topic i) ≡ true → ⊥
successors-apart k i [] e = absurd (cc)
successors-apart k i (s ∷ ss) e = successors-apart (suc k) i ss e

pub regions-apart : (k i : ℕ) (rs : List RegionCst)
    → tells (region_facts k rs) (successor_topic i) ≡ true → ⊥
regions-apart k i [] e = absurd (cc)
regions-apart k i (r ∷ rs) e = regions-apart (suc k) i rs e

module _ (P : Fact → Type 0) where
  -- what is said of each successor, by its place
  pub successors-each : (k : ℕ) (ss : List NameCst)
      → ((i : ℕ) (s : NameCst) → slice_get ss i ≡ Some s → P (successor_is (k + i) s))
      → AllByRecursion P (successor_facts k ss)
  successors-each k [] h = tt
  successors-each k (s ∷ ss) h =
      let here : k + 0 ≡ k = omega arith in (
        subst (λ (n : ℕ). P (successor_is n s)) here (h 0 s refl),
        successors-each (suc k) ss (λ i x is.
            (let same : k + suc i ≡ suc k + i = omega arith in
            subst (λ (n : ℕ). P (successor_is n x)) same (h (suc i) x is))),
      )

  pub each-successor : (k : ℕ) (ss : List NameCst) → AllByRecursion P (successor_facts k ss)
      → (i : ℕ) (s : NameCst) → slice_get ss i ≡ Some s → P (successor_is (k + i) s)
  each-successor k [] h i s is = absurd (cc)
  each-successor k (x ∷ ss) (p, h) zero s is =
      let here : k ≡ k + 0 = omega arith in
      let same : x ≡ s = some-same x s is in
      subst (λ (n : ℕ). P (successor_is n s)) here
      (subst (λ (y : NameCst). P (successor_is k y)) same p)
  each-successor k (x ∷ ss) (p, h) (suc i) s is =
      let same : suc k + i ≡ k + suc i = omega arith in
      subst (λ (n : ℕ). P (successor_is n s)) same (each-successor (suc k) ss h i s is)

  -- and of each region
  pub regions-each : (k : ℕ) (rs : List RegionCst)
      → ((i : ℕ) (r : RegionCst) → slice_get rs i ≡ Some r → P (region_is (k + i) r))
      → AllByRecursion P (region_facts k rs)
  regions-each k [] h = tt
  regions-each k (r ∷ rs) h =
      let here : k + 0 ≡ k = omega arith in (
        subst (λ (n : ℕ). P (region_is n r)) here (h 0 r refl),
        regions-each (suc k) rs (λ i x is.
            (let same : k + suc i ≡ suc k + i = omega arith in
            subst (λ (n : ℕ). P (region_is n x)) same (h (suc i) x is))),
      )

  pub each-region : (k : ℕ) (rs : List RegionCst) → AllByRecursion P (region_facts k rs)
      → (i : ℕ) (r : RegionCst) → slice_get rs i ≡ Some r → P (region_is (k + i) r)
  each-region k [] h i r is = absurd (cc)
  each-region k (x ∷ rs) (p, h) zero r is =
      let here : k ≡ k + 0 = omega arith in
      let same : x ≡ r = some-same x r is in
      subst (λ (n : ℕ). P (region_is n r)) here
      (subst (λ (y : RegionCst). P (region_is k y)) same p)
  each-region k (x ∷ rs) (p, h) (suc i) r is =
      let same : suc k + i ≡ k + suc i = omega arith in
      subst (λ (n : ℕ). P (region_is n r)) same (each-region (suc k) rs h i r is)

-- what holds of two lists together holds of each
pub all-apart : {A : Type 0} (P : A → Type 0) (xs ys : List A) → AllByRecursion P (xs ++ ys)
    → AllByRecursion P xs × AllByRecursion P ys
all-apart P [] ys h = (tt, h)
all-apart P (x ∷ xs) ys (p, h) = ((p, (all-apart P xs ys h).0), (all-apart P xs ys h).1)

-- no key is among none
pub none-hidden : (keys : List Text) → AllByRecursion (λ key. is_among [] key ≡ false) keys
none-hidden [] = tt
none-hidden (k ∷ keys) = (refl, none-hidden keys)
