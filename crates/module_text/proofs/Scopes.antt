-- Numbered names mean their values: what a scope of such names says, which names are new, and what
-- labels mean.
use Rattle.std.proofs.Common.{◌≡◌, ℕ, zero, suc, ◌+◌, ◌<◌, ◌≤◌, Bool, true, false, List, [], ◌∷◌}
use Rattle.std.proofs.Common.{◌++◌, map, ◌⊎◌, inl, inr, refl, ◌∙◌, ap, Option, Some, None, arith}
use Rattle.std.proofs.Common.{bytes_eq, if◌then◌else◌, Contains}
use Rattle.std.proofs.lemmas.List.Elements.{Contains-append_cases}
use Rattle.std.proofs.lemmas.Slice.Eq.{bytes_eq-Decides}
use Rattle.std.specs.List.{AllByRecursion, IsDistinct, range_with_len}
use Rattle.grammar.specs.Looks.{is_among}
use Rattle.ir_lexer.specs.Spelling.{Text}
use Rattle.module_meaning.specs.Names.{AreNew, names_in}
use Rattle.symbol_scopes.specs.Meanings.{or_else}
use Rattle.symbol_scopes.specs.Regions.{RegionScope, found, looked}
use Rattle.value_meaning.proofs.Among.{contains-cons, contains-nil}

-- the names of these values, each of one
abbrev pub scope_of : (ℕ → Text) → List ℕ → RegionScope
scope_of name [] = []
scope_of name (n ∷ ns) = record { name = name n; at = n; number = 1 } ∷ scope_of name ns

-- the labels of so many blocks, from a number on
abbrev pub labels_from : (ℕ → Text) → ℕ → ℕ → RegionScope
labels_from name k zero = []
labels_from name k (suc m) =
    record { name = name k; at = k; number = k } ∷ labels_from name (suc k) m

-- names of numbers below a bound
abbrev pub Below : (ℕ → Text) → ℕ → List Text → Type 0
Below name n ws = AllByRecursion (λ w. (k : ℕ) × (k < n) × (w ≡ name k)) ws

pub scope-both : (name : ℕ → Text) (ms ns : List ℕ)
    → scope_of name (ms ++ ns) ≡ scope_of name ms ++ scope_of name ns
scope-both name [] ns = refl
scope-both name (m ∷ ms) ns =
    ap (λ w. record { name = name m; at = m; number = 1 } ∷ w) (scope-both name ms ns)

pub below-more : (name : ℕ → Text) (n m : ℕ) (ws : List Text) → n ≤ m → Below name n ws
    → Below name m ws
below-more name n m [] l h = tt
below-more name n m (w ∷ ws) l ((k, b, e), h) =
    ((k, omega arith, e), below-more name n m ws l h)

-- behind names of numbers below the bound
pub below-behind : (name : ℕ → Text) (m : ℕ) (ks : List ℕ) (ws : List Text)
    → AllByRecursion (λ k. k < m) ks → Below name m ws → Below name m (map name ks ++ ws)
below-behind name m [] ws h b = b
below-behind name m (k ∷ ks) ws (l, h) b = ((k, l, refl), below-behind name m ks ws h b)

-- texts that aren't equal
unequal : (a b : Text) → (a ≡ b → ⊥) → bytes_eq a b ≡ false
unequal a b differ = go (bytes_eq a b) refl
  where
    go : (c : Bool) → bytes_eq a b ≡ c → c ≡ false
    go true e = absurd (differ ((bytes_eq-Decides a b).0 e))
    go false e = refl

-- numbers below the top have different names
module _ (name : ℕ → Text) (top : ℕ)
    (differ : (n m : ℕ) → n < top → m < top → name n ≡ name m → n ≡ m) where
  -- ---- what names mean

  -- what such a scope says of a name
  found-number : (ns : List ℕ) → AllByRecursion (λ k. k < top) ns → (n : ℕ) → n < top
      → (found (scope_of name ns) (name n) ≡ Some (n, 1))
      ⊎ ((found (scope_of name ns) (name n) ≡ None) × (Contains ns n → ⊥))
  found-number [] low n l = inr (refl, λ h. contains-nil n h)
  found-number (m ∷ ns) (small, low) n l =
      go (bytes_eq (name m) (name n)) (found (scope_of name ns) (name n)) refl
      (found-number ns low n l)
    where
      go : (b : Bool) (o : Option (ℕ × ℕ)) → bytes_eq (name m) (name n) ≡ b
          → (o ≡ Some (n, 1)) ⊎ ((o ≡ None) × (Contains ns n → ⊥))
          → ((if b then Some (m, 1) else o) ≡ Some (n, 1))
          ⊎ (((if b then Some (m, 1) else o) ≡ None) × (Contains (m ∷ ns) n → ⊥))
      go true o e h =
          let same : m ≡ n = differ m n small l ((bytes_eq-Decides (name m) (name n)).0 e) in
          inl (ap (λ (w : ℕ). Some (w, 1)) same)
      go false o e (inl h) = inl h
      go false o e (inr (h, nowhere)) = inr (
        h,
        λ has. elim (contains-cons m ns n has) [
          | inl same ↦
              let is : bytes_eq (name m) (name n) ≡ true =
              (bytes_eq-Decides (name m) (name n)).1 (ap name same) in
              absurd (cc)
          | inr among ↦ nowhere among
        ],
      )

  -- In a region names mean its own values, and those of the regions round it.
  pub seen-inside : (scopes : List RegionScope) (own visible : List ℕ)
      → AllByRecursion (λ k. k < top) own
      → ((n : ℕ) → Contains visible n → looked scopes (name n) ≡ Some (n, 1))
      → (n : ℕ) → n < top → Contains (own ++ visible) n
      → looked (scope_of name own ∷ scopes) (name n) ≡ Some (n, 1)
  seen-inside scopes own visible low sees n small has = elim (found-number own low n small) [
    | inl e ↦ ap (λ o. or_else o (looked scopes (name n))) e
    | inr rest ↦
        let outer : looked scopes (name n) ≡ Some (n, 1) =
        elim (Contains-append_cases own visible n has) [
          | inl a ↦ absurd (rest.1 a)
          | inr b ↦ sees n b
        ] in
        ap (λ o. or_else o (looked scopes (name n))) rest.0 ∙ outer
  ]

  -- each label is found
  pub label-found : (m k b : ℕ) → k + m ≤ top → k ≤ b → b < k + m
      → found (labels_from name k m) (name b) ≡ Some (b, b)
  label-found zero k b high l u = absurd (omega arith)
  label-found (suc m) k b high l u =
      go (bytes_eq (name k) (name b)) (found (labels_from name (suc k) m) (name b)) refl
      (λ (more : suc k ≤ b). label-found m (suc k) b (omega arith) more (omega arith))
    where
      go : (c : Bool) (o : Option (ℕ × ℕ)) → bytes_eq (name k) (name b) ≡ c
          → (suc k ≤ b → o ≡ Some (b, b)) → (if c then Some (k, k) else o) ≡ Some (b, b)
      go true o e h =
          let same : k ≡ b =
          differ k b (omega arith) (omega arith) ((bytes_eq-Decides (name k) (name b)).0 e) in
          ap (λ (w : ℕ). Some (w, w)) same
      go false o e h = h (above (λ same.
          (let is : bytes_eq (name k) (name b) ≡ true =
          (bytes_eq-Decides (name k) (name b)).1 (ap name same) in
          absurd (cc))))
        where
          above : (k ≡ b → ⊥) → suc k ≤ b
          above differs = omega (arith, differs)

  -- ---- names that are new

  not-among : (n m : ℕ) (ws : List Text) → n ≤ m → m < top → Below name n ws
      → is_among ws (name m) ≡ false
  not-among n m [] l small h = refl
  not-among n m (w ∷ ws) l small ((k, b, e), h) =
      rw (unequal (name m) w (λ same.
      (let is : m ≡ k = differ m k small (omega arith) (same ∙ e) in absurd (omega arith))))
      (not-among n m ws l small h)

  all-new : (n m k : ℕ) (ws : List Text) → n ≤ m → m + k ≤ top → Below name n ws
      → AllByRecursion (λ w. is_among ws w ≡ false) (map name (range_with_len m k))
  all-new n m zero ws l high h = tt
  all-new n m (suc k) ws l high h =
      (not-among n m ws l (omega arith) h, all-new n (m + 1) k ws (omega arith) (omega arith) h)

  -- the name of a number differs from those behind it
  apart-from : (n m k : ℕ) → n < m → m + k ≤ top
      → AllByRecursion (λ w. bytes_eq (name n) w ≡ false) (map name (range_with_len m k))
  apart-from n m zero l high = tt
  apart-from n m (suc k) l high = (
    unequal (name n) (name m) (λ same.
        (let is : n ≡ m = differ n m (omega arith) (omega arith) same in absurd (omega arith))),
    apart-from n (m + 1) k (omega arith) (omega arith),
  )

  range-distinct : (n k : ℕ) → n + k ≤ top → IsDistinct bytes_eq (map name (range_with_len n k))
  unfolding IsDistinct
  range-distinct n zero high = tt
  range-distinct n (suc k) high =
      (apart-from n (n + 1) k (omega arith) (omega arith), range-distinct (n + 1) k (omega arith))

  -- the names of the next numbers are new
  pub numbers-new : (n k : ℕ) (ws : List Text) → n + k ≤ top → Below name n ws
      → AreNew ws (map name (range_with_len n k))
  numbers-new n k ws high h = record {
    distinct = range-distinct n k high;
    new = all-new n n k ws (omega arith) high h;
  }

  -- labels that are counted differ
  label-apart : (m k b : ℕ) → b < k → k + m ≤ top
      → AllByRecursion (λ w. bytes_eq (name b) w ≡ false) (names_in (labels_from name k m))
  label-apart zero k b l high = tt
  label-apart (suc m) k b l high = (
    unequal (name b) (name k) (λ same.
        (let is : b ≡ k = differ b k (omega arith) (omega arith) same in absurd (omega arith))),
    label-apart m (suc k) b (omega arith) (omega arith),
  )

  pub labels-distinct : (m k : ℕ) → k + m ≤ top
      → IsDistinct bytes_eq (names_in (labels_from name k m))
  unfolding IsDistinct
  labels-distinct zero k high = tt
  labels-distinct (suc m) k high =
      (label-apart m (suc k) k (omega arith) (omega arith), labels-distinct m (suc k) (omega arith))
