-- What names mean is in scope: values that may be used where the operation stands, and blocks of
-- its region.
--
-- The names of a region stand for the values that its operations and blocks define themselves,
-- since names of results are as many as the results, and names of arguments as many as the
-- arguments.
use Rattle.std.proofs.Common.{◌≡◌, ℕ, zero, suc, ◌+◌, ◌<◌, ◌≤◌, ◌==◌, Bool, true, false, List}
use Rattle.std.proofs.Common.{[], ◌∷◌, ◌++◌, length, map, sum, refl, sym, ◌∙◌, subst}
use Rattle.std.proofs.Common.{arith, Option, Some, None, cond, nat_lt, bytes_eq, slice_get}
use Rattle.std.proofs.Common.{IsSomeAnd}
use Rattle.std.proofs.Common.{inl, inr, ◌⊎◌, option_map, option_and_then, Contains}
use Rattle.std.proofs.lemmas.Bool.{ltb-true}
use Rattle.std.proofs.lemmas.List.Elements.{Contains-append_left, Contains-append_right}
use Rattle.std.proofs.lemmas.List.Sums.{sum_by-cons}
use Rattle.std.specs.List.{AllByRecursion, range_with_len}
use Rattle.generic_syntax.specs.declared.cst.NameCst.{NameCst}
use Rattle.generic_syntax.specs.declared.module_cst.ArgCst.{ArgCst}
use Rattle.generic_syntax.specs.declared.module_cst.BlockCst.{BlockCst, out-BlockCst}
use Rattle.generic_syntax.specs.declared.module_cst.ResultCst.{ResultCst}
use Rattle.generic_syntax.specs.declared.module_cst.UseCst.{UseCst}
use Rattle.ir_lexer.specs.Spelling.{Text}
use Rattle.module_meaning.proofs.Places.{some-same}
use Rattle.module_meaning.specs.Names.{Env, used, in_pack, target, pack_size, result_number}
use Rattle.module_meaning.specs.Names.{result_scope, argument_scope, label_scope, label_of}
use Rattle.symbol_scopes.specs.Meanings.{or_else}
use Rattle.symbol_scopes.specs.Regions.{RegionScope, ScopeName, found, looked}
use Rattle.value_meaning.proofs.Among.{contains-head, contains-tail}

-- ---- lists

-- a number of a range is in it
pub contains-range : (a len x : ℕ) → a ≤ x → x < a + len → Contains (range_with_len a len) x
contains-range a zero x low high = absurd (omega arith)
contains-range a (suc len) x low high = go (a == x) refl (λ l h. contains-range (a + 1) len x l h)
  where
    go : (b : Bool) → (a == x) ≡ b
        → (a + 1 ≤ x → x < a + 1 + len → Contains (range_with_len (a + 1) len) x)
        → Contains (range_with_len a (suc len)) x
    go true is more =
        let same : a ≡ x = grind (arith, is) in
        subst (λ (y : ℕ). Contains (a ∷ range_with_len (a + 1) len) y) same
        (contains-head a (range_with_len (a + 1) len))
    go false is more =
        let above : a + 1 ≤ x = grind (arith, is) in
        contains-tail a (range_with_len (a + 1) len) x (more above (omega arith))

-- what holds at each place holds of all
pub all-places : {A : Type 0} (P : A → Type 0) (xs : List A)
    → ((i : ℕ) → i < length xs → IsSomeAnd (slice_get xs i) P) → AllByRecursion P xs
all-places P [] h = tt
all-places P (x ∷ xs) h =
    (h 0 (omega arith), all-places P xs (λ i within. h (suc i) (omega arith)))

-- ---- names in scopes

-- what a name stands for in two scopes, one behind the other
found-append : (s t : RegionScope) (name : Text) (d : ℕ × ℕ) → found (s ++ t) name ≡ Some d
    → (found s name ≡ Some d) ⊎ (found t name ≡ Some d)
found-append [] t name d e = inr e
found-append (x ∷ s) t name d e = go (bytes_eq x.name name) refl (found-append s t name d)
  where
    go : (b : Bool) → bytes_eq x.name name ≡ b
        → (found (s ++ t) name ≡ Some d → (found s name ≡ Some d) ⊎ (found t name ≡ Some d))
        → (found (x ∷ s) name ≡ Some d) ⊎ (found t name ≡ Some d)
    go true is more =
        let here : found (x ∷ (s ++ t)) name ≡ Some (x.at, x.number) = rw is refl in
        let there : found (x ∷ s) name ≡ Some (x.at, x.number) = rw is refl in
        inl (there ∙ (sym here ∙ e))
    go false is more =
        let here : found (x ∷ (s ++ t)) name ≡ found (s ++ t) name = rw is refl in
        let there : found (x ∷ s) name ≡ found s name = rw is refl in
        elim (more (sym here ∙ e)) [ inl l ↦ inl (there ∙ l) | inr r ↦ inr r ]

-- a scope stands for these values: each name's pack is among them
pub record StandsFor (values : List ℕ) (scope : RegionScope) : Type 0 where
  pub each : (name : Text) (d : ℕ × ℕ) → found scope name ≡ Some d → (k : ℕ) → k < d.1
      → Contains values (d.0 + k)

-- no names
pub stands-none : (values : List ℕ) → StandsFor values []
stands-none values = record { each = λ name d e k within. absurd (cc) }

-- scopes together stand for the values of both
pub stands-append : (xs ys : List ℕ) (s t : RegionScope) → StandsFor xs s → StandsFor ys t
    → StandsFor (xs ++ ys) (s ++ t)
stands-append xs ys s t a b = record {
  each = λ name d e k within. elim (found-append s t name d e) [
    | inl l ↦ Contains-append_left xs ys (d.0 + k) (a.each name d l k within)
    | inr r ↦ Contains-append_right xs ys (d.0 + k) (b.each name d r k within)
  ];
}

-- one name that stands for a part of the values
stands-one : (values : List ℕ) (x : ScopeName) (s : RegionScope)
    → ((k : ℕ) → k < x.number → Contains values (x.at + k)) → StandsFor values s
    → StandsFor values (x ∷ s)
stands-one values x s here rest = record {
  each = λ name d e k within. go name d k within (bytes_eq x.name name) refl e;
}
  where
    go : (name : Text) (d : ℕ × ℕ) (k : ℕ) → k < d.1 → (b : Bool) → bytes_eq x.name name ≡ b
        → found (x ∷ s) name ≡ Some d → Contains values (d.0 + k)
    go name d k within true is e =
        let first : found (x ∷ s) name ≡ Some (x.at, x.number) = rw is refl in
        let same : (x.at, x.number) ≡ d = some-same (x.at, x.number) d (sym first ∙ e) in
        subst (λ (p : ℕ × ℕ). k < p.1 → Contains values (p.0 + k)) same (here k) within
    go name d k within false is e =
        let later : found (x ∷ s) name ≡ found s name = rw is refl in
        rest.each name d (sym later ∙ e) k within

-- names of results stand for as many values, from the first on
pub stands-results : (from len n : ℕ) (rs : List ResultCst) → from ≤ n
    → n + sum (map (λ (r : ResultCst). pack_size r.pack) rs) ≤ from + len
    → StandsFor (range_with_len from len) (result_scope n rs)
stands-results from len n [] low high = stands-none (range_with_len from len)
stands-results from len n (r ∷ rs) low high =
    let total : sum (pack_size r.pack ∷ map (λ (x : ResultCst). pack_size x.pack) rs)
    ≡ pack_size r.pack + sum (map (λ (x : ResultCst). pack_size x.pack) rs) =
    sum_by-cons (λ x. x) (pack_size r.pack)
    (map (λ (x : ResultCst). pack_size x.pack) rs) in
    stands-one (range_with_len from len) _ _
    (λ k within. contains-range from len (n + k) (omega arith) (omega arith))
    (stands-results from len (n + pack_size r.pack) rs (omega arith) (omega arith))

-- so do names of arguments
pub stands-arguments : (from len n : ℕ) (xs : List ArgCst) → from ≤ n
    → n + length xs ≤ from + len → StandsFor (range_with_len from len) (argument_scope n xs)
stands-arguments from len n [] low high = stands-none (range_with_len from len)
stands-arguments from len n (x ∷ xs) low high =
    stands-one (range_with_len from len) _ _
    (λ k within. contains-range from len (n + k) (omega arith) (omega arith))
    (stands-arguments from len (n + 1) xs (omega arith) (omega arith))

-- a label stands for one of the blocks
pub label-below : (k : ℕ) (bs : List BlockCst) (name : Text) (d : ℕ × ℕ)
    → found (label_scope k bs) name ≡ Some d → d.1 < k + length bs
label-below k [] name d e = absurd (cc)
label-below k (b ∷ bs) name d e =
    elim (found-append (label_of k (out-BlockCst b).label) (label_scope (suc k) bs) name d e) [
      | inl l ↦
          let below : d.1 < suc (k + length bs) = here (out-BlockCst b).label l in omega arith
      | inr r ↦
          let below : d.1 < suc k + length bs = label-below (suc k) bs name d r in omega arith
    ]
  where
    here : (l : Option NameCst) → found (label_of k l) name ≡ Some d → d.1 < suc (k + length bs)
    here None is = absurd (cc)
    here (Some l) is = by (bytes_eq l.name name) refl is
      where
        by : (c : Bool) → bytes_eq l.name name ≡ c → found (label_of k (Some l)) name ≡ Some d
            → d.1 < suc (k + length bs)
        by true same is =
            let first : found (label_of k (Some l)) name ≡ Some (k, k) = rw same refl in
            let pair : (k, k) ≡ d = some-same (k, k) d (sym first ∙ is) in
            subst (λ (p : ℕ × ℕ). p.1 < suc (k + length bs)) pair (omega arith)
        by false other is =
            let missing : found (label_of k (Some l)) name ≡ None = rw other refl in
            let there : None ≡ Some d = sym missing ∙ is in
            absurd (cc)

-- ---- an environment

-- its names stand for these values, and its labels for so many blocks
pub record Reaches (visible : List ℕ) (blocks : ℕ) (env : Env) : Type 0 where
  pub values : (name : Text) (d : ℕ × ℕ) → looked env.scopes name ≡ Some d → (k : ℕ) → k < d.1
      → Contains visible (d.0 + k)
  pub labels : (name : Text) (d : ℕ × ℕ) → found env.labels name ≡ Some d → d.1 < blocks

-- in a region with more of both
pub looked-inside : (own visible : List ℕ) (scope : RegionScope) (scopes : List RegionScope)
    → StandsFor own scope
    → ((name : Text) (d : ℕ × ℕ) → looked scopes name ≡ Some d → (k : ℕ) → k < d.1
    → Contains visible (d.0 + k))
    → (name : Text) (d : ℕ × ℕ) → looked (scope ∷ scopes) name ≡ Some d → (k : ℕ) → k < d.1
    → Contains (own ++ visible) (d.0 + k)
looked-inside own visible scope scopes inner outer name d e k within =
    go (found scope name) refl e
  where
    go : (o : Option (ℕ × ℕ)) → found scope name ≡ o
        → or_else o (looked scopes name) ≡ Some d → Contains (own ++ visible) (d.0 + k)
    go None is is2 = Contains-append_right own visible (d.0 + k) (outer name d is2 k within)
    go (Some x) is is2 =
        Contains-append_left own visible (d.0 + k) (inner.each name d (is ∙ is2) k within)

module _ (visible : List ℕ) (blocks : ℕ) (env : Env) (reaches : Reaches visible blocks env) where
  -- a use means a value that may be used
  pub used-visible : (u : UseCst) (n : ℕ) → used env u ≡ Some n → Contains visible n
  used-visible u n e = go (looked env.scopes u.name) refl e
    where
      at : (d : ℕ × ℕ) → looked env.scopes u.name ≡ Some d → (b : Bool)
          → nat_lt (result_number u.number) d.1 ≡ b
          → cond b (Some (d.0 + result_number u.number)) None ≡ Some n → Contains visible n
      at d is true below e =
          let same : d.0 + result_number u.number ≡ n = some-same _ n e in
          subst (Contains visible) same
          (reaches.values u.name d is (result_number u.number) (ltb-true _ _ below))
      at d is false below e = absurd (cc)

      go : (o : Option (ℕ × ℕ)) → looked env.scopes u.name ≡ o
          → option_and_then (in_pack (result_number u.number)) o ≡ Some n → Contains visible n
      go None is e = absurd (cc)
      go (Some d) is e = at d is (nat_lt (result_number u.number) d.1) refl e

  -- uses mean such values
  pub all-visible : (us : List UseCst) (ns : List ℕ) → map (used env) us ≡ map Some ns
      → AllByRecursion (Contains visible) ns
  all-visible [] [] e = tt
  all-visible [] (n ∷ ns) e = absurd (cc)
  all-visible (u ∷ us) [] e = absurd (cc)
  all-visible (u ∷ us) (n ∷ ns) e =
      let first : used env u ≡ Some n = cc in
      let rest : map (used env) us ≡ map Some ns = cc in
      (used-visible u n first, all-visible us ns rest)

  -- a successor is a block of the region
  pub target-below : (s : NameCst) (b : ℕ) → target env s ≡ Some b → b < blocks
  target-below s b e = go (found env.labels s.name) refl e
    where
      go : (o : Option (ℕ × ℕ)) → found env.labels s.name ≡ o
          → option_map (λ (label : ℕ × ℕ). label.1) o ≡ Some b → b < blocks
      go None is e = absurd (cc)
      go (Some d) is e =
          let same : d.1 ≡ b = some-same d.1 b e in
          subst (λ (n : ℕ). n < blocks) same (reaches.labels s.name d is)
