-- The first definition of a name in a region, as definitions are gone over from the last one down.
use Rattle.std.proofs.Common.{◌≡◌, ℕ, zero, suc, ◌+◌, ◌<◌, ◌≤◌, inl, inr, Bool, true, false, ◌&&◌, ◌||◌, ◌==◌, nat_lt, List, [], ◌∷◌, length, drop, min, refl, ap, sym, ◌∙◌, subst, arith, slice_get, bytes_eq, if◌then◌else◌, option_map}
use Rattle.std.proofs.lemmas.Bool.{cases_lt, eqb-true}
use Rattle.std.proofs.lemmas.Bool.Decides.{nat_tests}
use Rattle.std.proofs.lemmas.Option.{slice_get_past, slice_get_within}
use Rattle.std.specs.declared.option.Option.{Option}
use Rattle.std.specs.declared.option.Option.TheVariants.{Some, None}
use Rattle.symbol_scopes.specs.declared.slots.FoundBinding.{FoundBinding}
use Rattle.symbol_scopes.specs.ScopeMarks.{Name, Binding}
use Rattle.symbol_scopes.specs.Meanings.{is_of, found_at, first_from, first_in, meant, or_else, is_before, is_defined_before}
use Rattle.symbol_scopes.specs.Listed.{last_own, is_in_region}
use Rattle.symbol_scopes.specs.Slots.{at_or, found_in, least_of, Descend}
use Rattle.symbol_scopes.proofs.Lists.{drop-here, drop-past, same-name}

-- one past this definition, or 0
abbrev pub bound : Option ℕ → ℕ
bound None = 0
bound (Some d) = suc d

-- the first of those from k on
abbrev pub from : List Binding → ℕ → ℕ → Name → Option FoundBinding
from ds k r x = first_from k (drop k ds) r x

-- the first from k on is the definition at k, where it is of the name and in the region
pub from-here : (ds : List Binding) (k r : ℕ) (x : Name) (s : Binding) → slice_get ds k ≡ Some s
    → from ds k r x ≡ (if is_of r x s then Some (found_at k s) else from ds (suc k) r x)
from-here ds k r x s e = ap (λ l. first_from k l r x) (drop-here ds k s e)

-- a definition of another region is passed over
from-other : (ds : List Binding) (k r : ℕ) (x : Name) → is_in_region r (slice_get ds k) ≡ false
    → from ds k r x ≡ from ds (suc k) r x
from-other ds k r x other = by (slice_get ds k) refl other
  where
    by : (o : Option Binding) → slice_get ds k ≡ o → is_in_region r o ≡ false
        → from ds k r x ≡ from ds (suc k) r x
    by None e other =
        ap (λ l. first_from k l r x) (drop-past ds k e)
        ∙ sym (ap (λ l. first_from (suc k) l r x) (past ds k e))
      where
        past : (ds : List Binding) (k : ℕ) → slice_get ds k ≡ None → drop (suc k) ds ≡ []
        past [] k e = refl
        past (d ∷ ds) zero e = absurd (cc)
        past (d ∷ ds) (suc k) e = past ds k e
    by (Some s) e other =
        from-here ds k r x s e
        ∙ ap (λ b. if b && bytes_eq s.name x then Some (found_at k s) else from ds (suc k) r x) other

-- so the first from k on is the first from the last one of the region below k on
pub from-bound : (ds : List Binding) (k r : ℕ) (x : Name)
    → from ds (bound (last_own ds r k)) r x ≡ from ds k r x
from-bound ds zero r x = refl
from-bound ds (suc k) r x =
    by (is_in_region r (slice_get ds k)) refl (from-bound ds k r x)
  where
    by : (b : Bool) → is_in_region r (slice_get ds k) ≡ b
        → from ds (bound (last_own ds r k)) r x ≡ from ds k r x
        → from ds (bound (if b then Some k else last_own ds r k)) r x ≡ from ds (suc k) r x
    by true e below = refl
    by false e below = below ∙ from-other ds k r x e

-- nothing is found past the end
pub from-end : (ds : List Binding) (r : ℕ) (x : Name) → from ds (length ds) r x ≡ None
from-end ds r x = ap (λ l. first_from (length ds) l r x) (none ds)
  where
    none : (ds : List Binding) → drop (length ds) ds ≡ []
    none [] = refl
    none (d ∷ ds) = none ds

-- the last definition of a region below k is one, and is in it
pub record IsOwn (ds : List Binding) (r k d : ℕ) : Type 0 where
  pub below : d < k
  pub within : d < length ds
  pub binding : Binding
  pub there : slice_get ds d ≡ Some binding
  pub region : binding.region ≡ r

-- the last definition of a region below k is one of the region, and stands below k
pub last-is : (ds : List Binding) (r k d : ℕ) → last_own ds r k ≡ Some d → IsOwn ds r k d
last-is ds r zero d e = absurd (cc)
last-is ds r (suc k) d e =
    by (slice_get ds k) refl (is_in_region r (slice_get ds k)) refl (last-is ds r k d) e
  where
    by : (o : Option Binding) → slice_get ds k ≡ o → (b : Bool) → is_in_region r (slice_get ds k) ≡ b
        → (last_own ds r k ≡ Some d → IsOwn ds r k d)
        → (if b then Some k else last_own ds r k) ≡ Some d → IsOwn ds r (suc k) d
    by None o true b below e = absurd (let h : is_in_region r None ≡ true = sym (ap (is_in_region r) o) ∙ b in cc)
    by (Some s) o true b below e =
        let same : k ≡ d = cc in
        let inside : (s.region == r) ≡ true = sym (ap (is_in_region r) o) ∙ b in
        let less : k < length ds = slice_get_within ds k s o in
        record {
          below = omega arith;
          within = omega arith;
          binding = s;
          there = subst (λ n. slice_get ds n ≡ Some s) same o;
          region = eqb-true s.region r inside;
        }
    by o is false b below e =
        let rest = below e in
        let less = rest.below in
        record {
          below = omega arith;
          within = rest.within;
          binding = rest.binding;
          there = rest.there;
          region = rest.region;
        }

-- a number is itself
pub itself : (n : ℕ) → (n == n) ≡ true
itself n = grind (arith, nat_tests)

-- what is in a region and stands below k is at most the last of the region below k
pub last-below : (ds : List Binding) (r k d : ℕ) (s : Binding) → slice_get ds d ≡ Some s → s.region ≡ r
    → d < k → d < bound (last_own ds r k)
last-below ds r zero d s e is less = absurd (omega arith)
last-below ds r (suc k) d s e is less =
    by (is_in_region r (slice_get ds k)) refl (last-below ds r k d s e is)
  where
    by : (b : Bool) → is_in_region r (slice_get ds k) ≡ b → (d < k → d < bound (last_own ds r k))
        → d < bound (if b then Some k else last_own ds r k)
    by true b below = less
    by false b below = elim (cases_lt d k) [
      | inl h ↦ below h
      | inr h ↦ absurd (
          let same : d ≡ k = omega arith in
          let here : slice_get ds k ≡ Some s = subst (λ n. slice_get ds n ≡ Some s) same e in
          let inside : is_in_region r (slice_get ds k) ≡ true =
          ap (is_in_region r) here ∙ ap (λ q. q == r) is ∙ itself r in
          cc)
    ]

-- what is found is a definition of the name in the region, at k or behind
pub record IsFound (ds : List Binding) (k r : ℕ) (x : Name) (f : FoundBinding) : Type 0 where
  pub binding : Binding
  pub behind : k ≤ f.at
  pub there : slice_get ds f.at ≡ Some binding
  pub own : binding.region ≡ r
  pub named : binding.name ≡ x
  pub is : f ≡ found_at f.at binding

record IsFoundFrom (ds : List Binding) (k r : ℕ) (x : Name) (f : FoundBinding) : Type 0 where
  n : ℕ
  at : f.at ≡ k + n
  binding : Binding
  there : slice_get ds n ≡ Some binding
  own : binding.region ≡ r
  named : binding.name ≡ x
  is : f ≡ found_at f.at binding

both : (a b : Bool) → (a && b) ≡ true → (a ≡ true) × (b ≡ true)
both true b e = (refl, e)
both false b e = absurd (cc)

first-is : (k : ℕ) (ds : List Binding) (r : ℕ) (x : Name) (f : FoundBinding)
    → first_from k ds r x ≡ Some f → IsFoundFrom ds k r x f
first-is k [] r x f e = absurd (cc)
first-is k (d ∷ ds) r x f e = by (is_of r x d) refl e (first-is (suc k) ds r x f)
  where
    by : (b : Bool) → is_of r x d ≡ b
        → (if b then Some (found_at k d) else first_from (suc k) ds r x) ≡ Some f
        → (first_from (suc k) ds r x ≡ Some f → IsFoundFrom ds (suc k) r x f)
        → IsFoundFrom (d ∷ ds) k r x f
    by true b e more =
        let same : found_at k d ≡ f = cc in
        let at : k ≡ f.at = ap (λ g. g.at) same in
        let tests = both (d.region == r) (bytes_eq d.name x) b in
        record {
          n = 0;
          at = omega arith;
          binding = d;
          there = refl;
          own = eqb-true d.region r tests.0;
          named = same-name d.name x tests.1;
          is = sym same ∙ ap (λ n. found_at n d) at;
        }
    by false b e more =
        let rest = more e in
        let at = rest.at in
        record {
          n = suc rest.n;
          at = omega arith;
          binding = rest.binding;
          there = rest.there;
          own = rest.own;
          named = rest.named;
          is = rest.is;
        }

get-dropped : (ds : List Binding) (k n m : ℕ) → k + n ≡ m
    → slice_get (drop k ds) n ≡ slice_get ds m
get-dropped ds zero n m e = let same : n ≡ m = omega arith in ap (slice_get ds) same
get-dropped [] (suc k) n m e = refl
get-dropped (d ∷ ds) (suc k) n zero e = absurd (omega arith)
get-dropped (d ∷ ds) (suc k) n (suc m) e = get-dropped ds k n m (omega arith)

-- what is found from k on is a definition of the name in the region, at k or behind
pub found-is : (ds : List Binding) (k r : ℕ) (x : Name) (f : FoundBinding) → from ds k r x ≡ Some f
    → IsFound ds k r x f
found-is ds k r x f e =
    let h = first-is k (drop k ds) r x f e in
    let at = h.at in
    record {
      binding = h.binding;
      behind = omega arith;
      there =
          sym (get-dropped ds k h.n f.at (sym h.at)) ∙ h.there;
      own = h.own;
      named = h.named;
      is = h.is;
    }

-- what is meant in regions whose numbers are below r isn't in r
pub meant-below : (ds : List Binding) (round : List ℕ) (r : ℕ) (x : Name) (f : FoundBinding)
    → Descend r round → meant ds round x ≡ Some f → f.region < r
meant-below ds [] r x f descend e = absurd (cc)
meant-below ds (q ∷ round) r x f descend e =
    by (first_in ds q x) refl e (meant-below ds round q x f descend.1)
  where
    by : (o : Option FoundBinding) → first_in ds q x ≡ o → or_else o (meant ds round x) ≡ Some f
        → (meant ds round x ≡ Some f → f.region < q) → f.region < r
    by None o e below = let h = below e in let g = descend.0 in omega arith
    by (Some g) o e below =
        let same : g ≡ f = cc in
        let h = found-is ds 0 q x g o in
        let region : g.region ≡ q = ap (λ k. k.region) h.is ∙ h.own in
        let less = descend.0 in
        subst (λ k. k.region < r) same (omega arith)

-- what may be found is there, by its number
abbrev pub IsKnown : List Binding → Option FoundBinding → Type 0
IsKnown ds None = Unit {0}
IsKnown ds (Some f) = found_in ds f.at ≡ Some f

-- what is found from k on is there
pub from-known : (ds : List Binding) (k r : ℕ) (x : Name) → IsKnown ds (from ds k r x)
from-known ds k r x = by (from ds k r x) refl
  where
    by : (o : Option FoundBinding) → from ds k r x ≡ o → IsKnown ds o
    by None e = tt
    by (Some f) e =
        let h = found-is ds k r x f e in
        ap (option_map (found_at f.at)) h.there ∙ ap Some (sym h.is)

-- the first of two that are there is there
pub or_else-known : (ds : List Binding) (a b : Option FoundBinding) → IsKnown ds a → IsKnown ds b
    → IsKnown ds (or_else a b)
or_else-known ds None b h k = k
or_else-known ds (Some f) b h k = h

-- what is meant is there
pub meant-known : (ds : List Binding) (round : List ℕ) (x : Name) → IsKnown ds (meant ds round x)
meant-known ds [] x = tt
meant-known ds (r ∷ round) x =
    or_else-known ds (first_in ds r x) (meant ds round x) (from-known ds 0 r x)
    (meant-known ds round x)

-- what is there is found again by its number
pub found-again : (ds : List Binding) (o : Option FoundBinding) → IsKnown ds o
    → found_in ds (at_or (length ds) o) ≡ o
found-again ds None h =
    ap (option_map (found_at (length ds))) (slice_get_past ds (length ds) (omega arith))
found-again ds (Some f) h = h

-- the least number is at most how many definitions there are
pub least-most : (ds : List Binding) (round : List ℕ) (x : Name) → least_of ds round x ≤ length ds
least-most ds [] x = omega arith
least-most ds (r ∷ round) x = let h = least-most ds round x in omega arith

-- a definition before the i-th in one of the regions is what the least number tells
pub least-tells : (ds : List Binding) (round : List ℕ) (x : Name) (i : ℕ) → i ≤ length ds
    → nat_lt (least_of ds round x) i ≡ is_defined_before ds round x i
least-tells ds [] x i most = not-less (length ds) i most
  where
    not-less : (n i : ℕ) → i ≤ n → nat_lt n i ≡ false
    not-less n i le = grind (arith, nat_tests)
least-tells ds (r ∷ round) x i most =
    of-min (at_or (length ds) (first_in ds r x)) (least_of ds round x) i
    ∙ ap (λ b. b || nat_lt (least_of ds round x) i) (one (first_in ds r x))
    ∙ ap (λ b. is_before (first_in ds r x) i || b) (least-tells ds round x i most)
  where
    of-min : (a b i : ℕ) → nat_lt (min a b) i ≡ (nat_lt a i || nat_lt b i)
    of-min a b i = by (nat_lt a i) (nat_lt b i) (nat_lt (min a b) i) refl refl refl
      where
        by : (p q w : Bool) → nat_lt a i ≡ p → nat_lt b i ≡ q → nat_lt (min a b) i ≡ w
            → w ≡ (p || q)
        by true q true e f g = refl
        by true q false e f g = absurd (grind (arith, nat_tests))
        by false true true e f g = refl
        by false true false e f g = absurd (grind (arith, nat_tests))
        by false false true e f g = absurd (grind (arith, nat_tests))
        by false false false e f g = refl

    one : (o : Option FoundBinding) → nat_lt (at_or (length ds) o) i ≡ is_before o i
    one None = grind (arith, nat_tests)
    one (Some f) = refl
