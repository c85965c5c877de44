-- The first definition of a name in a scope, by the numbers of definitions, and the names that are
-- defined before a place.
--
--   IsEarly ss x     the innermost scope defines the name no later than x does
--   IsBelow n x      the number of a name is less than n
--   Knows ss n ws    these names are defined before the n-th definition
use Rattle.std.proofs.Common.{◌≡◌, ℕ, ◌+◌, ◌<◌, ◌≤◌, Bool, true, false, ◌||◌, List, [], ◌∷◌}
use Rattle.std.proofs.Common.{◌++◌, refl, sym, ap, subst, arith, append_assoc}
use Rattle.std.proofs.Common.{Option, Some, None, bytes_eq}
use Rattle.std.proofs.lemmas.Bool.{ltb-true, lt-ltb}
use Rattle.std.proofs.lemmas.Slice.Eq.{bytes_eq-Decides}
use Rattle.std.specs.List.{AllByRecursion}
use Rattle.grammar.specs.Looks.{is_among}
use Rattle.ir_lexer.specs.Spelling.{Text}
use Rattle.module_meaning.proofs.Places.{all-joined}
use Rattle.module_meaning.specs.Names.{names_in}
use Rattle.symbol_scopes.specs.declared.call.NameKind.{NameKind}
use Rattle.symbol_scopes.specs.declared.call.NameKind.TheVariants.{Values, Labels}
use Rattle.symbol_scopes.specs.Regions.{Note, Notes, no_notes, note, in_region, defines, uses}
use Rattle.symbol_scopes.specs.Regions.{labels, leads_to, bad_pack, defines_alias, mentions_alias}
use Rattle.symbol_scopes.specs.Regions.{RegionScope, ScopeName, own, count, count_of, known_of}
use Rattle.symbol_scopes.specs.Regions.{found, innermost}
use Rattle.symbol_scopes.specs.Regions.{is_earlier, is_repeated}

-- ---- the numbers of a scope's names

-- each number is greater than those before it, and the first is no less than m
abbrev Ascends : ℕ → RegionScope → Type 0
Ascends m [] = Unit {0}
Ascends m (x ∷ s) = (m ≤ x.at) × Ascends (x.at + 1) s

ascends-more : (m n : ℕ) (s : RegionScope) → m ≤ n → Ascends n s → Ascends m s
ascends-more m n [] le h = tt
ascends-more m n (x ∷ s) le (p, h) = (omega (arith, le, p), h)

-- what one note defines
ascends-note : (k : NameKind) (n : ℕ) (x : Note) (s : RegionScope) → Ascends (n + count_of k x) s
    → Ascends n (known_of k n x ++ s)
ascends-note Values n (defines d) s h = (omega arith, h)
ascends-note Values n (uses u) s h = ascends-more n (n + 0) s (omega arith) h
ascends-note Values n (labels u) s h = ascends-more n (n + 0) s (omega arith) h
ascends-note Values n (leads_to u) s h = ascends-more n (n + 0) s (omega arith) h
ascends-note Values n (bad_pack u) s h = ascends-more n (n + 0) s (omega arith) h
ascends-note Values n (defines_alias u) s h = ascends-more n (n + 0) s (omega arith) h
ascends-note Values n (mentions_alias u) s h = ascends-more n (n + 0) s (omega arith) h
ascends-note Labels n (labels d) s h = (omega arith, h)
ascends-note Labels n (uses u) s h = ascends-more n (n + 0) s (omega arith) h
ascends-note Labels n (defines u) s h = ascends-more n (n + 0) s (omega arith) h
ascends-note Labels n (leads_to u) s h = ascends-more n (n + 0) s (omega arith) h
ascends-note Labels n (bad_pack u) s h = ascends-more n (n + 0) s (omega arith) h
ascends-note Labels n (defines_alias u) s h = ascends-more n (n + 0) s (omega arith) h
ascends-note Labels n (mentions_alias u) s h = ascends-more n (n + 0) s (omega arith) h

own-ascends : (k : NameKind) (n : ℕ) (ns : Notes) → Ascends n (own k n ns)
own-ascends k n no_notes = tt
own-ascends k n (note x ns) =
    ascends-note k n x (own k (n + count_of k x) ns) (own-ascends k (n + count_of k x) ns)
own-ascends k n (in_region inner ns) =
    ascends-more n (n + count k inner) (own k (n + count k inner) ns) (omega arith)
    (own-ascends k (n + count k inner) ns)

-- ---- the first of a name

abbrev pub IsEarlyIn : RegionScope → ScopeName → Type 0
IsEarlyIn s x = is_earlier (found s x.name) (x.at + 1) ≡ true

abbrev pub IsEarly : List RegionScope → ScopeName → Type 0
IsEarly ss x = IsEarlyIn (innermost ss) x

found-early : (past : RegionScope) (x : ScopeName) (rest : RegionScope)
    → AllByRecursion (λ (p : ScopeName). p.at ≤ x.at) past → IsEarlyIn (past ++ (x ∷ rest)) x
found-early [] x rest low =
    rw ((bytes_eq-Decides x.name x.name).1 refl) (lt-ltb x.at (x.at + 1) (omega arith))
found-early (p ∷ past) x rest (le, low) =
    go (bytes_eq p.name x.name) refl (found-early past x rest low)
  where
    go : (b : Bool) → bytes_eq p.name x.name ≡ b → IsEarlyIn (past ++ (x ∷ rest)) x
        → IsEarlyIn (p ∷ (past ++ (x ∷ rest))) x
    go true is more = rw is (lt-ltb p.at (x.at + 1) (omega (arith, le)))
    go false is more = rw is more

low-more : (m n : ℕ) (s : RegionScope) → m ≤ n → AllByRecursion (λ (p : ScopeName). p.at ≤ m) s
    → AllByRecursion (λ (p : ScopeName). p.at ≤ n) s
low-more m n [] le h = tt
low-more m n (x ∷ s) le (p, h) = (omega (arith, le, p), low-more m n s le h)

all-early : (m : ℕ) (past s : RegionScope)
    → AllByRecursion (λ (p : ScopeName). p.at ≤ m) past → Ascends m s
    → AllByRecursion (IsEarlyIn (past ++ s)) s
all-early m past [] low h = tt
all-early m past (x ∷ s) low (le, h) = (
  found-early past x s (low-more m x.at past le low),
  subst (λ (w : RegionScope). AllByRecursion (IsEarlyIn w) s) (append_assoc past (x ∷ []) s)
      (all-early (x.at + 1) (past ++ (x ∷ [])) s
      (all-joined (λ (p : ScopeName). p.at ≤ x.at + 1) past (x ∷ [])
      (low-more m (x.at + 1) past (omega (arith, le)) low) (omega arith, tt)) h),
)

-- each name that notes define is found no later
pub own-early : (k : NameKind) (n : ℕ) (ns : Notes)
    → AllByRecursion (IsEarlyIn (own k n ns)) (own k n ns)
own-early k n ns = all-early n [] (own k n ns) tt (own-ascends k n ns)

-- ---- names that are defined before

abbrev pub Knows : List RegionScope → ℕ → List Text → Type 0
Knows ss n before = (w : Text) → is_among before w ≡ true → is_repeated ss w n ≡ true

pub earlier-more : (o : Option (ℕ × ℕ)) (m n : ℕ) → m ≤ n → is_earlier o m ≡ true
    → is_earlier o n ≡ true
earlier-more None m n le e = e
earlier-more (Some d) m n le e =
    let less : d.0 < m = ltb-true d.0 m e in lt-ltb d.0 n (omega (arith, le, less))

either-true : (a b : Bool) → (a || b) ≡ true → (a ≡ true → ⊥) → b ≡ true
either-true true b e not = absurd (not refl)
either-true false b e not = e

or-left : (a b : Bool) → a ≡ true → (a || b) ≡ true
or-left a b e = ap (λ c. c || b) e

pub or-right : (a b : Bool) → b ≡ true → (a || b) ≡ true
or-right true b e = refl
or-right false b e = e

repeated-more : (ss : List RegionScope) (w : Text) (m n : ℕ) → m ≤ n → is_repeated ss w m ≡ true
    → is_repeated ss w n ≡ true
repeated-more [] w m n le e = absurd (cc)
repeated-more (s ∷ ss) w m n le e =
    go (is_earlier (found s w) m) refl e (repeated-more ss w m n le)
  where
    go : (b : Bool) → is_earlier (found s w) m ≡ b → (b || is_repeated ss w m) ≡ true
        → (is_repeated ss w m ≡ true → is_repeated ss w n ≡ true)
        → is_repeated (s ∷ ss) w n ≡ true
    go true is e more =
        or-left (is_earlier (found s w) n) (is_repeated ss w n)
        (earlier-more (found s w) m n le is)
    go false is e more = or-right (is_earlier (found s w) n) (is_repeated ss w n) (more e)

pub knows-more : (ss : List RegionScope) (m n : ℕ) (before : List Text) → m ≤ n
    → Knows ss m before → Knows ss n before
knows-more ss m n before le h w e = repeated-more ss w m n le (h w e)

-- in a region
pub knows-inside : (s : RegionScope) (ss : List RegionScope) (n : ℕ) (before : List Text)
    → Knows ss n before → Knows (s ∷ ss) n before
knows-inside s ss n before h w e =
    or-right (is_earlier (found s w) n) (is_repeated ss w n) (h w e)

-- behind one more definition
pub knows-one : (ss : List RegionScope) (n : ℕ) (before : List Text) (x : ScopeName) → x.at + 1 ≤ n
    → IsEarly ss x → Knows ss n before → Knows ss n (x.name ∷ before)
knows-one [] n before x le early h w e = absurd (cc)
knows-one (s ∷ ss) n before x le early h w e = go (bytes_eq w x.name) refl e
  where
    go : (b : Bool) → bytes_eq w x.name ≡ b → (b || is_among before w) ≡ true
        → is_repeated (s ∷ ss) w n ≡ true
    go true is e =
        let same : w ≡ x.name = (bytes_eq-Decides w x.name).0 is in
        or-left (is_earlier (found s w) n) (is_repeated ss w n)
        (subst (λ (v : Text). is_earlier (found s v) n ≡ true) (sym same)
        (earlier-more (found s x.name) (x.at + 1) n le early))
    go false is e = h w e

-- behind notes
abbrev pub IsBelow : ℕ → ScopeName → Type 0
IsBelow n x = x.at + 1 ≤ n

knows-names : (ss : List RegionScope) (n : ℕ) (before : List Text) (s : RegionScope)
    → AllByRecursion (IsBelow n) s → AllByRecursion (IsEarly ss) s → Knows ss n before
    → Knows ss n (names_in s ++ before)
knows-names ss n before [] low early h = h
knows-names ss n before (x ∷ s) (le, low) (e, early) h =
    knows-one ss n (names_in s ++ before) x le e (knows-names ss n before s low early h)

pub below-more : (m n : ℕ) (s : RegionScope) → m ≤ n → AllByRecursion (IsBelow m) s
    → AllByRecursion (IsBelow n) s
below-more m n [] le h = tt
below-more m n (x ∷ s) le (p, h) = (omega (arith, le, p), below-more m n s le h)

below-note : (k : NameKind) (n : ℕ) (x : Note)
    → AllByRecursion (IsBelow (n + count_of k x)) (known_of k n x)
below-note Values n (defines d) = (omega arith, tt)
below-note Values n (uses u) = tt
below-note Values n (labels u) = tt
below-note Values n (leads_to u) = tt
below-note Values n (bad_pack u) = tt
below-note Values n (defines_alias u) = tt
below-note Values n (mentions_alias u) = tt
below-note Labels n (labels d) = (omega arith, tt)
below-note Labels n (uses u) = tt
below-note Labels n (defines u) = tt
below-note Labels n (leads_to u) = tt
below-note Labels n (bad_pack u) = tt
below-note Labels n (defines_alias u) = tt
below-note Labels n (mentions_alias u) = tt

pub own-below : (k : NameKind) (n : ℕ) (ns : Notes)
    → AllByRecursion (IsBelow (n + count k ns)) (own k n ns)
own-below k n no_notes = tt
own-below k n (note x ns) = all-joined (IsBelow (n + count k (note x ns))) (known_of k n x)
    (own k (n + count_of k x) ns)
    (below-more (n + count_of k x) (n + count k (note x ns)) (known_of k n x) (omega arith)
    (below-note k n x))
    (below-more (n + count_of k x + count k ns) (n + count k (note x ns))
    (own k (n + count_of k x) ns) (omega arith) (own-below k (n + count_of k x) ns))
own-below k n (in_region inner ns) =
    below-more (n + count k inner + count k ns) (n + count k (in_region inner ns))
    (own k (n + count k inner) ns) (omega arith) (own-below k (n + count k inner) ns)

pub knows-behind : (ss : List RegionScope) (n : ℕ) (before : List Text) (ns : Notes)
    → AllByRecursion (IsEarly ss) (own Values n ns) → Knows ss n before
    → Knows ss (n + count Values ns) (names_in (own Values n ns) ++ before)
knows-behind ss n before ns early h =
    knows-names ss (n + count Values ns) before (own Values n ns) (own-below Values n ns) early
    (knows-more ss n (n + count Values ns) before (omega arith) h)
