-- The marks of notes, and the definitions among them: where they stand, and the first of a name.
use Rattle.std.proofs.Common.{◌≡◌, ℕ, suc, ◌+◌, ◌<◌, ◌≤◌, ◌⊎◌, inl, inr, Bool, true, false, ◌&&◌, ◌==◌, List, [], ◌∷◌, ◌++◌, length, refl, ap, sym, ◌∙◌, subst, arith, length-append, bytes_eq, if◌then◌else◌}
use Rattle.std.proofs.lemmas.Bool.{eqb-true}
use Rattle.std.proofs.lemmas.Bool.Decides.{nat_tests}
use Rattle.std.specs.List.{AllByRecursion}
use Rattle.std.specs.declared.option.Option.{Option}
use Rattle.std.specs.declared.option.Option.TheVariants.{Some, None}
use Rattle.symbol_scopes.specs.declared.slots.FoundBinding.{FoundBinding}
use Rattle.symbol_scopes.specs.declared.call.NameKind.{NameKind}
use Rattle.symbol_scopes.specs.declared.call.NameKind.TheVariants.{Values, Labels}
use Rattle.symbol_scopes.specs.ScopeMarks.{Name, ScopeMark, Binding, Standing, passed, after, along, top, standing, bindings, bindings_of}
use Rattle.symbol_scopes.specs.ScopeMarks as mark
use Rattle.symbol_scopes.specs.Meanings.{is_of, found_at, first_from, or_else}
use Rattle.symbol_scopes.specs.Regions.{Note, Notes, no_notes, note, in_region, mark_of_note, marks, ScopeName, RegionScope, known_of, count_of, count, own, found, looked, innermost, told, told_in, value_meant, block_meant, is_earlier, is_repeated, use_wrong, value_wrong, target_wrong, block_wrong, IsWrong}
use Rattle.symbol_scopes.specs.Regions as say
use Rattle.symbol_scopes.proofs.Judging.{along-append, after-append}

-- in the region q, with these round it, when so many were entered
abbrev pub at : ℕ → ℕ → List ℕ → Standing
at e q round = record { entered = e; round = q ∷ round }

-- how many regions notes have
abbrev pub regions : Notes → ℕ
regions no_notes = 0
regions (note x ns) = regions ns
regions (in_region inner ns) = suc (regions inner + regions ns)

pub step-note : (s : Standing) (x : Note) → passed s (mark_of_note x) ≡ s
step-note s (say.defines d) = refl
step-note s (say.uses u) = refl
step-note s (say.labels l) = refl
step-note s (say.leads_to t) = refl
step-note s (say.bad_pack p) = refl
step-note s (say.defines_alias a) = refl
step-note s (say.mentions_alias a) = refl

-- notes leave every region that they enter
pub after-notes : (e q : ℕ) (round : List ℕ) (ns : Notes) → after (at e q round) (marks ns) ≡ at (e + regions ns) q round
after-notes e q round no_notes = ap (λ m. at m q round) (omega arith)
after-notes e q round (note x ns) =
    ap (λ s. after s (marks ns)) (step-note (at e q round) x) ∙ after-notes e q round ns
after-notes e q round (in_region inner ns) =
    after-append (at (e + 1) (e + 1) (q ∷ round)) (marks inner) (mark.leaves ∷ marks ns)
    ∙ ap (λ s. after (passed s mark.leaves) (marks ns)) (after-notes (e + 1) (e + 1) (q ∷ round) inner)
    ∙ after-notes (e + 1 + regions inner) q round ns
    ∙ ap (λ m. at m q round) (omega arith)

-- ---- the definitions of notes, in the order of the text

abbrev pub told_bindings : NameKind → ℕ → ℕ → List ℕ → Notes → List Binding
told_bindings k e q round ns = along (bindings_of k) (at e q round) (marks ns)

pub quiet-in : (k : NameKind) (round : List ℕ) → bindings_of k round mark.enters ≡ []
quiet-in Values round = refl
quiet-in Labels round = refl

pub quiet-out : (k : NameKind) (round : List ℕ) → bindings_of k round mark.leaves ≡ []
quiet-out Values round = refl
quiet-out Labels round = refl

-- the bindings of a region and of what follows it
pub bindings-split : (k : NameKind) (e q : ℕ) (round : List ℕ) (inner ns : Notes)
    → told_bindings k e q round (in_region inner ns)
    ≡ told_bindings k (e + 1) (e + 1) (q ∷ round) inner ++ told_bindings k (e + 1 + regions inner) q round ns
bindings-split k e q round inner ns =
    ap (λ l. l ++ along (bindings_of k) (at (e + 1) (e + 1) (q ∷ round)) (marks inner ++ (mark.leaves ∷ marks ns)))
    (quiet-in k (q ∷ round))
    ∙ along-append (bindings_of k) (at (e + 1) (e + 1) (q ∷ round)) (marks inner) (mark.leaves ∷ marks ns)
    ∙ ap (λ s. told_bindings k (e + 1) (e + 1) (q ∷ round) inner ++ along (bindings_of k) s (mark.leaves ∷ marks ns))
    (after-notes (e + 1) (e + 1) (q ∷ round) inner)
    ∙ ap (λ l. told_bindings k (e + 1) (e + 1) (q ∷ round) inner ++ (l ++ told_bindings k (e + 1 + regions inner) q round ns))
    (quiet-out k ((e + 1) ∷ q ∷ round))

pub bindings-note : (k : NameKind) (e q : ℕ) (round : List ℕ) (x : Note) (ns : Notes)
    → told_bindings k e q round (note x ns)
    ≡ bindings_of k (q ∷ round) (mark_of_note x) ++ told_bindings k e q round ns
bindings-note k e q round x ns =
    ap (λ s. bindings_of k (q ∷ round) (mark_of_note x) ++ along (bindings_of k) s (marks ns))
    (step-note (at e q round) x)

-- a note defines nothing, or one name of the region that it stands in
pub data Defines (q : ℕ) (n : ℕ) (ds : List Binding) (ks : RegionScope) : Type 0 where
  nothing : ds ≡ [] → ks ≡ [] → Defines q n ds ks
  one : (d : Binding) → d.region ≡ q → ds ≡ d ∷ []
      → ks ≡ (record { name = d.name; at = n; number = d.number }) ∷ [] → Defines q n ds ks

pub defines-note : (k : NameKind) (n q : ℕ) (round : List ℕ) (x : Note)
    → Defines q n (bindings_of k (q ∷ round) (mark_of_note x)) (known_of k n x)
defines-note Values n q round (say.defines d) =
    one (record { name = d.name; region = q; number = d.count }) refl refl refl
defines-note Values n q round (say.uses u) = nothing refl refl
defines-note Values n q round (say.labels l) = nothing refl refl
defines-note Values n q round (say.leads_to t) = nothing refl refl
defines-note Values n q round (say.bad_pack p) = nothing refl refl
defines-note Values n q round (say.defines_alias a) = nothing refl refl
defines-note Values n q round (say.mentions_alias a) = nothing refl refl
defines-note Labels n q round (say.defines d) = nothing refl refl
defines-note Labels n q round (say.uses u) = nothing refl refl
defines-note Labels n q round (say.labels l) =
    one (record { name = l.name; region = q; number = l.block }) refl refl refl
defines-note Labels n q round (say.leads_to t) = nothing refl refl
defines-note Labels n q round (say.bad_pack p) = nothing refl refl
defines-note Labels n q round (say.defines_alias a) = nothing refl refl
defines-note Labels n q round (say.mentions_alias a) = nothing refl refl

pub as-many : (k : NameKind) (q : ℕ) (round : List ℕ) (x : Note)
    → length (bindings_of k (q ∷ round) (mark_of_note x)) ≡ count_of k x
as-many k q round x = by (defines-note k 0 q round x)
  where
    by : Defines q 0 (bindings_of k (q ∷ round) (mark_of_note x)) (known_of k 0 x)
        → length (bindings_of k (q ∷ round) (mark_of_note x)) ≡ count_of k x
    by (nothing a b) = ap length a ∙ sym (ap length b)
    by (one d r a b) = ap length a ∙ sym (ap length b)

pub counted : (k : NameKind) (e q : ℕ) (round : List ℕ) (ns : Notes)
    → length (told_bindings k e q round ns) ≡ count k ns
counted k e q round no_notes = refl
counted k e q round (note x ns) =
    let whole = ap length (bindings-note k e q round x ns) in
    let sum = length-append (bindings_of k (q ∷ round) (mark_of_note x)) (told_bindings k e q round ns) in
    let first = as-many k q round x in
    let rest = counted k e q round ns in
    omega arith
counted k e q round (in_region inner ns) =
    let whole = ap length (bindings-split k e q round inner ns) in
    let sum = length-append (told_bindings k (e + 1) (e + 1) (q ∷ round) inner) (told_bindings k (e + 1 + regions inner) q round ns) in
    let first = counted k (e + 1) (e + 1) (q ∷ round) inner in
    let rest = counted k (e + 1 + regions inner) q round ns in
    omega arith

-- ---- where definitions stand

abbrev pub All : (ℕ → Type 0) → List Binding → Type 0
All P ds = AllByRecursion (λ (d : Binding). P d.region) ds

pub all-more : (P : ℕ → Type 0) (xs ys : List Binding) → All P xs → All P ys → All P (xs ++ ys)
all-more P [] ys a b = b
all-more P (x ∷ xs) ys a b = (a.0, all-more P xs ys a.1 b)

pub all-so : (P Q : ℕ → Type 0) → ((r : ℕ) → P r → Q r) → (xs : List Binding) → All P xs → All Q xs
all-so P Q f [] a = tt
all-so P Q f (x ∷ xs) a = (f x.region a.0, all-so P Q f xs a.1)

-- in the region q, or in one of those that are entered between
abbrev pub Here : ℕ → ℕ → ℕ → ℕ → Type 0
Here q low high r = (r ≡ q) ⊎ ((low < r) × (r ≤ high))

pub all-here : (k : NameKind) (e q : ℕ) (round : List ℕ) (ns : Notes)
    → All (Here q e (e + regions ns)) (told_bindings k e q round ns)
all-here k e q round no_notes = tt
all-here k e q round (note x ns) =
    subst (All (Here q e (e + regions ns))) (sym (bindings-note k e q round x ns))
    (all-more (Here q e (e + regions ns)) (bindings_of k (q ∷ round) (mark_of_note x)) (told_bindings k e q round ns)
    (by (defines-note k 0 q round x)) (all-here k e q round ns))
  where
    by : Defines q 0 (bindings_of k (q ∷ round) (mark_of_note x)) (known_of k 0 x)
        → All (Here q e (e + regions ns)) (bindings_of k (q ∷ round) (mark_of_note x))
    by (nothing a b) = subst (All (Here q e (e + regions ns))) (sym a) tt
    by (one d r a b) = subst (All (Here q e (e + regions ns))) (sym a) (inl r, tt)
all-here k e q round (in_region inner ns) =
    subst (All P) (sym (bindings-split k e q round inner ns))
    (all-more P (told_bindings k (e + 1) (e + 1) (q ∷ round) inner) (told_bindings k (e + 1 + regions inner) q round ns)
    (all-so (Here (e + 1) (e + 1) (e + 1 + regions inner)) P first
    (told_bindings k (e + 1) (e + 1) (q ∷ round) inner) (all-here k (e + 1) (e + 1) (q ∷ round) inner))
    (all-so (Here q (e + 1 + regions inner) (e + 1 + regions inner + regions ns)) P rest
    (told_bindings k (e + 1 + regions inner) q round ns) (all-here k (e + 1 + regions inner) q round ns)))
  where
    P : ℕ → Type 0
    P = Here q e (e + suc (regions inner + regions ns))

    first : (r : ℕ) → Here (e + 1) (e + 1) (e + 1 + regions inner) r → P r
    first r (inl same) = inr (omega arith, omega arith)
    first r (inr h) = let a = h.0 in let b = h.1 in inr (omega arith, omega arith)

    rest : (r : ℕ) → Here q (e + 1 + regions inner) (e + 1 + regions inner + regions ns) r → P r
    rest r (inl same) = inl same
    rest r (inr h) = let a = h.0 in let b = h.1 in inr (omega arith, omega arith)

-- ---- the first of a name in a region

abbrev pub seen : Option FoundBinding → Option (ℕ × ℕ)
seen None = None
seen (Some f) = Some (f.at, f.number)

pub first-none : (n r : ℕ) (x : Name) (ds : List Binding) → All (λ q. q ≡ r → ⊥) ds
    → first_from n ds r x ≡ None
first-none n r x [] a = refl
first-none n r x (d ∷ ds) a =
    ap (λ b. if b && bytes_eq d.name x then Some (found_at n d) else first_from (suc n) ds r x)
    (unlike (d.region == r) refl)
    ∙ first-none (suc n) r x ds a.1
  where
    unlike : (b : Bool) → (d.region == r) ≡ b → b ≡ false
    unlike true e = absurd (a.0 (eqb-true d.region r e))
    unlike false e = refl

pub first-behind : (n r : ℕ) (x : Name) (xs ys : List Binding)
    → first_from n (xs ++ ys) r x ≡ or_else (first_from n xs r x) (first_from (n + length xs) ys r x)
first-behind n r x [] ys = ap (λ m. first_from m ys r x) (omega arith)
first-behind n r x (d ∷ xs) ys =
    by (is_of r x d)
    (first-behind (suc n) r x xs ys
    ∙ ap (λ m. or_else (first_from (suc n) xs r x) (first_from m ys r x)) (omega arith))
  where
    by : (b : Bool)
        → first_from (suc n) (xs ++ ys) r x
        ≡ or_else (first_from (suc n) xs r x) (first_from (n + length (d ∷ xs)) ys r x)
        → (if b then Some (found_at n d) else first_from (suc n) (xs ++ ys) r x)
        ≡ or_else (if b then Some (found_at n d) else first_from (suc n) xs r x)
        (first_from (n + length (d ∷ xs)) ys r x)
    by true e = refl
    by false e = e

-- what a region's definitions say of a name is what its notes define
pub own_found : (k : NameKind) (e q : ℕ) (round : List ℕ) (n : ℕ) (x : Name) (ns : Notes) → q ≤ e
    → seen (first_from n (told_bindings k e q round ns) q x) ≡ found (own k n ns) x
own_found k e q round n x no_notes le = refl
own_found k e q round n x (note y ns) le =
    ap (λ l. seen (first_from n l q x)) (bindings-note k e q round y ns)
    ∙ by (λ m is. ap (λ j. seen (first_from j (told_bindings k e q round ns) q x)) is
    ∙ own_found k e q round (n + count_of k y) x ns le) (defines-note k n q round y)
  where
    S : List Binding
    S = bindings_of k (q ∷ round) (mark_of_note y)

    Same : Type 0
    Same = (m : ℕ) → m ≡ n + count_of k y
        → seen (first_from m (told_bindings k e q round ns) q x) ≡ found (own k (n + count_of k y) ns) x

    itself : (r : ℕ) → (r == r) ≡ true
    itself r = grind (arith, nat_tests)

    by : Same → Defines q n S (known_of k n y)
        → seen (first_from n (S ++ told_bindings k e q round ns) q x)
        ≡ found (known_of k n y ++ own k (n + count_of k y) ns) x
    by same (nothing a b) =
        let none = ap length a in
        let few = as-many k q round y in
        ap (λ l. seen (first_from n (l ++ told_bindings k e q round ns) q x)) a
        ∙ same n (omega arith)
        ∙ ap (λ l. found (l ++ own k (n + count_of k y) ns) x) (sym b)
    by same (one d r a b) =
        let single = ap length a in
        let few = as-many k q round y in
        ap (λ l. seen (first_from n (l ++ told_bindings k e q round ns) q x)) a
        ∙ ap (λ p. seen (if (p == q) && bytes_eq d.name x then Some (found_at n d)
        else first_from (suc n) (told_bindings k e q round ns) q x)) r
        ∙ ap (λ c. seen (if c && bytes_eq d.name x then Some (found_at n d)
        else first_from (suc n) (told_bindings k e q round ns) q x)) (itself q)
        ∙ which (bytes_eq d.name x) (omega arith)
        ∙ ap (λ l. found (l ++ own k (n + count_of k y) ns) x) (sym b)
      where
        which : (c : Bool) → suc n ≡ n + count_of k y
            → seen (if c then Some (found_at n d) else first_from (suc n) (told_bindings k e q round ns) q x)
            ≡ (if c then Some (n, d.number) else found (own k (n + count_of k y) ns) x)
        which true is = refl
        which false is = same (suc n) is
own_found k e q round n x (in_region inner ns) le =
    let Fi = told_bindings k (e + 1) (e + 1) (q ∷ round) inner in
    let Fr = told_bindings k (e + 1 + regions inner) q round ns in
    ap (λ l. seen (first_from n l q x)) (bindings-split k e q round inner ns)
    ∙ ap seen (first-behind n q x Fi Fr)
    ∙ ap (λ o. seen (or_else o (first_from (n + length Fi) Fr q x)))
    (first-none n q x Fi
    (all-so (Here (e + 1) (e + 1) (e + 1 + regions inner)) (λ r. r ≡ q → ⊥) other Fi
    (all-here k (e + 1) (e + 1) (q ∷ round) inner)))
    ∙ ap (λ m. seen (first_from (n + m) Fr q x)) (counted k (e + 1) (e + 1) (q ∷ round) inner)
    ∙ own_found k (e + 1 + regions inner) q round (n + count k inner) x ns (omega arith)
  where
    other : (r : ℕ) → Here (e + 1) (e + 1) (e + 1 + regions inner) r → r ≡ q → ⊥
    other r (inl same) is = absurd (omega arith)
    other r (inr h) is = let low = h.0 in absurd (omega arith)
