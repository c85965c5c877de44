-- When notes have no fault among value names: a condition by recursion on the notes, with the names
-- that are defined before, as it is asked of trees.
--
-- The scopes round a note hold the definitions of whole regions, each with its number. Those that
-- stand before have lower numbers, and their names are among those of before; those that come
-- behind a region have numbers past the region's (`Stands`).
use Rattle.std.proofs.Common.{◌≡◌, ℕ, ◌+◌, ◌<◌, ◌≤◌, Bool, true, false, ◌||◌, List}
use Rattle.std.proofs.Common.{[], ◌∷◌, ◌++◌, refl, sym, ◌∙◌, ap, subst, arith, Option, Some}
use Rattle.std.proofs.Common.{None, inl, inr, ◌⊎◌, bytes_eq, option_to_list, append_assoc}
use Rattle.std.proofs.lemmas.Bool.{ltb-true}
use Rattle.std.proofs.lemmas.Slice.Eq.{bytes_eq-Decides}
use Rattle.std.specs.List.{AllByRecursion}
use Rattle.first_fault.specs.declared.fault.Fault.{Fault}
use Rattle.grammar.specs.Looks.{is_among}
use Rattle.ir_lexer.specs.Spelling.{Text}
use Rattle.module_meaning.proofs.Places.{all-joined, some-same}
use Rattle.symbol_scopes.specs.declared.call.NameKind.TheVariants.{Values}
use Rattle.symbol_scopes.specs.Faults.{fault_if}
use Rattle.symbol_scopes.specs.ScopeMarks.{Definition}
use Rattle.symbol_scopes.specs.Regions.{Note, Notes, no_notes, note, in_region, defines, uses}
use Rattle.symbol_scopes.specs.Regions.{labels, leads_to, bad_pack, defines_alias, mentions_alias}
use Rattle.symbol_scopes.specs.Regions.{RegionScope, ScopeName, own, count, found, looked}
use Rattle.symbol_scopes.specs.Regions.{told, value_wrong, use_wrong, is_earlier, is_repeated}

-- what is wrong with the value names of a note
abbrev pub wrong : List RegionScope → ℕ → Note → List Fault
wrong ss n x = option_to_list (value_wrong ss n x)

-- ---- the condition

-- definitions have new names, and uses are right, where these scopes and names stand round them
abbrev pub AreRight : ℕ → List RegionScope → List Text → Notes → Type 0
AreRight n ss before no_notes = Unit {0}
AreRight n ss before (note (defines d) ns) =
    (is_among before d.name ≡ false) × AreRight (n + 1) ss (d.name ∷ before) ns
AreRight n ss before (note (uses u) ns) =
    (use_wrong u (looked ss u.name) ≡ None) × AreRight n ss before ns
AreRight n ss before (note _ ns) = AreRight n ss before ns
AreRight n ss before (in_region inner ns) =
    AreRight n (own Values n inner ∷ ss) before inner
    × AreRight (n + count Values inner) ss before ns

-- ---- the numbers in scopes

-- all names of a scope have this
abbrev AllNames : (ScopeName → Type 0) → RegionScope → Type 0
AllNames P scope = AllByRecursion P scope

-- all names of all scopes
abbrev AllScopes : (ScopeName → Type 0) → List RegionScope → Type 0
AllScopes P ss = AllByRecursion (AllNames P) ss

names-wider : (P Q : ScopeName → Type 0) → ((x : ScopeName) → P x → Q x) → (s : RegionScope)
    → AllNames P s → AllNames Q s
names-wider P Q more [] h = tt
names-wider P Q more (x ∷ s) (p, h) = (more x p, names-wider P Q more s h)

scopes-wider : (P Q : ScopeName → Type 0) → ((x : ScopeName) → P x → Q x)
    → (ss : List RegionScope) → AllScopes P ss → AllScopes Q ss
scopes-wider P Q more [] h = tt
scopes-wider P Q more (s ∷ ss) (p, h) = (names-wider P Q more s p, scopes-wider P Q more ss h)

-- two properties of all names are one
names-both : (P Q : ScopeName → Type 0) (s : RegionScope) → AllNames P s → AllNames Q s
    → AllNames (λ x. P x × Q x) s
names-both P Q [] a b = tt
names-both P Q (x ∷ s) (p, a) (q, b) = ((p, q), names-both P Q s a b)

scopes-both : (P Q : ScopeName → Type 0) (ss : List RegionScope) → AllScopes P ss
    → AllScopes Q ss → AllScopes (λ x. P x × Q x) ss
scopes-both P Q [] a b = tt
scopes-both P Q (s ∷ ss) (p, a) (q, b) = (names-both P Q s p q, scopes-both P Q ss a b)

-- the numbers of a region's own names begin at its first, and end behind its last
own-between : (n : ℕ) (ns : Notes)
    → AllNames (λ x. (n ≤ x.at) × (x.at < n + count Values ns)) (own Values n ns)
own-between n no_notes = tt
own-between n (note (defines d) ns) = (
  (omega arith, omega arith),
  names-wider _ _ (λ x h. (let low = h.0 in let high = h.1 in (omega arith, omega arith))) _
      (own-between (n + 1) ns),
)
own-between n (note (uses u) ns) =
    names-wider _ _ (λ x h. (let low = h.0 in let high = h.1 in (omega arith, omega arith))) _
    (own-between (n + 0) ns)
own-between n (note (labels l) ns) =
    names-wider _ _ (λ x h. (let low = h.0 in let high = h.1 in (omega arith, omega arith))) _
    (own-between (n + 0) ns)
own-between n (note (leads_to t) ns) =
    names-wider _ _ (λ x h. (let low = h.0 in let high = h.1 in (omega arith, omega arith))) _
    (own-between (n + 0) ns)
own-between n (note (bad_pack p) ns) =
    names-wider _ _ (λ x h. (let low = h.0 in let high = h.1 in (omega arith, omega arith))) _
    (own-between (n + 0) ns)
own-between n (note (defines_alias a) ns) =
    names-wider _ _ (λ x h. (let low = h.0 in let high = h.1 in (omega arith, omega arith))) _
    (own-between (n + 0) ns)
own-between n (note (mentions_alias a) ns) =
    names-wider _ _ (λ x h. (let low = h.0 in let high = h.1 in (omega arith, omega arith))) _
    (own-between (n + 0) ns)
own-between n (in_region inner ns) =
    names-wider _ _ (λ x h. (let low = h.0 in let high = h.1 in (omega arith, omega arith))) _
    (own-between (n + count Values inner) ns)

-- what a name stands for is what one of the scope's names says
found-says : (P : ScopeName → Type 0) (s : RegionScope) (name : Text) (d : ℕ × ℕ) → AllNames P s
    → found s name ≡ Some d
    → (x : ScopeName) × (x.name ≡ name) × ((x.at, x.number) ≡ d) × P x
found-says P [] name d all e = absurd (cc)
found-says P (x ∷ s) name d (p, all) e = go (bytes_eq x.name name) refl (found-says P s name d all)
  where
    go : (b : Bool) → bytes_eq x.name name ≡ b
        → (found s name ≡ Some d → (y : ScopeName) × (y.name ≡ name) × ((y.at, y.number) ≡ d) × P y)
        → (y : ScopeName) × (y.name ≡ name) × ((y.at, y.number) ≡ d) × P y
    go true is more =
        let here : found (x ∷ s) name ≡ Some (x.at, x.number) = rw is refl in
        (x, (bytes_eq-Decides x.name name).0 is, some-same (x.at, x.number) d (sym here ∙ e), p)
    go false is more =
        let later : found (x ∷ s) name ≡ found s name = rw is refl in more (sym later ∙ e)

-- a name that is repeated is one of these, where all names below a number are
repeated-among : (before : List Text) (n : ℕ) (ss : List RegionScope) (name : Text)
    → AllScopes (λ x. x.at < n → is_among before x.name ≡ true) ss
    → is_repeated ss name n ≡ true → is_among before name ≡ true
repeated-among before n [] name all e = absurd (cc)
repeated-among before n (s ∷ ss) name (here, all) e =
    go (is_earlier (found s name) n) refl e (repeated-among before n ss name all)
  where
    of : (o : Option (ℕ × ℕ)) → found s name ≡ o → is_earlier o n ≡ true
        → is_among before name ≡ true
    of None is early = absurd (cc)
    of (Some d) is early =
        let (x, called, at, below) =
        found-says (λ x. x.at < n → is_among before x.name ≡ true) s name d here is in
        let low : d.0 < n = ltb-true d.0 n early in
        let place : x.at ≡ d.0 = ap (λ (p : ℕ × ℕ). p.0) at in
        subst (λ (w : Text). is_among before w ≡ true) called (below (omega arith))

    go : (b : Bool) → is_earlier (found s name) n ≡ b → (b || is_repeated ss name n) ≡ true
        → (is_repeated ss name n ≡ true → is_among before name ≡ true)
        → is_among before name ≡ true
    go true is e more = of (found s name) refl is
    go false is e more = more e

-- ---- where a walk stands

-- The innermost scope holds names of before, and then those of the notes. Names of before have
-- lower numbers. The other scopes have no number of the notes. Names with lower numbers are among
-- those of before.
record Stands (n : ℕ) (ss : List RegionScope) (before : List Text) (ns : Notes) : Type 0 where
  pub past : RegionScope
  pub outer : List RegionScope
  pub is : ss ≡ (past ++ own Values n ns) ∷ outer
  pub low : AllNames (λ x. x.at < n) past
  pub apart : AllScopes (λ x. (x.at < n) ⊎ (n + count Values ns ≤ x.at)) outer
  pub known : AllScopes (λ x. x.at < n → is_among before x.name ≡ true) ss

-- behind a note that defines no name
stands-behind : (n : ℕ) (ss : List RegionScope) (before : List Text) (x : Note) (ns : Notes)
    → own Values n (note x ns) ≡ own Values (n + 0) ns
    → count Values (note x ns) ≡ count Values ns → Stands n ss before (note x ns)
    → Stands (n + 0) ss before ns
stands-behind n ss before x ns same many s = record {
  past = s.past;
  outer = s.outer;
  is = s.is ∙ ap (λ (w : RegionScope). (s.past ++ w) ∷ s.outer) same;
  low = names-wider (λ x. x.at < n) (λ x. x.at < n + 0) (λ x l. omega arith) s.past s.low;
  apart = scopes-wider (λ y. (y.at < n) ⊎ (n + count Values (note x ns) ≤ y.at))
      (λ y. (y.at < n + 0) ⊎ (n + 0 + count Values ns ≤ y.at))
      (λ y h. elim h [ inl l ↦ inl (omega arith) | inr g ↦ inr (omega (arith, many)) ])
      s.outer s.apart;
  known = scopes-wider (λ y. y.at < n → is_among before y.name ≡ true)
      (λ y. y.at < n + 0 → is_among before y.name ≡ true) (λ y h l. h (omega arith)) ss s.known;
}

-- behind a definition
among-first : (w : Text) (before : List Text) (name : Text) → name ≡ w
    → is_among (w ∷ before) name ≡ true
among-first w before name e = rw ((bytes_eq-Decides name w).1 e) refl

among-later : (w : Text) (before : List Text) (name : Text) → is_among before name ≡ true
    → is_among (w ∷ before) name ≡ true
among-later w before name e = go (bytes_eq name w)
  where
    go : (b : Bool) → (b || is_among before name) ≡ true
    go true = refl
    go false = e

module _ (n : ℕ) (ss : List RegionScope) (before : List Text) (d : Definition) (ns : Notes)
    (s : Stands n ss before (note (defines d) ns)) where
  abbrev Place : ScopeName → Type 0
  Place x = ((x.at < n) ⊎ (x.name ≡ d.name)) ⊎ (n + 1 ≤ x.at)

  places : AllScopes Place ss
  places = subst (AllScopes Place) (sym s.is) (
    all-joined Place s.past (own Values n (note (defines d) ns))
        (names-wider (λ x. x.at < n) Place (λ x l. inl (inl l)) s.past s.low) (
          inl (inr refl),
          names-wider (λ x. (n + 1 ≤ x.at) × (x.at < n + 1 + count Values ns)) Place
              (λ x h. inr h.0) (own Values (n + 1) ns) (own-between (n + 1) ns),
        ),
    scopes-wider (λ x. (x.at < n) ⊎ (n + count Values (note (defines d) ns) ≤ x.at)) Place
        (λ x h. elim h [ inl l ↦ inl (inl l) | inr g ↦ inr (omega arith) ]) s.outer s.apart,
  )

  stands-defined : Stands (n + 1) ss (d.name ∷ before) ns
  stands-defined = record {
    past = s.past ++ (record { name = d.name; at = n; number = d.count } ∷ []);
    outer = s.outer;
    is = s.is ∙ ap (λ (w : RegionScope). w ∷ s.outer) (sym (append_assoc s.past
        (record { name = d.name; at = n; number = d.count } ∷ []) (own Values (n + 1) ns)));
    low = all-joined (λ (x : ScopeName). x.at < n + 1) s.past
        (record { name = d.name; at = n; number = d.count } ∷ [])
        (names-wider (λ x. x.at < n) (λ x. x.at < n + 1) (λ x l. omega arith) s.past s.low)
        (omega arith, tt);
    apart = scopes-wider (λ x. (x.at < n) ⊎ (n + count Values (note (defines d) ns) ≤ x.at))
        (λ x. (x.at < n + 1) ⊎ (n + 1 + count Values ns ≤ x.at))
        (λ x h. elim h [ inl l ↦ inl (omega arith) | inr g ↦ inr (omega arith) ])
        s.outer s.apart;
    known = scopes-wider (λ x. Place x × (x.at < n → is_among before x.name ≡ true))
        (λ x. x.at < n + 1 → is_among (d.name ∷ before) x.name ≡ true)
        (λ x h l. elim h.0 [
          | inl low ↦ elim low [
            | inl less ↦ among-later d.name before x.name (h.1 less)
            | inr called ↦ among-first d.name before x.name called
          ]
          | inr high ↦ absurd (omega arith)
        ]) ss (scopes-both Place (λ x. x.at < n → is_among before x.name ≡ true) ss places s.known);
  }

-- into a region, and behind it
module _ (n : ℕ) (ss : List RegionScope) (before : List Text) (inner ns : Notes)
    (s : Stands n ss before (in_region inner ns)) where
  abbrev Outside : ScopeName → Type 0
  Outside x = (x.at < n) ⊎ (n + count Values inner ≤ x.at)

  outside : AllScopes Outside ss
  outside = subst (AllScopes Outside) (sym s.is) (
    all-joined Outside s.past (own Values n (in_region inner ns))
        (names-wider (λ x. x.at < n) Outside (λ x l. inl l) s.past s.low)
        (names-wider (λ x. (n + count Values inner ≤ x.at)
        × (x.at < n + count Values inner + count Values ns)) Outside (λ x h. inr h.0)
        (own Values (n + count Values inner) ns) (own-between (n + count Values inner) ns)),
    scopes-wider (λ x. (x.at < n) ⊎ (n + count Values (in_region inner ns) ≤ x.at)) Outside
        (λ x h. elim h [ inl l ↦ inl l | inr g ↦ inr (omega arith) ]) s.outer s.apart,
  )

  stands-inside : Stands n (own Values n inner ∷ ss) before inner
  stands-inside = record {
    past = [];
    outer = ss;
    is = refl;
    low = tt;
    apart = outside;
    known = (
      names-wider (λ x. (n ≤ x.at) × (x.at < n + count Values inner))
          (λ x. x.at < n → is_among before x.name ≡ true)
          (λ x h l. (let low = h.0 in absurd (omega arith))) (own Values n inner)
          (own-between n inner),
      s.known,
    );
  }

  stands-left : Stands (n + count Values inner) ss before ns
  stands-left = record {
    past = s.past;
    outer = s.outer;
    is = s.is;
    low = names-wider (λ x. x.at < n) (λ x. x.at < n + count Values inner) (λ x l. omega arith)
        s.past s.low;
    apart = scopes-wider (λ x. (x.at < n) ⊎ (n + count Values (in_region inner ns) ≤ x.at))
        (λ x. (x.at < n + count Values inner)
        ⊎ (n + count Values inner + count Values ns ≤ x.at))
        (λ x h. elim h [ inl l ↦ inl (omega arith) | inr g ↦ inr (omega arith) ])
        s.outer s.apart;
    known = scopes-wider (λ x. Outside x × (x.at < n → is_among before x.name ≡ true))
        (λ x. x.at < n + count Values inner → is_among before x.name ≡ true)
        (λ x h l. elim h.0 [ inl less ↦ h.1 less | inr g ↦ absurd (omega arith) ]) ss
        (scopes-both Outside (λ x. x.at < n → is_among before x.name ≡ true) ss outside s.known);
  }

-- ---- notes that are right have no fault

-- two empty lists are one
pub none-joined : {A : Type 0} (xs ys : List A) → xs ≡ [] → ys ≡ [] → xs ++ ys ≡ []
none-joined xs ys a b = ap (λ w. w ++ ys) a ∙ b

-- a new name isn't repeated
new-name : (n : ℕ) (ss : List RegionScope) (before : List Text) (name : Text)
    → AllScopes (λ x. x.at < n → is_among before x.name ≡ true) ss
    → is_among before name ≡ false → is_repeated ss name n ≡ false
new-name n ss before name known new = go (is_repeated ss name n) refl
  where
    go : (b : Bool) → is_repeated ss name n ≡ b → is_repeated ss name n ≡ false
    go true e =
        let old : is_among before name ≡ true = repeated-among before n ss name known e in
        absurd (cc)
    go false e = e

moved : (n : ℕ) (ss : List RegionScope) (before : List Text) (ns : Notes)
    → AreRight n ss before ns → AreRight (n + 0) ss before ns
moved n ss before ns h =
    let same : n ≡ n + 0 = omega arith in subst (λ (m : ℕ). AreRight m ss before ns) same h

right-told : (n : ℕ) (ss : List RegionScope) (before : List Text) (ns : Notes)
    → Stands n ss before ns → AreRight n ss before ns → told Values wrong ss n ns ≡ []
right-told n ss before no_notes s h = refl
right-told n ss before (note (defines d) ns) s (new, h) =
    let fresh : is_repeated ss d.name n ≡ false = new-name n ss before d.name s.known new in
    let first : wrong ss n (defines d) ≡ [] =
    ap (λ b. option_to_list (fault_if b d.place 8)) fresh in
    none-joined (wrong ss n (defines d)) (told Values wrong ss (n + 1) ns) first
    (right-told (n + 1) ss (d.name ∷ before) ns (stands-defined n ss before d ns s) h)
right-told n ss before (note (uses u) ns) s (right, h) =
    none-joined (wrong ss n (uses u)) (told Values wrong ss (n + 0) ns) (ap option_to_list right)
    (right-told (n + 0) ss before ns
    (stands-behind n ss before (uses u) ns refl (omega arith) s) (moved n ss before ns h))
right-told n ss before (note (labels l) ns) s h =
    right-told (n + 0) ss before ns
    (stands-behind n ss before (labels l) ns refl (omega arith) s) (moved n ss before ns h)
right-told n ss before (note (leads_to t) ns) s h =
    right-told (n + 0) ss before ns
    (stands-behind n ss before (leads_to t) ns refl (omega arith) s) (moved n ss before ns h)
right-told n ss before (note (bad_pack p) ns) s h =
    right-told (n + 0) ss before ns
    (stands-behind n ss before (bad_pack p) ns refl (omega arith) s) (moved n ss before ns h)
right-told n ss before (note (defines_alias a) ns) s h =
    right-told (n + 0) ss before ns
    (stands-behind n ss before (defines_alias a) ns refl (omega arith) s) (moved n ss before ns h)
right-told n ss before (note (mentions_alias a) ns) s h =
    right-told (n + 0) ss before ns
    (stands-behind n ss before (mentions_alias a) ns refl (omega arith) s)
    (moved n ss before ns h)
right-told n ss before (in_region inner ns) s (h, k) =
    none-joined (told Values wrong (own Values n inner ∷ ss) n inner)
    (told Values wrong ss (n + count Values inner) ns)
    (right-told n (own Values n inner ∷ ss) before inner (stands-inside n ss before inner ns s) h)
    (right-told (n + count Values inner) ss before ns (stands-left n ss before inner ns s) k)

-- at top level
pub right-everywhere : (ns : Notes) → AreRight 0 (own Values 0 ns ∷ []) [] ns
    → told Values wrong (own Values 0 ns ∷ []) 0 ns ≡ []
right-everywhere ns h = right-told 0 (own Values 0 ns ∷ []) [] ns (record {
  past = [];
  outer = [];
  is = refl;
  low = tt;
  apart = tt;
  known = (
    names-wider (λ x. (0 ≤ x.at) × (x.at < 0 + count Values ns))
        (λ x. x.at < 0 → is_among [] x.name ≡ true) (λ x h l. absurd (omega arith))
        (own Values 0 ns)
        (own-between 0 ns),
    tt,
  );
}) h
