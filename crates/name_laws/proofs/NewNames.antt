-- Where no value name is at fault, the names that notes define are new; and so are the labels of a
-- region.
use Rattle.std.proofs.Common.{◌≡◌, ℕ, ◌+◌, Bool, true, false, ◌||◌, List, [], ◌∷◌}
use Rattle.std.proofs.Common.{refl, sym, ◌∙◌, subst, arith}
use Rattle.std.proofs.Common.{bytes_eq, option_to_list}
use Rattle.std.proofs.lemmas.Slice.Eq.{bytes_eq-Decides}
use Rattle.std.specs.List.{AllByRecursion, IsDistinct}
use Rattle.first_fault.specs.declared.fault.Fault.{Fault}
use Rattle.grammar.specs.Looks.{is_among}
use Rattle.ir_lexer.specs.Spelling.{Text}
use Rattle.module_meaning.proofs.LabelNotes.{differ-back}
use Rattle.module_meaning.specs.Names.{AreNew, names_in}
use Rattle.module_names.proofs.Cut.{left-nothing, right-nothing}
use Rattle.symbol_scopes.specs.declared.call.NameKind.TheVariants.{Values, Labels}
use Rattle.symbol_scopes.specs.Faults.{fault_if}
use Rattle.symbol_scopes.specs.Regions.{Note, Notes, no_notes, note, in_region, defines, uses}
use Rattle.symbol_scopes.specs.Regions.{labels, leads_to, bad_pack, defines_alias, mentions_alias}
use Rattle.symbol_scopes.specs.Regions.{RegionScope, ScopeName, own, count}
use Rattle.symbol_scopes.specs.Regions.{found, told, value_wrong, block_wrong}
use Rattle.symbol_scopes.specs.Regions.{is_earlier, is_repeated}
use Rattle.name_laws.proofs.Early.{IsEarly, IsEarlyIn, own-early, Knows, knows-more, knows-one}
use Rattle.name_laws.proofs.Early.{earlier-more, or-right}

-- what is wrong with a note among value names, and among labels
abbrev pub value_faults : List RegionScope → ℕ → Note → List Fault
value_faults ss n x = option_to_list (value_wrong ss n x)

abbrev pub block_faults : List RegionScope → ℕ → Note → List Fault
block_faults ss n x = option_to_list (block_wrong ss n x)

-- ---- names that are new, one by one

abbrev OneByOne : List Text → List Text → Type 0
OneByOne before [] = Unit {0}
OneByOne before (x ∷ xs) = (is_among before x ≡ false) × OneByOne (x ∷ before) xs

-- what is new behind more is new behind fewer
one-fewer : (all before : List Text) (xs : List Text)
    → ((w : Text) → is_among before w ≡ true → is_among all w ≡ true) → OneByOne all xs
    → AllByRecursion (λ y. is_among before y ≡ false) xs
one-fewer all before [] within h = tt
one-fewer all before (x ∷ xs) within (p, h) = (
  go (is_among before x) refl,
  one-fewer (x ∷ all) before xs
      (λ w e. or-right (bytes_eq w x) (is_among all w) (within w e)) h,
)
  where
    go : (b : Bool) → is_among before x ≡ b → is_among before x ≡ false
    go true e = let there : is_among all x ≡ true = within x e in absurd (cc)
    go false e = e

differ : (x : Text) (ys : List Text) → AllByRecursion (λ y. is_among (x ∷ []) y ≡ false) ys
    → AllByRecursion (λ y. bytes_eq x y ≡ false) ys
differ x [] h = tt
differ x (y ∷ ys) (p, h) = (differ-back y x (go (bytes_eq y x) p), differ x ys h)
  where
    go : (b : Bool) → (b || false) ≡ false → b ≡ false
    go true e = e
    go false e = refl

one-distinct : (before xs : List Text) → OneByOne before xs → IsDistinct bytes_eq xs
unfolding IsDistinct
one-distinct before [] h = tt
one-distinct before (x ∷ xs) (p, h) = (
  differ x xs (one-fewer (x ∷ before) (x ∷ []) xs
      (λ w e. at w (bytes_eq w x) e) h),
  one-distinct (x ∷ before) xs h,
)
  where
    at : (w : Text) (b : Bool) → (b || false) ≡ true → (b || is_among before w) ≡ true
    at w true e = refl
    at w false e = absurd (cc)

one-new : (before xs : List Text) → OneByOne before xs → AreNew before xs
one-new before xs h = record {
  distinct = one-distinct before xs h;
  new = one-fewer before before xs (λ w e. e) h;
}

-- a list with an item isn't empty
pub absent : (b : Bool) (place code : ℕ) → option_to_list (fault_if b place code) ≡ [] → b ≡ false
absent true place code e = absurd (cc)
absent false place code e = refl

not-both : (b : Bool) → b ≡ false → b ≡ true → ⊥
not-both b f t = let never : true ≡ false = sym t ∙ f in absurd (cc)

is-new : (ss : List RegionScope) (n : ℕ) (before : List Text) (w : Text) → Knows ss n before
    → is_repeated ss w n ≡ false → is_among before w ≡ false
is-new ss n before w knows e = go (is_among before w) refl
  where
    go : (b : Bool) → is_among before w ≡ b → is_among before w ≡ false
    go true is = absurd (not-both (is_repeated ss w n) e (knows w is))
    go false is = is

values-one : (ss : List RegionScope) (n : ℕ) (before : List Text) (ns : Notes)
    → Knows ss n before → AllByRecursion (IsEarly ss) (own Values n ns)
    → told Values value_faults ss n ns ≡ [] → OneByOne before (names_in (own Values n ns))
values-one ss n before no_notes knows early e = tt
values-one ss n before (note (defines d) ns) knows (here, early) e =
    let x : ScopeName = record { name = d.name; at = n; number = d.count } in
    let fresh : is_repeated ss d.name n ≡ false =
    absent (is_repeated ss d.name n) d.place 8
    (left-nothing (value_faults ss n (defines d)) (told Values value_faults ss (n + 1) ns) e) in (
      is-new ss n before d.name knows fresh,
      values-one ss (n + 1) (d.name ∷ before) ns
          (knows-one ss (n + 1) before x (omega arith) here
          (knows-more ss n (n + 1) before (omega arith) knows)) early
          (right-nothing (value_faults ss n (defines d))
          (told Values value_faults ss (n + 1) ns) e),
    )
values-one ss n before (note (uses u) ns) knows early e =
    values-one ss (n + 0) before ns (knows-more ss n (n + 0) before (omega arith) knows) early
    (right-nothing (value_faults ss n (uses u)) (told Values value_faults ss (n + 0) ns) e)
values-one ss n before (note (labels u) ns) knows early e =
    values-one ss (n + 0) before ns (knows-more ss n (n + 0) before (omega arith) knows) early e
values-one ss n before (note (leads_to u) ns) knows early e =
    values-one ss (n + 0) before ns (knows-more ss n (n + 0) before (omega arith) knows) early e
values-one ss n before (note (bad_pack u) ns) knows early e =
    values-one ss (n + 0) before ns (knows-more ss n (n + 0) before (omega arith) knows) early e
values-one ss n before (note (defines_alias u) ns) knows early e =
    values-one ss (n + 0) before ns (knows-more ss n (n + 0) before (omega arith) knows) early e
values-one ss n before (note (mentions_alias u) ns) knows early e =
    values-one ss (n + 0) before ns (knows-more ss n (n + 0) before (omega arith) knows) early e
values-one ss n before (in_region inner ns) knows early e =
    values-one ss (n + count Values inner) before ns
    (knows-more ss n (n + count Values inner) before (omega arith) knows) early
    (right-nothing (told Values value_faults (own Values n inner ∷ ss) n inner)
    (told Values value_faults ss (n + count Values inner) ns) e)

-- the names that notes define are new
pub values-new : (ss : List RegionScope) (n : ℕ) (before : List Text) (ns : Notes)
    → Knows ss n before → AllByRecursion (IsEarly ss) (own Values n ns)
    → told Values value_faults ss n ns ≡ [] → AreNew before (names_in (own Values n ns))
values-new ss n before ns knows early e =
    one-new before (names_in (own Values n ns)) (values-one ss n before ns knows early e)

-- ---- labels of a region

abbrev KnowsLabels : RegionScope → ℕ → List Text → Type 0
KnowsLabels s n before = (w : Text) → is_among before w ≡ true → is_earlier (found s w) n ≡ true

labels-one : (s : RegionScope) (ss : List RegionScope) (n : ℕ) (before : List Text) (ns : Notes)
    → KnowsLabels s n before → AllByRecursion (IsEarlyIn s) (own Labels n ns)
    → told Labels block_faults (s ∷ ss) n ns ≡ [] → OneByOne before (names_in (own Labels n ns))
labels-one s ss n before no_notes knows early e = tt
labels-one s ss n before (note (labels l) ns) knows (here, early) e =
    let fresh : is_earlier (found s l.name) n ≡ false =
    absent (is_earlier (found s l.name) n) l.place 11
    (left-nothing (block_faults (s ∷ ss) n (labels l))
    (told Labels block_faults (s ∷ ss) (n + 1) ns)
    e) in (
      new (is_among before l.name) refl fresh,
      labels-one s ss (n + 1) (l.name ∷ before) ns
          (λ w is. go w (bytes_eq w l.name) refl is) early
          (right-nothing (block_faults (s ∷ ss) n (labels l))
          (told Labels block_faults (s ∷ ss) (n + 1) ns) e),
    )
  where
    new : (b : Bool) → is_among before l.name ≡ b → is_earlier (found s l.name) n ≡ false
        → is_among before l.name ≡ false
    new true is fresh =
        absurd (not-both (is_earlier (found s l.name) n) fresh (knows l.name is))
    new false is fresh = is

    go : (w : Text) (b : Bool) → bytes_eq w l.name ≡ b → (b || is_among before w) ≡ true
        → is_earlier (found s w) (n + 1) ≡ true
    go w true is e =
        let same : w ≡ l.name = (bytes_eq-Decides w l.name).0 is in
        subst (λ (v : Text). is_earlier (found s v) (n + 1) ≡ true) (sym same) here
    go w false is e = earlier-more (found s w) n (n + 1) (omega arith) (knows w e)
labels-one s ss n before (note (leads_to u) ns) knows early e =
    labels-one s ss (n + 0) before ns
    (λ w is. earlier-more (found s w) n (n + 0) (omega arith) (knows w is)) early
    (right-nothing (block_faults (s ∷ ss) n (leads_to u))
    (told Labels block_faults (s ∷ ss) (n + 0) ns) e)
labels-one s ss n before (note (defines u) ns) knows early e =
    labels-one s ss (n + 0) before ns
    (λ w is. earlier-more (found s w) n (n + 0) (omega arith) (knows w is)) early e
labels-one s ss n before (note (uses u) ns) knows early e =
    labels-one s ss (n + 0) before ns
    (λ w is. earlier-more (found s w) n (n + 0) (omega arith) (knows w is)) early e
labels-one s ss n before (note (bad_pack u) ns) knows early e =
    labels-one s ss (n + 0) before ns
    (λ w is. earlier-more (found s w) n (n + 0) (omega arith) (knows w is)) early e
labels-one s ss n before (note (defines_alias u) ns) knows early e =
    labels-one s ss (n + 0) before ns
    (λ w is. earlier-more (found s w) n (n + 0) (omega arith) (knows w is)) early e
labels-one s ss n before (note (mentions_alias u) ns) knows early e =
    labels-one s ss (n + 0) before ns
    (λ w is. earlier-more (found s w) n (n + 0) (omega arith) (knows w is)) early e
labels-one s ss n before (in_region inner ns) knows early e =
    labels-one s ss (n + count Labels inner) before ns
    (λ w is. earlier-more (found s w) n (n + count Labels inner) (omega arith) (knows w is)) early
    (right-nothing (told Labels block_faults (own Labels n inner ∷ (s ∷ ss)) n inner)
    (told Labels block_faults (s ∷ ss) (n + count Labels inner) ns) e)

-- the labels of a region differ
pub labels-distinct : (ss : List RegionScope) (n : ℕ) (ns : Notes)
    → told Labels block_faults (own Labels n ns ∷ ss) n ns ≡ []
    → IsDistinct bytes_eq (names_in (own Labels n ns))
labels-distinct ss n ns e = one-distinct [] (names_in (own Labels n ns))
    (labels-one (own Labels n ns) ss n [] ns (λ w is. absurd (cc)) (own-early Labels n ns) e)
