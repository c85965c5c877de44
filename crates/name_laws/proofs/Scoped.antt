-- The scopes of notes, by the numbers of definitions, and those of a module, by the numbers of
-- their first values: the same names, once each number of a definition is replaced by that of its
-- first value.
--
--   relabelled firsts x   a name with the number of its first value
--   HasSize x             a name stands for one value or more, and no more than the limit
--   IsNoBadPack x         a note isn't of a wrong size
--   Stands firsts k ds    these are the first values of the definitions from the k-th on
--   OwnIs firsts k ns s   the notes define the names of this scope themselves
use Rattle.std.proofs.Common.{◌≡◌, ℕ, ◌+◌, ◌<◌, ◌≤◌, ◌==◌, Bool, true, false, ◌&&◌, not}
use Rattle.std.proofs.Common.{List, [], ◌∷◌, ◌++◌, length, map, get_or, nat_lt, bytes_eq}
use Rattle.std.proofs.Common.{refl, sym, ◌∙◌, ap, subst, arith, append_assoc, Option, Some, None}
use Rattle.std.proofs.Common.{option_map, option_and_then, option_to_list, cond, if◌then◌else◌}
use Rattle.std.proofs.Math.Seq.{get_or-append_seam}
use Rattle.std.proofs.lemmas.Bool.{ltb-true, lt-ltb}
use Rattle.std.proofs.lemmas.List.{length-append, map-append}
use Rattle.std.specs.List.{AllByRecursion}
use Rattle.generic_syntax.specs.declared.cst.NameCst.{NameCst}
use Rattle.generic_syntax.specs.declared.module_cst.NumberCst.{NumberCst}
use Rattle.generic_syntax.specs.declared.module_cst.UseCst.{UseCst}
use Rattle.grammar.specs.Looks.{all_digits, decimal}
use Rattle.ir_lexer.specs.Spelling.{Text}
use Rattle.module_meaning.proofs.NotesJoined.{listed_in, found-alike, size_in}
use Rattle.module_meaning.proofs.Places.{all-joined, some-same}
use Rattle.module_meaning.specs.Names.{Env, used, target, in_pack, names_in}
use Rattle.module_meaning.specs.Names as meaning
use Rattle.module_names.proofs.Cut.{own-joined, AllNotes, left-nothing, right-nothing}
use Rattle.module_names.specs.declared.number.TheConstants.{PACK_LIMIT}
use Rattle.module_names.specs.ModuleNotes.{use_noted, successor_noted, size_noted, wrong_size}
use Rattle.module_names.specs.Numbers.{use_number, number_place, pack_count, size_or_0}
use Rattle.module_names.specs.Numbers.{is_pack_size}
use Rattle.module_names.specs.Said.{joined, noted}
use Rattle.name_laws.proofs.NewNames.{value_faults, block_faults, absent}
use Rattle.module_builder.specs.Built.{value_number}
use Rattle.symbol_scopes.specs.declared.call.NameKind.TheVariants.{Values, Labels}
use Rattle.symbol_scopes.specs.Meanings.{or_else}
use Rattle.symbol_scopes.specs.Regions.{Note, Notes}
use Rattle.symbol_scopes.specs.Regions.{bad_pack}
use Rattle.symbol_scopes.specs.Regions.{RegionScope, ScopeName, own, count, found, looked, told}
use Rattle.symbol_scopes.specs.Regions.{innermost, value_meant, block_meant, use_wrong}
use Rattle.symbol_scopes.specs.Regions.{target_wrong}

-- ---- names by the numbers of their first values

abbrev pub relabelled : List ℕ → ScopeName → ScopeName
relabelled firsts x = record { name = x.name; at = get_or firsts x.at 0; number = x.number }

abbrev moved : List ℕ → ℕ × ℕ → ℕ × ℕ
moved firsts d = (get_or firsts d.0 0, d.1)

found-moved : (firsts : List ℕ) (s : RegionScope) (name : Text)
    → found (map (relabelled firsts) s) name ≡ option_map (moved firsts) (found s name)
found-moved firsts [] name = refl
found-moved firsts (x ∷ s) name = go (bytes_eq x.name name) (found-moved firsts s name)
  where
    go : (b : Bool)
        → found (map (relabelled firsts) s) name ≡ option_map (moved firsts) (found s name)
        → (if b then Some (get_or firsts x.at 0, x.number)
        else found (map (relabelled firsts) s) name)
        ≡ option_map (moved firsts) (if b then Some (x.at, x.number) else found s name)
    go true more = refl
    go false more = more

looked-moved : (firsts : List ℕ) (ss : List RegionScope) (name : Text)
    → looked (map (map (relabelled firsts)) ss) name ≡ option_map (moved firsts) (looked ss name)
looked-moved firsts [] name = refl
looked-moved firsts (s ∷ ss) name =
    ap (λ (o : Option (ℕ × ℕ)). or_else o (looked (map (map (relabelled firsts)) ss) name))
    (found-moved firsts s name)
    ∙ (ap (λ (o : Option (ℕ × ℕ)). or_else (option_map (moved firsts) (found s name)) o)
    (looked-moved firsts ss name)
    ∙ go (found s name))
  where
    go : (o : Option (ℕ × ℕ))
        → or_else (option_map (moved firsts) o) (option_map (moved firsts) (looked ss name))
        ≡ option_map (moved firsts) (or_else o (looked ss name))
    go None = refl
    go (Some d) = refl

-- the names stay
pub names-relabelled : (firsts : List ℕ) (s : RegionScope)
    → names_in (map (relabelled firsts) s) ≡ names_in s
names-relabelled firsts [] = refl
names-relabelled firsts (x ∷ s) = ap (λ w. x.name ∷ w) (names-relabelled firsts s)

-- ---- sizes

abbrev pub HasSize : ScopeName → Type 0
HasSize x = (0 < x.number) × (x.number ≤ PACK_LIMIT)

abbrev IsFit : Option (ℕ × ℕ) → Type 0
IsFit None = Unit {0}
IsFit (Some d) = (0 < d.1) × (d.1 ≤ PACK_LIMIT)

found-fit : (s : RegionScope) (name : Text) → AllByRecursion HasSize s → IsFit (found s name)
found-fit [] name h = tt
found-fit (x ∷ s) name (p, h) = go (bytes_eq x.name name) (found-fit s name h)
  where
    go : (b : Bool) → IsFit (found s name)
        → IsFit (if b then Some (x.at, x.number) else found s name)
    go true more = p
    go false more = more

looked-fit : (ss : List RegionScope) (name : Text) → AllByRecursion (AllByRecursion HasSize) ss
    → IsFit (looked ss name)
looked-fit [] name h = tt
looked-fit (s ∷ ss) name (p, h) = go (found s name) (found-fit s name p) (looked-fit ss name h)
  where
    go : (o : Option (ℕ × ℕ)) → IsFit o → IsFit (looked ss name)
        → IsFit (or_else o (looked ss name))
    go None here more = more
    go (Some d) here more = here

abbrev pub IsNoBadPack : Note → Type 0
IsNoBadPack (bad_pack p) = ⊥
IsNoBadPack _ = Unit {0}

-- a size that isn't wrong
module _ (m place : ℕ) where
  abbrev size_by : Bool → Option ℕ
  size_by b = if b then Some m else None

  size-by : (b : Bool) → (b ≡ true → (0 < m) × (m ≤ PACK_LIMIT))
      → AllNotes IsNoBadPack (wrong_size place (size_by b))
      → (0 < size_or_0 (size_by b)) × (size_or_0 (size_by b) ≤ PACK_LIMIT)
  size-by true fits h = fits refl
  size-by false fits h = absurd h.0

digits-fit : (a : Bool) (m : ℕ) → (a && is_pack_size m) ≡ true → (0 < m) × (m ≤ PACK_LIMIT)
digits-fit true m e = (grind (arith, e), grind (arith, e))
digits-fit false m e = absurd (cc)

pub size-fits : (p : Option NumberCst) → AllNotes IsNoBadPack (size_noted p)
    → (0 < pack_count p) × (pack_count p ≤ PACK_LIMIT)
size-fits None h = (omega arith, omega arith)
size-fits (Some n) h =
    size-by (decimal 0 n.digits) n.place (all_digits n.digits && is_pack_size (decimal 0 n.digits))
    (digits-fit (all_digits n.digits) (decimal 0 n.digits)) h

-- ---- a use

number-same : (p : Option NumberCst) (limit : ℕ) → use_number p < limit → limit ≤ PACK_LIMIT
    → meaning.result_number p ≡ use_number p
number-same None limit less le = refl
number-same (Some n) limit less le = omega arith

abbrev pub numbered : List ℕ → List RegionScope → ℕ → Note → List (Option ℕ)
numbered firsts ss n x = map (option_map (value_number firsts)) (value_meant ss n x)

module _ (firsts : List ℕ) (env : Env) (ss : List RegionScope)
    (alike : map (map (relabelled firsts)) ss ≡ env.scopes)
    (sizes : AllByRecursion (AllByRecursion HasSize) ss) where
  use-named : (u : UseCst) (m : ℕ)
      → option_map (value_number firsts)
      (option_map (λ d. (d.0, use_number u.number)) (looked ss u.name)) ≡ Some m
      → option_to_list (use_wrong (record {
        name = u.name;
        place = u.place;
        number = use_number u.number;
        number_place = number_place u.place u.number;
      }) (looked ss u.name)) ≡ [] → used env u ≡ Some m
  use-named u m means right =
      ap (λ (ts : List RegionScope). option_and_then (in_pack (meaning.result_number u.number))
      (looked ts u.name)) (sym alike)
      ∙ (ap (option_and_then (in_pack (meaning.result_number u.number)))
      (looked-moved firsts ss u.name)
      ∙ go (looked ss u.name) (looked-fit ss u.name sizes) means right)
    where
      at : (d : ℕ × ℕ) (b : Bool) → nat_lt (meaning.result_number u.number) d.1 ≡ b
          → meaning.result_number u.number < d.1
          → cond b (Some (get_or firsts d.0 0 + meaning.result_number u.number)) None
          ≡ Some (get_or firsts d.0 0 + meaning.result_number u.number)
      at d true is less = refl
      at d false is less =
          let there : nat_lt (meaning.result_number u.number) d.1 ≡ true = lt-ltb _ _ less in
          absurd (cc)

      lesser : (d : ℕ × ℕ) → 0 < d.1 → (b : Bool) → nat_lt (use_number u.number) d.1 ≡ b
          → (nat_lt 0 d.1 && not b) ≡ false → use_number u.number < d.1
      lesser d some true is e = ltb-true _ _ is
      lesser d some false is e =
          let there : nat_lt 0 d.1 ≡ true = lt-ltb 0 d.1 some in
          let never : true ≡ false = sym (ap (λ (b : Bool). b && true) there) ∙ e in
          absurd (cc)

      go : (o : Option (ℕ × ℕ)) → IsFit o
          → option_map (value_number firsts) (option_map (λ d. (d.0, use_number u.number)) o)
          ≡ Some m
          → option_to_list (use_wrong (record {
            name = u.name;
            place = u.place;
            number = use_number u.number;
            number_place = number_place u.place u.number;
          }) o) ≡ []
          → option_and_then (in_pack (meaning.result_number u.number))
          (option_map (moved firsts) o) ≡ Some m
      go None fits means right = absurd (cc)
      go (Some d) (some, most) means right =
          let less : use_number u.number < d.1 =
          lesser d some (nat_lt (use_number u.number) d.1) refl
          (absent (nat_lt 0 d.1 && not (nat_lt (use_number u.number) d.1))
          (number_place u.place u.number) 9 right) in
          let same : meaning.result_number u.number ≡ use_number u.number =
          number-same u.number d.1 less most in
          let value : get_or firsts d.0 0 + use_number u.number ≡ m = some-same _ m means in
          at d (nat_lt (meaning.result_number u.number) d.1) refl (omega (arith, same, less))
          ∙ ap Some (omega (arith, same, value))

  pub uses-named : (n : ℕ) (us : List UseCst) (ns : List ℕ)
      → told Values (numbered firsts) ss n (noted use_noted us) ≡ map Some ns
      → told Values value_faults ss n (noted use_noted us) ≡ []
      → map (used env) us ≡ map Some ns
  uses-named n [] [] means right = refl
  uses-named n [] (m ∷ ns) means right = absurd (cc)
  uses-named n (u ∷ us) [] means right = absurd (cc)
  uses-named n (u ∷ us) (m ∷ ns) means right =
      let first : option_map (value_number firsts)
      (option_map (λ d. (d.0, use_number u.number)) (looked ss u.name)) ≡ Some m = cc in
      let rest : told Values (numbered firsts) ss (n + 0) (noted use_noted us) ≡ map Some ns = cc in
      let here : used env u ≡ Some m =
      use-named u m first (left-nothing _ _ right) in
      let more : map (used env) us ≡ map Some ns =
      uses-named (n + 0) us ns rest (right-nothing _ _ right) in
      ap (λ (o : Option ℕ). o ∷ map (used env) us) here ∙ ap (λ w. Some m ∷ w) more

-- ---- a successor

module _ (env : Env) (ss : List RegionScope)
    (alike : listed_in (innermost ss) ≡ listed_in env.labels) where
  target-named : (s : NameCst) (b : ℕ) → option_map size_in (found (innermost ss) s.name) ≡ Some b
      → target env s ≡ Some b
  target-named s b means = sym (found-alike (innermost ss) env.labels s.name alike) ∙ means

  -- another block than the first
  target-other : (s : NameCst) (b : ℕ) (o : Option (ℕ × ℕ)) → option_map size_in o ≡ Some b
      → option_to_list (target_wrong (record { name = s.name; place = s.place }) o) ≡ [] → 0 < b
  target-other s b None means right = absurd (cc)
  target-other s b (Some d) means right =
      let same : d.1 ≡ b = some-same d.1 b means in
      let other : (d.1 == 0) ≡ false = absent (d.1 == 0) s.place 12 right in
      grind (arith, same, other)

  pub successors-named : (n : ℕ) (xs : List NameCst) (bs : List ℕ)
      → told Labels block_meant ss n (noted successor_noted xs) ≡ map Some bs
      → told Labels block_faults ss n (noted successor_noted xs) ≡ []
      → (map (target env) xs ≡ map Some bs) × AllByRecursion (λ b. 0 < b) bs
  successors-named n [] [] means right = (refl, tt)
  successors-named n [] (b ∷ bs) means right = absurd (cc)
  successors-named n (x ∷ xs) [] means right = absurd (cc)
  successors-named n (x ∷ xs) (b ∷ bs) means right =
      let first : option_map size_in (found (innermost ss) x.name) ≡ Some b = cc in
      let rest : told Labels block_meant ss (n + 0) (noted successor_noted xs) ≡ map Some bs = cc in
      let more = successors-named (n + 0) xs bs rest (right-nothing _ _ right) in (
        ap (λ (o : Option ℕ). o ∷ map (target env) xs) (target-named x b first)
            ∙ ap (λ w. Some b ∷ w) more.0,
        (target-other x b (found (innermost ss) x.name) first (left-nothing _ _ right), more.1),
      )

-- ---- the first values of definitions

abbrev pub Stands : List ℕ → ℕ → List ℕ → Type 0
Stands firsts k [] = Unit {0}
Stands firsts k (x ∷ ds) = (get_or firsts k 0 ≡ x) × Stands firsts (k + 1) ds

pub stands-left : (firsts : List ℕ) (k : ℕ) (a b : List ℕ) → Stands firsts k (a ++ b)
    → Stands firsts k a
stands-left firsts k [] b h = tt
stands-left firsts k (x ∷ a) b (p, h) = (p, stands-left firsts (k + 1) a b h)

pub stands-right : (firsts : List ℕ) (k m : ℕ) (a b : List ℕ) → m ≡ k + length a
    → Stands firsts k (a ++ b) → Stands firsts m b
stands-right firsts k m [] b e h =
    let same : k ≡ m = omega (arith, e) in subst (λ (i : ℕ). Stands firsts i b) same h
stands-right firsts k m (x ∷ a) b e (p, h) =
    stands-right firsts (k + 1) m a b (omega (arith, e)) h

stands-behind : (past ds : List ℕ) (k : ℕ) → k ≡ length past → Stands (past ++ ds) k ds
stands-behind past [] k e = tt
stands-behind past (x ∷ ds) k e = (
  ap (λ i. get_or (past ++ x ∷ ds) i 0) e ∙ get_or-append_seam past x ds 0,
  subst (λ (w : List ℕ). Stands w (k + 1) ds) (append_assoc past (x ∷ []) ds)
      (stands-behind (past ++ x ∷ []) ds (k + 1)
      (let long = length-append past (x ∷ []) in omega (arith, e, long))),
)

pub stands-all : (firsts : List ℕ) → Stands firsts 0 firsts
stands-all firsts = stands-behind [] firsts 0 refl

-- ---- the names that notes define themselves

pub record OwnIs (firsts : List ℕ) (k : ℕ) (ns : Notes) (scope : RegionScope) : Type 0 where
  pub same : map (relabelled firsts) (own Values k ns) ≡ scope
  pub sizes : AllByRecursion HasSize (own Values k ns)

pub own-is-joined : (firsts : List ℕ) (k m : ℕ) (a b : Notes) (s t : RegionScope)
    → m ≡ k + count Values a → OwnIs firsts k a s → OwnIs firsts m b t
    → OwnIs firsts k (joined a b) (s ++ t)
own-is-joined firsts k m a b s t e p q = record {
  same = ap (map (relabelled firsts)) (own-joined Values k m a b e)
      ∙ (map-append (relabelled firsts) (own Values k a) (own Values m b)
      ∙ (ap (λ (w : RegionScope). w ++ map (relabelled firsts) (own Values m b)) p.same
      ∙ ap (λ (w : RegionScope). s ++ w) q.same));
  sizes = subst (AllByRecursion HasSize) (sym (own-joined Values k m a b e))
      (all-joined HasSize (own Values k a) (own Values m b) p.sizes q.sizes);
}

pub own-is-nothing : (firsts : List ℕ) (k : ℕ) (ns : Notes) → own Values k ns ≡ []
    → OwnIs firsts k ns []
own-is-nothing firsts k ns e = record {
  same = ap (map (relabelled firsts)) e;
  sizes = subst (AllByRecursion HasSize) (sym e) tt;
}

-- with the same names as others
pub own-is-as : (firsts : List ℕ) (k : ℕ) (ns ms : Notes) (s : RegionScope)
    → own Values k ns ≡ own Values k ms → OwnIs firsts k ms s → OwnIs firsts k ns s
own-is-as firsts k ns ms s e p = record {
  same = ap (map (relabelled firsts)) e ∙ p.same;
  sizes = subst (AllByRecursion HasSize) (sym e) p.sizes;
}
