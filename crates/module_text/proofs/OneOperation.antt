-- One operation: where names mean its operands and its successors lead to its blocks, it completes
-- the tree that has its parts.
use Rattle.std.proofs.Common.{◌≡◌, ℕ, zero, suc, ◌+◌, ◌<◌, ◌≤◌, ◌^◌, Bool, List, [], ◌∷◌, length}
use Rattle.std.proofs.Common.{map, sum, refl, sym, ◌∙◌, ap, subst, Some, slice_get, bytes_eq, arith}
use Rattle.std.proofs.Common.{Contains}
use Rattle.std.proofs.lemmas.List.{length-map}
use Rattle.std.proofs.lemmas.List.FromFn.{length-range_with_len}
use Rattle.std.proofs.lemmas.List.Sums.{sum_by-cons}
use Rattle.std.proofs.lemmas.Slice.Zip.{AllZip-long, firsts-zip}
use Rattle.std.specs.List.{AllByRecursion, AllZip, zip, range_with_len, IsDistinct}
use Rattle.attr_value.specs.Ids.{at}
use Rattle.attr_value.specs.Values.{Value}
use Rattle.derived_printer.specs.ModuleMarks.{view_of}
use Rattle.derived_printer.specs.ValueMarks.{Marks}
use Rattle.dialect_defs.specs.Operations.{Operation}
use Rattle.generic_syntax.specs.declared.module_cst.FormCst.{out-FormCst}
use Rattle.generic_syntax.specs.declared.module_cst.FormCst.TheOpen.{FormCst-F}
use Rattle.generic_syntax.specs.declared.module_cst.GenericCst.{GenericCst, out-GenericCst}
use Rattle.generic_syntax.specs.declared.module_cst.OpCst.{OpCst, out-OpCst}
use Rattle.generic_syntax.specs.declared.module_cst.RegionCst.{RegionCst}
use Rattle.generic_syntax.specs.declared.module_cst.ResultCst.{ResultCst}
use Rattle.ir_lexer.specs.Spelling.{Text}
use Rattle.ir_store.specs.Modules.{Regions, Blocks, no_regions, region, types_in_blocks}
use Rattle.ir_store.specs.Modules.{types_in_regions}
use Rattle.ir_store.specs.Modules.{block_args, region_args}
use Rattle.module_meaning.specs.AliasValues.{no_aliases}
use Rattle.module_meaning.specs.Completes.{AreTypes, OpSays, RegionSays}
use Rattle.module_meaning.specs.Facts.{CustomForms, FormSeen, name_in, facts_in, hides_in}
use Rattle.module_meaning.specs.Names.{Env, Names, pack_size, behind}
use Rattle.module_meaning.specs.Says.{Shows, ShowsGeneric, argument_types, keys_in}
use Rattle.module_meaning.specs.WholeModules.{WholeHead, Loaded, IsGoodType, operation_with}
use Rattle.module_meaning.proofs.Arguments.{region-arguments}
use Rattle.module_meaning.proofs.GenericForm.{shows-generic, NamesGeneric, names-generic}
use Rattle.module_meaning.proofs.Places.{some-same}
use Rattle.module_text.proofs.Facts.{mapped-alike, uses-mean, targets-mean, packs-right}
use Rattle.module_text.proofs.Facts.{attrs-said, keys-said, ascend-distinct}
use Rattle.module_text.proofs.Generic.{HasParts}
use Rattle.module_text.proofs.Numbers.{value_key, block_key}
use Rattle.module_text.proofs.Parts.{IsUse, IsTarget, IsResult}
use Rattle.module_text.proofs.Ready.{TypeIsRight, OpIsReady}
use Rattle.symbol_scopes.specs.Regions.{found, looked}
use Rattle.value_meaning.specs.Meaning.{value_of}

-- regions, with the number of the first value of each
abbrev pub sites : ℕ → Regions Text Value → List (ℕ × Blocks Text Value)
sites n no_regions = []
sites n (region bs rs) = (n, bs) ∷ sites (n + length (types_in_blocks bs)) rs

-- the tree is in generic form
abbrev pub IsForm : OpCst → GenericCst → Type 0
IsForm c g = out-FormCst (out-OpCst c).form ≡ FormCst-F.Generic g

module _ (loaded : Loaded) (forms : CustomForms) (types : List Value) where
  -- what names mean where an operation stands: each value that may be used there, and each block of
  -- its region but the first
  pub record Sees (env : Env) (visible : List ℕ) (blocks : ℕ) : Type 0 where
    pub values : (i : ℕ) → Contains visible i → looked env.scopes (value_key i) ≡ Some (i, 1)
    pub low : (i : ℕ) → Contains visible i → i < length types
    pub labels : (b : ℕ) → 0 < b → b < blocks → found env.labels (block_key b) ≡ Some (b, b)
    pub few : blocks ≤ 2 ^ 64

  -- names of before may be more
  pub sees-behind : (env : Env) (ws : List Text) (visible : List ℕ) (blocks : ℕ)
      → Sees env visible blocks → Sees (behind env ws) visible blocks
  sees-behind env ws visible blocks s =
      record { values = s.values; low = s.low; labels = s.labels; few = s.few }

  -- ---- regions

  -- what a region's tree says of it
  abbrev pub RegionIs : Env → ℕ → ℕ → RegionCst → Regions Text Value → Type 0
  RegionIs env n i r rs = RegionSays loaded forms no_aliases (AreTypes types) env n i r rs

  -- the tree is completed by blocks whose first value has a number, and has their arguments
  pub record RegionHas (env : Env) (r : RegionCst) (x : ℕ × Blocks Text Value) : Type 0 where
    pub says : RegionIs env x.0 0 r (region x.1 no_regions)
    pub args : argument_types no_aliases r ≡ map (map Some) (block_args x.1)

  abbrev pub RegionsHave : Env → ℕ → Regions Text Value → List RegionCst → Type 0
  RegionsHave env n rs trees = AllZip (RegionHas env) trees (sites n rs)

  regions-say : (env : Env) (n : ℕ) (rs : Regions Text Value) (trees : List RegionCst)
      → RegionsHave env n rs trees → (i : ℕ) (r : RegionCst) → slice_get trees i ≡ Some r
      → RegionIs env n i r rs
  regions-say env n no_regions [] h i r e = absurd (cc)
  regions-say env n no_regions (t ∷ trees) h i r e = absurd h
  regions-say env n (region bs rs) [] h i r e = absurd h
  regions-say env n (region bs rs) (t ∷ trees) (h, more) zero r e =
      subst (λ (x : RegionCst). RegionIs env n 0 x (region bs rs)) (some-same t r e) h.says
  regions-say env n (region bs rs) (t ∷ trees) (h, more) (suc i) r e =
      regions-say env (n + length (types_in_blocks bs)) rs trees more i r e

  regions-args : (env : Env) (n : ℕ) (rs : Regions Text Value) (trees : List RegionCst)
      → RegionsHave env n rs trees
      → map (argument_types no_aliases) trees ≡ map (map (map Some)) (region_args rs)
  regions-args env n no_regions [] h = refl
  regions-args env n no_regions (t ∷ trees) h = absurd h
  regions-args env n (region bs rs) [] h = absurd h
  regions-args env n (region bs rs) (t ∷ trees) (h, more) =
      ap (λ x. x ∷ map (argument_types no_aliases) trees) h.args
      ∙ ap (λ l. map (map Some) (block_args bs) ∷ l)
      (regions-args env (n + length (types_in_blocks bs)) rs trees more)

  -- ---- operands

  all-seen : (env : Env) (visible : List ℕ) (blocks : ℕ) → Sees env visible blocks → (ns : List ℕ)
      → AllByRecursion (Contains visible) ns
      → AllByRecursion (λ i. looked env.scopes (value_key i) ≡ Some (i, 1)) ns
  all-seen env visible blocks s [] h = tt
  all-seen env visible blocks s (i ∷ ns) (p, h) =
      (s.values i p, all-seen env visible blocks s ns h)

  pub all-low : (env : Env) (visible : List ℕ) (blocks : ℕ) → Sees env visible blocks
      → (ns : List ℕ) → AllByRecursion (Contains visible) ns
      → AllByRecursion (λ i. i < length types) ns
  all-low env visible blocks s [] h = tt
  all-low env visible blocks s (i ∷ ns) (p, h) = (s.low i p, all-low env visible blocks s ns h)

  all-led : (env : Env) (visible : List ℕ) (blocks : ℕ) → Sees env visible blocks → (ks : List ℕ)
      → AllByRecursion (λ b. 0 < b) ks → AllByRecursion (λ b. b < blocks) ks
      → AllByRecursion (λ k. found env.labels (block_key k) ≡ Some (k, k)) ks
  all-led env visible blocks s [] h l = tt
  all-led env visible blocks s (k ∷ ks) (p, h) (q, l) =
      (s.labels k p q, all-led env visible blocks s ks h l)

  -- the types of values that are there
  typed : (xs : List Value) (i : ℕ) → i < length xs → slice_get xs i ≡ Some (at xs i)
  typed [] i l = absurd (omega arith)
  typed (x ∷ xs) zero l = refl
  typed (x ∷ xs) (suc i) l = typed xs i (omega arith)

  pub operands-typed : (ns : List ℕ) → AllByRecursion (λ i. i < length types) ns
      → AreTypes types (map (at types) ns) ns
  operands-typed [] h = refl
  operands-typed (i ∷ ns) (l, h) =
      ap (λ x. x ∷ map (slice_get types) ns) (typed types i l)
      ∙ ap (λ l. Some (at types i) ∷ l) (operands-typed ns h)

  good-at : (xs : List Value) (i : ℕ) → AllByRecursion (TypeIsRight loaded) xs → i < length xs
      → TypeIsRight loaded (at xs i)
  good-at [] i h l = absurd (omega arith)
  good-at (x ∷ xs) zero (p, h) l = p
  good-at (x ∷ xs) (suc i) (p, h) l = good-at xs i h (omega arith)

  pub operands-right : AllByRecursion (TypeIsRight loaded) types → (ns : List ℕ)
      → AllByRecursion (λ i. i < length types) ns
      → AllByRecursion (TypeIsRight loaded) (map (at types) ns)
  operands-right right [] h = tt
  operands-right right (i ∷ ns) (l, h) = (good-at types i right l, operands-right right ns h)

  good-types : (ts : List Value) → AllByRecursion (TypeIsRight loaded) ts
      → AllByRecursion (IsGoodType loaded) ts
  good-types [] h = tt
  good-types (t ∷ ts) (p, h) = (p.good, good-types ts h)

  -- ---- results

  results-count : (rs : List ResultCst) (ns : List ℕ) → AllZip IsResult rs ns
      → sum (map (λ (r : ResultCst). pack_size r.pack) rs) ≡ length ns
  results-count [] [] h = refl
  results-count (r ∷ rs) (n ∷ ns) ((p, q), h) =
      let one : pack_size r.pack ≡ 1 = ap pack_size q in
      let more : sum (map (λ (r : ResultCst). pack_size r.pack) rs) ≡ length ns =
      results-count rs ns h in
      let total : sum (pack_size r.pack ∷ map (λ (r : ResultCst). pack_size r.pack) rs)
      ≡ pack_size r.pack + sum (map (λ (r : ResultCst). pack_size r.pack) rs) =
      sum_by-cons (λ x. x) (pack_size r.pack) (map (λ (r : ResultCst). pack_size r.pack) rs) in
      omega arith
  results-count [] (n ∷ ns) h = absurd h
  results-count (r ∷ rs) [] h = absurd h

  -- ---- the operation

  module _ (right : AllByRecursion (TypeIsRight loaded) types) (env inner : Env)
      (visible : List ℕ) (blocks n : ℕ) (head : WholeHead) (rs : Regions Text Value) (last : Bool)
      (marks : List Marks) (c : OpCst) (g : GenericCst)
      (ready : OpIsReady loaded types visible blocks head rs last)
      (sees : Sees env visible blocks)
      (results : AllByRecursion (TypeIsRight loaded) head.results)
      (arguments : AllByRecursion (TypeIsRight loaded) (types_in_regions rs))
      (form_is : IsForm c g)
      (named : AllZip IsResult (out-OpCst c).results (range_with_len n (length head.results)))
      (parts : HasParts (view_of types head marks)
      (RegionsHave inner (n + length head.results) rs) (out-GenericCst g)) where
    abbrev seen : Operation
    seen = operation_with (map (at types) head.operands) head rs

    low : AllByRecursion (λ i. i < length types) head.operands
    low = all-low env visible blocks sees head.operands ready.proper.in_scope.operands

    -- the keys of its attributes
    keys-are : map (λ (a : Text × Value). a.0) (zip head.keys head.values) ≡ head.keys
    keys-are = firsts-zip head.keys head.values ready.proper.attrs.counts

    keys-distinct : IsDistinct bytes_eq (keys_in (out-GenericCst g).attrs)
    keys-distinct =
        subst (IsDistinct bytes_eq)
        (sym (keys-said (out-GenericCst g).attrs (zip head.keys head.values) parts.attrs
        ∙ keys-are))
        (ascend-distinct head.keys ready.proper.attrs.ascend)

    shows : ShowsGeneric no_aliases g seen
    shows = record {
      uses =
          sym (AllZip-long IsUse (out-GenericCst g).operands head.operands parts.uses)
          ∙ sym (length-map head.operands (at types));
      inputs = mapped-alike (value_of no_aliases) Some (out-GenericCst g).inputs
          (map (at types) head.operands) parts.inputs;
      outputs = mapped-alike (value_of no_aliases) Some (out-GenericCst g).outputs head.results
          parts.outputs;
      attrs = rw parts.no_props
          (attrs-said (out-GenericCst g).attrs (zip head.keys head.values) parts.attrs);
      distinct = rw parts.no_props keys-distinct;
      successors = sym (AllZip-long IsTarget (out-GenericCst g).successors head.successors
          parts.targets);
      regions = regions-args inner (n + length head.results) rs (out-GenericCst g).regions
          parts.regions;
    }

    abbrev Inside : ℕ → RegionCst → Type 0
    Inside i r = RegionIs inner (n + length head.results) i r rs

    names : NamesGeneric env g head.operands head.successors Inside
    names = record {
      uses = uses-mean env (out-GenericCst g).operands head.operands parts.uses
          (all-seen env visible blocks sees head.operands ready.proper.in_scope.operands);
      labels = targets-mean env (out-GenericCst g).successors head.successors parts.targets
          (all-led env visible blocks sees head.successors ready.proper.targets
          ready.proper.in_scope.successors);
      regions = regions-say inner (n + length head.results) rs (out-GenericCst g).regions
          parts.regions;
    }

    -- it completes its tree in the module
    pub op-says : OpSays loaded forms no_aliases env c head seen Inside
    op-says =
        let meets = ready.meets in
        let met = meets.meets in
        record {
          completes = record {
            def = meets.def;
            operand_sizes = met.operand_sizes;
            result_sizes = met.result_sizes;
            assignment = met.assignment;
            known = meets.known;
            named = ap name_in form_is ∙ (parts.name ∙ sym meets.named);
            shows = subst (λ (s : FormSeen). Shows no_aliases meets.def (hides_in forms s)
                (facts_in forms s) seen met.operand_sizes met.result_sizes) (sym form_is)
                (shows-generic no_aliases meets.def g seen met.operand_sizes met.result_sizes
                shows);
            results = λ some.
                results-count (out-OpCst c).results (range_with_len n (length head.results)) named
                ∙ length-range_with_len n (length head.results);
            operand_types = good-types (map (at types) head.operands)
                (operands-right right head.operands low);
            result_types = good-types head.results results;
            argument_types = region-arguments (IsGoodType loaded) rs
                (good-types (types_in_regions rs) arguments);
            meets = met.meets;
          };
          named = meets.named;
          names = subst (λ (s : FormSeen). AllByRecursion
              (Names env met.operand_sizes head.operands head.successors Inside)
              (facts_in forms s)) (sym form_is)
              (names-generic env g met.operand_sizes head.operands head.successors Inside names);
          packs = packs-right (out-OpCst c).results (range_with_len n (length head.results)) named;
        }
