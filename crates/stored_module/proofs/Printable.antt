-- A stored module can be printed where what it stands for is proper.
--
--   Below top            all of these numbers are below the bound
--   IsTold loaded top .. what is taken from an operation that is proper where it stands: its operands
--                        are below the bound, and its values good
--   ops-told, regions-told, blocks-told      of all operations, by recursion over the module
--   depth-mapped         regions nest as deep with other names and values
--   types-spelled, ..    what is good, by ids, can be spelled
use Rattle.std.proofs.Common.{◌≡◌, ℕ, suc, ◌+◌, ◌<◌, ◌≤◌, List, [], ◌∷◌, ◌++◌, length, map}
use Rattle.std.proofs.Common.{max, refl, sym, ◌∙◌, ap, subst, arith, Contains}
use Rattle.std.proofs.lemmas.List.{length-append, length-map}
use Rattle.std.specs.List.{AllByRecursion}
use Rattle.attr_value.specs.declared.head.ValueId.{ValueId}
use Rattle.attr_value.specs.Ids.{at, AreKnown}
use Rattle.attr_value.specs.Values.{Value}
use Rattle.derived_printer.specs.ModuleMarks.{name_in, seen_module}
use Rattle.derived_printer.specs.Printable.{CanBeSpelled, OpIsPrintable, IsPrintable}
use Rattle.derived_printer.specs.Printable.{nesting, nesting_of_regions, nesting_of_blocks}
use Rattle.derived_printer.specs.Spellable.{HaveFullNames}
use Rattle.derived_printer.proofs.Good.{good-spellable}
use Rattle.ir_lexer.specs.Spelling.{Text}
use Rattle.ir_store.specs.Modules.{Ops, Regions, Blocks, no_ops, then_op, no_regions, region}
use Rattle.ir_store.specs.Modules.{no_blocks, block, types_in, types_in_regions, types_in_blocks}
use Rattle.ir_store.specs.Modules.{block_args, mapped, mapped_head, mapped_regions, mapped_blocks}
use Rattle.ir_store.specs.Numbering.{Numbers, OpSite, first_numbers, past_op, past_region}
use Rattle.ir_store.specs.Numbering.{past_block, behind, behind_regions, behind_blocks, parts}
use Rattle.ir_store.specs.Numbering.{parts_of_regions, parts_of_blocks, op_sites, ops_in}
use Rattle.ir_store.specs.Store.{Module}
use Rattle.ir_store.proofs.Replay.{op-sites-append}
use Rattle.ir_store.proofs.Sites.{mapped_site, sites-mapped, types-mapped}
use Rattle.module_meaning.specs.WholeModules.{WholeHead, WholeModule, Loaded, IsGood, IsGoodType}
use Rattle.module_meaning.specs.WholeModules.{IsProperOp, Proper, EachOp, EachInRegions}
use Rattle.module_meaning.specs.WholeModules.{EachInBlocks, own_numbers, block_numbers}
use Rattle.module_meaning.specs.WholeModules.{region_depth, depth_of_regions, depth_of_blocks}
use Rattle.module_meaning.proofs.Places.{all-joined}
use Rattle.module_text.proofs.Lists.{of-all, own-below, blocks-below}
use Rattle.op_verifier.specs.Seen.{HasIds, Site}
use Rattle.stored_module.specs.Held.{NameDefinitions}

-- all of these numbers are below the bound
abbrev Below : ℕ → List ℕ → Type 0
Below top ns = AllByRecursion (λ k. k < top) ns

-- what is taken from a proper operation
record IsTold (loaded : Loaded) (top : ℕ) (head : WholeHead) : Type 0 where
  operands : Below top head.operands
  values : AllByRecursion (IsGood loaded) head.values

-- what may be used is below the bound, where all that may be used is
used-below : (top : ℕ) (visible ns : List ℕ) → Below top visible
    → AllByRecursion (Contains visible) ns → Below top ns
used-below top visible [] low h = tt
used-below top visible (n ∷ ns) low (p, h) =
    (of-all (λ k. k < top) visible n low p, used-below top visible ns low h)

-- what holds of the images of all items
all-unmapped : {A B : Type 0} (f : A → B) (P : B → Type 0) (xs : List A)
    → AllByRecursion P (map f xs) → AllByRecursion (λ x. P (f x)) xs
all-unmapped f P [] h = tt
all-unmapped f P (x ∷ xs) (p, h) = (p, all-unmapped f P xs h)

-- ---- over a module

module _ (loaded : Loaded) (top : ℕ) where
  abbrev Told : OpSite Text Value → Type 0
  Told site = IsTold loaded top site.head

  mutual
    ops-told : (visible : List ℕ) (blocks n : ℕ) (os : WholeModule) (c : Numbers)
        → Below top visible → n + length (types_in os) ≤ top
        → EachOp (IsProperOp loaded) visible blocks n os
        → AllByRecursion Told (op_sites (parts c os))
    ops-told visible blocks n no_ops c low room each = tt
    ops-told visible blocks n (then_op head rs os) c low room (p, ps, pss) =
        let count : length (types_in {N = Text} {V = Value} (then_op head rs os))
        ≡ length head.results + length (types_in_regions rs) + length (types_in os) =
        length-append (head.results ++ types_in_regions rs) (types_in os)
        ∙ ap (λ m. m + length (types_in os))
        (length-append head.results (types_in_regions rs)) in
        let inner = parts_of_regions (past_op c head) rs in
        let later = parts (behind_regions (past_op c head) rs) os in (
          record {
            operands = used-below top visible head.operands low p.in_scope.operands;
            values = p.values;
          },
          subst (AllByRecursion Told) (sym (op-sites-append inner later))
              (all-joined Told (op_sites inner) (op_sites later)
              (regions-told visible (n + length head.results) rs (past_op c head) low (omega arith)
              ps)
              (ops-told visible blocks (n + length head.results + length (types_in_regions rs)) os
              (behind_regions (past_op c head) rs) low (omega arith) pss)),
        )

    regions-told : (visible : List ℕ) (n : ℕ) (rs : Regions Text Value) (c : Numbers)
        → Below top visible → n + length (types_in_regions rs) ≤ top
        → EachInRegions (IsProperOp loaded) visible n rs
        → AllByRecursion Told (op_sites (parts_of_regions c rs))
    regions-told visible n no_regions c low room each = tt
    regions-told visible n (region bs rs) c low room (p, ps) =
        let count : length (types_in_regions {N = Text} {V = Value} (region bs rs))
        ≡ length (types_in_blocks bs) + length (types_in_regions rs) =
        length-append (types_in_blocks bs) (types_in_regions rs) in
        let inner = parts_of_blocks (past_region c) bs in
        let later = parts_of_regions (behind_blocks (past_region c) bs) rs in
        let own : Below top (block_numbers n bs) = blocks-below n top bs (omega arith) in
        subst (AllByRecursion Told) (sym (op-sites-append inner later))
        (all-joined Told (op_sites inner) (op_sites later)
        (blocks-told (block_numbers n bs ++ visible) (length (block_args bs)) n bs (past_region c)
        (all-joined (λ k. k < top) (block_numbers n bs) visible own low) (omega arith) p)
        (regions-told visible (n + length (types_in_blocks bs)) rs
        (behind_blocks (past_region c) bs) low (omega arith) ps))

    blocks-told : (visible : List ℕ) (count n : ℕ) (bs : Blocks Text Value) (c : Numbers)
        → Below top visible → n + length (types_in_blocks bs) ≤ top
        → EachInBlocks (IsProperOp loaded) visible count n bs
        → AllByRecursion Told (op_sites (parts_of_blocks c bs))
    blocks-told visible count n no_blocks c low room each = tt
    blocks-told visible count n (block args os bs) c low room (p, ps) =
        let all : length (types_in_blocks {N = Text} {V = Value} (block args os bs))
        ≡ length args + length (types_in os) + length (types_in_blocks bs) =
        length-append (args ++ types_in os) (types_in_blocks bs)
        ∙ ap (λ m. m + length (types_in_blocks bs)) (length-append args (types_in os)) in
        let inner = parts (past_block c args) os in
        let later = parts_of_blocks (behind (past_block c args) os) bs in
        subst (AllByRecursion Told) (sym (op-sites-append inner later))
        (all-joined Told (op_sites inner) (op_sites later)
        (ops-told visible count (n + length args) os (past_block c args) low (omega arith) p)
        (blocks-told visible count (n + length args + length (types_in os)) bs
        (behind (past_block c args) os) low (omega arith) ps))

-- of all operations of a proper module
module-told : (loaded : Loaded) (m : WholeModule) → Proper loaded m
    → AllByRecursion (λ (x : OpSite Text Value). IsTold loaded (length (types_in m)) x.head)
    (ops_in m)
module-told loaded m proper =
    ops-told loaded (length (types_in m)) (own_numbers 0 m) 0 0 m first_numbers
    (own-below 0 (length (types_in m)) m (omega arith)) (omega arith) proper.each

-- ---- nesting

module _ {N V M W : Type 0} (f : N → M) (g : V → W) where
  mutual
    depth-mapped : (os : Ops N V) → nesting (mapped f g os) ≡ nesting os
    depth-mapped no_ops = refl
    depth-mapped (then_op head rs os) =
        ap (λ n. max n (nesting (mapped f g os))) (regions-mapped rs)
        ∙ ap (λ n. max (nesting_of_regions rs) n) (depth-mapped os)

    regions-mapped : (rs : Regions N V)
        → nesting_of_regions (mapped_regions f g rs) ≡ nesting_of_regions rs
    regions-mapped no_regions = refl
    regions-mapped (region bs rs) =
        ap (λ n. max (suc n) (nesting_of_regions (mapped_regions f g rs))) (blocks-mapped bs)
        ∙ ap (λ n. max (suc (nesting_of_blocks bs)) n) (regions-mapped rs)

    blocks-mapped : (bs : Blocks N V)
        → nesting_of_blocks (mapped_blocks f g bs) ≡ nesting_of_blocks bs
    blocks-mapped no_blocks = refl
    blocks-mapped (block args os bs) =
        ap (λ n. max n (nesting_of_blocks (mapped_blocks f g bs))) (depth-mapped os)
        ∙ ap (λ n. max (nesting os) n) (blocks-mapped bs)

-- the two words for it say the same
mutual
  depth-nesting : (os : WholeModule) → nesting os ≡ region_depth os
  depth-nesting no_ops = refl
  depth-nesting (then_op head rs os) =
      ap (λ n. max n (nesting os)) (regions-nesting rs)
      ∙ ap (λ n. max (depth_of_regions rs) n) (depth-nesting os)

  regions-nesting : (rs : Regions Text Value) → nesting_of_regions rs ≡ depth_of_regions rs
  regions-nesting no_regions = refl
  regions-nesting (region bs rs) =
      ap (λ n. max (suc n) (nesting_of_regions rs)) (blocks-nesting bs)
      ∙ ap (λ n. max (suc (depth_of_blocks bs)) n) (regions-nesting rs)

  blocks-nesting : (bs : Blocks Text Value) → nesting_of_blocks bs ≡ depth_of_blocks bs
  blocks-nesting no_blocks = refl
  blocks-nesting (block args os bs) =
      ap (λ n. max n (nesting_of_blocks bs)) (depth-nesting os)
      ∙ ap (λ n. max (region_depth os) n) (blocks-nesting bs)

-- ---- a stored module

module _ (loaded : Loaded) (values : List Value) (names : HaveFullNames loaded.types) where
  abbrev whole : ValueId → Value
  whole id = at values id.0

  -- ids of good values
  goods-spelled : (ids : List ValueId) → AreKnown (length values) ids
      → AllByRecursion (IsGood loaded) (map whole ids) → AllByRecursion (CanBeSpelled values) ids
  goods-spelled [] known good = tt
  goods-spelled (id ∷ ids) (k, known) (p, good) = (
    record {
      known = k;
      spellable = good-spellable loaded.values loaded.tests loaded.types (at values id.0) names p;
    },
    goods-spelled ids known good,
  )

  -- ids of good types
  types-spelled : (ids : List ValueId) → AreKnown (length values) ids
      → AllByRecursion (IsGoodType loaded) (map whole ids)
      → AllByRecursion (CanBeSpelled values) ids
  types-spelled [] known good = tt
  types-spelled (id ∷ ids) (k, known) (p, good) = (
    record {
      known = k;
      spellable =
          good-spellable loaded.values loaded.tests loaded.types (at values id.0) names p.good;
    },
    types-spelled ids known good,
  )

  -- operations
  ops-printable : (count top : ℕ) (sites : List Site)
      → AllByRecursion (λ (x : Site). x.head.name.def < count) sites
      → AllByRecursion (λ (x : Site). AreKnown (length values) x.head.values) sites
      → AllByRecursion (λ (x : Site).
      IsTold loaded top (mapped_head (name_in loaded.ops) whole x.head)) sites
      → AllByRecursion (λ (x : Site). OpIsPrintable count top values x.head) sites
  ops-printable count top [] defined known told = tt
  ops-printable count top (x ∷ xs) (d, defined) (k, known) (t, told) = (
    record {
      definition = d;
      operands = t.operands;
      attrs = goods-spelled x.head.values k t.values;
    },
    ops-printable count top xs defined known told,
  )

-- A stored module can be printed where what it stands for is a proper module.
pub proper-printable : (loaded : Loaded) (values : List Value) (m : Module)
    → HaveFullNames loaded.types → HasIds (length values) m
    → NameDefinitions (length loaded.ops) m
    → Proper loaded (seen_module loaded.ops values m) → IsPrintable loaded.ops values m
proper-printable loaded values m names ids defined proper =
    let f = name_in loaded.ops in
    let g : ValueId → Value = λ id. at values id.0 in
    let whole = seen_module loaded.ops values m in
    let types : types_in whole ≡ map g (types_in m) = types-mapped f g m in
    let count : length (types_in whole) ≡ length (types_in m) =
    ap (λ (l : List Value). length l) types ∙ length-map (types_in m) g in
    let told : AllByRecursion (λ (x : Site).
    IsTold loaded (length (types_in m)) (mapped_head f g x.head)) (ops_in m) =
    all-unmapped (mapped_site f g)
    (λ (x : OpSite Text Value). IsTold loaded (length (types_in m)) x.head) (ops_in m)
    (subst (AllByRecursion (λ (x : OpSite Text Value).
    IsTold loaded (length (types_in m)) x.head)) (sites-mapped f g m)
    (subst (λ (k : ℕ). AllByRecursion (λ (x : OpSite Text Value). IsTold loaded k x.head)
    (ops_in whole)) count (module-told loaded whole proper))) in
    record {
      types = types-spelled loaded values names (types_in m) ids.types
          (subst (AllByRecursion (IsGoodType loaded)) types proper.types);
      ops = ops-printable loaded values names (length loaded.ops) (length (types_in m)) (ops_in m)
          defined.each ids.attrs told;
      shallow = subst (λ (k : ℕ). k ≤ 64)
          (sym (depth-nesting whole) ∙ depth-mapped f g m) proper.nested;
    }
