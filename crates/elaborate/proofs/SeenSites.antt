-- The operations of a store, as whole values and names show them, by the ids of what their trees
-- say.
--
--   shaped-sites             each has the shape of its tree
--   site-right, sites-right  each is right beside its tree
--   sites-named              each has the place of its tree, and a definition with its name
--   ids-known                types and attributes are values of the table
--   ids-fit                  the ids fit the tree, so that its module can be built
use Rattle.std.proofs.Common.{◌≡◌, ℕ, List, [], ◌∷◌, ◌++◌, length, map, refl, sym, ◌∙◌, ap, subst}
use Rattle.std.proofs.Common.{slice_get, Some}
use Rattle.std.proofs.lemmas.List.{length-map, map-append}
use Rattle.std.specs.List.{AllByRecursion, AllZip, zip}
use Rattle.attr_value.specs.declared.head.ValueId.{ValueId}
use Rattle.attr_value.specs.Heads.{Ascend}
use Rattle.attr_value.specs.Ids.{at, AreKnown}
use Rattle.attr_value.specs.Values.{Value}
use Rattle.completion_laws.proofs.Flat.{At, Here, ops-flat}
use Rattle.completion_laws.proofs.Forms.{FormShows, form-shows}
use Rattle.completion_laws.specs.Beside.{BlocksBeside, IsRightSite, OpsBeside, RegionsBeside}
use Rattle.dialect_defs.specs.declared.definition.OpDef.{OpDef}
use Rattle.dialect_defs.specs.Operations.{Operation}
use Rattle.dialect_defs.specs.Segments.{parts}
use Rattle.elaborate.proofs.Seen.{all-args-mapped, args-cut}
use Rattle.elaborate.specs.Elaborated.{IsNamedAs}
use Rattle.generic_syntax.specs.declared.module_cst.ArgCst.{ArgCst}
use Rattle.generic_syntax.specs.declared.module_cst.BlockCst.{BlockCst, out-BlockCst}
use Rattle.generic_syntax.specs.declared.module_cst.FormCst.{out-FormCst}
use Rattle.generic_syntax.specs.declared.module_cst.FormCst.TheOpen.{FormCst-F}
use Rattle.generic_syntax.specs.declared.module_cst.GenericCst.{out-GenericCst}
use Rattle.generic_syntax.specs.declared.module_cst.ModuleCst.{ModuleCst}
use Rattle.generic_syntax.specs.declared.module_cst.OpCst.{OpCst, out-OpCst}
use Rattle.generic_syntax.specs.declared.module_cst.RegionCst.{RegionCst, out-RegionCst}
use Rattle.ir_lexer.specs.Spelling.{Text}
use Rattle.ir_store.specs.Modules.{Regions, Blocks, no_ops, then_op, no_regions, region}
use Rattle.ir_store.specs.Modules.{no_blocks, block, block_args, region_args, mapped_regions}
use Rattle.ir_store.specs.Modules.{types_in, types_in_regions, types_in_blocks}
use Rattle.ir_store.specs.Numbering.{Numbers, OpSite, behind, behind_blocks, behind_regions}
use Rattle.ir_store.specs.Numbering.{first_numbers, op_sites, ops_in, past_block, past_op}
use Rattle.ir_store.specs.Numbering.{past_region, parts_of_blocks, parts_of_regions}
use Rattle.ir_store.specs.Numbering as numbering
use Rattle.ir_store.specs.Store.{Module, OpName}
use Rattle.ir_store.proofs.Replay.{op-sites-append}
use Rattle.ir_store.proofs.Sites.{mapped_site}
use Rattle.module_builder.specs.Built.{HasParts, HasPlace, all_args}
use Rattle.module_builder.specs.Fit.{ArgsFit, IdsFit, ShowsResults, blocks_under}
use Rattle.module_faults.specs.declared.ids.OpIds.{OpIds}
use Rattle.module_faults.specs.OpFaults.{block_types}
use Rattle.module_faults.specs.Shape.{BlocksHaveShape, FormFits, HasShape, RegionsHaveShape}
use Rattle.module_faults.specs.Standings.{generic_regions, ops_of, standings}
use Rattle.module_meaning.proofs.GenericFacts.{all-apart}
use Rattle.module_meaning.specs.Completes.{OpCompletes}
use Rattle.module_meaning.specs.Facts.{FormSeen, no_forms}
use Rattle.module_meaning.specs.SeenModules.{name_in}
use Rattle.module_meaning.specs.WholeModules.{IsGood, Loaded, WholeHead, WholeModule}
use Rattle.module_meaning.specs.WholeModules.{operation_with}
use Rattle.op_judgement.specs.Judged.{AreIdsOf, AreKnownIds, operation_of}
use Rattle.op_judgement.specs.Shown.{block_counts, block_trees, successors_in}
use Rattle.op_verifier.specs.Seen as verifier
use Rattle.op_verifier.specs.Seen.{values_at}
use Rattle.value_meaning.specs.Meaning.{Aliases, value_of}

-- ---- shape

-- an operation has the shape of its tree
pub record Shaped (c : OpCst) (head : WholeHead) (rs : Regions Text Value) : Type 0 where
  pub form : FormFits (out-FormCst (out-OpCst c).form) head
  pub regions : RegionsHaveShape (generic_regions c) rs

mutual
  -- so has each beside its tree
  shaped-ops : (cs : List OpCst) (os : WholeModule) → HasShape cs os → OpsBeside (Here Shaped) cs os
  shaped-ops [] no_ops s = tt
  shaped-ops [] (then_op head rs os) s = absurd s
  shaped-ops (c ∷ cs) no_ops s = absurd s
  shaped-ops (c ∷ cs) (then_op head rs os) (fits, names, inner, more) = (
    record { form = fits; regions = inner },
    shaped-regions (generic_regions c) rs inner,
    shaped-ops cs os more,
  )

  shaped-regions : (cs : List RegionCst) (rs : Regions Text Value) → RegionsHaveShape cs rs
      → RegionsBeside (Here Shaped) cs rs
  shaped-regions [] no_regions s = tt
  shaped-regions [] (region bs rs) s = absurd s
  shaped-regions (c ∷ cs) no_regions s = absurd s
  shaped-regions (c ∷ cs) (region bs rs) (s, more) =
      (shaped-blocks (out-RegionCst c).blocks bs s, shaped-regions cs rs more)

  shaped-blocks : (cs : List BlockCst) (bs : Blocks Text Value) → BlocksHaveShape cs bs
      → BlocksBeside (Here Shaped) cs bs
  shaped-blocks [] no_blocks s = tt
  shaped-blocks [] (block args os bs) s = absurd s
  shaped-blocks (c ∷ cs) no_blocks s = absurd s
  shaped-blocks (c ∷ cs) (block args os bs) (long, s, more) =
      (shaped-ops (out-BlockCst c).ops os s, shaped-blocks cs bs more)

-- each operation of a module has the shape of its tree, one by one in the order of the text
pub shaped-sites : (tree : ModuleCst) (m : WholeModule) → HasShape tree.ops m
    → AllZip (At Shaped) (ops_of (standings tree)) (ops_in m)
shaped-sites tree m s = ops-flat Shaped 0 first_numbers tree.ops m (shaped-ops tree.ops m s)

-- as many successors as the form shows
leads-many : (v : FormSeen) (head : WholeHead) → FormFits v head
    → length (successors_in v) ≡ length head.successors
leads-many (FormCst-F.Generic x) head fits = fits.1
leads-many (FormCst-F.Custom k) head fits = absurd fits

-- ---- the operation of ids, where it stands

-- the name of an operation is that of its definition
name-is : (ops : List OpDef) (name : OpName) (d : OpDef) → slice_get ops name.def ≡ Some d
    → name_in ops name ≡ d.name
name-is ops name d is = rw (is, name_in)

module _ (loaded : Loaded) (al : Aliases) (now : List Value) where
  abbrev IdsOf : OpCst → OpIds → Type 0
  IdsOf c ids = AreIdsOf loaded al c now ids

  abbrev value_at : ValueId → Value
  value_at id = at now id.0

  -- an operation with its name and its values
  abbrev pub whole_site : OpSite OpName ValueId → OpSite Text Value
  whole_site x = mapped_site (name_in loaded.ops) value_at x

  -- an operation that has the parts of what its tree says is right
  pub site-right : (c : OpCst) (ids : OpIds) (x : OpSite OpName ValueId) → IdsOf c ids
      → HasParts x ids → Shaped c (whole_site x).head (whole_site x).regions
      → IsRightSite loaded al c (whole_site x)
  site-right c ids x of has shaped =
      let rs = mapped_regions (name_in loaded.ops) value_at x.regions in
      let counts = block_counts (generic_regions c) in
      let results : values_at now ids.results.items ≡ map value_at x.head.results =
      ap (values_at now) (sym has.results) in
      let successors : length (successors_in (out-FormCst (out-OpCst c).form))
      ≡ length x.head.successors =
      leads-many (out-FormCst (out-OpCst c).form) (whole_site x).head shaped.form in
      let keys : ids.keys ≡ x.head.keys = sym has.keys in
      let values : values_at now ids.values ≡ map value_at x.head.values =
      ap (values_at now) (sym has.values) in
      let regions : parts counts (map (values_at now) ids.args) ≡ region_args rs =
      ap (λ l. parts counts (map (values_at now) l)) (sym has.args)
      ∙ (ap (parts counts) (sym (all-args-mapped (name_in loaded.ops) value_at x.regions))
      ∙ sym (args-cut (generic_regions c) rs shaped.regions)) in
      let same : operation_of now c ids
      ≡ operation_with (values_at now ids.operands.items) (whole_site x).head rs =
      λ i. record {
        operands = values_at now ids.operands.items;
        results = results i;
        successors = successors i;
        attrs = zip (keys i) (values i);
        regions = regions i;
      } in
      let completes : OpCompletes loaded no_forms al c
      (operation_with (values_at now ids.operands.items) (whole_site x).head rs) =
      subst (OpCompletes loaded no_forms al c) same of.completes in
      record {
        types = values_at now ids.operands.items;
        completes = completes;
        named = sym completes.named ∙ (of.named
            ∙ sym (name-is loaded.ops x.head.name of.def
            (ap (slice_get loaded.ops) has.def ∙ of.stands)));
        attrs = record {
          ascend = subst Ascend keys of.ascend;
          counts = length-map x.head.values value_at
              ∙ (ap length has.values ∙ (of.counts ∙ ap length keys));
        };
        values = subst (AllByRecursion (IsGood loaded)) values of.good;
      }

  -- so is each
  pub sites-right : (cs : List OpCst) (ids : List OpIds) (xs : List (OpSite OpName ValueId))
      → AllZip IdsOf cs ids → AllZip HasParts xs ids → AllZip (At Shaped) cs (map whole_site xs)
      → AllZip (IsRightSite loaded al) cs (map whole_site xs)
  sites-right [] [] [] p q r = tt
  sites-right [] [] (x ∷ xs) p q r = absurd q
  sites-right [] (i ∷ ids) xs p q r = absurd p
  sites-right (c ∷ cs) [] xs p q r = absurd p
  sites-right (c ∷ cs) (i ∷ ids) [] p q r = absurd q
  sites-right (c ∷ cs) (i ∷ ids) (x ∷ xs) (p, ps) (q, qs) (r, rs) =
      (site-right c i x p q r, sites-right cs ids xs ps qs rs)

  -- each has the place of its tree, and names a definition with its name
  pub sites-named : (cs : List OpCst) (ids : List OpIds) (xs : List (OpSite OpName ValueId))
      → AllZip IdsOf cs ids → AllZip HasParts xs ids → AllZip HasPlace xs cs
      → AllZip (IsNamedAs loaded.ops) cs xs
  sites-named [] [] [] p q r = tt
  sites-named [] [] (x ∷ xs) p q r = absurd q
  sites-named [] (i ∷ ids) xs p q r = absurd p
  sites-named (c ∷ cs) [] xs p q r = absurd p
  sites-named (c ∷ cs) (i ∷ ids) [] p q r = absurd q
  sites-named (c ∷ cs) (i ∷ ids) (x ∷ xs) (p, ps) (q, qs) (r, rs) = (
    record {
      place = r.place;
      definition = p.def;
      defined = ap (slice_get loaded.ops) q.def ∙ p.stands;
      named = p.named;
    },
    sites-named cs ids xs ps qs rs,
  )

  -- the ids are known
  pub all-known : (cs : List OpCst) (ids : List OpIds) → AllZip IdsOf cs ids
      → AllByRecursion (AreKnownIds (length now)) ids
  all-known [] [] p = tt
  all-known [] (i ∷ ids) p = absurd p
  all-known (c ∷ cs) [] p = absurd p
  all-known (c ∷ cs) (i ∷ ids) (p, ps) = (p.known, all-known cs ids ps)

  -- ---- what is built of ids

  -- as many types of results as the form shows
  shows-results : (v : FormSeen) (o : Operation) (n : ℕ) → FormShows al v o → length o.results ≡ n
      → ShowsResults v n
  shows-results (FormCst-F.Generic x) o n shows many =
      sym (length-map (out-GenericCst x).outputs (value_of al))
      ∙ (ap length shows.outputs ∙ (length-map o.results Some ∙ many))
  shows-results (FormCst-F.Custom k) o n shows many = absurd shows

  -- the trees of the types of arguments, block by block
  trees-under : (rs : List RegionCst) → block_trees rs ≡ map block_types (blocks_under rs)
  trees-under [] = refl
  trees-under (r ∷ rs) =
      ap (λ l. map block_types (out-RegionCst r).blocks ++ l) (trees-under rs)
      ∙ sym (map-append block_types (out-RegionCst r).blocks (blocks_under rs))

  first-list : {A : Type 0} (x y : A) (xs ys : List A) → x ∷ xs ≡ y ∷ ys → x ≡ y
  first-list x y xs ys e = cc

  other-lists : {A : Type 0} (x y : A) (xs ys : List A) → x ∷ xs ≡ y ∷ ys → xs ≡ ys
  other-lists x y xs ys e = cc

  -- a type for each argument of each block
  args-fit : (bs : List BlockCst) (args : List (List ValueId))
      → map (map (value_of al)) (map block_types bs) ≡ map (map Some) (map (values_at now) args)
      → AllZip ArgsFit bs args
  args-fit [] [] e = tt
  args-fit [] (a ∷ args) e = absurd (cc)
  args-fit (b ∷ bs) [] e = absurd (cc)
  args-fit (b ∷ bs) (a ∷ args) e =
      let own = (out-BlockCst b).args in
      let one : map (value_of al) (block_types b) ≡ map Some (values_at now a) =
      first-list (map (value_of al) (block_types b)) (map Some (values_at now a))
      (map (map (value_of al)) (map block_types bs))
      (map (map Some) (map (values_at now) args)) e in (
        sym (length-map own (λ (x : ArgCst). x.ty))
            ∙ (sym (length-map (block_types b) (value_of al))
            ∙ (ap length one
            ∙ (length-map (values_at now a) Some ∙ length-map a value_at))),
        args-fit bs args
            (other-lists (map (value_of al) (block_types b)) (map Some (values_at now a))
            (map (map (value_of al)) (map block_types bs))
            (map (map Some) (map (values_at now) args)) e),
      )

  one-fits : (c : OpCst) (ids : OpIds) → IdsOf c ids → IdsFit c ids
  one-fits c ids x =
      let o = operation_of now c ids in
      let v = out-FormCst (out-OpCst c).form in
      let completes = x.completes in
      let many : length (values_at now ids.results.items) ≡ length ids.results.items =
      length-map ids.results.items value_at in
      record {
        shown = shows-results v o (length ids.results.items)
            (form-shows al completes.def o completes.operand_sizes completes.result_sizes v
            completes.shows) many;
        names = λ some. completes.results some ∙ many;
        args = args-fit (blocks_under (generic_regions c)) ids.args
            (ap (map (map (value_of al))) (sym (trees-under (generic_regions c))) ∙ x.args);
        ascend = x.ascend;
        counts = x.counts;
      }

  -- the ids fit their trees
  pub ids-fit : (cs : List OpCst) (ids : List OpIds) → AllZip IdsOf cs ids → AllZip IdsFit cs ids
  ids-fit [] [] p = tt
  ids-fit [] (i ∷ ids) p = absurd p
  ids-fit (c ∷ cs) [] p = absurd p
  ids-fit (c ∷ cs) (i ∷ ids) (p, ps) = (one-fits c i p, ids-fit cs ids ps)

-- ---- known ids

module _ (len : ℕ) where
  -- types and attributes of an operation, and the types of the arguments of its blocks, are known
  record IsKnownSite (x : OpSite OpName ValueId) : Type 0 where
    pub results : AreKnown len x.head.results
    pub values : AreKnown len x.head.values
    pub args : AllByRecursion (AreKnown len) (all_args x.regions)

  abbrev Sites : List (OpSite OpName ValueId) → Type 0
  Sites xs = AllByRecursion IsKnownSite xs

  known-sites : (ids : List OpIds) (xs : List (OpSite OpName ValueId))
      → AllByRecursion (AreKnownIds len) ids → AllZip HasParts xs ids → Sites xs
  known-sites [] [] p q = tt
  known-sites [] (x ∷ xs) p q = absurd q
  known-sites (i ∷ ids) [] p q = absurd q
  known-sites (i ∷ ids) (x ∷ xs) (p, ps) (q, qs) = (
    record {
      results = subst (AreKnown len) (sym q.results) p.results;
      values = subst (AreKnown len) (sym q.values) p.values;
      args = subst (AllByRecursion (AreKnown len)) (sym q.args) p.args;
    },
    known-sites ids xs ps qs,
  )

  known-joined : (xs ys : List ValueId) → AreKnown len xs → AreKnown len ys
      → AreKnown len (xs ++ ys)
  known-joined [] ys p q = q
  known-joined (x ∷ xs) ys (p, ps) q = (p, known-joined xs ys ps q)

  -- operations of parts behind others
  sites-apart : (ps qs : List (numbering.Part OpName ValueId)) → Sites (op_sites (ps ++ qs))
      → Sites (op_sites ps) × Sites (op_sites qs)
  sites-apart ps qs h =
      all-apart IsKnownSite (op_sites ps) (op_sites qs) (subst Sites (op-sites-append ps qs) h)

  mutual
    types-known : (start : Numbers) (os : Module) → Sites (op_sites (numbering.parts start os))
        → AreKnown len (types_in os)
    types-known start no_ops h = tt
    types-known start (then_op head rs os) (p, h) =
        let cut = sites-apart (parts_of_regions (past_op start head) rs)
        (numbering.parts (behind_regions (past_op start head) rs) os) h in
        known-joined (head.results ++ types_in_regions rs) (types_in os)
        (known-joined head.results (types_in_regions rs) p.results
        (regions-known (past_op start head) rs p.args cut.0))
        (types-known (behind_regions (past_op start head) rs) os cut.1)

    regions-known : (start : Numbers) (rs : Regions OpName ValueId)
        → AllByRecursion (AreKnown len) (all_args rs) → Sites (op_sites (parts_of_regions start rs))
        → AreKnown len (types_in_regions rs)
    regions-known start no_regions a h = tt
    regions-known start (region bs rs) a h =
        let args = all-apart (AreKnown len) (block_args bs) (all_args rs) a in
        let cut = sites-apart (parts_of_blocks (past_region start) bs)
        (parts_of_regions (behind_blocks (past_region start) bs) rs) h in
        known-joined (types_in_blocks bs) (types_in_regions rs)
        (blocks-known (past_region start) bs args.0 cut.0)
        (regions-known (behind_blocks (past_region start) bs) rs args.1 cut.1)

    blocks-known : (start : Numbers) (bs : Blocks OpName ValueId)
        → AllByRecursion (AreKnown len) (block_args bs)
        → Sites (op_sites (parts_of_blocks start bs))
        → AreKnown len (types_in_blocks bs)
    blocks-known start no_blocks a h = tt
    blocks-known start (block args os bs) (a, more) h =
        let cut = sites-apart (numbering.parts (past_block start args) os)
        (parts_of_blocks (behind (past_block start args) os) bs) h in
        known-joined (args ++ types_in os) (types_in_blocks bs)
        (known-joined args (types_in os) a (types-known (past_block start args) os cut.0))
        (blocks-known (behind (past_block start args) os) bs more cut.1)

  attrs-known : (xs : List (OpSite OpName ValueId)) → Sites xs
      → AllByRecursion (λ (x : OpSite OpName ValueId). AreKnown len x.head.values) xs
  attrs-known [] h = tt
  attrs-known (x ∷ xs) (p, ps) = (p.values, attrs-known xs ps)

  -- types and attributes of a store that has known ids are known
  pub ids-known : (ids : List OpIds) (m : Module) → AllByRecursion (AreKnownIds len) ids
      → AllZip HasParts (ops_in m) ids → verifier.HasIds len m
  ids-known ids m known has =
      let sites = known-sites ids (ops_in m) known has in
      record {
        types = types-known first_numbers m sites;
        attrs = attrs-known (ops_in m) sites;
      }
