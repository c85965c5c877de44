-- An operation in generic form whose values aren't at fault: what completes its tree is what the
-- ids show, and what they show completes it where it breaks no rule.
use Rattle.std.proofs.Common.{◌≡◌, ◌≢◌, ◌∙◌, ◌⊎◌, inl, inr, ℕ, suc, Bool, true, false, List, [], ◌∷◌}
use Rattle.std.proofs.Common.{◌++◌, ◌+◌, length, map, sum, take, drop, refl, sym, ap, subst, arith}
use Rattle.std.proofs.Common.{Contains, slice_get, option_map, length-append}
use Rattle.std.proofs.lemmas.Bool.{cases_eq}
use Rattle.std.proofs.lemmas.List.{drop-map, length-map, take-map}
use Rattle.std.proofs.lemmas.List.Elements.{Contains-append_left, Contains-append_right}
use Rattle.std.proofs.lemmas.List.Elements.{Contains-append_cases}
use Rattle.std.proofs.lemmas.List.Sums.{sum_by-cons}
use Rattle.std.proofs.lemmas.Simd.{map-map}
use Rattle.std.specs.List.{AllByRecursion, flat_map}
use Rattle.std.specs.declared.option.Option.TheVariants.{Some, None}
use Rattle.attr_value.specs.declared.head.ValueId.{ValueId}
use Rattle.attr_value.specs.Heads.{IsType}
use Rattle.attr_value.specs.Ids.{AreKnown}
use Rattle.attr_value.specs.Values.{Value}
use Rattle.constraint_solver.specs.Grown.{Extends}
use Rattle.constraint_solver.proofs.Grows.{meets-grows, meets-shrinks}
use Rattle.dialect_defs.specs.declared.definition.OpDef.{OpDef}
use Rattle.dialect_defs.specs.Bodies.{IsSoundBody}
use Rattle.dialect_defs.specs.Assignments.{Assignment, Tests, MeetsBody}
use Rattle.dialect_defs.specs.Operations.{MeetsBy, MeetsDefinition, Operation, attr_at}
use Rattle.dialect_defs.specs.Segments.{parts}
use Rattle.dialect_registry.specs.Parts.{Among}
use Rattle.first_fault.specs.declared.fault.Fault.{Fault}
use Rattle.generic_syntax.specs.declared.cst.ValueCst.{ValueCst}
use Rattle.generic_syntax.specs.declared.module_cst.ArgCst.{ArgCst}
use Rattle.generic_syntax.specs.declared.module_cst.BlockCst.{BlockCst, out-BlockCst}
use Rattle.generic_syntax.specs.declared.module_cst.FormCst.{out-FormCst}
use Rattle.generic_syntax.specs.declared.module_cst.FormCst.TheOpen.{FormCst-F}
use Rattle.generic_syntax.specs.declared.module_cst.GenericCst.{GenericCst, out-GenericCst}
use Rattle.generic_syntax.specs.declared.module_cst.OpCst.{OpCst, out-OpCst}
use Rattle.generic_syntax.specs.declared.module_cst.RegionCst.{RegionCst, out-RegionCst}
use Rattle.module_faults.specs.OpFaults.{HasValueFault, IsKeyFault, IsValueFault, block_types}
use Rattle.module_faults.specs.OpFaults.{told_values}
use Rattle.module_meaning.specs.Completes.{OpCompletes}
use Rattle.module_meaning.specs.Facts.{FormSeen, dict_in, facts_in, form_facts, generic_facts}
use Rattle.module_meaning.specs.Facts.{hides_in, name_in, no_forms, number_is}
use Rattle.module_meaning.specs.Names.{pack_size}
use Rattle.module_meaning.specs.Says.{Shows, ShowsGeneric, argument_types}
use Rattle.module_meaning.specs.WholeModules.{IsGood, IsGoodType, Loaded}
use Rattle.module_meaning.proofs.GenericForm.{generic-shows, shows-generic}
use Rattle.module_meaning.proofs.Places.{map-map-some, map-some, option-some}
use Rattle.module_meaning.proofs.Told.{both-hold}
use Rattle.op_judgement.specs.declared.parts.Parts.{Parts}
use Rattle.op_judgement.specs.Arity.{GenericListsDiffer, values_named}
use Rattle.op_judgement.specs.Entered.{IsEntryFault, entry_trees}
use Rattle.op_judgement.specs.Found.{AreEach, IsTreeFault}
use Rattle.op_judgement.specs.Grounds.{Basis, IsGround, loaded_by}
use Rattle.op_judgement.specs.Parts.{AreKnownParts, ArePartsOf, IsGenericFault, IsShownBy}
use Rattle.op_judgement.specs.Parts.{entries_of}
use Rattle.op_judgement.specs.Rules.{IsSatisfiedBy}
use Rattle.op_judgement.specs.Shown.{block_counts, block_trees}
use Rattle.op_judgement.proofs.Cutting.{all-parts, each-both, each-map}
use Rattle.op_judgement.proofs.GenericTold.{among-flat, flat-among, no-number, told-generic}
use Rattle.op_verifier.specs.Seen.{values_at}
use Rattle.op_verifier.specs.Views.{listed_regions}
use Rattle.op_verifier.proofs.Judging.{all-map}
use Rattle.value_meaning.specs.Meaning.{Aliases, value_of}

-- ---- faults

module _ (loaded : Loaded) (al : Aliases) (c : OpCst) (g : GenericCst)
    (form : out-FormCst (out-OpCst c).form ≡ FormCst-F.Generic g) (f : Fault) where
  -- what the tree tells are the form's facts
  facts-are : form_facts no_forms c ≡ generic_facts g
  facts-are = ap (facts_in no_forms) form

  abbrev flat_blocks : List ValueCst
  flat_blocks = flat_map (λ (l : List ValueCst). l) (block_trees (out-GenericCst g).regions)

  abbrev flat_entries : List ValueCst
  flat_entries = flat_map entry_trees (entries_of g)

  -- a tree of the form at fault
  tree-generic : (tree : ValueCst) → IsTreeFault loaded al tree f
      → Contains ((out-GenericCst g).inputs ++ ((out-GenericCst g).outputs
      ++ (flat_entries ++ flat_blocks))) tree → IsGenericFault loaded al g f
  tree-generic tree fault has = elim (Contains-append_cases (out-GenericCst g).inputs _ tree has) [
    | inl h ↦ inl (inl (tree, h, fault))
    | inr later ↦ elim (Contains-append_cases (out-GenericCst g).outputs _ tree later) [
      | inl h ↦ inl (inr (tree, h, fault))
      | inr last ↦ elim (Contains-append_cases flat_entries flat_blocks tree last) [
        | inl h ↦ inr (inl (inr (among-flat (IsTreeFault loaded al) entry_trees (entries_of g) f
            (tree, h, fault))))
        | inr h ↦ inr (inr (among-flat (IsTreeFault loaded al) (λ (l : List ValueCst). l)
            (block_trees (out-GenericCst g).regions) f (tree, h, fault)))
      ]
    ]
  ]

  -- a fault of a value is one of the form
  pub value-generic : IsValueFault loaded no_forms al c f → IsGenericFault loaded al g f
  value-generic (inl x) =
      tree-generic x.tree x.fault
      (subst (λ ts. Contains ts x.tree) (ap told_values facts-are ∙ told-generic g) x.told)
  value-generic (inr (inl key)) =
      inr (inl (inl (subst
      (λ (s : FormSeen). IsKeyFault (hides_in no_forms s).keys (dict_in (facts_in no_forms s)) f)
      form key)))
  value-generic (inr (inr number)) =
      absurd (no-number g number.key number.kind (Some number.item)
      (subst (λ facts. Contains facts (number_is number.key number.kind (Some number.item)))
      facts-are number.told))

  -- a tree that is told
  told-tree : (tree : ValueCst) → Contains ((out-GenericCst g).inputs
      ++ ((out-GenericCst g).outputs ++ (flat_entries ++ flat_blocks))) tree
      → IsTreeFault loaded al tree f → IsValueFault loaded no_forms al c f
  told-tree tree has fault = inl (record {
    tree = tree;
    told = subst (λ ts. Contains ts tree) (sym (ap told_values facts-are ∙ told-generic g)) has;
    fault = fault;
  })

  -- and the other way round
  pub generic-value : IsGenericFault loaded al g f → IsValueFault loaded no_forms al c f
  generic-value (inl (inl (tree, has, fault))) =
      told-tree tree (Contains-append_left (out-GenericCst g).inputs _ tree has) fault
  generic-value (inl (inr (tree, has, fault))) =
      told-tree tree (Contains-append_right (out-GenericCst g).inputs _ tree
      (Contains-append_left (out-GenericCst g).outputs _ tree has)) fault
  generic-value (inr (inl (inl key))) =
      inr (inl (subst
      (λ (s : FormSeen). IsKeyFault (hides_in no_forms s).keys (dict_in (facts_in no_forms s)) f)
      (sym form) key))
  generic-value (inr (inl (inr x))) =
      let (tree, has, fault) = flat-among (IsTreeFault loaded al) entry_trees (entries_of g) f x in
      told-tree tree (Contains-append_right (out-GenericCst g).inputs _ tree
      (Contains-append_right (out-GenericCst g).outputs _ tree
      (Contains-append_left flat_entries flat_blocks tree has))) fault
  generic-value (inr (inr x)) =
      let (tree, has, fault) = flat-among (IsTreeFault loaded al) (λ (l : List ValueCst). l)
      (block_trees (out-GenericCst g).regions) f x in
      told-tree tree (Contains-append_right (out-GenericCst g).inputs _ tree
      (Contains-append_right (out-GenericCst g).outputs _ tree
      (Contains-append_right flat_entries flat_blocks tree has))) fault

-- ---- regions

module _ (loaded : Loaded) (al : Aliases) (now : List Value) where
  -- as many lists of ids as blocks, and each known
  each-length : (blocks : List (List ValueCst)) (args : List (List ValueId))
      → AreEach loaded al blocks now args → length blocks ≡ length args
  each-length [] [] each = refl
  each-length (b ∷ blocks) (a ∷ args) each = ap suc (each-length blocks args each.1)
  each-length [] (a ∷ args) each = absurd each
  each-length (b ∷ blocks) [] each = absurd each

  each-known : (blocks : List (List ValueCst)) (args : List (List ValueId))
      → AreEach loaded al blocks now args → AllByRecursion (AreKnown (length now)) args
  each-known [] [] each = tt
  each-known (b ∷ blocks) (a ∷ args) each = (each.0.known, each-known blocks args each.1)
  each-known [] (a ∷ args) each = absurd each
  each-known (b ∷ blocks) [] each = absurd each

  -- what they spell
  pub each-spells : (blocks : List (List ValueCst)) (args : List (List ValueId))
      → AreEach loaded al blocks now args
      → map (map (value_of al)) blocks ≡ map (map Some) (map (values_at now) args)
  each-spells [] [] each = refl
  each-spells (b ∷ blocks) (a ∷ args) each =
      ap (λ l. l ∷ map (map (value_of al)) blocks) each.0.spell
      ∙ ap (λ l. map Some (values_at now a) ∷ l) (each-spells blocks args each.1)
  each-spells [] (a ∷ args) each = absurd each
  each-spells (b ∷ blocks) [] each = absurd each

  -- and that it is good
  pub each-good : (blocks : List (List ValueCst)) (args : List (List ValueId))
      → AreEach loaded al blocks now args
      → AllByRecursion (AllByRecursion (IsGood loaded))
      (map (values_at now) args)
  each-good [] [] each = tt
  each-good (b ∷ blocks) (a ∷ args) each = (each.0.good, each-good blocks args each.1)
  each-good [] (a ∷ args) each = absurd each
  each-good (b ∷ blocks) [] each = absurd each

  -- lists of two lots of blocks
  each-split : (xs ys : List (List ValueCst)) (args : List (List ValueId))
      → AreEach loaded al (xs ++ ys) now args
      → AreEach loaded al xs now (take (length xs) args)
      × AreEach loaded al ys now (drop (length xs) args)
  each-split [] ys args each = (tt, each)
  each-split (x ∷ xs) ys (a ∷ args) each =
      let rest = each-split xs ys args each.1 in ((each.0, rest.0), rest.1)
  each-split (x ∷ xs) ys [] each = absurd each

  -- the arguments that a region shows
  region-shown : (r : RegionCst) (args : List (List ValueId))
      → AreEach loaded al (map block_types (out-RegionCst r).blocks) now args
      → argument_types al r ≡ map (map Some) (map (values_at now) args)
  region-shown r args each =
      sym (map-map (map (value_of al)) block_types (out-RegionCst r).blocks
      ∙ blocks-shown (out-RegionCst r).blocks)
      ∙ each-spells (map block_types (out-RegionCst r).blocks) args each
    where
      blocks-shown : (bs : List BlockCst) → map (λ b. map (value_of al) (block_types b)) bs
          ≡ map (λ b. map (λ (x : ArgCst). value_of al x.ty) (out-BlockCst b).args) bs
      blocks-shown [] = refl
      blocks-shown (b ∷ bs) =
          ap (λ l. l ∷ map (λ b. map (value_of al) (block_types b)) bs)
          (map-map (value_of al) (λ (x : ArgCst). x.ty) (out-BlockCst b).args)
          ∙ ap (λ l. map (λ (x : ArgCst). value_of al x.ty) (out-BlockCst b).args ∷ l)
          (blocks-shown bs)

  -- and those that all do
  regions-shown : (rs : List RegionCst) (args : List (List ValueId))
      → AreEach loaded al (block_trees rs) now args
      → map (argument_types al) rs
      ≡ map (map (map Some)) (listed_regions now (block_counts rs) args)
  regions-shown [] args each = refl
  regions-shown (r ∷ rs) args each =
      let bs = (out-RegionCst r).blocks in
      let cut = each-split (map block_types bs) (block_trees rs) args each in
      let n : length (map block_types bs) ≡ length bs = length-map bs block_types in
      let first = region-shown r (take (length (map block_types bs)) args) cut.0 in
      let later = regions-shown rs (drop (length (map block_types bs)) args) cut.1 in
      ap (λ l. l ∷ map (argument_types al) rs)
      (first ∙ ap (map (map Some)) (sym (take-map (values_at now) (length (map block_types bs)) args)
      ∙ ap (λ k. take k (map (values_at now) args)) n))
      ∙ ap (λ l. map (map Some) (take (length bs) (map (values_at now) args)) ∷ l)
      (later ∙ ap (λ l. map (map (map Some)) (parts (block_counts rs) l))
      (sym (drop-map (values_at now) (length (map block_types bs)) args)
      ∙ ap (λ k. drop k (map (values_at now) args)) n))

-- there are as many trees of blocks as blocks
blocks-counted : (rs : List RegionCst) → sum (block_counts rs) ≡ length (block_trees rs)
blocks-counted [] = refl
blocks-counted (r ∷ rs) =
    let bs = (out-RegionCst r).blocks in
    sum_by-cons (λ n. n) (length bs) (block_counts rs)
    ∙ ap (λ k. length bs + k) (blocks-counted rs)
    ∙ sym (length-append (map block_types bs) (block_trees rs)
    ∙ ap (λ k. k + length (block_trees rs)) (length-map bs block_types))

-- the same of lists of lists of lists
map-map-map-some : {A : Type 0} (xs ys : List (List (List A)))
    → map (map (map Some)) xs ≡ map (map (map Some)) ys → xs ≡ ys
map-map-map-some [] [] e = refl
map-map-map-some [] (y ∷ ys) e = absurd (cc)
map-map-map-some (x ∷ xs) [] e = absurd (cc)
map-map-map-some (x ∷ xs) (y ∷ ys) e =
    let heads : map (map Some) x ≡ map (map Some) y = cc in
    let tails : map (map (map Some)) xs ≡ map (map (map Some)) ys = cc in
    let head : x ≡ y = map-map-some x y heads in
    let tail : xs ≡ ys = map-map-map-some xs ys tails in
    cc

-- ids of what the form shows are known
pub parts-known : (loaded : Loaded) (al : Aliases) (g : GenericCst) (now : List Value)
    (ids : Parts) → ArePartsOf loaded al g now ids → AreKnownParts (length now) g ids
parts-known loaded al g now ids x = record {
  operands = x.operands.known;
  results = x.results.known;
  ascend = x.attrs.ascend;
  counts = x.attrs.counts;
  values = x.attrs.known;
  args = each-known loaded al now (block_trees (out-GenericCst g).regions) ids.args x.args;
  total = blocks-counted (out-GenericCst g).regions
      ∙ each-length loaded al now (block_trees (out-GenericCst g).regions) ids.args x.args;
}

-- ---- what the form shows

module _ (loaded : Loaded) (al : Aliases) (g : GenericCst) (now : List Value) (ids : Parts)
    (are : ArePartsOf loaded al g now ids) (o : Operation) where
  -- an operation that the form shows is that of the ids
  pub shown-by : ShowsGeneric al g o → IsShownBy now g ids o
  shown-by s = record {
    operands = map-some _ _ (sym s.inputs ∙ are.operands.spell);
    results = map-some _ _ (sym s.outputs ∙ are.results.spell);
    successors = sym s.successors;
    attrs = λ key. option-some _ _ (sym (s.attrs key) ∙ are.attrs.same key);
    regions = map-map-map-some _ _ (sym s.regions
        ∙ regions-shown loaded al now (out-GenericCst g).regions ids.args are.args);
  }

  -- and the form shows it, where there are as many uses as types
  pub shown-generic : length (out-GenericCst g).operands ≡ length (out-GenericCst g).inputs
      → IsShownBy now g ids o → ShowsGeneric al g o
  shown-generic uses s =
      let ins : map (value_of al) (out-GenericCst g).inputs ≡ map Some o.operands =
      are.operands.spell ∙ ap (map Some) (sym s.operands) in
      record {
        uses = uses ∙ sym (length-map (out-GenericCst g).inputs (value_of al)) ∙ ap length ins
            ∙ length-map o.operands Some;
        inputs = ins;
        outputs = are.results.spell ∙ ap (map Some) (sym s.results);
        attrs = λ key. are.attrs.same key ∙ ap (option_map Some) (sym (s.attrs key));
        distinct = are.attrs.distinct;
        successors = sym s.successors;
        regions = regions-shown loaded al now (out-GenericCst g).regions ids.args are.args
            ∙ ap (map (map (map Some))) (sym s.regions);
      }

-- ---- definitions

-- to meet a definition by another table
meets-over : (vs ws : List Value) (tests : Tests) (d : OpDef) (o : Operation) (ins outs : List ℕ)
    (a : Assignment) → (MeetsBody vs tests d.body a → MeetsBody ws tests d.body a)
    → MeetsBy vs tests d o ins outs a → MeetsBy ws tests d o ins outs a
meets-over vs ws tests d o ins outs a body m = record {
  operand_segments = m.operand_segments;
  result_segments = m.result_segments;
  body = body m.body;
  operands = m.operands;
  results = m.results;
  attrs = m.attrs;
  successors = m.successors;
  regions = m.regions;
}

-- two numbers that aren't different are the same
not-different : (m n : ℕ) → (m ≢ n → ⊥) → m ≡ n
not-different m n h = elim (cases_eq m n) [ inl same ↦ same | inr differ ↦ absurd (h differ) ]

module _ (b : Basis) {old now : List Value} (grown : Extends old now) (al : Aliases) (c : OpCst)
    (g : GenericCst) (form : out-FormCst (out-OpCst c).form ≡ FormCst-F.Generic g) (ids : Parts)
    (are : ArePartsOf (loaded_by b old) al g now ids) (d : OpDef)
    (sound : IsSoundBody (length old) b.count d.body) (o : Operation) where
  -- an operation that completes the tree by the definition is that of the ids, and meets it
  pub completed : (x : OpCompletes (loaded_by b old) no_forms al c o) → x.def ≡ d
      → IsShownBy now g ids o × IsSatisfiedBy now b.tests d o
  completed x same =
      let shows = subst
      (λ (s : FormSeen). Shows al x.def (hides_in no_forms s) (facts_in no_forms s) o
      x.operand_sizes x.result_sizes) form x.shows in
      let meets = subst (λ (e : OpDef). MeetsBy old b.tests e o x.operand_sizes x.result_sizes
      x.assignment) same x.meets in (
        shown-by (loaded_by b old) al g now ids are o
            (generic-shows al x.def g o x.operand_sizes x.result_sizes shows),
        record {
          operands = all-map (IsGoodType (loaded_by b old)) IsType o.operands (λ t good. good.type)
              x.operand_types;
          results = all-map (IsGoodType (loaded_by b old)) IsType o.results (λ t good. good.type)
              x.result_types;
          arguments = each-map (IsGoodType (loaded_by b old)) IsType (λ t good. good.type) o.regions
              x.argument_types;
          meets = record {
            operand_sizes = x.operand_sizes;
            result_sizes = x.result_sizes;
            assignment = x.assignment;
            meets = meets-over old now b.tests d o x.operand_sizes x.result_sizes x.assignment
                (λ body. meets-grows grown sound body) meets;
          };
        },
      )

  -- types that are good
  good-types : (ts : List Value) (is : List ValueId) → ts ≡ values_at now is
      → AllByRecursion (IsGood (loaded_by b old)) (values_at now is)
      → AllByRecursion IsType ts → AllByRecursion (IsGoodType (loaded_by b old)) ts
  good-types ts is same good types =
      all-map _ (IsGoodType (loaded_by b old)) ts
      (λ t x. record { good = x.0; type = x.1 })
      (both-hold _ IsType ts (subst (AllByRecursion _) (sym same) good) types)

  -- and those of arguments
  good-arguments : (args : List (List ValueId))
      → AreEach (loaded_by b old) al (block_trees (out-GenericCst g).regions) now args
      → o.regions ≡ listed_regions now (block_counts (out-GenericCst g).regions) args
      → AllByRecursion (AllByRecursion (AllByRecursion IsType)) o.regions
      → AllByRecursion (AllByRecursion (AllByRecursion (IsGoodType (loaded_by b old)))) o.regions
  good-arguments args each same types =
      let good = subst (AllByRecursion (AllByRecursion (AllByRecursion (IsGood (loaded_by b old)))))
      (sym same) (all-parts (AllByRecursion (IsGood (loaded_by b old)))
      (block_counts (out-GenericCst g).regions) (map (values_at now) args)
      (each-good (loaded_by b old) al now (block_trees (out-GenericCst g).regions) args each)) in
      each-both (IsGood (loaded_by b old)) IsType (IsGoodType (loaded_by b old))
      (λ t x y. record { good = x; type = y }) o.regions good types

  -- and the operation of the ids completes it, where it meets the definition and lists are right
  pub completing : Contains b.registry.ops d → (out-GenericCst g).name ≡ d.name
      → (GenericListsDiffer g (out-OpCst c).results → ⊥) → IsShownBy now g ids o
      → IsSatisfiedBy now b.tests d o → OpCompletes (loaded_by b old) no_forms al c o
  completing known named fit shown satisfied =
      let m = satisfied.meets in
      let uses = not-different (length (out-GenericCst g).operands)
      (length (out-GenericCst g).inputs) (λ e. fit (inl e)) in
      let outs : length (out-GenericCst g).outputs ≡ length o.results =
      sym (length-map (out-GenericCst g).outputs (value_of al)) ∙ ap length are.results.spell
      ∙ length-map (values_at now ids.results.items) Some ∙ ap length (sym shown.results) in
      record {
        def = d;
        operand_sizes = m.operand_sizes;
        result_sizes = m.result_sizes;
        assignment = m.assignment;
        known = known;
        named = ap name_in form ∙ named;
        shows = subst
            (λ (s : FormSeen). Shows al d (hides_in no_forms s) (facts_in no_forms s) o
            m.operand_sizes m.result_sizes) (sym form)
            (shows-generic al d g o m.operand_sizes m.result_sizes
            (shown-generic (loaded_by b old) al g now ids are o uses shown));
        results = λ some. not-different (values_named (out-OpCst c).results)
            (length (out-GenericCst g).outputs) (λ e. fit (inr (some, e))) ∙ outs;
        operand_types = good-types o.operands ids.operands.items shown.operands are.operands.good
            satisfied.operands;
        result_types = good-types o.results ids.results.items shown.results are.results.good
            satisfied.results;
        argument_types = good-arguments ids.args are.args shown.regions satisfied.arguments;
        meets = meets-over now old b.tests d o m.operand_sizes m.result_sizes m.assignment
            (λ body. meets-shrinks grown sound body) m.meets;
      }
