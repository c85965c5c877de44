-- From ids to what they name: the marks of several ids are those of the operations, regions or
-- blocks that they name, and so is what is there. By recursion on the module.
--
--   op-is, region-is, block-is            an id below the count names what is here
--   ops-marked, regions-marked, blocks-marked      the marks of ids
--   ops-there, regions-there, blocks-there         each id is that of something that has room
use Rattle.std.proofs.Common.{◌≡◌, ℕ, zero, suc, ◌+◌, ◌*◌, ◌<◌, ◌≤◌, List, [], ◌∷◌, ◌++◌, length, map, refl, sym, ◌∙◌, ap, arith, Some, cond}
use Rattle.std.proofs.lemmas.List.{length-map}
use Rattle.std.proofs.lemmas.Option.{slice_get-get_or, get_or_from_slice_get}
use Rattle.std.specs.List.{AllByRecursion}
use Rattle.attr_value.specs.declared.head.ValueId.{ValueId}
use Rattle.attr_value.specs.Values.{Value}
use Rattle.dialect_defs.specs.declared.definition.OpDef.{OpDef}
use Rattle.ir_lexer.specs.Spelling.{Text}
use Rattle.ir_store.specs.declared.rows.OpId.{OpId}
use Rattle.ir_store.specs.declared.rows.RegionId.{RegionId}
use Rattle.ir_store.specs.declared.rows.BlockId.{BlockId}
use Rattle.ir_store.specs.Modules.{OpHead, Regions, Blocks, no_ops, then_op, no_regions}
use Rattle.ir_store.specs.Modules.{region, no_blocks, block, types_in, types_in_regions}
use Rattle.ir_store.specs.Modules.{types_in_blocks, mapped, mapped_head, mapped_regions}
use Rattle.ir_store.specs.Modules.{mapped_blocks}
use Rattle.ir_store.specs.Named.{op_at, region_at, block_at, AreOps, AreRegions, AreBlocks}
use Rattle.ir_store.specs.Numbering.{Numbers, OpSite, RegionSite, BlockSite, past_op, past_region}
use Rattle.ir_store.specs.Numbering.{past_block, behind, behind_regions, behind_blocks}
use Rattle.ir_store.specs.Numbering.{ops_in, regions_in, blocks_in}
use Rattle.ir_store.specs.Store.{OpName, Module}
use Rattle.ir_store.proofs.Inside.{counts-ops, counts-regions, counts-blocks}
use Rattle.ir_store.proofs.Sites.{op-within, region-within, block-within}
use Rattle.ir_store.proofs.Sites.{types-mapped, types-mapped_regions, types-mapped_blocks}
use Rattle.derived_printer.specs.declared.form.Form.{Form}
use Rattle.derived_printer.specs.ModuleMarks.{View, form_marks, name_in}
use Rattle.derived_printer.specs.ModuleMarks.{op_marks, ops_marks, regions_marks, blocks_marks}
use Rattle.derived_printer.specs.ModuleMarks.{label_marks, has_label, braced_marks}
use Rattle.derived_printer.specs.ModuleParts.{op_here, region_here, block_here, value_of_id}
use Rattle.derived_printer.specs.ModuleParts.{all_types, op_marks_at, region_marks_at}
use Rattle.derived_printer.specs.ModuleParts.{block_marks_at, ops_marks_of, blocks_marks_of}
use Rattle.derived_printer.specs.ModuleParts.{OpIsThere, RegionIsThere, BlockIsThere}
use Rattle.derived_printer.specs.Printable.{nesting, nesting_of_regions, nesting_of_blocks}
use Rattle.derived_printer.specs.ValueMarks.{Marks}

-- ---- what is here

pub op-is : (m : Module) (id : OpId) → id.0 < length (ops_in m) → op_at m id ≡ Some (op_here m id)
op-is m id less = slice_get-get_or (ops_in m) id.0 _ less

-- the same of a region
pub region-is : (m : Module) (id : RegionId) → id.0 < length (regions_in m)
    → region_at m id ≡ Some (region_here m id)
region-is m id less = slice_get-get_or (regions_in m) id.0 _ less

-- the same of a block
pub block-is : (m : Module) (id : BlockId) → id.0 < length (blocks_in m)
    → block_at m id ≡ Some (block_here m id)
block-is m id less = slice_get-get_or (blocks_in m) id.0 _ less

op-here : (m : Module) (id : OpId) (x : OpSite OpName ValueId) → op_at m id ≡ Some x
    → op_here m id ≡ x
op-here m id x e = get_or_from_slice_get (ops_in m) id.0 x _ e

region-here : (m : Module) (id : RegionId) (x : RegionSite OpName ValueId)
    → region_at m id ≡ Some x → region_here m id ≡ x
region-here m id x e = get_or_from_slice_get (regions_in m) id.0 x _ e

block-here : (m : Module) (id : BlockId) (x : BlockSite OpName ValueId) → block_at m id ≡ Some x
    → block_here m id ≡ x
block-here m id x e = get_or_from_slice_get (blocks_in m) id.0 x _ e

-- ---- numbers

module _ (defs : List OpDef) (values : List Value) where
  abbrev f : OpName → Text
  f = name_in defs

  abbrev g : ValueId → Value
  g = value_of_id values

  -- the number behind an operation
  behind-op : (head : OpHead OpName ValueId) (rs : Regions OpName ValueId) (c : Numbers) (n : ℕ)
      → n ≡ c.values
      → n + length (map g head.results) + length (types_in_regions (mapped_regions f g rs))
      ≡ (behind_regions (past_op c head) rs).values
  behind-op head rs c n e =
      let a = length-map head.results g in
      let b = ap length (types-mapped_regions f g rs) ∙ length-map (types_in_regions rs) g in
      let k = (counts-regions rs (past_op c head)).values in
      omega (arith, a, b, k, e)

  -- the number behind a region
  behind-region : (bs : Blocks OpName ValueId) (c : Numbers) (n : ℕ) → n ≡ c.values
      → n + length (types_in_blocks (mapped_blocks f g bs))
      ≡ (behind_blocks (past_region c) bs).values
  behind-region bs c n e =
      let b = ap length (types-mapped_blocks f g bs) ∙ length-map (types_in_blocks bs) g in
      let k = (counts-blocks bs (past_region c)).values in
      omega (arith, b, k, e)

  -- the number behind a block
  behind-block : (args : List ValueId) (os : Module) (c : Numbers) (n : ℕ) → n ≡ c.values
      → n + length (map g args) + length (types_in (mapped f g os))
      ≡ (behind (past_block c args) os).values
  behind-block args os c n e =
      let a = length-map args g in
      let b = ap length (types-mapped f g os) ∙ length-map (types_in os) g in
      let k = (counts-ops os (past_block c args)).values in
      omega (arith, a, b, k, e)

  -- whether there is a label is the same with other names and values
  label-mapped : (k : ℕ) (args : List ValueId) (os : Module)
      → has_label k (map g args) (mapped f g os) ≡ has_label k args os
  label-mapped zero [] no_ops = refl
  label-mapped zero [] (then_op head rs os) = refl
  label-mapped zero (t ∷ args) os = refl
  label-mapped (suc k) args os = refl

-- ---- marks

module _ (form : Form) (defs : List OpDef) (values : List Value) (m : Module) where
  abbrev F : View → Marks
  F = form_marks form defs

  abbrev T : List Value
  T = all_types form defs values m

  abbrev of_op : ℕ → OpSite OpName ValueId → Marks
  of_op indent x =
      op_marks F T indent x.at.values (mapped_head (name_in defs) (value_of_id values) x.head)
      (regions_marks F T indent (x.at.values + length x.head.results)
      (mapped_regions (name_in defs) (value_of_id values) x.regions))

  -- the marks of operations
  pub ops-marked : (ids : List OpId) (os : Module) (c : Numbers) (n indent : ℕ) → n ≡ c.values
      → AreOps m c ids os
      → ops_marks_of form defs values m indent ids
      ≡ ops_marks F T indent n (mapped (name_in defs) (value_of_id values) os)
  ops-marked [] no_ops c n indent e x = refl
  ops-marked [] (then_op head rs os) c n indent e x = absurd x
  ops-marked (id ∷ ids) no_ops c n indent e x = absurd x
  ops-marked (id ∷ ids) (then_op head rs os) c n indent e x =
      let site : OpSite OpName ValueId = record { at = c; head = head; regions = rs } in
      let head' = mapped_head (name_in defs) (value_of_id values) head in
      let rs' = mapped_regions (name_in defs) (value_of_id values) rs in
      let next = n + length head'.results + length (types_in_regions rs') in
      let rest =
      ops-marked ids os (behind_regions (past_op c head) rs) next indent
      (behind-op defs values head rs c n e) x.2 in
      let here : op_marks_at form defs values m indent id ≡ of_op indent site =
      ap (of_op indent) (op-here m id site x.1) in
      let at_n : of_op indent site
      ≡ op_marks F T indent n head' (regions_marks F T indent (n + length head.results) rs') =
      ap (λ v. op_marks F T indent v head' (regions_marks F T indent (v + length head.results) rs'))
      (sym e) in
      let counted : op_marks F T indent n head' (regions_marks F T indent (n + length head.results) rs')
      ≡ op_marks F T indent n head' (regions_marks F T indent (n + length head'.results) rs') =
      ap (λ k. op_marks F T indent n head' (regions_marks F T indent (n + k) rs'))
      (sym (length-map head.results (value_of_id values))) in
      ap (λ l. l ++ ops_marks_of form defs values m indent ids) (here ∙ at_n ∙ counted)
      ∙ ap (λ l.
      op_marks F T indent n head' (regions_marks F T indent (n + length head'.results) rs') ++ l)
      rest

  -- the marks of regions, each by itself
  pub regions-marked : (ids : List RegionId) (rs : Regions OpName ValueId) (c : Numbers)
      (n indent : ℕ) → n ≡ c.values → AreRegions m c ids rs
      → map (region_marks_at form defs values m indent) ids
      ≡ regions_marks F T indent n (mapped_regions (name_in defs) (value_of_id values) rs)
  regions-marked [] no_regions c n indent e x = refl
  regions-marked [] (region bs rs) c n indent e x = absurd x
  regions-marked (id ∷ ids) no_regions c n indent e x = absurd x
  regions-marked (id ∷ ids) (region bs rs) c n indent e x =
      let bs' = mapped_blocks (name_in defs) (value_of_id values) bs in
      let next = n + length (types_in_blocks bs') in
      let rest =
      regions-marked ids rs (behind_blocks (past_region c) bs) next indent
      (behind-region defs values bs c n e) x.2 in
      let here : region_marks_at form defs values m indent id
      ≡ braced_marks indent (blocks_marks F T indent c.values 0 bs') =
      ap (λ (y : RegionSite OpName ValueId).
      braced_marks indent (blocks_marks F T indent y.at.values 0
      (mapped_blocks (name_in defs) (value_of_id values) y.blocks)))
      (region-here m id (record { at = c; blocks = bs }) x.1) in
      let at_n : braced_marks indent (blocks_marks F T indent c.values 0 bs')
      ≡ braced_marks indent (blocks_marks F T indent n 0 bs') =
      ap (λ v. braced_marks indent (blocks_marks F T indent v 0 bs')) (sym e) in
      ap (λ l. l ∷ map (region_marks_at form defs values m indent) ids) (here ∙ at_n)
      ∙ ap (λ l. braced_marks indent (blocks_marks F T indent n 0 bs') ∷ l) rest

  abbrev of_block : ℕ → ℕ → BlockSite OpName ValueId → Marks
  of_block indent k x =
      cond (has_label k x.args x.ops)
      (label_marks indent x.at.values k (map (value_of_id values) x.args)) []
      ++ ops_marks F T (indent + 2) (x.at.values + length x.args)
      (mapped (name_in defs) (value_of_id values) x.ops)

  -- the marks of blocks, from the k-th on
  pub blocks-marked : (ids : List BlockId) (bs : Blocks OpName ValueId) (c : Numbers)
      (n indent k : ℕ) → n ≡ c.values → AreBlocks m c ids bs
      → blocks_marks_of form defs values m indent k ids
      ≡ blocks_marks F T indent n k (mapped_blocks (name_in defs) (value_of_id values) bs)
  blocks-marked [] no_blocks c n indent k e x = refl
  blocks-marked [] (block args os bs) c n indent k e x = absurd x
  blocks-marked (id ∷ ids) no_blocks c n indent k e x = absurd x
  blocks-marked (id ∷ ids) (block args os bs) c n indent k e x =
      let site : BlockSite OpName ValueId = record { at = c; args = args; ops = os } in
      let args' = map (value_of_id values) args in
      let os' = mapped (name_in defs) (value_of_id values) os in
      let next = n + length args' + length (types_in os') in
      let rest =
      blocks-marked ids bs (behind (past_block c args) os) next indent (suc k)
      (behind-block defs values args os c n e) x.2 in
      let here : block_marks_at form defs values m indent k id ≡ of_block indent k site =
      ap (of_block indent k) (block-here m id site x.1) in
      let at_n : of_block indent k site
      ≡ cond (has_label k args os) (label_marks indent n k args') []
      ++ ops_marks F T (indent + 2) (n + length args) os' =
      ap (λ v. cond (has_label k args os) (label_marks indent v k args') []
      ++ ops_marks F T (indent + 2) (v + length args) os') (sym e) in
      let counted : cond (has_label k args os) (label_marks indent n k args') []
      ++ ops_marks F T (indent + 2) (n + length args) os'
      ≡ cond (has_label k args os) (label_marks indent n k args') []
      ++ ops_marks F T (indent + 2) (n + length args') os' =
      ap (λ v. cond (has_label k args os) (label_marks indent n k args') []
      ++ ops_marks F T (indent + 2) (n + v) os') (sym (length-map args (value_of_id values))) in
      let labelled : cond (has_label k args os) (label_marks indent n k args') []
      ++ ops_marks F T (indent + 2) (n + length args') os'
      ≡ cond (has_label k args' os') (label_marks indent n k args') []
      ++ ops_marks F T (indent + 2) (n + length args') os' =
      ap (λ b. cond b (label_marks indent n k args') []
      ++ ops_marks F T (indent + 2) (n + length args') os')
      (sym (label-mapped defs values k args os)) in
      ap (λ l. l ++ blocks_marks_of form defs values m indent (suc k) ids)
      (here ∙ at_n ∙ counted ∙ labelled)
      ∙ ap (λ l.
      (cond (has_label k args' os') (label_marks indent n k args') []
      ++ ops_marks F T (indent + 2) (n + length args') os') ++ l) rest

-- ---- what is there

module _ (m : Module) where
  -- operations
  pub ops-there : (ids : List OpId) (os : Module) (c : Numbers) (indent : ℕ) → AreOps m c ids os
      → indent + 2 * nesting os ≤ 128 → AllByRecursion (OpIsThere m indent) ids
  ops-there [] os c indent x room = tt
  ops-there (id ∷ ids) no_ops c indent x room = absurd x
  ops-there (id ∷ ids) (then_op head rs os) c indent x room =
      let site : OpSite OpName ValueId = record { at = c; head = head; regions = rs } in
      let same = ap (λ (y : OpSite OpName ValueId). nesting_of_regions y.regions)
      (op-here m id site x.1) in (
        record { known = op-within m id site x.1; room = omega (arith, same, room) },
        ops-there ids os (behind_regions (past_op c head) rs) indent x.2 (omega (arith, room)),
      )

  -- regions
  pub regions-there : (ids : List RegionId) (rs : Regions OpName ValueId) (c : Numbers)
      (indent : ℕ) → AreRegions m c ids rs → indent + 2 * nesting_of_regions rs ≤ 128
      → AllByRecursion (RegionIsThere m indent) ids
  regions-there [] rs c indent x room = tt
  regions-there (id ∷ ids) no_regions c indent x room = absurd x
  regions-there (id ∷ ids) (region bs rs) c indent x room =
      let site : RegionSite OpName ValueId = record { at = c; blocks = bs } in
      let same = ap (λ (y : RegionSite OpName ValueId). nesting_of_blocks y.blocks)
      (region-here m id site x.1) in (
        record { known = region-within m id site x.1; room = omega (arith, same, room) },
        regions-there ids rs (behind_blocks (past_region c) bs) indent x.2 (omega (arith, room)),
      )

  -- blocks
  pub blocks-there : (ids : List BlockId) (bs : Blocks OpName ValueId) (c : Numbers) (indent : ℕ)
      → AreBlocks m c ids bs → indent + 2 + 2 * nesting_of_blocks bs ≤ 128
      → AllByRecursion (BlockIsThere m indent) ids
  blocks-there [] bs c indent x room = tt
  blocks-there (id ∷ ids) no_blocks c indent x room = absurd x
  blocks-there (id ∷ ids) (block args os bs) c indent x room =
      let site : BlockSite OpName ValueId = record { at = c; args = args; ops = os } in
      let same = ap (λ (y : BlockSite OpName ValueId). nesting y.ops)
      (block-here m id site x.1) in (
        record { known = block-within m id site x.1; room = omega (arith, same, room) },
        blocks-there ids bs (behind (past_block c args) os) indent x.2 (omega (arith, room)),
      )
