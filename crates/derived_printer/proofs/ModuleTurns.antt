-- What is left of operations and of blocks behind one of them, and an operation by its parts.
use Rattle.std.proofs.Common.{◌≡◌, ◌≢◌, ℕ, suc, ◌+◌, ◌<◌, ◌≤◌, List, [], ◌∷◌, ◌++◌, length, map, drop, get_or, refl, sym, ◌∙◌, ap, arith, append_assoc, Option, Ok}
use Rattle.std.proofs.Math.ListN.{drop_of_length-le}
use Rattle.std.proofs.lemmas.List.{length-map}
use Rattle.attr_value.specs.Values.{Value}
use Rattle.dialect_defs.specs.declared.definition.OpDef.{OpDef}
use Rattle.ir_lexer.specs.declared.class.Class.TheVariants as c
use Rattle.ir_lexer.specs.Spelling.{Text}
use Rattle.ir_store.specs.declared.rows.OpId.{OpId}
use Rattle.ir_store.specs.declared.rows.RegionId.{RegionId}
use Rattle.ir_store.specs.declared.rows.BlockId.{BlockId}
use Rattle.ir_store.specs.Named.{AreOps, AreRegions, AreBlocks}
use Rattle.ir_store.specs.Numbering.{past_op, past_region, past_block}
use Rattle.ir_store.specs.Store.{Module}
use Rattle.text_layout.specs.declared.layout.Layout.{Layout}
use Rattle.text_layout.specs.Lines.{token, break_line}
use Rattle.text_layout.specs.Page.{Page}
use Rattle.derived_printer.specs.declared.form.Form.{Form}
use Rattle.derived_printer.specs.declared.form.Form.TheVariants.{Generic}
use Rattle.derived_printer.specs.ModuleMarks.{View, form_marks, generic_marks, results_marks}
use Rattle.derived_printer.specs.ModuleMarks.{braced_marks, value_name, block_name}
use Rattle.derived_printer.specs.ModuleParts.{op_here, region_here, block_here, all_types}
use Rattle.derived_printer.specs.ModuleParts.{head_seen, view_at, op_marks_at, region_marks_at}
use Rattle.derived_printer.specs.ModuleParts.{block_marks_at, label_marks_at, ops_marks_of}
use Rattle.derived_printer.specs.ModuleParts.{blocks_marks_of, front_marks, back_marks, list_marks}
use Rattle.derived_printer.specs.ModuleParts.{value_of_id}
use Rattle.derived_printer.specs.Prints.{Prints}
use Rattle.derived_printer.specs.Spelling.{string_text}
use Rattle.derived_printer.specs.ValueMarks.{Marks, commas, in_parens, in_squares, unless_empty}
use Rattle.derived_printer.proofs.Loops.{Went, drop-at}
use Rattle.derived_printer.proofs.ModuleWalk.{ops-marked, regions-marked, blocks-marked}
use Rattle.derived_printer.proofs.Printing.{step}

-- a piece of a loop was laid down
pub turn-one : {S : Type 0} {written : S → Option Text} {faults : S → ℕ} {a b c : Layout S Page}
    {all rest : Marks} (p more : Marks) {u : Unit {0}} → Went written faults a all b rest
    → Prints written faults b p (Ok u) c → rest ≡ p ++ more → Went written faults a all c more
turn-one p more went first is = record {
  done = went.done ++ p;
  is = went.is ∙ ap (λ t. went.done ++ t) is ∙ sym (append_assoc went.done p more);
  prints = step went.done p went.prints first;
}

assoc-three : (a b c d : Marks) → a ++ (b ++ (c ++ d)) ≡ (a ++ (b ++ c)) ++ d
assoc-three a b c d = sym (append_assoc a (b ++ c) d ∙ ap (λ l. a ++ l) (append_assoc b c d))

module _ (form : Form) (defs : List OpDef) (vs : List Value) (m : Module) (indent : ℕ) where
  -- an operation, and those behind it
  pub next-op : (ids : List OpId) (i j : ℕ) (x d : OpId) → i < length ids → j ≡ i + 1
      → x ≡ get_or ids i d
      → ops_marks_of form defs vs m indent (drop i ids)
      ≡ op_marks_at form defs vs m indent x ++ ops_marks_of form defs vs m indent (drop j ids)
  next-op ids i j x d less next is =
      ap (ops_marks_of form defs vs m indent) (drop-at ids i j x d less next is)

  -- none
  pub end-ops : (ids : List OpId) (i : ℕ) → length ids ≤ i
      → ops_marks_of form defs vs m indent (drop i ids) ≡ []
  end-ops ids i le = ap (ops_marks_of form defs vs m indent) (drop_of_length-le ids le)

  -- a block, and those behind it
  pub next-block : (ids : List BlockId) (i j : ℕ) (x d : BlockId) → i < length ids → j ≡ i + 1
      → x ≡ get_or ids i d
      → blocks_marks_of form defs vs m indent i (drop i ids)
      ≡ block_marks_at form defs vs m indent i x
      ++ blocks_marks_of form defs vs m indent j (drop j ids)
  next-block ids i j x d less next is =
      let same : suc i ≡ j = omega (arith, next) in
      ap (blocks_marks_of form defs vs m indent i) (drop-at ids i j x d less next is)
      ∙ ap (λ k. block_marks_at form defs vs m indent i x
      ++ blocks_marks_of form defs vs m indent k (drop j ids)) same

  -- none
  pub end-blocks : (ids : List BlockId) (i : ℕ) → length ids ≤ i
      → blocks_marks_of form defs vs m indent i (drop i ids) ≡ []
  end-blocks ids i le = ap (blocks_marks_of form defs vs m indent i) (drop_of_length-le ids le)

  -- a region, by the ids of its blocks
  pub region-parts : (id : RegionId) (ids : List BlockId)
      → AreBlocks m (past_region (region_here m id).at) ids (region_here m id).blocks
      → region_marks_at form defs vs m indent id
      ≡ braced_marks indent (blocks_marks_of form defs vs m indent 0 ids)
  region-parts id ids are =
      let x = region_here m id in
      ap (braced_marks indent)
      (sym (blocks-marked form defs vs m ids x.blocks (past_region x.at) x.at.values indent 0 refl
      are))

  -- a block, by the ids of its operations
  pub block-parts : (k : ℕ) (id : BlockId) (ids : List OpId)
      → AreOps m (past_block (block_here m id).at (block_here m id).args) ids (block_here m id).ops
      → block_marks_at form defs vs m indent k id
      ≡ label_marks_at form defs vs m indent k id
      ++ ops_marks_of form defs vs m (indent + 2) ids
  block-parts k id ids are =
      let x = block_here m id in
      ap (λ l. label_marks_at form defs vs m indent k id ++ l)
      (sym (ops-marked form defs vs m ids x.ops (past_block x.at x.args)
      (x.at.values + length x.args) (indent + 2) refl are))

  -- an operation, by its results and its form
  pub op-parts : (id : OpId) → op_marks_at form defs vs m indent id
      ≡ (break_line indent ∷ [])
      ++ (results_marks (op_here m id).at.values (length (op_here m id).head.results)
      ++ form_marks form defs (view_at form defs vs m indent id))
  op-parts id =
      let x = op_here m id in
      ap (λ k. (break_line indent ∷ []) ++ (results_marks x.at.values k
      ++ form_marks form defs (view_at form defs vs m indent id)))
      (length-map x.head.results (value_of_id vs))

  -- the generic form, by what stands before the regions and behind them
  pub generic-whole : (id : OpId)
      → generic_marks (view_at form defs vs m indent id)
      ≡ front_marks (head_seen form defs vs m id)
      ++ (list_marks (view_at form defs vs m indent id).regions
      ++ back_marks (all_types form defs vs m) (head_seen form defs vs m id))
  generic-whole id =
      let v = view_at form defs vs m indent id in
      assoc-three (token c.Str (string_text v.name) ∷ [])
      (in_parens (commas (map value_name v.operands)))
      (unless_empty v.successors (in_squares (commas (map block_name v.successors))))
      (list_marks v.regions
      ++ back_marks (all_types form defs vs m) (head_seen form defs vs m id))

  -- the same by the ids of the regions
  pub generic-parts : (id : OpId) (ids : List RegionId)
      → AreRegions m (past_op (op_here m id).at (op_here m id).head) ids (op_here m id).regions
      → generic_marks (view_at form defs vs m indent id)
      ≡ front_marks (head_seen form defs vs m id)
      ++ (list_marks (map (region_marks_at form defs vs m indent) ids)
      ++ back_marks (all_types form defs vs m) (head_seen form defs vs m id))
  generic-parts id ids are =
      let x = op_here m id in
      let same =
      regions-marked form defs vs m ids x.regions (past_op x.at x.head)
      (x.at.values + length x.head.results) indent refl are in
      generic-whole id
      ∙ ap (λ rs. front_marks (head_seen form defs vs m id)
      ++ (list_marks rs ++ back_marks (all_types form defs vs m) (head_seen form defs vs m id)))
      (sym same)

-- the form that is asked
pub form-generic : (form : Form) (defs : List OpDef) (v : View)
    → form_marks form defs v ≡ generic_marks v
form-generic Generic defs v = refl

-- regions, where there are some
pub some-regions : (form : Form) (defs : List OpDef) (vs : List Value) (m : Module) (indent : ℕ)
    (ids : List RegionId) → ids ≢ []
    → list_marks (map (region_marks_at form defs vs m indent) ids)
    ≡ in_parens (commas (map (region_marks_at form defs vs m indent) ids))
some-regions form defs vs m indent [] some = absurd (some refl)
some-regions form defs vs m indent (id ∷ ids) some = refl
