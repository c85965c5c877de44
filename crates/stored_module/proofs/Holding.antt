-- What is held of all operations of a store is known of the module that it stands for.
--
--   few-of, within-of     blocks of regions by their ids
--   ops-texts, ..         texts, by recursion over the module
--   ops-short, ..         and the number of blocks
use Rattle.std.proofs.Common.{◌≡◌, ℕ, suc, ◌<◌, ◌≤◌, ◌^◌, List, [], ◌∷◌, length, map}
use Rattle.std.proofs.Common.{refl, sym, ◌∙◌, ap, subst, arith}
use Rattle.std.proofs.Math.Nat.{max-le}
use Rattle.std.proofs.lemmas.List.{length-map}
use Rattle.std.specs.List.{AllByRecursion}
use Rattle.attr_value.specs.declared.head.ValueId.{ValueId}
use Rattle.attr_value.specs.Ids.{at}
use Rattle.attr_value.specs.Values.{Value}
use Rattle.derived_printer.specs.ModuleMarks.{name_in, seen_module}
use Rattle.derived_printer.specs.Spellable.{HasBytes}
use Rattle.dialect_defs.specs.declared.definition.OpDef.{OpDef}
use Rattle.dialect_registry.proofs.Members.{all-mapped}
use Rattle.ir_lexer.specs.Spelling.{Text}
use Rattle.ir_store.specs.declared.rows.BlockId.{BlockId}
use Rattle.ir_store.specs.declared.rows.RegionId.{RegionId}
use Rattle.ir_store.specs.Modules.{Regions, Blocks, no_ops, then_op, no_regions, region, no_blocks}
use Rattle.ir_store.specs.Modules.{block, types_in, block_args, mapped, mapped_regions}
use Rattle.ir_store.specs.Modules.{mapped_blocks}
use Rattle.ir_store.specs.Named.{AreRegions, AreBlocks}
use Rattle.ir_store.specs.Numbering.{Numbers, first_numbers, past_op, past_region, past_block}
use Rattle.ir_store.specs.Numbering.{behind, behind_regions, behind_blocks, parts}
use Rattle.ir_store.specs.Numbering.{parts_of_regions, parts_of_blocks, op_sites, ops_in}
use Rattle.ir_store.specs.Numbering.{regions_in}
use Rattle.ir_store.specs.Store.{OpName, Module}
use Rattle.ir_store.proofs.Replay.{op-sites-append}
use Rattle.ir_store.proofs.Sites.{region-within, types-mapped}
use Rattle.module_meaning.specs.WholeModules.{EachOp, EachInRegions, EachInBlocks}
use Rattle.module_meaning.specs.WholeModules.{own_numbers}
use Rattle.module_meaning.proofs.GenericFacts.{all-apart}
use Rattle.module_text.specs.WellFormed.{HasTexts, IsStorable, longest_region, longest_of_regions}
use Rattle.module_text.specs.WellFormed.{longest_in_blocks}
use Rattle.stored_module.proofs.Bytes.{at-bytes}
use Rattle.stored_module.specs.Held.{HasFewBlocks, HaveFewBlocks, IsHeld}

-- ---- blocks by ids

-- there are as many ids as blocks
pub count-of : (m : Module) (c : Numbers) (ids : List BlockId) (bs : Blocks OpName ValueId)
    → AreBlocks m c ids bs → length ids ≡ length (block_args bs)
count-of m c [] no_blocks are = refl
count-of m c (id ∷ ids) (block args os bs) (is, here, are) =
    ap suc (count-of m (behind (past_block c args) os) ids bs are)
count-of m c [] (block args os bs) are = absurd are
count-of m c (id ∷ ids) no_blocks are = absurd are

-- the ids of regions name regions
pub within-of : (m : Module) (c : Numbers) (ids : List RegionId) (rs : Regions OpName ValueId)
    → AreRegions m c ids rs → AllByRecursion (λ id. id.0 < length (regions_in m)) ids
within-of m c [] no_regions are = tt
within-of m c (id ∷ ids) (region bs rs) (is, here, are) = (
  region-within m id _ here,
  within-of m (behind_blocks (past_region c) bs) ids rs are,
)
within-of m c [] (region bs rs) are = absurd are
within-of m c (id ∷ ids) no_regions are = absurd are

-- few blocks by ids are few blocks
pub few-of : (m : Module) (c : Numbers) (ids : List RegionId) (rs : Regions OpName ValueId)
    → AreRegions m c ids rs
    → AllByRecursion (HasFewBlocks m) ids → HaveFewBlocks rs
few-of m c [] no_regions are h = tt
few-of m c (id ∷ ids) (region bs rs) (is, here, are) (p, h) =
    (p.few _ here, few-of m (behind_blocks (past_region c) bs) ids rs are h)
few-of m c [] (region bs rs) are h = absurd are
few-of m c (id ∷ ids) no_regions are h = absurd are

-- ---- over a module

module _ (defs : List OpDef) (values : List Value) (bytes : AllByRecursion HasBytes values) where
  abbrev name : OpName → Text
  name = name_in defs

  abbrev whole : ValueId → Value
  whole id = at values id.0

  -- the values of ids have bytes
  whole-bytes : (ids : List ValueId) → AllByRecursion HasBytes (map whole ids)
  whole-bytes ids = all-mapped HasBytes whole ids (λ id _. at-bytes values bytes id.0)

  -- as many blocks have arguments
  args-mapped : (bs : Blocks OpName ValueId)
      → length (block_args (mapped_blocks name whole bs)) ≡ length (block_args bs)
  args-mapped no_blocks = refl
  args-mapped (block args os bs) = ap suc (args-mapped bs)

  mutual
    ops-texts : (visible : List ℕ) (blocks n : ℕ) (os : Module) (c : Numbers)
        → AllByRecursion IsHeld (op_sites (parts c os))
        → EachOp HasTexts visible blocks n (mapped name whole os)
    ops-texts visible blocks n no_ops c h = tt
    ops-texts visible blocks n (then_op head rs os) c (p, h) =
        let inner = parts_of_regions (past_op c head) rs in
        let later = parts (behind_regions (past_op c head) rs) os in
        let both = all-apart IsHeld (op_sites inner) (op_sites later)
        (subst (AllByRecursion IsHeld) (op-sites-append inner later) h) in (
          record { keys = p.keys; values = whole-bytes head.values },
          regions-texts visible _ rs (past_op c head) both.0,
          ops-texts visible blocks _ os (behind_regions (past_op c head) rs) both.1,
        )

    regions-texts : (visible : List ℕ) (n : ℕ) (rs : Regions OpName ValueId) (c : Numbers)
        → AllByRecursion IsHeld (op_sites (parts_of_regions c rs))
        → EachInRegions HasTexts visible n (mapped_regions name whole rs)
    regions-texts visible n no_regions c h = tt
    regions-texts visible n (region bs rs) c h =
        let inner = parts_of_blocks (past_region c) bs in
        let later = parts_of_regions (behind_blocks (past_region c) bs) rs in
        let both = all-apart IsHeld (op_sites inner) (op_sites later)
        (subst (AllByRecursion IsHeld) (op-sites-append inner later) h) in (
          blocks-texts _ _ n bs (past_region c) both.0,
          regions-texts visible _ rs (behind_blocks (past_region c) bs) both.1,
        )

    blocks-texts : (visible : List ℕ) (count n : ℕ) (bs : Blocks OpName ValueId) (c : Numbers)
        → AllByRecursion IsHeld (op_sites (parts_of_blocks c bs))
        → EachInBlocks HasTexts visible count n (mapped_blocks name whole bs)
    blocks-texts visible count n no_blocks c h = tt
    blocks-texts visible count n (block args os bs) c h =
        let inner = parts (past_block c args) os in
        let later = parts_of_blocks (behind (past_block c args) os) bs in
        let both = all-apart IsHeld (op_sites inner) (op_sites later)
        (subst (AllByRecursion IsHeld) (op-sites-append inner later) h) in (
          ops-texts visible count _ os (past_block c args) both.0,
          blocks-texts visible count _ bs (behind (past_block c args) os) both.1,
        )

  mutual
    ops-short : (os : Module) (c : Numbers) → AllByRecursion IsHeld (op_sites (parts c os))
        → longest_region (mapped name whole os) ≤ 2 ^ 64
    ops-short no_ops c h = omega arith
    ops-short (then_op head rs os) c (p, h) =
        let inner = parts_of_regions (past_op c head) rs in
        let later = parts (behind_regions (past_op c head) rs) os in
        let both = all-apart IsHeld (op_sites inner) (op_sites later)
        (subst (AllByRecursion IsHeld) (op-sites-append inner later) h) in
        max-le (regions-short rs (past_op c head) p.regions both.0)
        (ops-short os (behind_regions (past_op c head) rs) both.1)

    regions-short : (rs : Regions OpName ValueId) (c : Numbers) → HaveFewBlocks rs
        → AllByRecursion IsHeld (op_sites (parts_of_regions c rs))
        → longest_of_regions (mapped_regions name whole rs) ≤ 2 ^ 64
    regions-short no_regions c few h = omega arith
    regions-short (region bs rs) c (p, few) h =
        let inner = parts_of_blocks (past_region c) bs in
        let later = parts_of_regions (behind_blocks (past_region c) bs) rs in
        let both = all-apart IsHeld (op_sites inner) (op_sites later)
        (subst (AllByRecursion IsHeld) (op-sites-append inner later) h) in
        max-le (max-le (subst (λ (n : ℕ). n ≤ 2 ^ 64) (sym (args-mapped bs)) p)
        (blocks-short bs (past_region c) both.0))
        (regions-short rs (behind_blocks (past_region c) bs) few both.1)

    blocks-short : (bs : Blocks OpName ValueId) (c : Numbers)
        → AllByRecursion IsHeld (op_sites (parts_of_blocks c bs))
        → longest_in_blocks (mapped_blocks name whole bs) ≤ 2 ^ 64
    blocks-short no_blocks c h = omega arith
    blocks-short (block args os bs) c h =
        let inner = parts (past_block c args) os in
        let later = parts_of_blocks (behind (past_block c args) os) bs in
        let both = all-apart IsHeld (op_sites inner) (op_sites later)
        (subst (AllByRecursion IsHeld) (op-sites-append inner later) h) in
        max-le (ops-short os (past_block c args) both.0)
        (blocks-short bs (behind (past_block c args) os) both.1)

-- The module that a store stands for can be held.
pub held-storable : (defs : List OpDef) (values : List Value) (m : Module)
    → AllByRecursion HasBytes values → AllByRecursion IsHeld (ops_in m)
    → length (types_in m) ≤ 2 ^ 64 → IsStorable (seen_module defs values m)
held-storable defs values m bytes held few =
    let f = name_in defs in
    let g : ValueId → Value = λ id. at values id.0 in
    let types : types_in (mapped f g m) ≡ map g (types_in m) = types-mapped f g m in
    let count : length (types_in (mapped f g m)) ≡ length (types_in m) =
    ap (λ (l : List Value). length l) types ∙ length-map (types_in m) g in
    record {
      types = subst (AllByRecursion HasBytes) (sym types)
          (whole-bytes defs values bytes (types_in m));
      attrs = ops-texts defs values bytes (own_numbers 0 (mapped f g m)) 0 0 m first_numbers held;
      values = omega (arith, count, few);
      blocks = ops-short defs values bytes m first_numbers held;
    }
