-- What a builder needs that recurses over syntax trees.
--
-- It says of each of its functions that a list of operations, of regions or of blocks was added to
-- an open place. Such a function adds a part, then what stands in it, and goes on.
--
--   built-op, built-region, built-block      a part is added, and then what stands in it: so the
--                                            whole part is added
--   joined-op, joined-region, joined-block    one list is added, and then another: so both are
--   nothing-op, nothing-region, nothing-block      the empty list changes nothing
--   open-still                               the place is open still
use Rattle.std.proofs.Common.{◌≡◌, List, length, Option, Some, ap, sym, ◌∙◌, subst}
use Rattle.std.proofs.lemmas.List.{length-map}
use Rattle.attr_value.specs.declared.head.ValueId.{ValueId}
use Rattle.ir_store.specs.declared.rows.OpId.{OpId}
use Rattle.ir_store.specs.declared.rows.RegionId.{RegionId}
use Rattle.ir_store.specs.declared.rows.BlockId.{BlockId}
use Rattle.ir_store.specs.Modules.{no_ops, then_op, no_regions, region, no_blocks, block}
use Rattle.ir_store.specs.Modules.{joined_ops, joined_regions, joined_blocks}
use Rattle.ir_store.specs.Numbering.{ops_in, regions_in, blocks_in}
use Rattle.ir_store.specs.Named.{op_id, region_id, block_id}
use Rattle.ir_store.specs.Growth.{in_block, in_op, in_region, IsOpen, Opens, parent_of, to_block}
use Rattle.ir_store.specs.Growth.{to_op, to_region, added, one_op, one_region, one_block}
use Rattle.ir_store.specs.Store.{StoredHead, Module}
use Rattle.ir_store.specs.Rows.{rows_of, op_node, region_node, block_node, with_op, with_region}
use Rattle.ir_store.specs.Rows.{with_block}
use Rattle.ir_store.proofs.Replay.{Rs, Bs, with_ops, with_regions, with_blocks, twice-ops}
use Rattle.ir_store.proofs.Replay.{twice-regions, twice-blocks}
use Rattle.ir_store.proofs.Adding.{Adding, act, rows-added}
use Rattle.ir_store.proofs.Opening.{parent-open, opens-child}
use Rattle.ir_store.proofs.ReadBack.{rows-same}

-- two additions, one after the other, that make the same rows as a third one
same-added : (m : Module) (a b c : Adding) → IsOpen m (parent_of a)
    → IsOpen (added m a) (parent_of b) → IsOpen m (parent_of c)
    → act b (act a (rows_of m)) ≡ act c (rows_of m) → added (added m a) b ≡ added m c
same-added m a b c x y z same =
    rows-same _ _ (sym (rows-added (added m a) b y) ∙ ap (act b) (sym (rows-added m a x)) ∙ same ∙ rows-added m c z)

-- an operation, and then its regions
pub built-op : (m new end : Module) (b : Option BlockId) (h : StoredHead) (rs : Rs) (id : OpId)
    → IsOpen m (in_block b)
    → new ≡ added m (to_block b (one_op h)) → id.0 ≡ length (ops_in m) → Opens m new (in_block b) (in_op id)
    → end ≡ added new (to_op id rs) → end ≡ added m (to_block b (then_op h rs no_ops))
built-op m new end b h rs id here made count opens is =
    let first : Adding = to_block b (one_op h) in
    let number : id ≡ op_id (length (rows_of m).ops) = ap op_id (count ∙ sym (length-map (ops_in m) op_node)) in
    is ∙ ap (λ n. added n (to_op id rs)) made
    ∙ same-added m first (to_op id rs) (to_block b (then_op h rs no_ops)) here
    (subst (λ n. IsOpen n (in_op id)) made (opens-child m new (in_block b) (in_op id) opens)) here
    (ap (λ i. with_regions (with_op (rows_of m) b h) i rs) number)

-- a region, and then its blocks
pub built-region : (m new end : Module) (o : OpId) (bs : Bs) (id : RegionId) → IsOpen m (in_op o)
    → new ≡ added m (to_op o one_region) → id.0 ≡ length (regions_in m) → Opens m new (in_op o) (in_region id)
    → end ≡ added new (to_region id bs) → end ≡ added m (to_op o (region bs no_regions))
built-region m new end o bs id here made count opens is =
    let first : Adding = to_op o one_region in
    let number : id ≡ region_id (length (rows_of m).regions) = ap region_id (count ∙ sym (length-map (regions_in m) region_node)) in
    is ∙ ap (λ n. added n (to_region id bs)) made
    ∙ same-added m first (to_region id bs) (to_op o (region bs no_regions)) here
    (subst (λ n. IsOpen n (in_region id)) made (opens-child m new (in_op o) (in_region id) opens)) here
    (ap (λ i. with_blocks (with_region (rows_of m) o) i bs) number)

-- a block, and then its operations
pub built-block : (m new end : Module) (r : RegionId) (args : List ValueId) (os : Module)
    (id : BlockId) → IsOpen m (in_region r)
    → new ≡ added m (to_region r (one_block args)) → id.0 ≡ length (blocks_in m) → Opens m new (in_region r) (in_block (Some id))
    → end ≡ added new (to_block (Some id) os) → end ≡ added m (to_region r (block args os no_blocks))
built-block m new end r args os id here made count opens is =
    let first : Adding = to_region r (one_block args) in
    let number : id ≡ block_id (length (rows_of m).blocks) = ap block_id (count ∙ sym (length-map (blocks_in m) block_node)) in
    is ∙ ap (λ n. added n (to_block (Some id) os)) made
    ∙ same-added m first (to_block (Some id) os) (to_region r (block args os no_blocks)) here
    (subst (λ n. IsOpen n (in_block (Some id))) made (opens-child m new (in_region r) (in_block (Some id)) opens)) here
    (ap (λ i. with_ops (with_block (rows_of m) r args) (Some i) os) number)

-- one list, and then another
pub joined-op : (m mid end : Module) (b : Option BlockId) (first more : Module)
    → IsOpen m (in_block b)
    → mid ≡ added m (to_block b first) → end ≡ added mid (to_block b more) → end ≡ added m (to_block b (joined_ops first more))
joined-op m mid end b first more here made is =
    is ∙ ap (λ n. added n (to_block b more)) made
    ∙ same-added m (to_block b first) (to_block b more) (to_block b (joined_ops first more)) here (parent-open m (to_block b first) here) here
    (twice-ops first more (rows_of m) b)

-- regions that are added one after the other are added at once
pub joined-region : (m mid end : Module) (o : OpId) (first more : Rs) → IsOpen m (in_op o)
    → mid ≡ added m (to_op o first) → end ≡ added mid (to_op o more) → end ≡ added m (to_op o (joined_regions first more))
joined-region m mid end o first more here made is =
    is ∙ ap (λ n. added n (to_op o more)) made
    ∙ same-added m (to_op o first) (to_op o more) (to_op o (joined_regions first more)) here (parent-open m (to_op o first) here) here
    (twice-regions first more (rows_of m) o)

-- blocks that are added one after the other are added at once
pub joined-block : (m mid end : Module) (r : RegionId) (first more : Bs) → IsOpen m (in_region r)
    → mid ≡ added m (to_region r first) → end ≡ added mid (to_region r more) → end ≡ added m (to_region r (joined_blocks first more))
joined-block m mid end r first more here made is =
    is ∙ ap (λ n. added n (to_region r more)) made
    ∙ same-added m (to_region r first) (to_region r more) (to_region r (joined_blocks first more)) here (parent-open m (to_region r first) here) here
    (twice-blocks first more (rows_of m) r)

-- the empty list
pub nothing-op : (m : Module) (b : Option BlockId) → IsOpen m (in_block b)
    → added m (to_block b no_ops) ≡ m
nothing-op m b here = rows-same _ _ (sym (rows-added m (to_block b no_ops) here))

-- to add no region changes nothing
pub nothing-region : (m : Module) (o : OpId) → IsOpen m (in_op o) → added m (to_op o no_regions) ≡ m
nothing-region m o here = rows-same _ _ (sym (rows-added m (to_op o no_regions) here))

-- to add no block changes nothing
pub nothing-block : (m : Module) (r : RegionId) → IsOpen m (in_region r)
    → added m (to_region r no_blocks) ≡ m
nothing-block m r here = rows-same _ _ (sym (rows-added m (to_region r no_blocks) here))

-- the place to which something was added is open still
pub open-still : (m end : Module) (a : Adding) → IsOpen m (parent_of a) → end ≡ added m a
    → IsOpen end (parent_of a)
open-still m end a here is = subst (λ n. IsOpen n (parent_of a)) (sym is) (parent-open m a here)
