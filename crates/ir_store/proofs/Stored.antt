-- What tables say of the module that they are those of.
use Rattle.std.proofs.Common.{◌≡◌, ℕ, zero, suc, ◌<◌, List, [], ◌∷◌, ◌++◌, length, Option, Some}
use Rattle.std.proofs.Common.{None, option_map, slice_get, ap, sym, ◌∙◌, arith, subst}
use Rattle.std.proofs.Common.{Result, Ok, Err, OnOk, OnErr, IfOk}
use Rattle.std.specs.List.{AllByRecursion}
use Rattle.std.specs.Option.{ForSome}
use Rattle.attr_value.specs.declared.head.ValueId.{ValueId}
use Rattle.ir_store.specs.declared.rows.OpId.{OpId}
use Rattle.ir_store.specs.declared.rows.RegionId.{RegionId}
use Rattle.ir_store.specs.declared.rows.BlockId.{BlockId}
use Rattle.ir_store.specs.Modules.{types_in}
use Rattle.ir_store.specs.Numbering.{first_numbers, behind, past_op, past_region, past_block}
use Rattle.ir_store.specs.Named.{op_id, region_id, block_id, op_at, region_at, block_at, HaveTypes}
use Rattle.ir_store.specs.Named.{AttrsAreRight, AreOps, AreRegions, AreBlocks}
use Rattle.ir_store.specs.Growth.{Parent, in_block, in_op, in_region, to_block, to_op, to_region}
use Rattle.ir_store.specs.Growth.{open_in, IsOpen, Opens, parent_of, added, one_op, one_region}
use Rattle.ir_store.specs.Growth.{one_block}
use Rattle.ir_store.specs.Store.{StoredHead, Module}
use Rattle.ir_store.specs.Rows.{OpNode, Rows, rows_of, op_node, region_node, block_node, changed}
use Rattle.ir_store.specs.Rows.{with_op, with_region, with_block, regions_at, blocks_at, ops_at}
use Rattle.ir_store.specs.Rows.{args_at, first_at}
use Rattle.ir_store.specs.Read.{module_of, IsSound}
use Rattle.ir_store.proofs.Replay.{numbers_of}
use Rattle.ir_store.proofs.Adding.{Adding, act, rows-added, types-added, numbers-rows}
use Rattle.ir_store.proofs.Opening.{HasPart, opened, open-added, open-below}
use Rattle.ir_store.proofs.Inside.{inside-all, op-placed, region-placed, block-placed}
use Rattle.ir_store.proofs.ReadBack.{are-ops, are-regions, are-blocks, op-row, region-row}
use Rattle.ir_store.proofs.ReadBack.{block-row, module-rows}

-- sound tables are those of their module
pub stored : (s : Rows) (m : Module) → IsSound s → module_of s ≡ m → s ≡ rows_of m
stored s m sound is = sound.made ∙ ap rows_of is

-- the ids at top level name the operations there
pub stored-top : (s : Rows) (m : Module) → s ≡ rows_of m → (ids : List OpId) → ids ≡ s.top
    → AreOps m first_numbers ids m
stored-top s m is ids same = subst (λ ids. AreOps m first_numbers ids m) (sym (same ∙ ap (λ s. s.top) is)) (are-ops m m first_numbers (inside-all m))

-- the ids in an operation's row name its regions
pub stored-regions : (s : Rows) (m : Module) → s ≡ rows_of m → (op : OpId) (ids : List RegionId)
    → regions_at s op.0 ≡ Some ids
    → ForSome (op_at m op) (λ x. AreRegions m (past_op x.at x.head) ids x.regions)
stored-regions s m is op ids found = λ x e.
    let row : slice_get s.ops op.0 ≡ Some (op_node x) = ap (λ s. slice_get s.ops op.0) is ∙ op-row m op x e in
    let here : regions_at s op.0 ≡ Some (op_node x).regions = ap (option_map (λ n. n.regions)) row in
    let same : (op_node x).regions ≡ ids = cc in
    subst (λ ids. AreRegions m (past_op x.at x.head) ids x.regions) same (are-regions x.regions m (past_op x.at x.head) (op-placed m op x e).2)

-- the ids in a region's row name its blocks
pub stored-blocks : (s : Rows) (m : Module) → s ≡ rows_of m
    → (region : RegionId) (ids : List BlockId) → blocks_at s region.0 ≡ Some ids
    → ForSome (region_at m region) (λ x. AreBlocks m (past_region x.at) ids x.blocks)
stored-blocks s m is region ids found = λ x e.
    let row : slice_get s.regions region.0 ≡ Some (region_node x) = ap (λ s. slice_get s.regions region.0) is ∙ region-row m region x e in
    let here : blocks_at s region.0 ≡ Some (region_node x).blocks = ap (option_map (λ n. n.blocks)) row in
    let same : (region_node x).blocks ≡ ids = cc in
    subst (λ ids. AreBlocks m (past_region x.at) ids x.blocks) same (are-blocks x.blocks m (past_region x.at) (region-placed m region x e).1)

-- the ids in a block's row name its operations
pub stored-ops : (s : Rows) (m : Module) → s ≡ rows_of m → (block : BlockId) (ids : List OpId)
    → ops_at s block.0 ≡ Some ids
    → ForSome (block_at m block) (λ x. AreOps m (past_block x.at x.args) ids x.ops)
stored-ops s m is block ids found = λ x e.
    let row : slice_get s.blocks block.0 ≡ Some (block_node x) = ap (λ s. slice_get s.blocks block.0) is ∙ block-row m block x e in
    let here : ops_at s block.0 ≡ Some (block_node x).ops = ap (option_map (λ n. n.ops)) row in
    let same : (block_node x).ops ≡ ids = cc in
    subst (λ ids. AreOps m (past_block x.at x.args) ids x.ops) same (are-ops x.ops m (past_block x.at x.args) (block-placed m block x e).2)

-- an operation's row has the number of its first result
pub stored-first : (s : Rows) (m : Module) → s ≡ rows_of m → (op : OpId) (n : ℕ)
    → first_at s op.0 ≡ Some n → ForSome (op_at m op) (λ x. n ≡ x.at.values)
stored-first s m is op n found = λ x e.
    let row : slice_get s.ops op.0 ≡ Some (op_node x) = ap (λ s. slice_get s.ops op.0) is ∙ op-row m op x e in
    let here : first_at s op.0 ≡ Some (op_node x).first = ap (option_map (λ n. n.first)) row in
    cc

-- a block's row has the number of its first argument
pub stored-args-at : (s : Rows) (m : Module) → s ≡ rows_of m → (block : BlockId) (p : ℕ × ℕ)
    → args_at s block.0 ≡ Some p → ForSome (block_at m block) (λ x. p.0 ≡ x.at.values)
stored-args-at s m is block p found = λ x e.
    let row : slice_get s.blocks block.0 ≡ Some (block_node x) = ap (λ s. slice_get s.blocks block.0) is ∙ block-row m block x e in
    let here : args_at s block.0 ≡ Some ((block_node x).first, (block_node x).count) = ap (option_map (λ n. (n.first, n.count))) row in
    let same : Path (Option (ℕ × ℕ)) (Some p) (Some ((block_node x).first, (block_node x).count)) = cc in
    ap (λ (q : Option (ℕ × ℕ)). elim q [ None ↦ 0 | Some r ↦ r.0 ]) same

-- the values from an operation's first result on have the types of its results
pub stored-results : (m : Module) (op : OpId) (n : ℕ) → ForSome (op_at m op) (λ x. n ≡ x.at.values)
    → ForSome (op_at m op) (λ x. HaveTypes m n x.head.results)
stored-results m op n is = λ x e. subst (λ n. HaveTypes m n x.head.results) (sym (is x e)) (op-placed m op x e).1

-- the values from a block's first argument on have the types of its arguments
pub stored-args : (m : Module) (block : BlockId) (n : ℕ)
    → ForSome (block_at m block) (λ x. n ≡ x.at.values)
    → ForSome (block_at m block) (λ x. HaveTypes m n x.args)
stored-args m block n is = λ x e. subst (λ n. HaveTypes m n x.args) (sym (is x e)) (block-placed m block x e).1

-- ---- additions

-- what stands after both outcomes of a call
pub either-way : {T E : Type 0} (r : Result T E) (P Q R : Type 0) → OnOk r P → OnErr r Q → (P → R)
    → (Q → R) → R
either-way (Ok x) P Q R a b f g = f a
either-way (Err e) P Q R a b f g = g b

-- what follows from a call that succeeds
pub when-ok : {T E : Type 0} (r : Result T E) (P Q : Type 0) → OnOk r P → (P → Q) → OnOk r Q
when-ok (Ok x) P Q a f = f a
when-ok (Err e) P Q a f = tt

-- what follows from both things that a call says where it succeeds
pub if-ok : {T E : Type 0} (r : Result T E) (P : Type 0) (I Q : T → Type 0) → OnOk r P → IfOk r I
    → ((x : T) → P → I x → Q x) → IfOk r Q
if-ok (Ok x) P I Q a i f = f x a i
if-ok (Err e) P I Q a i f = tt

-- an open block has a row
pub block-within : (s : Rows) (m : Module) (b : Option BlockId) → s ≡ rows_of m
    → IsOpen m (in_block b) → ForSome b (λ b. b.0 < length s.blocks)
block-within s m b is is_open = λ x e.
    let below : x.0 < (behind first_numbers m).blocks = open-below m (in_block (Some x)) (subst (λ b. IsOpen m (in_block b)) e is_open) in
    let many = ap (λ c. c.blocks) (ap numbers_of is ∙ numbers-rows m) in
    omega arith

-- an open operation has a row
pub op-within : (s : Rows) (m : Module) (o : OpId) → s ≡ rows_of m → IsOpen m (in_op o)
    → o.0 < length s.ops
op-within s m o is is_open =
    let below : o.0 < (behind first_numbers m).ops = open-below m (in_op o) is_open in
    let many = ap (λ c. c.ops) (ap numbers_of is ∙ numbers-rows m) in
    omega arith

-- an open region has a row
pub region-within : (s : Rows) (m : Module) (r : RegionId) → s ≡ rows_of m → IsOpen m (in_region r)
    → r.0 < length s.regions
region-within s m r is is_open =
    let below : r.0 < (behind first_numbers m).regions = open-below m (in_region r) is_open in
    let many = ap (λ c. c.regions) (ap numbers_of is ∙ numbers-rows m) in
    omega arith

-- the tables after an addition
pub stored-added : (s t : Rows) (m : Module) (a : Adding) → s ≡ rows_of m → IsOpen m (parent_of a)
    → t ≡ act a s → t ≡ rows_of (added m a)
stored-added s t m a is is_open made = made ∙ ap (act a) is ∙ rows-added m a is_open

-- the values after an addition
pub stored-types : (s t : Rows) (m : Module) (a : Adding) → s ≡ rows_of m → IsOpen m (parent_of a)
    → t ≡ act a s → types_in (module_of t) ≡ (act a (rows_of m)).types
stored-types s t m a is is_open made = ap types_in (ap module_of (stored-added s t m a is is_open made) ∙ module-rows (added m a)) ∙ types-added m a is_open

-- they are read as the module with the addition
pub read-added : (s t : Rows) (m : Module) (a : Adding) → s ≡ rows_of m → IsOpen m (parent_of a)
    → t ≡ act a s → module_of t ≡ added m a
read-added s t m a is is_open made = ap module_of (stored-added s t m a is is_open made) ∙ module-rows (added m a)

made-again : (s t : Rows) (m : Module) (a : Adding) → s ≡ rows_of m → IsOpen m (parent_of a)
    → t ≡ act a s → t ≡ rows_of (module_of t)
made-again s t m a is is_open made = stored-added s t m a is is_open made ∙ ap rows_of (sym (read-added s t m a is is_open made))

abbrev Right : OpNode → Type 0
Right n = AttrsAreRight n.head

right-push : (ns : List OpNode) (n : OpNode) → AllByRecursion Right ns → Right n
    → AllByRecursion Right (ns ++ n ∷ [])
right-push [] n all last = (last, tt)
right-push (x ∷ ns) n all last = (all.0, right-push ns n all.1 last)

right-changed : (f : OpNode → OpNode) (is : (n : OpNode) → Right n → Right (f n)) (ns : List OpNode)
    (i : ℕ) → AllByRecursion Right ns → AllByRecursion Right (changed f i ns)
right-changed f is [] i all = tt
right-changed f is (x ∷ ns) zero all = (is x all.0, all.1)
right-changed f is (x ∷ ns) (suc i) all = (all.0, right-changed f is ns i all.1)

-- tables stay sound where an operation is added
pub sound-op : (s t : Rows) (m : Module) (b : Option BlockId) (h : StoredHead) → IsSound s
    → module_of s ≡ m → IsOpen m (in_block b) → AttrsAreRight h → t ≡ with_op s b h → IsSound t
sound-op s t m b h sound is is_open right made = record {
  made = made-again s t m (to_block b (one_op h)) (stored s m sound is) is_open made;
  attrs = subst (λ t. AllByRecursion Right t.ops) (sym made) (right-push s.ops (record { head = h; first = length s.types; regions = [] }) sound.attrs right);
}

-- tables stay sound where a region is added
pub sound-region : (s t : Rows) (m : Module) (o : OpId) → IsSound s → module_of s ≡ m
    → IsOpen m (in_op o) → t ≡ with_region s o → IsSound t
sound-region s t m o sound is is_open made = record {
  made = made-again s t m (to_op o one_region) (stored s m sound is) is_open made;
  attrs = subst (λ t. AllByRecursion Right t.ops) (sym made) (right-changed (λ n. record n { regions = n.regions ++ region_id (length s.regions) ∷ [] }) (λ n r. r) s.ops o.0 sound.attrs);
}

-- tables stay sound where a block is added
pub sound-block : (s t : Rows) (m : Module) (r : RegionId) (args : List ValueId) → IsSound s
    → module_of s ≡ m → IsOpen m (in_region r) → t ≡ with_block s r args → IsSound t
sound-block s t m r args sound is is_open made = record {
  made = made-again s t m (to_region r (one_block args)) (stored s m sound is) is_open made;
  attrs = subst (λ t. AllByRecursion Right t.ops) (sym made) sound.attrs;
}

-- what is open when one part was put into another
pub opens-one : (m new : Module) (a : Adding) (q : Parent) → new ≡ added m a → IsOpen m (parent_of a)
    → HasPart a → opened a (behind first_numbers m) ≡ q ∷ []
    → Opens m new (parent_of a) q
opens-one m new a q is is_open has one =
    let g = open-added m a is_open.among in
    record {
      round = g.round;
      inside = g.inside;
      was = g.was;
      is = ap open_in is ∙ g.is ∙ ap (λ l. g.round ++ parent_of a ∷ l) (g.fresh has ∙ one);
    }

-- what is open when an operation was put into a block, or at top level
pub opens-op : (s : Rows) (m new : Module) (b : Option BlockId) (h : StoredHead) (id : OpId)
    → s ≡ rows_of m → new ≡ added m (to_block b (one_op h)) → IsOpen m (in_block b)
    → id.0 ≡ length s.ops
    → Opens m new (in_block b) (in_op id)
opens-op s m new b h id is made is_open count =
    let many : (behind first_numbers m).ops ≡ id.0 = sym (ap (λ c. c.ops) (ap numbers_of is ∙ numbers-rows m)) ∙ sym count in
    opens-one m new (to_block b (one_op h)) (in_op id) made is_open tt (ap (λ n. in_op (op_id n) ∷ []) many)

-- what is open when a region was put into an operation
pub opens-region : (s : Rows) (m new : Module) (o : OpId) (id : RegionId) → s ≡ rows_of m
    → new ≡ added m (to_op o one_region) → IsOpen m (in_op o) → id.0 ≡ length s.regions
    → Opens m new (in_op o) (in_region id)
opens-region s m new o id is made is_open count =
    let many : (behind first_numbers m).regions ≡ id.0 = sym (ap (λ c. c.regions) (ap numbers_of is ∙ numbers-rows m)) ∙ sym count in
    opens-one m new (to_op o one_region) (in_region id) made is_open tt (ap (λ n. in_region (region_id n) ∷ []) many)

-- what is open when a block was put into a region
pub opens-block : (s : Rows) (m new : Module) (r : RegionId) (args : List ValueId) (id : BlockId)
    → s ≡ rows_of m → new ≡ added m (to_region r (one_block args)) → IsOpen m (in_region r)
    → id.0 ≡ length s.blocks
    → Opens m new (in_region r) (in_block (Some id))
opens-block s m new r args id is made is_open count =
    let many : (behind first_numbers m).blocks ≡ id.0 = sym (ap (λ c. c.blocks) (ap numbers_of is ∙ numbers-rows m)) ∙ sym count in
    opens-one m new (to_region r (one_block args)) (in_block (Some id)) made is_open tt (ap (λ n. in_block (Some (block_id n)) ∷ []) many)
