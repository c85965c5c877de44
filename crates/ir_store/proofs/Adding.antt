-- An addition to an open place of a module, on its rows: the calls that make the addition make of
-- the module's rows those of the module with the addition.
use Rattle.std.proofs.Common.{◌≡◌, inl, inr, ℕ, List, ◌∷◌, length, Option, Some, None, refl, ap}
use Rattle.std.proofs.Common.{sym, ◌∙◌, subst}
use Rattle.std.proofs.lemmas.Bool.Decides.{eqb_tells}
use Rattle.attr_value.specs.declared.head.ValueId.{ValueId}
use Rattle.ir_store.specs.declared.rows.OpId.{OpId}
use Rattle.ir_store.specs.declared.rows.RegionId.{RegionId}
use Rattle.ir_store.specs.declared.rows.BlockId.{BlockId}
use Rattle.ir_store.specs.Modules.{no_ops, then_op, no_regions, region, no_blocks, block, types_in}
use Rattle.ir_store.specs.Numbering.{Numbers, first_numbers, past_op, past_region, past_block, behind}
use Rattle.ir_store.specs.Numbering.{behind_regions, behind_blocks}
use Rattle.ir_store.specs.Named.{op_id, region_id, block_id}
use Rattle.ir_store.specs.Growth.{Parent, in_block, in_op, in_region, IsOneOf, Addition, to_block}
use Rattle.ir_store.specs.Growth.{to_op, to_region, open_ops, open_regions, open_blocks, open_in}
use Rattle.ir_store.specs.Growth.{IsOpen, parent_of, in_this_op, in_this_region, in_this_block}
use Rattle.ir_store.specs.Growth.{added_ops, added_regions, added_blocks, added}
use Rattle.ir_store.specs.Store.{OpName, Module}
use Rattle.ir_store.specs.Rows.{Rows, no_rows, rows_of, with_op, with_region, with_block}
use Rattle.ir_store.proofs.Replay.{Rs, Bs, with_ops, with_regions, with_blocks, numbers_of}
use Rattle.ir_store.proofs.Replay.{numbers-op, numbers-region, numbers-block, numbers-ops}
use Rattle.ir_store.proofs.Replay.{numbers-regions, numbers-blocks, twice-ops, twice-regions}
use Rattle.ir_store.proofs.Replay.{twice-blocks, rows-made}

-- an addition to a module of a store
abbrev pub Adding : Type 0
Adding = Addition OpName ValueId

-- what the calls that make an addition do to the rows
abbrev pub act : Adding → Rows → Rows
act (to_block b more) s = with_ops s b more
act (to_op o more) s = with_regions s o more
act (to_region r more) s = with_blocks s r more

this-op : (a : Adding) (n : ℕ) (rs inside : Rs) (s : Rows) (qs : List Parent)
    → IsOneOf (parent_of a) (in_op (op_id n) ∷ qs)
    → (IsOneOf (parent_of a) qs → act a (with_regions s (op_id n) rs) ≡ with_regions s (op_id n) inside)
    → act a (with_regions s (op_id n) rs) ≡ with_regions s (op_id n) (in_this_op a n rs inside)
this-op (to_block b more) n rs inside s qs (inl e) f = absurd (cc)
this-op (to_block b more) n rs inside s qs (inr i) f = f i
this-op (to_region r more) n rs inside s qs (inl e) f = absurd (cc)
this-op (to_region r more) n rs inside s qs (inr i) f = f i
this-op (to_op o more) n rs inside s qs m f = elim (eqb_tells o.0 n) [
  | inl same ↦ (let is : o ≡ op_id n = ap op_id same.1 in rw same.0 (rw is (twice-regions rs more s (op_id n))))
  | inr other ↦ elim m [
    | inl e ↦ absurd (other.1 (let is : o ≡ op_id n = cc in ap (λ o. o.0) is))
    | inr i ↦ rw other.0 (f i)
  ]
]

this-region : (a : Adding) (n : ℕ) (bs inside : Bs) (s : Rows) (qs : List Parent)
    → IsOneOf (parent_of a) (in_region (region_id n) ∷ qs)
    → (IsOneOf (parent_of a) qs → act a (with_blocks s (region_id n) bs) ≡ with_blocks s (region_id n) inside)
    → act a (with_blocks s (region_id n) bs) ≡ with_blocks s (region_id n) (in_this_region a n bs inside)
this-region (to_block b more) n bs inside s qs (inl e) f = absurd (cc)
this-region (to_block b more) n bs inside s qs (inr i) f = f i
this-region (to_op o more) n bs inside s qs (inl e) f = absurd (cc)
this-region (to_op o more) n bs inside s qs (inr i) f = f i
this-region (to_region r more) n bs inside s qs m f = elim (eqb_tells r.0 n) [
  | inl same ↦ (let is : r ≡ region_id n = ap region_id same.1 in rw same.0 (rw is (twice-blocks bs more s (region_id n))))
  | inr other ↦ elim m [
    | inl e ↦ absurd (other.1 (let is : r ≡ region_id n = cc in ap (λ r. r.0) is))
    | inr i ↦ rw other.0 (f i)
  ]
]

this-block : (a : Adding) (n : ℕ) (os inside : Module) (s : Rows) (qs : List Parent)
    → IsOneOf (parent_of a) (in_block (Some (block_id n)) ∷ qs)
    → (IsOneOf (parent_of a) qs → act a (with_ops s (Some (block_id n)) os) ≡ with_ops s (Some (block_id n)) inside)
    → act a (with_ops s (Some (block_id n)) os) ≡ with_ops s (Some (block_id n)) (in_this_block a n os inside)
this-block (to_op o more) n os inside s qs (inl e) f = absurd (cc)
this-block (to_op o more) n os inside s qs (inr i) f = f i
this-block (to_region r more) n os inside s qs (inl e) f = absurd (cc)
this-block (to_region r more) n os inside s qs (inr i) f = f i
this-block (to_block None more) n os inside s qs (inl e) f = absurd (cc)
this-block (to_block None more) n os inside s qs (inr i) f = f i
this-block (to_block (Some b) more) n os inside s qs m f = elim (eqb_tells b.0 n) [
  | inl same ↦ (let is : b ≡ block_id n = ap block_id same.1 in rw same.0 (rw is (twice-ops os more s (Some (block_id n)))))
  | inr other ↦ elim m [
    | inl e ↦ absurd (other.1 (let is : b ≡ block_id n = cc in ap (λ b. b.0) is))
    | inr i ↦ rw other.0 (f i)
  ]
]

mutual
  -- the tables with operations, and then with an addition in one of their open places, are those
  -- with
  -- the operations after that addition
  pub add-ops : (os : Module) (a : Adding) (s : Rows) (b : Option BlockId) (c : Numbers)
      → numbers_of s ≡ c → IsOneOf (parent_of a) (open_ops c os)
      → act a (with_ops s b os) ≡ with_ops s b (added_ops a c os)
  add-ops no_ops a s b c e m = absurd m
  add-ops (then_op h rs no_ops) a s b c e m =
      let t = with_op s b h in
      let at_t : numbers_of t ≡ past_op c h = numbers-op s b h ∙ ap (λ c. past_op c h) e in
      let inside = added_regions a (past_op c h) rs in
      let here = this-op a c.ops rs inside t (open_regions (past_op c h) rs) m (λ i. add-regions rs a t (op_id c.ops) (past_op c h) at_t i) in
      let place : op_id (length s.ops) ≡ op_id c.ops = ap (λ c. op_id c.ops) e in
      subst (λ o. act a (with_regions t o rs) ≡ with_regions t o (in_this_op a c.ops rs inside)) (sym place) here
  add-ops (then_op h rs (then_op g qs os)) a s b c e m =
      let t = with_op s b h in
      let at_t : numbers_of t ≡ past_op c h = numbers-op s b h ∙ ap (λ c. past_op c h) e in
      let o = op_id (length s.ops) in
      let at_u : numbers_of (with_regions t o rs) ≡ behind_regions (past_op c h) rs = numbers-regions rs t o ∙ ap (λ c. behind_regions c rs) at_t in
      add-ops (then_op g qs os) a (with_regions t o rs) b (behind_regions (past_op c h) rs) at_u m

  -- the same of regions
  pub add-regions : (rs : Rs) (a : Adding) (s : Rows) (o : OpId) (c : Numbers) → numbers_of s ≡ c
      → IsOneOf (parent_of a) (open_regions c rs)
      → act a (with_regions s o rs) ≡ with_regions s o (added_regions a c rs)
  add-regions no_regions a s o c e m = absurd m
  add-regions (region bs no_regions) a s o c e m =
      let t = with_region s o in
      let at_t : numbers_of t ≡ past_region c = numbers-region s o ∙ ap past_region e in
      let inside = added_blocks a (past_region c) bs in
      let here = this-region a c.regions bs inside t (open_blocks (past_region c) bs) m (λ i. add-blocks bs a t (region_id c.regions) (past_region c) at_t i) in
      let place : region_id (length s.regions) ≡ region_id c.regions = ap (λ c. region_id c.regions) e in
      subst (λ r. act a (with_blocks t r bs) ≡ with_blocks t r (in_this_region a c.regions bs inside)) (sym place) here
  add-regions (region bs (region ds rs)) a s o c e m =
      let t = with_region s o in
      let at_t : numbers_of t ≡ past_region c = numbers-region s o ∙ ap past_region e in
      let r = region_id (length s.regions) in
      let at_u : numbers_of (with_blocks t r bs) ≡ behind_blocks (past_region c) bs = numbers-blocks bs t r ∙ ap (λ c. behind_blocks c bs) at_t in
      add-regions (region ds rs) a (with_blocks t r bs) o (behind_blocks (past_region c) bs) at_u m

  -- the same of blocks
  pub add-blocks : (bs : Bs) (a : Adding) (s : Rows) (r : RegionId) (c : Numbers) → numbers_of s ≡ c
      → IsOneOf (parent_of a) (open_blocks c bs)
      → act a (with_blocks s r bs) ≡ with_blocks s r (added_blocks a c bs)
  add-blocks no_blocks a s r c e m = absurd m
  add-blocks (block args os no_blocks) a s r c e m =
      let t = with_block s r args in
      let at_t : numbers_of t ≡ past_block c args = numbers-block s r args ∙ ap (λ c. past_block c args) e in
      let inside = added_ops a (past_block c args) os in
      let here = this-block a c.blocks os inside t (open_ops (past_block c args) os) m (λ i. add-ops os a t (Some (block_id c.blocks)) (past_block c args) at_t i) in
      let place : block_id (length s.blocks) ≡ block_id c.blocks = ap (λ c. block_id c.blocks) e in
      subst (λ b. act a (with_ops t (Some b) os) ≡ with_ops t (Some b) (in_this_block a c.blocks os inside)) (sym place) here
  add-blocks (block args os (block more ps bs)) a s r c e m =
      let t = with_block s r args in
      let at_t : numbers_of t ≡ past_block c args = numbers-block s r args ∙ ap (λ c. past_block c args) e in
      let b = block_id (length s.blocks) in
      let at_u : numbers_of (with_ops t (Some b) os) ≡ behind (past_block c args) os = numbers-ops os t (Some b) ∙ ap (λ c. behind c os) at_t in
      add-blocks (block more ps bs) a (with_ops t (Some b) os) r (behind (past_block c args) os) at_u m

made-added : (m : Module) (a : Adding) → IsOneOf (parent_of a) (open_in m)
    → act a (with_ops no_rows None m) ≡ with_ops no_rows None (added m a)
made-added m (to_block None more) i = twice-ops m more no_rows None
made-added m (to_block (Some b) more) (inl e) = absurd (cc)
made-added m (to_block (Some b) more) (inr i) = add-ops m _ no_rows None first_numbers refl i
made-added m (to_op o more) (inl e) = absurd (cc)
made-added m (to_op o more) (inr i) = add-ops m _ no_rows None first_numbers refl i
made-added m (to_region r more) (inl e) = absurd (cc)
made-added m (to_region r more) (inr i) = add-ops m _ no_rows None first_numbers refl i

-- the rows of a module, with what is added to an open place, are those of the module with it
pub rows-added : (m : Module) (a : Adding) → IsOpen m (parent_of a)
    → act a (rows_of m) ≡ rows_of (added m a)
rows-added m a i = ap (act a) (sym (rows-made m)) ∙ made-added m a i.among ∙ rows-made (added m a)

-- how many of each kind a module has, as its rows have them
pub numbers-rows : (m : Module) → numbers_of (rows_of m) ≡ behind first_numbers m
numbers-rows m = ap numbers_of (sym (rows-made m)) ∙ numbers-ops m no_rows None

-- its values are those that the calls add
pub types-added : (m : Module) (a : Adding) → IsOpen m (parent_of a)
    → types_in (added m a) ≡ (act a (rows_of m)).types
types-added m a i = sym (ap (λ s. s.types) (rows-added m a i))
