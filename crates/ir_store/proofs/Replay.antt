-- The rows that calls in text order make of a module are the rows of that module.
use Rattle.std.proofs.Common.{◌≡◌, ℕ, zero, suc, ◌+◌, ◌<◌, ◌≤◌, List, [], ◌∷◌, ◌++◌, length, map}
use Rattle.std.proofs.Common.{Option, Some, None, refl, ap, sym, ◌∙◌, arith, append_assoc}
use Rattle.std.proofs.Common.{append-nil, length-append}
use Rattle.std.proofs.lemmas.List.{map-append}
use Rattle.attr_value.specs.declared.head.ValueId.{ValueId}
use Rattle.ir_store.specs.declared.rows.OpId.{OpId}
use Rattle.ir_store.specs.declared.rows.RegionId.{RegionId}
use Rattle.ir_store.specs.declared.rows.BlockId.{BlockId}
use Rattle.ir_store.specs.declared.tables.RegionRow.{RegionRow}
use Rattle.ir_store.specs.declared.tables.BlockEntry.{BlockEntry}
use Rattle.ir_store.specs.Modules.{Regions, Blocks, no_ops, then_op, no_regions, region, no_blocks}
use Rattle.ir_store.specs.Modules.{block, types_in, types_in_regions, types_in_blocks}
use Rattle.ir_store.specs.Modules.{joined_ops, joined_regions, joined_blocks}
use Rattle.ir_store.specs.Numbering.{Numbers, first_numbers, past_op, past_region, past_block, behind}
use Rattle.ir_store.specs.Numbering.{behind_regions, behind_blocks, Part, an_op, a_region, a_block}
use Rattle.ir_store.specs.Numbering.{parts, parts_of_regions, parts_of_blocks, op_sites}
use Rattle.ir_store.specs.Numbering.{region_sites, block_sites}
use Rattle.ir_store.specs.Named.{op_id, region_id, block_id}
use Rattle.ir_store.specs.Store.{OpName, StoredHead, Module}
use Rattle.ir_store.specs.Rows.{OpNode, Rows, no_rows, op_ids, region_ids, block_ids, op_node}
use Rattle.ir_store.specs.Rows.{region_node, block_node, op_nodes, region_nodes, block_nodes}
use Rattle.ir_store.specs.Rows.{rows_of, changed, top_with, blocks_with, with_op, with_region}
use Rattle.ir_store.specs.Rows.{with_block}
use Rattle.ir_store.proofs.Changed.{length-changed}

-- regions of a store
abbrev pub Rs : Type 0
Rs = Regions OpName ValueId

-- blocks of a store
abbrev pub Bs : Type 0
Bs = Blocks OpName ValueId

-- the calls that add a tree, in text order
abbrev mutual
  pub with_ops : Rows → Option BlockId → Module → Rows
  with_ops s b no_ops = s
  with_ops s b (then_op h rs os) =
      with_ops (with_regions (with_op s b h) (op_id (length s.ops)) rs) b os

  -- the tables with these regions last in an operation
  pub with_regions : Rows → OpId → Rs → Rows
  with_regions s o no_regions = s
  with_regions s o (region bs rs) =
      with_regions (with_blocks (with_region s o) (region_id (length s.regions)) bs) o rs

  -- the tables with these blocks last in a region
  pub with_blocks : Rows → RegionId → Bs → Rows
  with_blocks s r no_blocks = s
  with_blocks s r (block args os bs) =
      with_blocks (with_ops (with_block s r args) (Some (block_id (length s.blocks))) os) r bs

-- how many of each kind stand in the tables
abbrev pub numbers_of : Rows → Numbers
numbers_of s = record {
  ops = length s.ops;
  regions = length s.regions;
  blocks = length s.blocks;
  values = length s.types;
}

same-numbers : (a b c d a' b' c' d' : ℕ) → a ≡ a' → b ≡ b' → c ≡ c' → d ≡ d'
    → Path Numbers (record { ops = a; regions = b; blocks = c; values = d }) (record { ops = a'; regions = b'; blocks = c'; values = d' })
same-numbers a b c d a' b' c' d' p q r s = cc

-- the numbers behind one more operation
pub numbers-op : (s : Rows) (b : Option BlockId) (h : StoredHead)
    → numbers_of (with_op s b h) ≡ past_op (numbers_of s) h
numbers-op s None h =
    same-numbers _ _ _ _ _ _ _ _ (omega (arith, length-append s.ops)) refl refl (length-append s.types h.results)
numbers-op s (Some b) h =
    same-numbers _ _ _ _ _ _ _ _ (omega (arith, length-append s.ops)) refl
    (length-changed {A = BlockEntry} _ s.blocks b.0) (length-append s.types h.results)

-- the numbers behind one more region
pub numbers-region : (s : Rows) (o : OpId)
    → numbers_of (with_region s o) ≡ past_region (numbers_of s)
numbers-region s o =
    same-numbers _ _ _ _ _ _ _ _ (length-changed {A = OpNode} _ s.ops o.0) (omega (arith, length-append s.regions)) refl refl

-- the numbers behind one more block
pub numbers-block : (s : Rows) (r : RegionId) (args : List ValueId)
    → numbers_of (with_block s r args) ≡ past_block (numbers_of s) args
numbers-block s r args =
    same-numbers _ _ _ _ _ _ _ _ refl (length-changed {A = RegionRow} _ s.regions r.0)
    (omega (arith, length-append s.blocks)) (length-append s.types args)

mutual
  -- the numbers behind more operations
  pub numbers-ops : (os : Module) (s : Rows) (b : Option BlockId)
      → numbers_of (with_ops s b os) ≡ behind (numbers_of s) os
  numbers-ops no_ops s b = refl
  numbers-ops (then_op h rs os) s b =
      let t = with_op s b h in
      let o = op_id (length s.ops) in
      numbers-ops os (with_regions t o rs) b
      ∙ ap (λ c. behind c os) (numbers-regions rs t o ∙ ap (λ c. behind_regions c rs) (numbers-op s b h))

  -- the numbers behind more regions
  pub numbers-regions : (rs : Rs) (s : Rows) (o : OpId)
      → numbers_of (with_regions s o rs) ≡ behind_regions (numbers_of s) rs
  numbers-regions no_regions s o = refl
  numbers-regions (region bs rs) s o =
      let t = with_region s o in
      let r = region_id (length s.regions) in
      numbers-regions rs (with_blocks t r bs) o
      ∙ ap (λ c. behind_regions c rs) (numbers-blocks bs t r ∙ ap (λ c. behind_blocks c bs) (numbers-region s o))

  -- the numbers behind more blocks
  pub numbers-blocks : (bs : Bs) (s : Rows) (r : RegionId)
      → numbers_of (with_blocks s r bs) ≡ behind_blocks (numbers_of s) bs
  numbers-blocks no_blocks s r = refl
  numbers-blocks (block args os bs) s r =
      let t = with_block s r args in
      let b = block_id (length s.blocks) in
      numbers-blocks bs (with_ops t (Some b) os) r
      ∙ ap (λ c. behind_blocks c bs) (numbers-ops os t (Some b) ∙ ap (λ c. behind c os) (numbers-block s r args))

-- adding a tree that is two trees
pub twice-ops : (os more : Module) (s : Rows) (b : Option BlockId)
    → with_ops (with_ops s b os) b more ≡ with_ops s b (joined_ops os more)
twice-ops no_ops more s b = refl
twice-ops (then_op h rs os) more s b = twice-ops os more (with_regions (with_op s b h) (op_id (length s.ops)) rs) b

-- regions in two steps
pub twice-regions : (rs more : Rs) (s : Rows) (o : OpId)
    → with_regions (with_regions s o rs) o more ≡ with_regions s o (joined_regions rs more)
twice-regions no_regions more s o = refl
twice-regions (region bs rs) more s o = twice-regions rs more (with_blocks (with_region s o) (region_id (length s.regions)) bs) o

-- blocks in two steps
pub twice-blocks : (bs more : Bs) (s : Rows) (r : RegionId)
    → with_blocks (with_blocks s r bs) r more ≡ with_blocks s r (joined_blocks bs more)
twice-blocks no_blocks more s r = refl
twice-blocks (block args os bs) more s r = twice-blocks bs more (with_ops (with_block s r args) (Some (block_id (length s.blocks))) os) r

-- ---- the rows of a tree

-- the operations among joined parts
pub op-sites-append : {N V : Type 0} (ps qs : List (Part N V))
    → op_sites (ps ++ qs) ≡ op_sites ps ++ op_sites qs
op-sites-append [] qs = refl
op-sites-append (an_op x ∷ ps) qs = ap (λ l. x ∷ l) (op-sites-append ps qs)
op-sites-append (a_region x ∷ ps) qs = op-sites-append ps qs
op-sites-append (a_block x ∷ ps) qs = op-sites-append ps qs

-- the regions among joined parts
pub region-sites-append : {N V : Type 0} (ps qs : List (Part N V))
    → region_sites (ps ++ qs) ≡ region_sites ps ++ region_sites qs
region-sites-append [] qs = refl
region-sites-append (an_op x ∷ ps) qs = region-sites-append ps qs
region-sites-append (a_region x ∷ ps) qs = ap (λ l. x ∷ l) (region-sites-append ps qs)
region-sites-append (a_block x ∷ ps) qs = region-sites-append ps qs

-- the blocks among joined parts
pub block-sites-append : {N V : Type 0} (ps qs : List (Part N V))
    → block_sites (ps ++ qs) ≡ block_sites ps ++ block_sites qs
block-sites-append [] qs = refl
block-sites-append (an_op x ∷ ps) qs = block-sites-append ps qs
block-sites-append (a_region x ∷ ps) qs = block-sites-append ps qs
block-sites-append (a_block x ∷ ps) qs = ap (λ l. x ∷ l) (block-sites-append ps qs)

-- the rows of the operations among joined parts
pub op-nodes-append : (ps qs : List (Part OpName ValueId))
    → op_nodes (ps ++ qs) ≡ op_nodes ps ++ op_nodes qs
op-nodes-append ps qs = ap (map op_node) (op-sites-append ps qs) ∙ map-append op_node (op_sites ps) (op_sites qs)

-- the rows of the regions among joined parts
pub region-nodes-append : (ps qs : List (Part OpName ValueId))
    → region_nodes (ps ++ qs) ≡ region_nodes ps ++ region_nodes qs
region-nodes-append ps qs = ap (map region_node) (region-sites-append ps qs) ∙ map-append region_node (region_sites ps) (region_sites qs)

-- the rows of the blocks among joined parts
pub block-nodes-append : (ps qs : List (Part OpName ValueId))
    → block_nodes (ps ++ qs) ≡ block_nodes ps ++ block_nodes qs
block-nodes-append ps qs = ap (map block_node) (block-sites-append ps qs) ∙ map-append block_node (block_sites ps) (block_sites qs)

-- a change of the last
pub changed-last : {A : Type 0} (f : A → A) (xs : List A) (x : A)
    → changed f (length xs) (xs ++ x ∷ []) ≡ xs ++ f x ∷ []
changed-last f [] x = refl
changed-last f (z ∷ xs) x = ap (λ l. z ∷ l) (changed-last f xs x)

-- a change before what is added
pub changed-append : {A : Type 0} (f : A → A) (i : ℕ) (xs ys : List A) → i < length xs
    → changed f i (xs ++ ys) ≡ changed f i xs ++ ys
changed-append f i [] ys h = absurd (omega arith)
changed-append f zero (x ∷ xs) ys h = refl
changed-append f (suc i) (x ∷ xs) ys h = ap (λ l. x ∷ l) (changed-append f i xs ys (omega arith))

-- two changes at one place
pub changed-twice : {A : Type 0} (f g k : A → A) → ((x : A) → f (g x) ≡ k x) → (i : ℕ) (xs : List A)
    → changed f i (changed g i xs) ≡ changed k i xs
changed-twice f g k is i [] = refl
changed-twice f g k is zero (x ∷ xs) = ap (λ y. y ∷ xs) (is x)
changed-twice f g k is (suc i) (x ∷ xs) = ap (λ l. x ∷ l) (changed-twice f g k is i xs)

-- the block is one of the rows', or the top level
abbrev pub IsThere : Rows → Option BlockId → Type 0
IsThere s None = Unit {0}
IsThere s (Some b) = b.0 < length s.blocks

-- the rows with those of a tree that begins at c
abbrev pub grown_ops : Rows → Option BlockId → Numbers → Module → Rows
grown_ops s b c os = record {
  top = top_with b (op_ids c os) s.top;
  ops = s.ops ++ op_nodes (parts c os);
  regions = s.regions ++ region_nodes (parts c os);
  blocks = blocks_with b (op_ids c os) s.blocks ++ block_nodes (parts c os);
  types = s.types ++ types_in os;
}

-- the same after regions
abbrev pub grown_regions : Rows → OpId → Numbers → Rs → Rows
grown_regions s o c rs = record {
  top = s.top;
  ops = changed (λ n. record n { regions = n.regions ++ region_ids c rs }) o.0 s.ops ++ op_nodes (parts_of_regions c rs);
  regions = s.regions ++ region_nodes (parts_of_regions c rs);
  blocks = s.blocks ++ block_nodes (parts_of_regions c rs);
  types = s.types ++ types_in_regions rs;
}

-- the same after blocks
abbrev pub grown_blocks : Rows → RegionId → Numbers → Bs → Rows
grown_blocks s r c bs = record {
  top = s.top;
  ops = s.ops ++ op_nodes (parts_of_blocks c bs);
  regions = changed (λ n. record n { blocks = n.blocks ++ block_ids c bs }) r.0 s.regions ++ region_nodes (parts_of_blocks c bs);
  blocks = s.blocks ++ block_nodes (parts_of_blocks c bs);
  types = s.types ++ types_in_blocks bs;
}

-- no change
changed-none : {A : Type 0} (f : A → A) → ((x : A) → f x ≡ x) → (i : ℕ) (xs : List A)
    → changed f i xs ≡ xs
changed-none f is i [] = refl
changed-none f is zero (x ∷ xs) = ap (λ y. y ∷ xs) (is x)
changed-none f is (suc i) (x ∷ xs) = ap (λ l. x ∷ l) (changed-none f is i xs)

top-none : (b : Option BlockId) (top : List OpId) → top_with b [] top ≡ top
top-none None top = append-nil top
top-none (Some b) top = refl

top-more : (b : Option BlockId) (ids more top : List OpId)
    → top_with b more (top_with b ids top) ≡ top_with b (ids ++ more) top
top-more None ids more top = append_assoc top ids more
top-more (Some b) ids more top = refl

blocks-none : (b : Option BlockId) (blocks : List BlockEntry) → blocks_with b [] blocks ≡ blocks
blocks-none None blocks = refl
blocks-none (Some b) blocks = changed-none _ (λ n. ap (λ l. record n { ops = l }) (append-nil n.ops)) b.0 blocks

blocks-more : (s : Rows) (b : Option BlockId) → IsThere s b
    → (ids more : List OpId) (new : List BlockEntry)
    → blocks_with b more (blocks_with b ids s.blocks ++ new) ≡ blocks_with b (ids ++ more) s.blocks ++ new
blocks-more s None h ids more new = refl
blocks-more s (Some b) h ids more new =
    changed-append _ b.0 (blocks_with (Some b) ids s.blocks) new (omega (arith, length-changed {A = BlockEntry} (λ n. record n { ops = n.ops ++ ids }) s.blocks b.0))
    ∙ ap (λ l. l ++ new) (changed-twice _ _ (λ n. record n { ops = n.ops ++ (ids ++ more) }) (λ n. ap (λ l. record n { ops = l }) (append_assoc n.ops ids more)) b.0 s.blocks)

same-fields : (a a' : List OpId) (b b' : List OpNode) (c c' : List RegionRow) (d d' : List BlockEntry) (e e' : List ValueId)
    → a ≡ a' → b ≡ b' → c ≡ c' → d ≡ d' → e ≡ e'
    → Path Rows (record { top = a; ops = b; regions = c; blocks = d; types = e }) (record { top = a'; ops = b'; regions = c'; blocks = d'; types = e' })
same-fields a a' b b' c c' d d' e e' p q r s t = cc

same-rows : (s t : Rows) → s.top ≡ t.top → s.ops ≡ t.ops → s.regions ≡ t.regions
    → s.blocks ≡ t.blocks → s.types ≡ t.types → s ≡ t
same-rows s t a b c d e = same-fields _ _ _ _ _ _ _ _ _ _ a b c d e

-- there is still a block
pub there-later : (s : Rows) (b : Option BlockId) (f : Rows) → length s.blocks ≤ length f.blocks
    → IsThere s b → IsThere f b
there-later s None f more h = tt
there-later s (Some b) f more h = omega arith

mutual
  -- operations that are put in one by one make these tables
  pub grow-ops : (os : Module) (s : Rows) (b : Option BlockId) (c : Numbers) → numbers_of s ≡ c
      → IsThere s b → with_ops s b os ≡ grown_ops s b c os
  grow-ops no_ops s b c e h =
      same-rows s (grown_ops s b c no_ops) (sym (top-none b s.top)) (sym (append-nil s.ops)) (sym (append-nil s.regions))
      (sym (append-nil _ ∙ blocks-none b s.blocks)) (sym (append-nil s.types))
  grow-ops (then_op head rs os) s b c e h =
      let o = op_id (length s.ops) in
      let t = with_op s b head in
      let u = with_regions t o rs in
      let d = past_op c head in
      let f = behind_regions d rs in
      let at_t : numbers_of t ≡ d = numbers-op s b head ∙ ap (λ c. past_op c head) e in
      let at_u : numbers_of u ≡ f = numbers-regions rs t o ∙ ap (λ c. behind_regions c rs) at_t in
      let n_s : length s.ops ≡ c.ops = ap (λ c. c.ops) e in
      let n_t : length t.ops ≡ length s.ops + 1 = length-append s.ops _ in
      let inside : u ≡ grown_regions t o d rs = grow-regions rs t o d at_t (omega arith) in
      let b_t : length t.blocks ≡ length s.blocks = ap (λ c. c.blocks) (numbers-op s b head) in
      let b_u : length u.blocks ≡ length (t.blocks ++ block_nodes (parts_of_regions d rs)) = ap (λ s. length s.blocks) inside in
      let there : IsThere u b = there-later s b u (omega (arith, length-append t.blocks (block_nodes (parts_of_regions d rs)))) h in
      let rest : with_ops u b os ≡ grown_ops u b f os = grow-ops os u b f at_u there in
      let whole : grown_ops u b f os ≡ grown_ops (grown_regions t o d rs) b f os = ap (λ u. grown_ops u b f os) inside in
      let place : op_id (length s.ops) ≡ op_id c.ops = ap op_id n_s in
      let last : changed (λ n. record n { regions = n.regions ++ region_ids d rs }) (length s.ops) t.ops
      ≡ s.ops ++ op_node (record { at = c; head = head; regions = rs }) ∷ [] =
      changed-last _ s.ops _ ∙ ap (λ n. s.ops ++ (record { head = head; first = n; regions = region_ids d rs }) ∷ []) (ap (λ c. c.values) e) in
      let join_ops = op-nodes-append (parts_of_regions d rs) (parts f os) in
      let join_regions = region-nodes-append (parts_of_regions d rs) (parts f os) in
      let join_blocks = block-nodes-append (parts_of_regions d rs) (parts f os) in
      rest ∙ whole ∙ same-rows (grown_ops (grown_regions t o d rs) b f os) (grown_ops s b c (then_op head rs os))
      (top-more b (o ∷ []) (op_ids f os) s.top ∙ ap (λ i. top_with b (i ∷ op_ids f os) s.top) place)
      (rw (last, join_ops) (simp append_assoc))
      (rw join_regions (simp append_assoc))
      (rw (join_blocks, ← place, blocks-more s b h (o ∷ []) (op_ids f os) (block_nodes (parts_of_regions d rs))) (simp append_assoc))
      (simp append_assoc)

  -- the same of regions
  pub grow-regions : (rs : Rs) (s : Rows) (o : OpId) (c : Numbers) → numbers_of s ≡ c
      → o.0 < length s.ops → with_regions s o rs ≡ grown_regions s o c rs
  grow-regions no_regions s o c e h =
      same-rows s (grown_regions s o c no_regions) refl
      (sym (append-nil _ ∙ changed-none _ (λ n. ap (λ l. record n { regions = l }) (append-nil n.regions)) o.0 s.ops))
      (sym (append-nil s.regions)) (sym (append-nil s.blocks)) (sym (append-nil s.types))
  grow-regions (region bs rs) s o c e h =
      let r = region_id (length s.regions) in
      let t = with_region s o in
      let u = with_blocks t r bs in
      let d = past_region c in
      let f = behind_blocks d bs in
      let at_t : numbers_of t ≡ d = numbers-region s o ∙ ap past_region e in
      let at_u : numbers_of u ≡ f = numbers-blocks bs t r ∙ ap (λ c. behind_blocks c bs) at_t in
      let n_t : length t.regions ≡ length s.regions + 1 = length-append s.regions _ in
      let inside : u ≡ grown_blocks t r d bs = grow-blocks bs t r d at_t (omega arith) in
      let o_t : length t.ops ≡ length s.ops = ap (λ c. c.ops) (numbers-region s o) in
      let o_u : length u.ops ≡ length (t.ops ++ op_nodes (parts_of_blocks d bs)) = ap (λ s. length s.ops) inside in
      let rest : with_regions u o rs ≡ grown_regions u o f rs = grow-regions rs u o f at_u (omega (arith, length-append t.ops (op_nodes (parts_of_blocks d bs)))) in
      let whole : grown_regions u o f rs ≡ grown_regions (grown_blocks t r d bs) o f rs = ap (λ u. grown_regions u o f rs) inside in
      let place : region_id (length s.regions) ≡ region_id c.regions = ap (λ c. region_id c.regions) e in
      let last : changed (λ n. record n { blocks = n.blocks ++ block_ids d bs }) (length s.regions) t.regions
      ≡ s.regions ++ region_node (record { at = c; blocks = bs }) ∷ [] =
      changed-last _ s.regions _ in
      let step : changed (λ n. record n { regions = n.regions ++ region_ids f rs }) o.0 (t.ops ++ op_nodes (parts_of_blocks d bs))
      ≡ changed (λ n. record n { regions = n.regions ++ (r ∷ region_ids f rs) }) o.0 s.ops ++ op_nodes (parts_of_blocks d bs) =
      changed-append _ o.0 t.ops (op_nodes (parts_of_blocks d bs)) (omega arith)
      ∙ ap (λ l. l ++ op_nodes (parts_of_blocks d bs)) (changed-twice _ _ (λ n. record n { regions = n.regions ++ (r ∷ region_ids f rs) })
      (λ n. ap (λ l. record n { regions = l }) (append_assoc n.regions (r ∷ []) (region_ids f rs))) o.0 s.ops) in
      let join_ops = op-nodes-append (parts_of_blocks d bs) (parts_of_regions f rs) in
      let join_regions = region-nodes-append (parts_of_blocks d bs) (parts_of_regions f rs) in
      let join_blocks = block-nodes-append (parts_of_blocks d bs) (parts_of_regions f rs) in
      rest ∙ whole ∙ same-rows (grown_regions (grown_blocks t r d bs) o f rs) (grown_regions s o c (region bs rs))
      refl
      (rw (join_ops, ← place, step) (simp append_assoc))
      (rw (last, join_regions) (simp append_assoc))
      (rw join_blocks (simp append_assoc))
      (simp append_assoc)

  -- the same of blocks
  pub grow-blocks : (bs : Bs) (s : Rows) (r : RegionId) (c : Numbers) → numbers_of s ≡ c
      → r.0 < length s.regions → with_blocks s r bs ≡ grown_blocks s r c bs
  grow-blocks no_blocks s r c e h =
      same-rows s (grown_blocks s r c no_blocks) refl (sym (append-nil s.ops))
      (sym (append-nil _ ∙ changed-none _ (λ n. ap (λ l. record n { blocks = l }) (append-nil n.blocks)) r.0 s.regions))
      (sym (append-nil s.blocks)) (sym (append-nil s.types))
  grow-blocks (block args os bs) s r c e h =
      let b = block_id (length s.blocks) in
      let t = with_block s r args in
      let u = with_ops t (Some b) os in
      let d = past_block c args in
      let f = behind d os in
      let at_t : numbers_of t ≡ d = numbers-block s r args ∙ ap (λ c. past_block c args) e in
      let at_u : numbers_of u ≡ f = numbers-ops os t (Some b) ∙ ap (λ c. behind c os) at_t in
      let n_t : length t.blocks ≡ length s.blocks + 1 = length-append s.blocks _ in
      let inside : u ≡ grown_ops t (Some b) d os = grow-ops os t (Some b) d at_t (omega arith) in
      let r_t : length t.regions ≡ length s.regions = ap (λ c. c.regions) (numbers-block s r args) in
      let r_u : length u.regions ≡ length (t.regions ++ region_nodes (parts d os)) = ap (λ s. length s.regions) inside in
      let rest : with_blocks u r bs ≡ grown_blocks u r f bs = grow-blocks bs u r f at_u (omega (arith, length-append t.regions (region_nodes (parts d os)))) in
      let whole : grown_blocks u r f bs ≡ grown_blocks (grown_ops t (Some b) d os) r f bs = ap (λ u. grown_blocks u r f bs) inside in
      let place : block_id (length s.blocks) ≡ block_id c.blocks = ap (λ c. block_id c.blocks) e in
      let last : blocks_with (Some b) (op_ids d os) t.blocks
      ≡ s.blocks ++ block_node (record { at = c; args = args; ops = os }) ∷ [] =
      changed-last _ s.blocks _ ∙ ap (λ n. s.blocks ++ (record { first = n; count = length args; ops = op_ids d os }) ∷ []) (ap (λ c. c.values) e) in
      let step : changed (λ n. record n { blocks = n.blocks ++ block_ids f bs }) r.0 (t.regions ++ region_nodes (parts d os))
      ≡ changed (λ n. record n { blocks = n.blocks ++ (b ∷ block_ids f bs) }) r.0 s.regions ++ region_nodes (parts d os) =
      changed-append _ r.0 t.regions (region_nodes (parts d os)) (omega arith)
      ∙ ap (λ l. l ++ region_nodes (parts d os)) (changed-twice _ _ (λ n. record n { blocks = n.blocks ++ (b ∷ block_ids f bs) })
      (λ n. ap (λ l. record n { blocks = l }) (append_assoc n.blocks (b ∷ []) (block_ids f bs))) r.0 s.regions) in
      let join_ops = op-nodes-append (parts d os) (parts_of_blocks f bs) in
      let join_regions = region-nodes-append (parts d os) (parts_of_blocks f bs) in
      let join_blocks = block-nodes-append (parts d os) (parts_of_blocks f bs) in
      rest ∙ whole ∙ same-rows (grown_blocks (grown_ops t (Some b) d os) r f bs) (grown_blocks s r c (block args os bs))
      refl
      (rw join_ops (simp append_assoc))
      (rw (join_regions, ← place, step) (simp append_assoc))
      (rw (last, join_blocks) (simp append_assoc))
      (simp append_assoc)

-- the calls in text order make the rows of the module
pub rows-made : (m : Module) → with_ops no_rows None m ≡ rows_of m
rows-made m = grow-ops m no_rows None first_numbers refl tt
