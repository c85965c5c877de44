-- What a judge and a printer need: an operation by its number, and the first of a list of ids.
--
--   an-op, op-within          a number below the count names an operation, and only such a one does
--   ops-first, ..             the first id of a list, what it names, and the others
--   ops-end, ..               where no id is left, nothing is
--   OpsLeft, ops-now, ..     a loop over ids: what is left, the present one
--   regions-count, blocks-count      as many ids as regions, as blocks
--   types-mapped, sites-mapped       values and operations of a module with other names and values
use Rattle.std.proofs.Common.{◌≡◌, ℕ, zero, suc, ◌+◌, ◌<◌, List, [], ◌∷◌, ◌++◌, length, map, Some}
use Rattle.std.proofs.Common.{slice_get, refl, ap, ◌∙◌, arith, get_or, drop, drop-cons, add-one}
use Rattle.std.proofs.Common.{subst}
use Rattle.std.proofs.lemmas.List.{length-map, map-append}
use Rattle.std.proofs.lemmas.Option.{slice_get_within}
use Rattle.ir_store.specs.declared.rows.OpId.{OpId}
use Rattle.ir_store.specs.declared.rows.RegionId.{RegionId}
use Rattle.ir_store.specs.declared.rows.BlockId.{BlockId}
use Rattle.ir_store.specs.Modules.{OpHead, Ops, Regions, Blocks, no_ops, then_op, no_regions}
use Rattle.ir_store.specs.Modules.{region, no_blocks, block, types_in, types_in_regions}
use Rattle.ir_store.specs.Modules.{types_in_blocks, block_args, region_args, mapped, mapped_head}
use Rattle.ir_store.specs.Modules.{mapped_regions, mapped_blocks}
use Rattle.ir_store.specs.Numbering.{Numbers, first_numbers, past_op, past_region, past_block, behind}
use Rattle.ir_store.specs.Numbering.{behind_regions, behind_blocks, OpSite, RegionSite, BlockSite}
use Rattle.ir_store.specs.Numbering.{Part, parts, parts_of_regions, parts_of_blocks, op_sites}
use Rattle.ir_store.specs.Numbering.{ops_in, regions_in, blocks_in}
use Rattle.ir_store.specs.Named.{op_id, region_id, block_id, op_at, region_at, block_at, AreOps}
use Rattle.ir_store.specs.Named.{AreRegions, AreBlocks}
use Rattle.ir_store.proofs.Replay.{op-sites-append}

get-some : {X : Type 0} (xs : List X) (i : ℕ) → i < length xs → (x : X) × (slice_get xs i ≡ Some x)
get-some [] i h = absurd (omega arith)
get-some (x ∷ xs) zero h = (x, refl)
get-some (x ∷ xs) (suc i) h = get-some xs i (omega arith)

module _ {N V : Type 0} where
  -- a number below the count names an operation
  pub an-op : (m : Ops N V) (i : ℕ) → i < length (ops_in m)
      → (x : OpSite N V) × (op_at m (op_id i) ≡ Some x)
  an-op m i h = get-some (ops_in m) i h

  -- the id of an operation is below the count
  pub op-within : (m : Ops N V) (id : OpId) (x : OpSite N V) → op_at m id ≡ Some x
      → id.0 < length (ops_in m)
  op-within m id x e = slice_get_within (ops_in m) id.0 x e

  -- the id of a region is below the count
  pub region-within : (m : Ops N V) (id : RegionId) (x : RegionSite N V) → region_at m id ≡ Some x
      → id.0 < length (regions_in m)
  region-within m id x e = slice_get_within (regions_in m) id.0 x e

  -- the id of a block is below the count
  pub block-within : (m : Ops N V) (id : BlockId) (x : BlockSite N V) → block_at m id ≡ Some x
      → id.0 < length (blocks_in m)
  block-within m id x e = slice_get_within (blocks_in m) id.0 x e

  -- the first operation of a list, and those behind it
  pub record FirstOp (m : Ops N V) (c : Numbers) (id : OpId) (ids : List OpId) (os : Ops N V) : Type 0 where
    pub head : OpHead N V
    pub regions : Regions N V
    pub rest : Ops N V
    pub is : os ≡ then_op head regions rest
    pub id_is : id ≡ op_id c.ops
    pub here : op_at m id ≡ Some (record { at = c; head = head; regions = regions })
    pub more : AreOps m (behind_regions (past_op c head) regions) ids rest

  -- the first id of a list names the first operation
  pub ops-first : (m : Ops N V) (c : Numbers) (id : OpId) (ids : List OpId) (os : Ops N V)
      → AreOps m c (id ∷ ids) os → FirstOp m c id ids os
  ops-first m c id ids no_ops x = absurd x
  ops-first m c id ids (then_op h rs os) x = record { head = h; regions = rs; rest = os; is = refl; id_is = x.0; here = x.1; more = x.2 }

  -- where no id is left, no operation is
  pub ops-end : (m : Ops N V) (c : Numbers) (os : Ops N V) → AreOps m c [] os → os ≡ no_ops
  ops-end m c no_ops x = refl
  ops-end m c (then_op h rs os) x = absurd x

  -- the first region of a list, and those behind it
  pub record FirstRegion (m : Ops N V) (c : Numbers) (id : RegionId) (ids : List RegionId) (rs : Regions N V) : Type 0 where
    pub blocks : Blocks N V
    pub rest : Regions N V
    pub is : rs ≡ region blocks rest
    pub id_is : id ≡ region_id c.regions
    pub here : region_at m id ≡ Some (record { at = c; blocks = blocks })
    pub more : AreRegions m (behind_blocks (past_region c) blocks) ids rest

  -- the first id of a list names the first region
  pub regions-first : (m : Ops N V) (c : Numbers) (id : RegionId) (ids : List RegionId)
      (rs : Regions N V) → AreRegions m c (id ∷ ids) rs → FirstRegion m c id ids rs
  regions-first m c id ids no_regions x = absurd x
  regions-first m c id ids (region bs rs) x = record { blocks = bs; rest = rs; is = refl; id_is = x.0; here = x.1; more = x.2 }

  -- where no id is left, no region is
  pub regions-end : (m : Ops N V) (c : Numbers) (rs : Regions N V) → AreRegions m c [] rs
      → rs ≡ no_regions
  regions-end m c no_regions x = refl
  regions-end m c (region bs rs) x = absurd x

  -- the first block of a list, and those behind it
  pub record FirstBlock (m : Ops N V) (c : Numbers) (id : BlockId) (ids : List BlockId) (bs : Blocks N V) : Type 0 where
    pub args : List V
    pub ops : Ops N V
    pub rest : Blocks N V
    pub is : bs ≡ block args ops rest
    pub id_is : id ≡ block_id c.blocks
    pub here : block_at m id ≡ Some (record { at = c; args = args; ops = ops })
    pub more : AreBlocks m (behind (past_block c args) ops) ids rest

  -- the first id of a list names the first block
  pub blocks-first : (m : Ops N V) (c : Numbers) (id : BlockId) (ids : List BlockId)
      (bs : Blocks N V) → AreBlocks m c (id ∷ ids) bs → FirstBlock m c id ids bs
  blocks-first m c id ids no_blocks x = absurd x
  blocks-first m c id ids (block args os bs) x = record { args = args; ops = os; rest = bs; is = refl; id_is = x.0; here = x.1; more = x.2 }

  -- where no id is left, no block is
  pub blocks-end : (m : Ops N V) (c : Numbers) (bs : Blocks N V) → AreBlocks m c [] bs
      → bs ≡ no_blocks
  blocks-end m c no_blocks x = refl
  blocks-end m c (block args os bs) x = absurd x

  -- as many ids as regions, and as blocks
  pub regions-count : (m : Ops N V) (ids : List RegionId) (rs : Regions N V) (c : Numbers)
      → AreRegions m c ids rs → length ids ≡ length (region_args rs)
  regions-count m [] no_regions c x = refl
  regions-count m [] (region bs rs) c x = absurd x
  regions-count m (id ∷ ids) no_regions c x = absurd x
  regions-count m (id ∷ ids) (region bs rs) c x = ap suc (regions-count m ids rs _ x.2)

  -- as many ids as blocks
  pub blocks-count : (m : Ops N V) (ids : List BlockId) (bs : Blocks N V) (c : Numbers)
      → AreBlocks m c ids bs → length ids ≡ length (block_args bs)
  blocks-count m [] no_blocks c x = refl
  blocks-count m [] (block args os bs) c x = absurd x
  blocks-count m (id ∷ ids) no_blocks c x = absurd x
  blocks-count m (id ∷ ids) (block args os bs) c x = ap suc (blocks-count m ids bs _ x.2)

-- ---- loops over ids

module _ {N V : Type 0} where
  -- what the ids from i on name
  pub record OpsLeft (m : Ops N V) (ids : List OpId) (i : ℕ) : Type 0 where
    pub at : Numbers
    pub ops : Ops N V
    pub are : AreOps m at (drop i ids) ops

  -- the id at a place names the first operation that is left
  pub ops-now : (m : Ops N V) (ids : List OpId) (i : ℕ) (d : OpId) → i < length ids
      → (l : OpsLeft m ids i) → FirstOp m l.at (get_or ids i d) (drop (i + 1) ids) l.ops
  ops-now m ids i d h l =
      let split : drop i ids ≡ get_or ids i d ∷ drop (i + 1) ids = rw add-one (drop-cons ids i d h) in
      ops-first m l.at _ _ l.ops (subst (λ ids. AreOps m l.at ids l.ops) split l.are)

  -- those behind it are left then
  pub ops-next : (m : Ops N V) (ids : List OpId) (i : ℕ) (d : OpId) → i < length ids
      → OpsLeft m ids i → OpsLeft m ids (i + 1)
  ops-next m ids i d h l = let first = ops-now m ids i d h l in record { at = _; ops = first.rest; are = first.more }

  -- what the ids of regions from i on name
  pub record RegionsLeft (m : Ops N V) (ids : List RegionId) (i : ℕ) : Type 0 where
    pub at : Numbers
    pub regions : Regions N V
    pub are : AreRegions m at (drop i ids) regions

  -- the id at a place names the first region that is left
  pub regions-now : (m : Ops N V) (ids : List RegionId) (i : ℕ) (d : RegionId) → i < length ids
      → (l : RegionsLeft m ids i) → FirstRegion m l.at (get_or ids i d) (drop (i + 1) ids) l.regions
  regions-now m ids i d h l =
      let split : drop i ids ≡ get_or ids i d ∷ drop (i + 1) ids = rw add-one (drop-cons ids i d h) in
      regions-first m l.at _ _ l.regions (subst (λ ids. AreRegions m l.at ids l.regions) split l.are)

  -- those behind it are left then
  pub regions-next : (m : Ops N V) (ids : List RegionId) (i : ℕ) (d : RegionId) → i < length ids
      → RegionsLeft m ids i → RegionsLeft m ids (i + 1)
  regions-next m ids i d h l = let first = regions-now m ids i d h l in record { at = _; regions = first.rest; are = first.more }

  -- what the ids of blocks from i on name
  pub record BlocksLeft (m : Ops N V) (ids : List BlockId) (i : ℕ) : Type 0 where
    pub at : Numbers
    pub blocks : Blocks N V
    pub are : AreBlocks m at (drop i ids) blocks

  -- the id at a place names the first block that is left
  pub blocks-now : (m : Ops N V) (ids : List BlockId) (i : ℕ) (d : BlockId) → i < length ids
      → (l : BlocksLeft m ids i) → FirstBlock m l.at (get_or ids i d) (drop (i + 1) ids) l.blocks
  blocks-now m ids i d h l =
      let split : drop i ids ≡ get_or ids i d ∷ drop (i + 1) ids = rw add-one (drop-cons ids i d h) in
      blocks-first m l.at _ _ l.blocks (subst (λ ids. AreBlocks m l.at ids l.blocks) split l.are)

  -- those behind it are left then
  pub blocks-next : (m : Ops N V) (ids : List BlockId) (i : ℕ) (d : BlockId) → i < length ids
      → BlocksLeft m ids i → BlocksLeft m ids (i + 1)
  blocks-next m ids i d h l = let first = blocks-now m ids i d h l in record { at = _; blocks = first.rest; are = first.more }

-- ---- other names and values

module _ {N V M W : Type 0} (f : N → M) (g : V → W) where
  mutual
    -- the types of a module with other names and values are the other types
    pub types-mapped : (os : Ops N V) → types_in (mapped f g os) ≡ map g (types_in os)
    types-mapped no_ops = refl
    types-mapped (then_op h rs os) =
        let a = types-mapped_regions rs in
        let b = types-mapped os in
        rw (a, b, map-append, map-append)

    -- the same of regions
    pub types-mapped_regions : (rs : Regions N V)
        → types_in_regions (mapped_regions f g rs) ≡ map g (types_in_regions rs)
    types-mapped_regions no_regions = refl
    types-mapped_regions (region bs rs) =
        let a = types-mapped_blocks bs in
        let b = types-mapped_regions rs in
        rw (a, b, map-append)

    -- the same of blocks
    pub types-mapped_blocks : (bs : Blocks N V)
        → types_in_blocks (mapped_blocks f g bs) ≡ map g (types_in_blocks bs)
    types-mapped_blocks no_blocks = refl
    types-mapped_blocks (block args os bs) =
        let a = types-mapped os in
        let b = types-mapped_blocks bs in
        rw (a, b, map-append, map-append)

  past-op-mapped : (c : Numbers) (h : OpHead N V) → past_op c (mapped_head f g h) ≡ past_op c h
  past-op-mapped c h = ap (λ n. record c { ops = c.ops + 1; values = c.values + n }) (length-map h.results g)

  past-block-mapped : (c : Numbers) (args : List V) → past_block c (map g args) ≡ past_block c args
  past-block-mapped c args = ap (λ n. record c { blocks = c.blocks + 1; values = c.values + n }) (length-map args g)

  -- the numbers are the same
  mutual
    pub behind-mapped : (os : Ops N V) (c : Numbers) → behind c (mapped f g os) ≡ behind c os
    behind-mapped no_ops c = refl
    behind-mapped (then_op h rs os) c =
        behind-mapped os (behind_regions (past_op c (mapped_head f g h)) (mapped_regions f g rs))
        ∙ ap (λ d. behind d os) (behind-mapped_regions rs (past_op c (mapped_head f g h)) ∙ ap (λ d. behind_regions d rs) (past-op-mapped c h))

    -- the same behind regions
    pub behind-mapped_regions : (rs : Regions N V) (c : Numbers)
        → behind_regions c (mapped_regions f g rs) ≡ behind_regions c rs
    behind-mapped_regions no_regions c = refl
    behind-mapped_regions (region bs rs) c =
        behind-mapped_regions rs (behind_blocks (past_region c) (mapped_blocks f g bs))
        ∙ ap (λ d. behind_regions d rs) (behind-mapped_blocks bs (past_region c))

    -- the same behind blocks
    pub behind-mapped_blocks : (bs : Blocks N V) (c : Numbers)
        → behind_blocks c (mapped_blocks f g bs) ≡ behind_blocks c bs
    behind-mapped_blocks no_blocks c = refl
    behind-mapped_blocks (block args os bs) c =
        behind-mapped_blocks bs (behind (past_block c (map g args)) (mapped f g os))
        ∙ ap (λ d. behind_blocks d bs) (behind-mapped os (past_block c (map g args)) ∙ ap (λ d. behind d os) (past-block-mapped c args))

  -- an operation where it stands, with another name and other values
  abbrev pub mapped_site : OpSite N V → OpSite M W
  mapped_site x = record { at = x.at; head = mapped_head f g x.head; regions = mapped_regions f g x.regions }

  joined-sites : (ps' qs' : List (Part M W)) (ps qs : List (Part N V))
      → op_sites ps' ≡ map mapped_site (op_sites ps) → op_sites qs' ≡ map mapped_site (op_sites qs)
      → op_sites (ps' ++ qs') ≡ map mapped_site (op_sites (ps ++ qs))
  joined-sites ps' qs' ps qs a b =
      let l = op-sites-append ps' qs' in
      let r = ap (map mapped_site) (op-sites-append ps qs) in
      let m = map-append mapped_site (op_sites ps) (op_sites qs) in
      cc

  -- the operations are those with other names and values
  mutual
    sites-mapped_from : (os : Ops N V) (c : Numbers)
        → op_sites (parts c (mapped f g os)) ≡ map mapped_site (op_sites (parts c os))
    sites-mapped_from no_ops c = refl
    sites-mapped_from (then_op h rs os) c =
        let d = past_op c h in
        let e = behind_regions d rs in
        let h' = mapped_head f g h in
        let rs' = mapped_regions f g rs in
        let os' = mapped f g os in
        let at_d = past-op-mapped c h in
        let at_e : behind_regions (past_op c h') rs' ≡ e = ap (λ d. behind_regions d rs') at_d ∙ behind-mapped_regions rs d in
        ap (λ l. (record { at = c; head = h'; regions = rs' }) ∷ l)
        (joined-sites (parts_of_regions (past_op c h') rs') (parts (behind_regions (past_op c h') rs') os') (parts_of_regions d rs) (parts e os)
        (ap (λ d. op_sites (parts_of_regions d rs')) at_d ∙ sites-mapped_regions rs d)
        (ap (λ e. op_sites (parts e os')) at_e ∙ sites-mapped_from os e))

    sites-mapped_regions : (rs : Regions N V) (c : Numbers)
        → op_sites (parts_of_regions c (mapped_regions f g rs))
        ≡ map mapped_site (op_sites (parts_of_regions c rs))
    sites-mapped_regions no_regions c = refl
    sites-mapped_regions (region bs rs) c =
        let d = past_region c in
        let e = behind_blocks d bs in
        let bs' = mapped_blocks f g bs in
        let rs' = mapped_regions f g rs in
        joined-sites (parts_of_blocks d bs') (parts_of_regions (behind_blocks d bs') rs') (parts_of_blocks d bs) (parts_of_regions e rs)
        (sites-mapped_blocks bs d)
        (ap (λ e. op_sites (parts_of_regions e rs')) (behind-mapped_blocks bs d) ∙ sites-mapped_regions rs e)

    sites-mapped_blocks : (bs : Blocks N V) (c : Numbers)
        → op_sites (parts_of_blocks c (mapped_blocks f g bs))
        ≡ map mapped_site (op_sites (parts_of_blocks c bs))
    sites-mapped_blocks no_blocks c = refl
    sites-mapped_blocks (block args os bs) c =
        let d = past_block c args in
        let e = behind d os in
        let os' = mapped f g os in
        let bs' = mapped_blocks f g bs in
        let at_d = past-block-mapped c args in
        let at_e : behind (past_block c (map g args)) os' ≡ e = ap (λ d. behind d os') at_d ∙ behind-mapped os d in
        joined-sites (parts (past_block c (map g args)) os') (parts_of_blocks (behind (past_block c (map g args)) os') bs') (parts d os) (parts_of_blocks e bs)
        (ap (λ d. op_sites (parts d os')) at_d ∙ sites-mapped_from os d)
        (ap (λ e. op_sites (parts_of_blocks e bs')) at_e ∙ sites-mapped_blocks bs e)

  -- the operations of a module with other names and values are those of the module, with these
  pub sites-mapped : (m : Ops N V) → ops_in (mapped f g m) ≡ map mapped_site (ops_in m)
  sites-mapped m = sites-mapped_from m first_numbers
