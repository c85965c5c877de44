-- What stands in a module, by its numbers.
use Rattle.std.proofs.Common.{◌≡◌, ℕ, zero, suc, ◌+◌, List, [], ◌∷◌, ◌++◌, length, Some, slice_get}
use Rattle.std.proofs.Common.{take, drop, refl, ap, arith, subst, length-append, append_assoc}
use Rattle.ir_store.specs.declared.rows.OpId.{OpId}
use Rattle.ir_store.specs.declared.rows.RegionId.{RegionId}
use Rattle.ir_store.specs.declared.rows.BlockId.{BlockId}
use Rattle.ir_store.specs.Modules.{OpHead, Ops, Regions, Blocks, no_ops, then_op, no_regions}
use Rattle.ir_store.specs.Modules.{region, no_blocks, block, types_in, types_in_regions}
use Rattle.ir_store.specs.Modules.{types_in_blocks}
use Rattle.ir_store.specs.Numbering.{Numbers, first_numbers, past_op, past_region, past_block, behind}
use Rattle.ir_store.specs.Numbering.{behind_regions, behind_blocks, OpSite, RegionSite, BlockSite}
use Rattle.ir_store.specs.Numbering.{Part, an_op, a_region, a_block, parts, parts_of_regions}
use Rattle.ir_store.specs.Numbering.{parts_of_blocks, op_sites, region_sites, block_sites, ops_in}
use Rattle.ir_store.specs.Numbering.{regions_in, blocks_in}
use Rattle.ir_store.specs.Named.{op_id, region_id, block_id, op_at, region_at, block_at, HaveTypes}
use Rattle.ir_store.proofs.Replay.{op-sites-append, region-sites-append, block-sites-append}

-- these items stand in the list from k on
abbrev pub StandsAt : {X : Type 0} → List X → ℕ → List X → Type 0
StandsAt {X} all k xs = (i : ℕ) (x : X) → slice_get xs i ≡ Some x → slice_get all (k + i) ≡ Some x

get-front : {X : Type 0} (xs ys : List X) (i : ℕ) (x : X) → slice_get xs i ≡ Some x
    → slice_get (xs ++ ys) i ≡ Some x
get-front [] ys i x e = cc
get-front (y ∷ xs) ys zero x e = e
get-front (y ∷ xs) ys (suc i) x e = get-front xs ys i x e

get-back : {X : Type 0} (xs ys : List X) (i : ℕ) (x : X) → slice_get ys i ≡ Some x
    → slice_get (xs ++ ys) (length xs + i) ≡ Some x
get-back [] ys i x e = let same : 0 + i ≡ i = omega arith in rw same e
get-back (y ∷ xs) ys i x e = let same : length (y ∷ xs) + i ≡ suc (length xs + i) = omega arith in rw same (get-back xs ys i x e)

-- the first part of a list that stands somewhere stands there
pub stands-left : {X : Type 0} (all : List X) (k : ℕ) (xs ys : List X) → StandsAt all k (xs ++ ys)
    → StandsAt all k xs
stands-left all k xs ys s = λ i x e. s i x (get-front xs ys i x e)

-- the second part stands behind it
pub stands-right : {X : Type 0} (all : List X) (k n : ℕ) (xs ys : List X) → k + length xs ≡ n
    → StandsAt all k (xs ++ ys) → StandsAt all n ys
stands-right all k n xs ys is s = λ i x e.
    let same : k + (length xs + i) ≡ n + i = omega arith in
    let found : slice_get all (k + (length xs + i)) ≡ Some x = s (length xs + i) x (get-back xs ys i x e) in
    rw (← same) found

-- the first item stands at the place
pub stands-first : {X : Type 0} (all : List X) (k : ℕ) (x : X) (xs : List X)
    → StandsAt all k (x ∷ xs) → slice_get all k ≡ Some x
stands-first all k x xs s = let same : k + 0 ≡ k = omega arith in rw same at (s 0 x refl)

-- a list stands in itself from 0 on
pub stands-all : {X : Type 0} (all : List X) → StandsAt all 0 all
stands-all all = λ i x e. let same : 0 + i ≡ i = omega arith in rw same e

drop-now : {X : Type 0} (all : List X) (k : ℕ) (x : X) → slice_get all k ≡ Some x
    → drop k all ≡ x ∷ drop (suc k) all
drop-now [] k x e = cc
drop-now (y ∷ all) zero x e = cc
drop-now (y ∷ all) (suc k) x e = drop-now all k x e

-- so they are a piece of it
pub stands-piece : {X : Type 0} (all : List X) (xs : List X) (k : ℕ) → StandsAt all k xs
    → take (length xs) (drop k all) ≡ xs
stands-piece all [] k s = refl
stands-piece all (x ∷ xs) k s =
    let first = drop-now all k x (stands-first all k x xs s) in
    let rest : take (length xs) (drop (suc k) all) ≡ xs =
    stands-piece all xs (suc k) (stands-right all k (suc k) (x ∷ []) xs (omega arith) s) in
    rw first (ap (λ l. x ∷ l) rest)

module _ {N V : Type 0} where
  -- the parts and the types of what begins at c stand in the module by their numbers
  pub record Inside (m : Ops N V) (c : Numbers) (ps : List (Part N V)) (ts : List V) : Type 0 where
    pub ops : StandsAt (ops_in m) c.ops (op_sites ps)
    pub regions : StandsAt (regions_in m) c.regions (region_sites ps)
    pub blocks : StandsAt (blocks_in m) c.blocks (block_sites ps)
    pub types : StandsAt (types_in m) c.values ts

  -- d are the numbers behind these parts and types
  pub record Counts (c d : Numbers) (ps : List (Part N V)) (ts : List V) : Type 0 where
    pub ops : c.ops + length (op_sites ps) ≡ d.ops
    pub regions : c.regions + length (region_sites ps) ≡ d.regions
    pub blocks : c.blocks + length (block_sites ps) ≡ d.blocks
    pub values : c.values + length ts ≡ d.values

  counts-join : (c d e : Numbers) (ps qs : List (Part N V)) (ts us : List V) → Counts c d ps ts
      → Counts d e qs us → Counts c e (ps ++ qs) (ts ++ us)
  counts-join c d e ps qs ts us x y = record {
    ops = rw (op-sites-append ps qs) (omega (arith, length-append (op_sites ps) (op_sites qs)));
    regions = rw (region-sites-append ps qs) (omega (arith, length-append (region_sites ps) (region_sites qs)));
    blocks = rw (block-sites-append ps qs) (omega (arith, length-append (block_sites ps) (block_sites qs)));
    values = omega (arith, length-append ts us);
  }

  counts-op : (c d : Numbers) (x : OpSite N V) (h : OpHead N V) (ps : List (Part N V)) (ts : List V)
      → Counts (past_op c h) d ps ts → Counts c d (an_op x ∷ ps) (h.results ++ ts)
  counts-op c d x h ps ts k = record { ops = omega arith; regions = k.regions; blocks = k.blocks; values = omega (arith, length-append h.results ts) }

  counts-region : (c d : Numbers) (x : RegionSite N V) (ps : List (Part N V)) (ts : List V)
      → Counts (past_region c) d ps ts → Counts c d (a_region x ∷ ps) ts
  counts-region c d x ps ts k = record { ops = k.ops; regions = omega arith; blocks = k.blocks; values = k.values }

  counts-block : (c d : Numbers) (x : BlockSite N V) (args : List V) (ps : List (Part N V))
      (ts : List V) → Counts (past_block c args) d ps ts → Counts c d (a_block x ∷ ps) (args ++ ts)
  counts-block c d x args ps ts k = record { ops = k.ops; regions = k.regions; blocks = omega arith; values = omega (arith, length-append args ts) }

  -- the types that operations define
  abbrev pub types_ops : Ops N V → List V
  types_ops os = types_in os

  mutual
    -- the numbers behind operations count what is in them
    pub counts-ops : (os : Ops N V) (c : Numbers)
        → Counts c (behind c os) (parts c os) (types_in os)
    counts-ops no_ops c = record { ops = omega arith; regions = omega arith; blocks = omega arith; values = omega arith }
    counts-ops (then_op h rs os) c =
        let d = past_op c h in
        let f = behind_regions d rs in
        let rest = counts-join d f (behind f os) (parts_of_regions d rs) (parts f os) (types_in_regions rs) (types_in os) (counts-regions rs d) (counts-ops os f) in
        let assoc = append_assoc h.results (types_in_regions rs) (types_in os) in
        rw assoc (counts-op c (behind f os) _ h _ _ rest)

    -- the same of regions
    pub counts-regions : (rs : Regions N V) (c : Numbers)
        → Counts c (behind_regions c rs) (parts_of_regions c rs) (types_in_regions rs)
    counts-regions no_regions c = record { ops = omega arith; regions = omega arith; blocks = omega arith; values = omega arith }
    counts-regions (region bs rs) c =
        let d = past_region c in
        let f = behind_blocks d bs in
        counts-region c (behind_regions f rs) _ _ _
        (counts-join d f (behind_regions f rs) (parts_of_blocks d bs) (parts_of_regions f rs) (types_in_blocks bs) (types_in_regions rs) (counts-blocks bs d) (counts-regions rs f))

    -- the same of blocks
    pub counts-blocks : (bs : Blocks N V) (c : Numbers)
        → Counts c (behind_blocks c bs) (parts_of_blocks c bs) (types_in_blocks bs)
    counts-blocks no_blocks c = record { ops = omega arith; regions = omega arith; blocks = omega arith; values = omega arith }
    counts-blocks (block args os bs) c =
        let d = past_block c args in
        let f = behind d os in
        let rest = counts-join d f (behind_blocks f bs) (parts d os) (parts_of_blocks f bs) (types_in os) (types_in_blocks bs) (counts-ops os d) (counts-blocks bs f) in
        let assoc = append_assoc args (types_in os) (types_in_blocks bs) in
        rw assoc (counts-block c (behind_blocks f bs) _ args _ _ rest)

  inside-left : (m : Ops N V) (c : Numbers) (ps qs : List (Part N V)) (ts us : List V)
      → Inside m c (ps ++ qs) (ts ++ us) → Inside m c ps ts
  inside-left m c ps qs ts us x = record {
    ops = stands-left (ops_in m) c.ops (op_sites ps) (op_sites qs) (rw op-sites-append at x.ops);
    regions = stands-left (regions_in m) c.regions (region_sites ps) (region_sites qs) (rw region-sites-append at x.regions);
    blocks = stands-left (blocks_in m) c.blocks (block_sites ps) (block_sites qs) (rw block-sites-append at x.blocks);
    types = stands-left (types_in m) c.values ts us x.types;
  }

  inside-right : (m : Ops N V) (c d : Numbers) (ps qs : List (Part N V)) (ts us : List V)
      → Counts c d ps ts → Inside m c (ps ++ qs) (ts ++ us) → Inside m d qs us
  inside-right m c d ps qs ts us k x = record {
    ops = stands-right (ops_in m) c.ops d.ops (op_sites ps) (op_sites qs) k.ops (rw op-sites-append at x.ops);
    regions = stands-right (regions_in m) c.regions d.regions (region_sites ps) (region_sites qs) k.regions (rw region-sites-append at x.regions);
    blocks = stands-right (blocks_in m) c.blocks d.blocks (block_sites ps) (block_sites qs) k.blocks (rw block-sites-append at x.blocks);
    types = stands-right (types_in m) c.values d.values ts us k.values x.types;
  }

  -- an operation with what stands in its regions, and those behind it
  pub record OpInside (m : Ops N V) (c : Numbers) (h : OpHead N V) (rs : Regions N V) (os : Ops N V) : Type 0 where
    pub here : op_at m (op_id c.ops) ≡ Some (record { at = c; head = h; regions = rs })
    pub results : HaveTypes m c.values h.results
    pub inside : Inside m (past_op c h) (parts_of_regions (past_op c h) rs) (types_in_regions rs)
    pub rest : Inside m (behind_regions (past_op c h) rs) (parts (behind_regions (past_op c h) rs) os) (types_in os)

  -- the first operation stands in the module, and what is in it, and those behind it
  pub inside-op : (m : Ops N V) (c : Numbers) (h : OpHead N V) (rs : Regions N V) (os : Ops N V)
      → Inside m c (parts c (then_op h rs os)) (types_in (then_op h rs os)) → OpInside m c h rs os
  inside-op m c h rs os x =
      let d = past_op c h in
      let f = behind_regions d rs in
      let all : StandsAt (types_in m) c.values (h.results ++ (types_in_regions rs ++ types_in os)) =
      rw (append_assoc h.results (types_in_regions rs) (types_in os)) at x.types in
      let tail : Inside m d (parts_of_regions d rs ++ parts f os) (types_in_regions rs ++ types_in os) = record {
        ops = stands-right (ops_in m) c.ops d.ops (record { at = c; head = h; regions = rs } ∷ []) _ (omega arith) x.ops;
        regions = x.regions;
        blocks = x.blocks;
        types = stands-right (types_in m) c.values d.values h.results _ refl all;
      } in
      record {
        here = stands-first (ops_in m) c.ops _ _ x.ops;
        results = stands-left (types_in m) c.values h.results _ all;
        inside = inside-left m d _ _ _ _ tail;
        rest = inside-right m d f _ _ _ _ (counts-regions rs d) tail;
      }

  -- what is in the first region, and in those behind it
  pub record RegionInside (m : Ops N V) (c : Numbers) (bs : Blocks N V) (rs : Regions N V) : Type 0 where
    pub here : region_at m (region_id c.regions) ≡ Some (record { at = c; blocks = bs })
    pub inside : Inside m (past_region c) (parts_of_blocks (past_region c) bs) (types_in_blocks bs)
    pub rest : Inside m (behind_blocks (past_region c) bs) (parts_of_regions (behind_blocks (past_region c) bs) rs) (types_in_regions rs)

  -- the first region stands in the module, and what is in it, and those behind it
  pub inside-region : (m : Ops N V) (c : Numbers) (bs : Blocks N V) (rs : Regions N V)
      → Inside m c (parts_of_regions c (region bs rs)) (types_in_regions (region bs rs))
      → RegionInside m c bs rs
  inside-region m c bs rs x =
      let d = past_region c in
      let f = behind_blocks d bs in
      let tail : Inside m d (parts_of_blocks d bs ++ parts_of_regions f rs) (types_in_blocks bs ++ types_in_regions rs) = record {
        ops = x.ops;
        regions = stands-right (regions_in m) c.regions d.regions (record { at = c; blocks = bs } ∷ []) _ (omega arith) x.regions;
        blocks = x.blocks;
        types = x.types;
      } in
      record {
        here = stands-first (regions_in m) c.regions _ _ x.regions;
        inside = inside-left m d _ _ _ _ tail;
        rest = inside-right m d f _ _ _ _ (counts-blocks bs d) tail;
      }

  -- what is in the first block, and in those behind it
  pub record BlockInside (m : Ops N V) (c : Numbers) (args : List V) (os : Ops N V) (bs : Blocks N V) : Type 0 where
    pub here : block_at m (block_id c.blocks) ≡ Some (record { at = c; args = args; ops = os })
    pub types : HaveTypes m c.values args
    pub inside : Inside m (past_block c args) (parts (past_block c args) os) (types_in os)
    pub rest : Inside m (behind (past_block c args) os) (parts_of_blocks (behind (past_block c args) os) bs) (types_in_blocks bs)

  -- the first block stands in the module, and what is in it, and those behind it
  pub inside-block : (m : Ops N V) (c : Numbers) (args : List V) (os : Ops N V) (bs : Blocks N V)
      → Inside m c (parts_of_blocks c (block args os bs)) (types_in_blocks (block args os bs))
      → BlockInside m c args os bs
  inside-block m c args os bs x =
      let d = past_block c args in
      let f = behind d os in
      let all : StandsAt (types_in m) c.values (args ++ (types_in os ++ types_in_blocks bs)) =
      rw (append_assoc args (types_in os) (types_in_blocks bs)) at x.types in
      let tail : Inside m d (parts d os ++ parts_of_blocks f bs) (types_in os ++ types_in_blocks bs) = record {
        ops = x.ops;
        regions = x.regions;
        blocks = stands-right (blocks_in m) c.blocks d.blocks (record { at = c; args = args; ops = os } ∷ []) _ (omega arith) x.blocks;
        types = stands-right (types_in m) c.values d.values args _ refl all;
      } in
      record {
        here = stands-first (blocks_in m) c.blocks _ _ x.blocks;
        types = stands-left (types_in m) c.values args _ all;
        inside = inside-left m d _ _ _ _ tail;
        rest = inside-right m d f _ _ _ _ (counts-ops os d) tail;
      }

  -- a module stands in itself
  pub inside-all : (m : Ops N V) → Inside m first_numbers (parts first_numbers m) (types_in m)
  inside-all m = record { ops = stands-all _; regions = stands-all _; blocks = stands-all _; types = stands-all _ }

  -- ---- of each part

  -- a part has the place that its numbers say, and so has what stands in it
  abbrev pub IsPlaced : Ops N V → Part N V → Type 0
  IsPlaced m (an_op x) =
      (op_at m (op_id x.at.ops) ≡ Some x) × HaveTypes m x.at.values x.head.results
      × Inside m (past_op x.at x.head) (parts_of_regions (past_op x.at x.head) x.regions) (types_in_regions x.regions)
  IsPlaced m (a_region x) =
      (region_at m (region_id x.at.regions) ≡ Some x)
      × Inside m (past_region x.at) (parts_of_blocks (past_region x.at) x.blocks) (types_in_blocks x.blocks)
  IsPlaced m (a_block x) =
      (block_at m (block_id x.at.blocks) ≡ Some x) × HaveTypes m x.at.values x.args
      × Inside m (past_block x.at x.args) (parts (past_block x.at x.args) x.ops) (types_in x.ops)

  -- each part is placed
  abbrev pub ArePlaced : Ops N V → List (Part N V) → Type 0
  ArePlaced m [] = Unit {0}
  ArePlaced m (p ∷ ps) = IsPlaced m p × ArePlaced m ps

  placed-join : (m : Ops N V) (ps qs : List (Part N V)) → ArePlaced m ps → ArePlaced m qs
      → ArePlaced m (ps ++ qs)
  placed-join m [] qs x y = y
  placed-join m (p ∷ ps) qs x y = (x.0, placed-join m ps qs x.1 y)

  mutual
    -- the parts of operations that stand in a module are placed
    pub placed-ops : (os : Ops N V) (m : Ops N V) (c : Numbers)
        → Inside m c (parts c os) (types_in os) → ArePlaced m (parts c os)
    placed-ops no_ops m c x = tt
    placed-ops (then_op h rs os) m c x =
        let o = inside-op m c h rs os x in
        ((o.here, o.results, o.inside), placed-join m _ _ (placed-regions rs m (past_op c h) o.inside) (placed-ops os m (behind_regions (past_op c h) rs) o.rest))

    -- the same of regions
    pub placed-regions : (rs : Regions N V) (m : Ops N V) (c : Numbers)
        → Inside m c (parts_of_regions c rs) (types_in_regions rs)
        → ArePlaced m (parts_of_regions c rs)
    placed-regions no_regions m c x = tt
    placed-regions (region bs rs) m c x =
        let o = inside-region m c bs rs x in
        ((o.here, o.inside), placed-join m _ _ (placed-blocks bs m (past_region c) o.inside) (placed-regions rs m (behind_blocks (past_region c) bs) o.rest))

    -- the same of blocks
    pub placed-blocks : (bs : Blocks N V) (m : Ops N V) (c : Numbers)
        → Inside m c (parts_of_blocks c bs) (types_in_blocks bs)
        → ArePlaced m (parts_of_blocks c bs)
    placed-blocks no_blocks m c x = tt
    placed-blocks (block args os bs) m c x =
        let o = inside-block m c args os bs x in
        ((o.here, o.types, o.inside), placed-join m _ _ (placed-ops os m (past_block c args) o.inside) (placed-blocks bs m (behind (past_block c args) os) o.rest))

  placed-op-at : (m : Ops N V) (ps : List (Part N V)) (i : ℕ) (x : OpSite N V) → ArePlaced m ps
      → slice_get (op_sites ps) i ≡ Some x → IsPlaced m (an_op x)
  placed-op-at m [] i x g e = absurd (cc)
  placed-op-at m (an_op y ∷ ps) zero x g e = let same : y ≡ x = cc in subst (λ x. IsPlaced m (an_op x)) same g.0
  placed-op-at m (an_op y ∷ ps) (suc i) x g e = placed-op-at m ps i x g.1 e
  placed-op-at m (a_region y ∷ ps) i x g e = placed-op-at m ps i x g.1 e
  placed-op-at m (a_block y ∷ ps) i x g e = placed-op-at m ps i x g.1 e

  placed-region-at : (m : Ops N V) (ps : List (Part N V)) (i : ℕ) (x : RegionSite N V)
      → ArePlaced m ps → slice_get (region_sites ps) i ≡ Some x → IsPlaced m (a_region x)
  placed-region-at m [] i x g e = absurd (cc)
  placed-region-at m (a_region y ∷ ps) zero x g e = let same : y ≡ x = cc in subst (λ x. IsPlaced m (a_region x)) same g.0
  placed-region-at m (a_region y ∷ ps) (suc i) x g e = placed-region-at m ps i x g.1 e
  placed-region-at m (an_op y ∷ ps) i x g e = placed-region-at m ps i x g.1 e
  placed-region-at m (a_block y ∷ ps) i x g e = placed-region-at m ps i x g.1 e

  placed-block-at : (m : Ops N V) (ps : List (Part N V)) (i : ℕ) (x : BlockSite N V)
      → ArePlaced m ps → slice_get (block_sites ps) i ≡ Some x → IsPlaced m (a_block x)
  placed-block-at m [] i x g e = absurd (cc)
  placed-block-at m (a_block y ∷ ps) zero x g e = let same : y ≡ x = cc in subst (λ x. IsPlaced m (a_block x)) same g.0
  placed-block-at m (a_block y ∷ ps) (suc i) x g e = placed-block-at m ps i x g.1 e
  placed-block-at m (an_op y ∷ ps) i x g e = placed-block-at m ps i x g.1 e
  placed-block-at m (a_region y ∷ ps) i x g e = placed-block-at m ps i x g.1 e

  -- an operation that an id names is placed
  pub op-placed : (m : Ops N V) (id : OpId) (x : OpSite N V) → op_at m id ≡ Some x
      → IsPlaced m (an_op x)
  op-placed m id x e = placed-op-at m _ id.0 x (placed-ops m m first_numbers (inside-all m)) e

  -- a region that an id names is placed
  pub region-placed : (m : Ops N V) (id : RegionId) (x : RegionSite N V) → region_at m id ≡ Some x
      → IsPlaced m (a_region x)
  region-placed m id x e = placed-region-at m _ id.0 x (placed-ops m m first_numbers (inside-all m)) e

  -- a block that an id names is placed
  pub block-placed : (m : Ops N V) (id : BlockId) (x : BlockSite N V) → block_at m id ≡ Some x
      → IsPlaced m (a_block x)
  block-placed m id x e = placed-block-at m _ id.0 x (placed-ops m m first_numbers (inside-all m)) e
