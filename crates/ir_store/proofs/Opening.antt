-- Open places: what an addition does to them, and that they are places of the module.
use Rattle.std.proofs.Common.{◌≡◌, inl, inr, ℕ, ◌<◌, ◌≤◌, List, [], ◌∷◌, ◌++◌, Some, None, refl, ap}
use Rattle.std.proofs.Common.{sym, arith, subst}
use Rattle.std.proofs.lemmas.Bool.Decides.{eqb_tells}
use Rattle.ir_store.specs.Modules.{OpHead, Ops, Regions, Blocks, no_ops, then_op, no_regions}
use Rattle.ir_store.specs.Modules.{region, no_blocks, block}
use Rattle.ir_store.specs.Modules.{joined_ops, joined_regions, joined_blocks}
use Rattle.ir_store.specs.Numbering.{Numbers, first_numbers, past_op, past_region, past_block, behind}
use Rattle.ir_store.specs.Numbering.{behind_regions, behind_blocks}
use Rattle.ir_store.specs.Named.{op_id, region_id, block_id}
use Rattle.ir_store.specs.Growth.{Parent, in_block, in_op, in_region, IsOneOf, Addition, to_block}
use Rattle.ir_store.specs.Growth.{to_op, to_region, open_ops, open_regions, open_blocks, open_in}
use Rattle.ir_store.specs.Growth.{IsOpen, parent_of, in_this_op, in_this_region, in_this_block}
use Rattle.ir_store.specs.Growth.{added_ops, added_regions, added_blocks, added, Opens}

-- what is open in what is added, which begins at k
abbrev pub opened : {N V : Type 0} → Addition N V → Numbers → List Parent
opened (to_block b more) k = open_ops k more
opened (to_op o more) k = open_regions k more
opened (to_region r more) k = open_blocks k more

-- there is an operation
abbrev pub HasOp : {N V : Type 0} → Ops N V → Type 0
HasOp no_ops = ⊥
HasOp (then_op h rs os) = Unit {0}

-- there is a region
abbrev pub HasRegion : {N V : Type 0} → Regions N V → Type 0
HasRegion no_regions = ⊥
HasRegion (region bs rs) = Unit {0}

-- there is a block
abbrev pub HasBlock : {N V : Type 0} → Blocks N V → Type 0
HasBlock no_blocks = ⊥
HasBlock (block args os bs) = Unit {0}

-- something is added
abbrev pub HasPart : {N V : Type 0} → Addition N V → Type 0
HasPart (to_block b more) = HasOp more
HasPart (to_op o more) = HasRegion more
HasPart (to_region r more) = HasBlock more

one-of-middle : (p : Parent) (xs ys : List Parent) → IsOneOf p (xs ++ p ∷ ys)
one-of-middle p [] ys = inl refl
one-of-middle p (x ∷ xs) ys = inr (one-of-middle p xs ys)

one-of-next : (p q : Parent) (xs ys : List Parent) → IsOneOf q (xs ++ p ∷ (q ∷ ys))
one-of-next p q [] ys = inr (inl refl)
one-of-next p q (x ∷ xs) ys = inr (one-of-next p q xs ys)

-- open places are places of the module
abbrev pub IsBelow : Numbers → Parent → Type 0
IsBelow d (in_block None) = Unit {0}
IsBelow d (in_block (Some b)) = b.0 < d.blocks
IsBelow d (in_op o) = o.0 < d.ops
IsBelow d (in_region r) = r.0 < d.regions

-- the first has no more operations, regions and blocks than the second
pub record NoMore (c d : Numbers) : Type 0 where
  pub ops : c.ops ≤ d.ops
  pub regions : c.regions ≤ d.regions
  pub blocks : c.blocks ≤ d.blocks

no-more-then : (c d e : Numbers) → NoMore c d → NoMore d e → NoMore c e
no-more-then c d e x y = record { ops = omega arith; regions = omega arith; blocks = omega arith }

-- what an addition, of what begins at k, does to open places
pub record Grows {N V : Type 0} (a : Addition N V) (k : Numbers) (old new : List Parent) : Type 0 where
  pub round : List Parent
  pub inside : List Parent
  pub last : List Parent
  pub was : old ≡ round ++ parent_of a ∷ inside
  pub is : new ≡ round ++ parent_of a ∷ last
  pub fresh : HasPart a → last ≡ opened a k

module _ {N V : Type 0} where
  grows-under : (a : Addition N V) (k : Numbers) (p : Parent) (old new : List Parent)
      → Grows a k old new → Grows a k (p ∷ old) (p ∷ new)
  grows-under a k p old new g = record {
    round = p ∷ g.round;
    inside = g.inside;
    last = g.last;
    was = ap (λ l. p ∷ l) g.was;
    is = ap (λ l. p ∷ l) g.is;
    fresh = g.fresh;
  }

  past-op : (h : OpHead N V) (rs : Regions N V) (os : Ops N V) (c : Numbers) → HasOp os
      → open_ops c (then_op h rs os) ≡ open_ops (behind_regions (past_op c h) rs) os
  past-op h rs no_ops c has = absurd has
  past-op h rs (then_op g qs os) c has = refl

  past-region : (bs : Blocks N V) (rs : Regions N V) (c : Numbers) → HasRegion rs
      → open_regions c (region bs rs) ≡ open_regions (behind_blocks (past_region c) bs) rs
  past-region bs no_regions c has = absurd has
  past-region bs (region ds rs) c has = refl

  past-block : (args : List V) (os : Ops N V) (bs : Blocks N V) (c : Numbers) → HasBlock bs
      → open_blocks c (block args os bs) ≡ open_blocks (behind (past_block c args) os) bs
  past-block args os no_blocks c has = absurd has
  past-block args os (block more ps bs) c has = refl

  still-op : (a : Addition N V) (h : OpHead N V) (rs : Regions N V) (os : Ops N V) (c : Numbers)
      → HasOp (added_ops a c (then_op h rs os))
  still-op a h rs no_ops c = tt
  still-op a h rs (then_op g qs os) c = tt

  still-region : (a : Addition N V) (bs : Blocks N V) (rs : Regions N V) (c : Numbers)
      → HasRegion (added_regions a c (region bs rs))
  still-region a bs no_regions c = tt
  still-region a bs (region ds rs) c = tt

  still-block : (a : Addition N V) (args : List V) (os : Ops N V) (bs : Blocks N V) (c : Numbers)
      → HasBlock (added_blocks a c (block args os bs))
  still-block a args os no_blocks c = tt
  still-block a args os (block more ps bs) c = tt

  -- behind more operations only what is open in these is open
  pub joined-open : (os more : Ops N V) (c : Numbers) → HasOp more
      → open_ops c (joined_ops os more) ≡ open_ops (behind c os) more
  joined-open no_ops more c has = refl
  joined-open (then_op h rs no_ops) more c has = past-op h rs more c has
  joined-open (then_op h rs (then_op g qs os)) more c has = joined-open (then_op g qs os) more (behind_regions (past_op c h) rs) has

  joined-open-regions : (rs more : Regions N V) (c : Numbers) → HasRegion more
      → open_regions c (joined_regions rs more) ≡ open_regions (behind_regions c rs) more
  joined-open-regions no_regions more c has = refl
  joined-open-regions (region bs no_regions) more c has = past-region bs more c has
  joined-open-regions (region bs (region ds rs)) more c has = joined-open-regions (region ds rs) more (behind_blocks (past_region c) bs) has

  joined-open-blocks : (bs more : Blocks N V) (c : Numbers) → HasBlock more
      → open_blocks c (joined_blocks bs more) ≡ open_blocks (behind_blocks c bs) more
  joined-open-blocks no_blocks more c has = refl
  joined-open-blocks (block args os no_blocks) more c has = past-block args os more c has
  joined-open-blocks (block args os (block ds ps bs)) more c has = joined-open-blocks (block ds ps bs) more (behind (past_block c args) os) has

  grows-op : (a : Addition N V) (n : ℕ) (rs inside : Regions N V) (c : Numbers)
      → IsOneOf (parent_of a) (in_op (op_id n) ∷ open_regions c rs)
      → (IsOneOf (parent_of a) (open_regions c rs) → Grows a (behind_regions c rs) (open_regions c rs) (open_regions c inside))
      → Grows a (behind_regions c rs) (in_op (op_id n) ∷ open_regions c rs) (in_op (op_id n) ∷ open_regions c (in_this_op a n rs inside))
  grows-op (to_block b more) n rs inside c (inl e) f = absurd (cc)
  grows-op (to_block b more) n rs inside c (inr i) f = grows-under _ _ _ _ _ (f i)
  grows-op (to_region r more) n rs inside c (inl e) f = absurd (cc)
  grows-op (to_region r more) n rs inside c (inr i) f = grows-under _ _ _ _ _ (f i)
  grows-op (to_op o more) n rs inside c m f = elim (eqb_tells o.0 n) [
    | inl same ↦ (let is : op_id n ≡ o = sym (ap op_id same.1) in rw same.0 (record {
      round = [];
      inside = open_regions c rs;
      last = open_regions c (joined_regions rs more);
      was = ap (λ o. in_op o ∷ open_regions c rs) is;
      is = ap (λ o. in_op o ∷ open_regions c (joined_regions rs more)) is;
      fresh = joined-open-regions rs more c;
    }))
    | inr other ↦ elim m [
      | inl e ↦ absurd (other.1 (let is : o ≡ op_id n = cc in ap (λ o. o.0) is))
      | inr i ↦ rw other.0 (grows-under _ _ _ _ _ (f i))
    ]
  ]

  grows-region : (a : Addition N V) (n : ℕ) (bs inside : Blocks N V) (c : Numbers)
      → IsOneOf (parent_of a) (in_region (region_id n) ∷ open_blocks c bs)
      → (IsOneOf (parent_of a) (open_blocks c bs) → Grows a (behind_blocks c bs) (open_blocks c bs) (open_blocks c inside))
      → Grows a (behind_blocks c bs) (in_region (region_id n) ∷ open_blocks c bs) (in_region (region_id n) ∷ open_blocks c (in_this_region a n bs inside))
  grows-region (to_block b more) n bs inside c (inl e) f = absurd (cc)
  grows-region (to_block b more) n bs inside c (inr i) f = grows-under _ _ _ _ _ (f i)
  grows-region (to_op o more) n bs inside c (inl e) f = absurd (cc)
  grows-region (to_op o more) n bs inside c (inr i) f = grows-under _ _ _ _ _ (f i)
  grows-region (to_region r more) n bs inside c m f = elim (eqb_tells r.0 n) [
    | inl same ↦ (let is : region_id n ≡ r = sym (ap region_id same.1) in rw same.0 (record {
      round = [];
      inside = open_blocks c bs;
      last = open_blocks c (joined_blocks bs more);
      was = ap (λ o. in_region o ∷ open_blocks c bs) is;
      is = ap (λ o. in_region o ∷ open_blocks c (joined_blocks bs more)) is;
      fresh = joined-open-blocks bs more c;
    }))
    | inr other ↦ elim m [
      | inl e ↦ absurd (other.1 (let is : r ≡ region_id n = cc in ap (λ o. o.0) is))
      | inr i ↦ rw other.0 (grows-under _ _ _ _ _ (f i))
    ]
  ]

  grows-block : (a : Addition N V) (n : ℕ) (os inside : Ops N V) (c : Numbers)
      → IsOneOf (parent_of a) (in_block (Some (block_id n)) ∷ open_ops c os)
      → (IsOneOf (parent_of a) (open_ops c os) → Grows a (behind c os) (open_ops c os) (open_ops c inside))
      → Grows a (behind c os) (in_block (Some (block_id n)) ∷ open_ops c os) (in_block (Some (block_id n)) ∷ open_ops c (in_this_block a n os inside))
  grows-block (to_op o more) n os inside c (inl e) f = absurd (cc)
  grows-block (to_op o more) n os inside c (inr i) f = grows-under _ _ _ _ _ (f i)
  grows-block (to_region r more) n os inside c (inl e) f = absurd (cc)
  grows-block (to_region r more) n os inside c (inr i) f = grows-under _ _ _ _ _ (f i)
  grows-block (to_block None more) n os inside c (inl e) f = absurd (cc)
  grows-block (to_block None more) n os inside c (inr i) f = grows-under _ _ _ _ _ (f i)
  grows-block (to_block (Some b) more) n os inside c m f = elim (eqb_tells b.0 n) [
    | inl same ↦ (let is : block_id n ≡ b = sym (ap block_id same.1) in rw same.0 (record {
      round = [];
      inside = open_ops c os;
      last = open_ops c (joined_ops os more);
      was = ap (λ o. in_block (Some o) ∷ open_ops c os) is;
      is = ap (λ o. in_block (Some o) ∷ open_ops c (joined_ops os more)) is;
      fresh = joined-open os more c;
    }))
    | inr other ↦ elim m [
      | inl e ↦ absurd (other.1 (let is : b ≡ block_id n = cc in ap (λ o. o.0) is))
      | inr i ↦ rw other.0 (grows-under _ _ _ _ _ (f i))
    ]
  ]

  mutual
    -- what is open among operations after an addition
    pub grow-open_ops : (os : Ops N V) (a : Addition N V) (c : Numbers)
        → IsOneOf (parent_of a) (open_ops c os)
        → Grows a (behind c os) (open_ops c os) (open_ops c (added_ops a c os))
    grow-open_ops no_ops a c m = absurd m
    grow-open_ops (then_op h rs no_ops) a c m =
        grows-op a c.ops rs (added_regions a (past_op c h) rs) (past_op c h) m (grow-open_regions rs a (past_op c h))
    grow-open_ops (then_op h rs (then_op g qs os)) a c m =
        let d = behind_regions (past_op c h) rs in
        rw (past-op h rs (added_ops a d (then_op g qs os)) c (still-op a g qs os d)) (grow-open_ops (then_op g qs os) a d m)

    -- the same of regions
    pub grow-open_regions : (rs : Regions N V) (a : Addition N V) (c : Numbers)
        → IsOneOf (parent_of a) (open_regions c rs)
        → Grows a (behind_regions c rs) (open_regions c rs) (open_regions c (added_regions a c rs))
    grow-open_regions no_regions a c m = absurd m
    grow-open_regions (region bs no_regions) a c m =
        grows-region a c.regions bs (added_blocks a (past_region c) bs) (past_region c) m (grow-open_blocks bs a (past_region c))
    grow-open_regions (region bs (region ds rs)) a c m =
        let d = behind_blocks (past_region c) bs in
        rw (past-region bs (added_regions a d (region ds rs)) c (still-region a ds rs d)) (grow-open_regions (region ds rs) a d m)

    -- the same of blocks
    pub grow-open_blocks : (bs : Blocks N V) (a : Addition N V) (c : Numbers)
        → IsOneOf (parent_of a) (open_blocks c bs)
        → Grows a (behind_blocks c bs) (open_blocks c bs) (open_blocks c (added_blocks a c bs))
    grow-open_blocks no_blocks a c m = absurd m
    grow-open_blocks (block args os no_blocks) a c m =
        grows-block a c.blocks os (added_ops a (past_block c args) os) (past_block c args) m (grow-open_ops os a (past_block c args))
    grow-open_blocks (block args os (block more ps bs)) a c m =
        let d = behind (past_block c args) os in
        rw (past-block args os (added_blocks a d (block more ps bs)) c (still-block a more ps bs d)) (grow-open_blocks (block more ps bs) a d m)

  -- what an addition does to the open places of a module
  pub open-added : (m : Ops N V) (a : Addition N V) → IsOneOf (parent_of a) (open_in m)
      → Grows a (behind first_numbers m) (open_in m) (open_in (added m a))
  open-added m (to_block None more) i = record {
    round = [];
    inside = open_ops first_numbers m;
    last = open_ops first_numbers (joined_ops m more);
    was = refl;
    is = refl;
    fresh = joined-open m more first_numbers;
  }
  open-added m (to_block (Some b) more) (inl e) = absurd (cc)
  open-added m (to_block (Some b) more) (inr i) = grows-under _ _ _ _ _ (grow-open_ops m _ first_numbers i)
  open-added m (to_op o more) (inl e) = absurd (cc)
  open-added m (to_op o more) (inr i) = grows-under _ _ _ _ _ (grow-open_ops m _ first_numbers i)
  open-added m (to_region r more) (inl e) = absurd (cc)
  open-added m (to_region r more) (inr i) = grows-under _ _ _ _ _ (grow-open_ops m _ first_numbers i)

  -- the place to which something was added is open still
  pub parent-open : (m : Ops N V) (a : Addition N V) → IsOpen m (parent_of a)
      → IsOpen (added m a) (parent_of a)
  parent-open m a i =
      let g = open-added m a i.among in
      record { among = subst (IsOneOf (parent_of a)) (sym g.is) (one-of-middle (parent_of a) g.round g.last) }

  -- the top level is always open
  pub top-open : (m : Ops N V) → IsOpen m (in_block None)
  top-open m = record { among = inl refl }

  -- a parent is open when a child was put into it, and so is the child
  pub opens-parent : (m n : Ops N V) (p q : Parent) → Opens m n p q → IsOpen n p
  opens-parent m n p q o = record { among = subst (IsOneOf p) (sym o.is) (one-of-middle p o.round (q ∷ [])) }

  -- what was put in is open
  pub opens-child : (m n : Ops N V) (p q : Parent) → Opens m n p q → IsOpen n q
  opens-child m n p q o = record { among = subst (IsOneOf q) (sym o.is) (one-of-next p q o.round []) }

  mutual
    -- numbers grow along operations
    pub later-ops : (os : Ops N V) (c : Numbers) → NoMore c (behind c os)
    later-ops no_ops c = record { ops = omega arith; regions = omega arith; blocks = omega arith }
    later-ops (then_op h rs os) c =
        let x = later-regions rs (past_op c h) in
        let y = later-ops os (behind_regions (past_op c h) rs) in
        record { ops = omega arith; regions = omega arith; blocks = omega arith }

    -- numbers grow along regions
    pub later-regions : (rs : Regions N V) (c : Numbers) → NoMore c (behind_regions c rs)
    later-regions no_regions c = record { ops = omega arith; regions = omega arith; blocks = omega arith }
    later-regions (region bs rs) c =
        let x = later-blocks bs (past_region c) in
        let y = later-regions rs (behind_blocks (past_region c) bs) in
        record { ops = omega arith; regions = omega arith; blocks = omega arith }

    -- numbers grow along blocks
    pub later-blocks : (bs : Blocks N V) (c : Numbers) → NoMore c (behind_blocks c bs)
    later-blocks no_blocks c = record { ops = omega arith; regions = omega arith; blocks = omega arith }
    later-blocks (block args os bs) c =
        let x = later-ops os (past_block c args) in
        let y = later-blocks bs (behind (past_block c args) os) in
        record { ops = omega arith; regions = omega arith; blocks = omega arith }

  mutual
    -- what is open among operations has a number below those behind them
    pub below-ops : (os : Ops N V) (c : Numbers) (p : Parent) → IsOneOf p (open_ops c os)
        → IsBelow (behind c os) p
    below-ops no_ops c p m = absurd m
    below-ops (then_op h rs no_ops) c p (inl e) =
        subst (IsBelow (behind_regions (past_op c h) rs)) (sym e) (let x = later-regions rs (past_op c h) in omega arith)
    below-ops (then_op h rs no_ops) c p (inr i) = below-regions rs (past_op c h) p i
    below-ops (then_op h rs (then_op g qs os)) c p m = below-ops (then_op g qs os) (behind_regions (past_op c h) rs) p m

    -- the same of regions
    pub below-regions : (rs : Regions N V) (c : Numbers) (p : Parent) → IsOneOf p (open_regions c rs)
        → IsBelow (behind_regions c rs) p
    below-regions no_regions c p m = absurd m
    below-regions (region bs no_regions) c p (inl e) =
        subst (IsBelow (behind_blocks (past_region c) bs)) (sym e) (let x = later-blocks bs (past_region c) in omega arith)
    below-regions (region bs no_regions) c p (inr i) = below-blocks bs (past_region c) p i
    below-regions (region bs (region ds rs)) c p m = below-regions (region ds rs) (behind_blocks (past_region c) bs) p m

    -- the same of blocks
    pub below-blocks : (bs : Blocks N V) (c : Numbers) (p : Parent) → IsOneOf p (open_blocks c bs)
        → IsBelow (behind_blocks c bs) p
    below-blocks no_blocks c p m = absurd m
    below-blocks (block args os no_blocks) c p (inl e) =
        subst (IsBelow (behind (past_block c args) os)) (sym e) (let x = later-ops os (past_block c args) in omega arith)
    below-blocks (block args os no_blocks) c p (inr i) = below-ops os (past_block c args) p i
    below-blocks (block args os (block more ps bs)) c p m = below-blocks (block more ps bs) (behind (past_block c args) os) p m

  below-all : (m : Ops N V) (p : Parent) → IsOneOf p (open_in m) → IsBelow (behind first_numbers m) p
  below-all m p (inl e) = subst (IsBelow (behind first_numbers m)) (sym e) tt
  below-all m p (inr i) = below-ops m first_numbers p i

  -- what is open has a number below the module's count
  pub open-below : (m : Ops N V) (p : Parent) → IsOpen m p → IsBelow (behind first_numbers m) p
  open-below m p o = below-all m p o.among
