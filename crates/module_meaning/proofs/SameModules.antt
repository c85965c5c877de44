-- Modules that are the same apart from the numbers of operands and successors: they define the same
-- values, so names mean the same in both.
use Rattle.std.proofs.Common.{◌≡◌, ℕ, ◌+◌, List, [], ◌∷◌, ◌++◌, length, refl, sym, ◌∙◌, ap, arith}
use Rattle.attr_value.specs.Values.{Value}
use Rattle.generic_syntax.specs.declared.module_cst.BlockCst.{BlockCst, out-BlockCst}
use Rattle.generic_syntax.specs.declared.module_cst.OpCst.{OpCst, out-OpCst}
use Rattle.ir_lexer.specs.Spelling.{Text}
use Rattle.ir_store.specs.Modules.{Regions, Blocks, no_ops, then_op, no_regions, region}
use Rattle.ir_store.specs.Modules.{no_blocks, block, types_in, types_in_regions, types_in_blocks}
use Rattle.ir_store.specs.Named.{AttrsAreRight}
use Rattle.module_meaning.specs.Completes.{own_scope, block_scope}
use Rattle.module_meaning.specs.Names.{result_scope, argument_scope}
use Rattle.module_meaning.specs.WholeModules.{WholeHead, WholeModule, Loaded, EachOp, EachInRegions}
use Rattle.module_meaning.specs.WholeModules.{EachInBlocks, IsProperOp}
use Rattle.symbol_scopes.specs.Regions.{RegionScope}

-- ---- modules that are the same but for numbers

-- two operations without their regions
pub record SameHead (a b : WholeHead) : Type 0 where
  pub name : a.name ≡ b.name
  pub results : a.results ≡ b.results
  pub keys : a.keys ≡ b.keys
  pub values : a.values ≡ b.values

abbrev mutual
  pub SameOps : WholeModule → WholeModule → Type 0
  SameOps no_ops no_ops = Unit {0}
  SameOps (then_op a rs os) (then_op b rs2 os2) =
      SameHead a b × SameRegions rs rs2 × SameOps os os2
  SameOps no_ops (then_op _ _ _) = ⊥
  SameOps (then_op _ _ _) no_ops = ⊥

  pub SameRegions : Regions Text Value → Regions Text Value → Type 0
  SameRegions no_regions no_regions = Unit {0}
  SameRegions (region bs rs) (region bs2 rs2) = SameBlocks bs bs2 × SameRegions rs rs2
  SameRegions no_regions (region _ _) = ⊥
  SameRegions (region _ _) no_regions = ⊥

  pub SameBlocks : Blocks Text Value → Blocks Text Value → Type 0
  SameBlocks no_blocks no_blocks = Unit {0}
  SameBlocks (block xs os bs) (block xs2 os2 bs2) =
      (xs ≡ xs2) × SameOps os os2 × SameBlocks bs bs2
  SameBlocks no_blocks (block _ _ _) = ⊥
  SameBlocks (block _ _ _) no_blocks = ⊥

-- ---- they define the same values

mutual
  -- the types of all values are the same
  pub types-same : (os os2 : WholeModule) → SameOps os os2 → types_in os ≡ types_in os2
  types-same no_ops no_ops s = refl
  types-same no_ops (then_op b rs2 os2) s = absurd s
  types-same (then_op a rs os) no_ops s = absurd s
  types-same (then_op a rs os) (then_op b rs2 os2) (h, r, s) =
      rw (h.results, region-types-same rs rs2 r, types-same os os2 s) refl

  -- those of regions
  pub region-types-same : (rs rs2 : Regions Text Value) → SameRegions rs rs2
      → types_in_regions rs ≡ types_in_regions rs2
  region-types-same no_regions no_regions s = refl
  region-types-same no_regions (region bs2 rs2) s = absurd s
  region-types-same (region bs rs) no_regions s = absurd s
  region-types-same (region bs rs) (region bs2 rs2) (b, s) =
      rw (block-types-same bs bs2 b, region-types-same rs rs2 s) refl

  -- those of blocks
  pub block-types-same : (bs bs2 : Blocks Text Value) → SameBlocks bs bs2
      → types_in_blocks bs ≡ types_in_blocks bs2
  block-types-same no_blocks no_blocks s = refl
  block-types-same no_blocks (block xs2 os2 bs2) s = absurd s
  block-types-same (block xs os bs) no_blocks s = absurd s
  block-types-same (block xs os bs) (block xs2 os2 bs2) (e, o, s) =
      rw (e, types-same os os2 o, block-types-same bs bs2 s) refl

-- the number of the next value behind an operation is the same
pub next-op : (n : ℕ) (a b : WholeHead) (rs rs2 : Regions Text Value) → SameHead a b
    → SameRegions rs rs2
    → n + length b.results + length (types_in_regions rs2)
    ≡ n + length a.results + length (types_in_regions rs)
next-op n a b rs rs2 h r =
    let results : length a.results ≡ length b.results = ap length h.results in
    let inner : length (types_in_regions rs) ≡ length (types_in_regions rs2) =
    ap length (region-types-same rs rs2 r) in
    omega arith

-- so is that behind a block
pub next-block : (n : ℕ) (xs ys : List Value) (os os2 : WholeModule) → xs ≡ ys → SameOps os os2
    → n + length ys + length (types_in os2) ≡ n + length xs + length (types_in os)
next-block n xs ys os os2 e s =
    let args : length xs ≡ length ys = ap length e in
    let inner : length (types_in os) ≡ length (types_in os2) = ap length (types-same os os2 s) in
    omega arith

-- the names of operations have the same numbers
pub own-same : (n : ℕ) (cs : List OpCst) (os os2 : WholeModule) → SameOps os os2
    → own_scope n cs os2 ≡ own_scope n cs os
own-same n [] os os2 s = refl
own-same n (c ∷ cs) no_ops no_ops s = refl
own-same n (c ∷ cs) no_ops (then_op b rs2 os2) s = absurd s
own-same n (c ∷ cs) (then_op a rs os) no_ops s = absurd s
own-same n (c ∷ cs) (then_op a rs os) (then_op b rs2 os2) (h, r, s) =
    ap (λ (w : RegionScope). result_scope n (out-OpCst c).results ++ w)
    (ap (λ k. own_scope k cs os2) (next-op n a b rs rs2 h r)
    ∙ own-same (n + length a.results + length (types_in_regions rs)) cs os os2 s)

-- so have those of blocks
pub blocks-own-same : (n : ℕ) (cs : List BlockCst) (bs bs2 : Blocks Text Value)
    → SameBlocks bs bs2 → block_scope n cs bs2 ≡ block_scope n cs bs
blocks-own-same n [] bs bs2 s = refl
blocks-own-same n (c ∷ cs) no_blocks no_blocks s = refl
blocks-own-same n (c ∷ cs) no_blocks (block xs2 os2 bs2) s = absurd s
blocks-own-same n (c ∷ cs) (block xs os bs) no_blocks s = absurd s
blocks-own-same n (c ∷ cs) (block xs os bs) (block xs2 os2 bs2) (e, o, s) =
    let first : own_scope (n + length xs2) (out-BlockCst c).ops os2
    ≡ own_scope (n + length xs) (out-BlockCst c).ops os =
    ap (λ (l : List Value). own_scope (n + length l) (out-BlockCst c).ops os2) (sym e)
    ∙ own-same (n + length xs) (out-BlockCst c).ops os os2 o in
    let rest : block_scope (n + length xs2 + length (types_in os2)) cs bs2
    ≡ block_scope (n + length xs + length (types_in os)) cs bs =
    ap (λ k. block_scope k cs bs2) (next-block n xs xs2 os os2 e o)
    ∙ blocks-own-same (n + length xs + length (types_in os)) cs bs bs2 s in
    ap (λ (w : RegionScope). argument_scope n (out-BlockCst c).args ++ w)
    (ap (λ (w : RegionScope).
    w ++ block_scope (n + length xs2 + length (types_in os2)) cs bs2) first
    ∙ ap (λ (w : RegionScope). own_scope (n + length xs) (out-BlockCst c).ops os ++ w) rest)

-- ---- attributes of a proper module

abbrev mutual
  -- the attributes of all operations are right
  pub RightOps : WholeModule → Type 0
  RightOps no_ops = Unit {0}
  RightOps (then_op head rs os) = AttrsAreRight head × RightRegions rs × RightOps os

  pub RightRegions : Regions Text Value → Type 0
  RightRegions no_regions = Unit {0}
  RightRegions (region bs rs) = RightBlocks bs × RightRegions rs

  pub RightBlocks : Blocks Text Value → Type 0
  RightBlocks no_blocks = Unit {0}
  RightBlocks (block xs os bs) = RightOps os × RightBlocks bs

module _ (loaded : Loaded) where
  mutual
    -- they are in a proper module
    pub proper-right : (visible : List ℕ) (blocks n : ℕ) (os : WholeModule)
        → EachOp (IsProperOp loaded) visible blocks n os → RightOps os
    proper-right visible blocks n no_ops each = tt
    proper-right visible blocks n (then_op head rs os) (here, inner, later) = (
      here.attrs,
      proper-right-regions visible _ rs inner,
      proper-right visible blocks _ os later,
    )

    proper-right-regions : (visible : List ℕ) (n : ℕ) (rs : Regions Text Value)
        → EachInRegions (IsProperOp loaded) visible n rs → RightRegions rs
    proper-right-regions visible n no_regions each = tt
    proper-right-regions visible n (region bs rs) (here, later) =
        (proper-right-blocks _ _ n bs here, proper-right-regions visible _ rs later)

    proper-right-blocks : (visible : List ℕ) (blocks n : ℕ) (bs : Blocks Text Value)
        → EachInBlocks (IsProperOp loaded) visible blocks n bs → RightBlocks bs
    proper-right-blocks visible blocks n no_blocks each = tt
    proper-right-blocks visible blocks n (block xs os bs) (here, later) =
        (proper-right visible blocks _ os here, proper-right-blocks visible blocks _ bs later)
