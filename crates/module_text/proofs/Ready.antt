-- What is known of each part of a well-formed module, as the recursion over it goes down.
--
--   TypeIsRight loaded t      a good type of bytes
--   OpIsReady ..              all that is known of one operation where it stands
--   OpsReady .. k visible blocks n os     of operations that may use these values and blocks, whose
--                             first value has the number n, and whose regions nest k deep
--   RegionsReady, BlocksReady the same of regions and of blocks
use Rattle.std.proofs.Common.{◌≡◌, ℕ, suc, ◌+◌, ◌≤◌, ◌^◌, Bool, List, [], ◌∷◌, ◌++◌, length, ◌∙◌}
use Rattle.std.proofs.Common.{ap, arith}
use Rattle.std.specs.Prelude.{max}
use Rattle.std.proofs.Math.Nat.{le-max_left, le-max_right}
use Rattle.std.proofs.lemmas.List.{length-append}
use Rattle.std.specs.List.{AllByRecursion}
use Rattle.attr_value.specs.Values.{Value}
use Rattle.derived_printer.specs.Spellable.{HasBytes}
use Rattle.ir_lexer.specs.Spelling.{Text}
use Rattle.ir_store.specs.Modules.{Regions, Blocks, no_ops, then_op, no_regions, region, no_blocks}
use Rattle.ir_store.specs.Modules.{block, types_in, types_in_regions, types_in_blocks, block_args}
use Rattle.module_meaning.specs.WholeModules.{WholeHead, WholeModule, Loaded, IsGoodType, EachOp}
use Rattle.module_meaning.specs.WholeModules.{EachInRegions, EachInBlocks, IsProperOp, is_end}
use Rattle.module_meaning.specs.WholeModules.{region_depth, depth_of_regions, depth_of_blocks}
use Rattle.module_meaning.specs.WholeModules.{block_numbers, own_numbers}
use Rattle.module_meaning.proofs.GenericFacts.{all-apart}
use Rattle.module_text.specs.WellFormed.{MeetsSome, HasTexts, IsWellFormed, longest_region}
use Rattle.module_text.specs.WellFormed.{longest_of_regions, longest_in_blocks}

-- a type that can be written, and is a good type
pub record TypeIsRight (loaded : Loaded) (t : Value) : Type 0 where
  pub good : IsGoodType loaded t
  pub bytes : HasBytes t

-- all that is known of one operation where it stands
pub record OpIsReady (loaded : Loaded) (types : List Value) (visible : List ℕ) (blocks : ℕ)
    (head : WholeHead) (regions : Regions Text Value) (is_last : Bool) : Type 0 where
  pub proper : IsProperOp loaded visible blocks head regions is_last
  pub meets : MeetsSome loaded types visible blocks head regions is_last
  pub texts : HasTexts visible blocks head regions is_last

-- what is known besides that the operation is proper
record Meets (loaded : Loaded) (types : List Value) (visible : List ℕ) (blocks : ℕ)
    (head : WholeHead) (regions : Regions Text Value) (is_last : Bool) : Type 0 where
  meets : MeetsSome loaded types visible blocks head regions is_last
  texts : HasTexts visible blocks head regions is_last

-- ---- two properties of each operation are one

module _ (P Q R : List ℕ → ℕ → WholeHead → Regions Text Value → Bool → Type 0)
    (f : (visible : List ℕ) (blocks : ℕ) (head : WholeHead) (regions : Regions Text Value)
    (is_last : Bool) → P visible blocks head regions is_last → Q visible blocks head regions is_last
    → R visible blocks head regions is_last) where
  mutual
    ops-both : (visible : List ℕ) (blocks n : ℕ) (os : WholeModule) → EachOp P visible blocks n os
        → EachOp Q visible blocks n os → EachOp R visible blocks n os
    ops-both visible blocks n no_ops p q = tt
    ops-both visible blocks n (then_op head rs os) (p, ps, pss) (q, qs, qss) = (
      f visible blocks head rs (is_end os) p q,
      regions-both visible _ rs ps qs,
      ops-both visible blocks _ os pss qss,
    )

    regions-both : (visible : List ℕ) (n : ℕ) (rs : Regions Text Value)
        → EachInRegions P visible n rs → EachInRegions Q visible n rs
        → EachInRegions R visible n rs
    regions-both visible n no_regions p q = tt
    regions-both visible n (region bs rs) (p, ps) (q, qs) =
        (blocks-both _ _ n bs p q, regions-both visible _ rs ps qs)

    blocks-both : (visible : List ℕ) (count n : ℕ) (bs : Blocks Text Value)
        → EachInBlocks P visible count n bs → EachInBlocks Q visible count n bs
        → EachInBlocks R visible count n bs
    blocks-both visible count n no_blocks p q = tt
    blocks-both visible count n (block args os bs) (p, ps) (q, qs) =
        (ops-both visible count _ os p q, blocks-both visible count _ bs ps qs)

-- ---- numbers

first-of : (a b k : ℕ) → max a b ≤ k → a ≤ k
first-of a b k l = let m : a ≤ max a b = le-max_left a b in omega arith

second-of : (a b k : ℕ) → max a b ≤ k → b ≤ k
second-of a b k l = let m : b ≤ max a b = le-max_right a b in omega arith

-- ---- each part

module _ (loaded : Loaded) (types : List Value) where
  pub record OpsReady (k : ℕ) (visible : List ℕ) (blocks n : ℕ) (os : WholeModule) : Type 0 where
    pub each : EachOp (OpIsReady loaded types) visible blocks n os
    pub right : AllByRecursion (TypeIsRight loaded) (types_in os)
    pub room : n + length (types_in os) ≤ length types
    pub shallow : region_depth os ≤ k
    pub long : longest_region os ≤ 2 ^ 64

  pub record RegionsReady (k : ℕ) (visible : List ℕ) (n : ℕ) (rs : Regions Text Value) : Type 0
    where
      pub each : EachInRegions (OpIsReady loaded types) visible n rs
      pub right : AllByRecursion (TypeIsRight loaded) (types_in_regions rs)
      pub room : n + length (types_in_regions rs) ≤ length types
      pub shallow : depth_of_regions rs ≤ k
      pub long : longest_of_regions rs ≤ 2 ^ 64

  pub record BlocksReady (k : ℕ) (visible : List ℕ) (count n : ℕ) (bs : Blocks Text Value) : Type 0
    where
      pub each : EachInBlocks (OpIsReady loaded types) visible count n bs
      pub right : AllByRecursion (TypeIsRight loaded) (types_in_blocks bs)
      pub room : n + length (types_in_blocks bs) ≤ length types
      pub shallow : depth_of_blocks bs ≤ k
      pub long : longest_in_blocks bs ≤ 2 ^ 64

  -- ---- an operation and those behind it

  module _ (k : ℕ) (visible : List ℕ) (blocks n : ℕ) (head : WholeHead)
      (rs : Regions Text Value) (os : WholeModule)
      (r : OpsReady k visible blocks n (then_op head rs os)) where
    abbrev Front : List Value
    Front = head.results ++ types_in_regions rs

    op-types : AllByRecursion (TypeIsRight loaded) Front
        × AllByRecursion (TypeIsRight loaded) (types_in os)
    op-types = all-apart (TypeIsRight loaded) Front (types_in os) r.right

    front-types : AllByRecursion (TypeIsRight loaded) head.results
        × AllByRecursion (TypeIsRight loaded) (types_in_regions rs)
    front-types = all-apart (TypeIsRight loaded) head.results (types_in_regions rs) op-types.0

    op-count : length (types_in {N = Text} {V = Value} (then_op head rs os))
        ≡ length head.results + length (types_in_regions rs) + length (types_in os)
    op-count =
        length-append Front (types_in os)
        ∙ ap (λ m. m + length (types_in os)) (length-append head.results (types_in_regions rs))

    pub op-ready : OpIsReady loaded types visible blocks head rs (is_end os)
    op-ready = r.each.0

    pub results-right : AllByRecursion (TypeIsRight loaded) head.results
    results-right = front-types.0

    -- those of what its regions define
    pub arguments-right : AllByRecursion (TypeIsRight loaded) (types_in_regions rs)
    arguments-right = front-types.1

    pub results-room : n + length head.results ≤ length types
    results-room = omega (arith, r.room, op-count)

    pub regions-ready : RegionsReady k visible (n + length head.results) rs
    regions-ready = record {
      each = r.each.1;
      right = front-types.1;
      room = omega (arith, r.room, op-count);
      shallow = first-of (depth_of_regions rs) (region_depth os) k r.shallow;
      long = first-of (longest_of_regions rs) (longest_region os) (2 ^ 64) r.long;
    }

    pub rest-ready : OpsReady k visible blocks
        (n + length head.results + length (types_in_regions rs)) os
    rest-ready = record {
      each = r.each.2;
      right = op-types.1;
      room = omega (arith, r.room, op-count);
      shallow = second-of (depth_of_regions rs) (region_depth os) k r.shallow;
      long = second-of (longest_of_regions rs) (longest_region os) (2 ^ 64) r.long;
    }

  -- ---- a region and those behind it

  module _ (k : ℕ) (visible : List ℕ) (n : ℕ) (bs : Blocks Text Value) (rs : Regions Text Value)
      (r : RegionsReady k visible n (region bs rs)) where
    region-types : AllByRecursion (TypeIsRight loaded) (types_in_blocks bs)
        × AllByRecursion (TypeIsRight loaded) (types_in_regions rs)
    region-types = all-apart (TypeIsRight loaded) (types_in_blocks bs) (types_in_regions rs) r.right

    region-count : length (types_in_regions {N = Text} {V = Value} (region bs rs))
        ≡ length (types_in_blocks bs) + length (types_in_regions rs)
    region-count = length-append (types_in_blocks bs) (types_in_regions rs)

    here-long : max (length (block_args bs)) (longest_in_blocks bs) ≤ 2 ^ 64
    here-long =
        first-of (max (length (block_args bs)) (longest_in_blocks bs)) (longest_of_regions rs)
        (2 ^ 64) r.long

    -- blocks are few enough
    pub blocks-few : length (block_args bs) ≤ 2 ^ 64
    blocks-few = first-of (length (block_args bs)) (longest_in_blocks bs) (2 ^ 64) here-long

    -- what stands in the blocks nests less deep
    pub inner-depth : suc (depth_of_blocks bs) ≤ k
    inner-depth = first-of (suc (depth_of_blocks bs)) (depth_of_regions rs) k r.shallow

    pub blocks-ready : (j : ℕ) → depth_of_blocks bs ≤ j
        → BlocksReady j (block_numbers n bs ++ visible) (length (block_args bs)) n bs
    blocks-ready j deep = record {
      each = r.each.0;
      right = region-types.0;
      room = omega (arith, r.room, region-count);
      shallow = deep;
      long = second-of (length (block_args bs)) (longest_in_blocks bs) (2 ^ 64) here-long;
    }

    pub behind-ready : RegionsReady k visible (n + length (types_in_blocks bs)) rs
    behind-ready = record {
      each = r.each.1;
      right = region-types.1;
      room = omega (arith, r.room, region-count);
      shallow = second-of (suc (depth_of_blocks bs)) (depth_of_regions rs) k r.shallow;
      long =
          second-of (max (length (block_args bs)) (longest_in_blocks bs)) (longest_of_regions rs)
          (2 ^ 64) r.long;
    }

  -- ---- a block and those behind it

  module _ (k : ℕ) (visible : List ℕ) (count n : ℕ) (args : List Value) (os : WholeModule)
      (bs : Blocks Text Value) (r : BlocksReady k visible count n (block args os bs)) where
    abbrev Block : List Value
    Block = args ++ types_in os

    block-types : AllByRecursion (TypeIsRight loaded) Block
        × AllByRecursion (TypeIsRight loaded) (types_in_blocks bs)
    block-types = all-apart (TypeIsRight loaded) Block (types_in_blocks bs) r.right

    own-types : AllByRecursion (TypeIsRight loaded) args
        × AllByRecursion (TypeIsRight loaded) (types_in os)
    own-types = all-apart (TypeIsRight loaded) args (types_in os) block-types.0

    block-count : length (types_in_blocks {N = Text} {V = Value} (block args os bs))
        ≡ length args + length (types_in os) + length (types_in_blocks bs)
    block-count =
        length-append Block (types_in_blocks bs)
        ∙ ap (λ m. m + length (types_in_blocks bs)) (length-append args (types_in os))

    pub args-right : AllByRecursion (TypeIsRight loaded) args
    args-right = own-types.0

    pub args-room : n + length args ≤ length types
    args-room = omega (arith, r.room, block-count)

    pub inner-ready : OpsReady k visible count (n + length args) os
    inner-ready = record {
      each = r.each.0;
      right = own-types.1;
      room = omega (arith, r.room, block-count);
      shallow = first-of (region_depth os) (depth_of_blocks bs) k r.shallow;
      long = first-of (longest_region os) (longest_in_blocks bs) (2 ^ 64) r.long;
    }

    pub inner-room : n + length args + length (types_in os) ≤ length types
    inner-room = omega (arith, r.room, block-count)

    pub next-ready : BlocksReady k visible count (n + length args + length (types_in os)) bs
    next-ready = record {
      each = r.each.1;
      right = block-types.1;
      room = omega (arith, r.room, block-count);
      shallow = second-of (region_depth os) (depth_of_blocks bs) k r.shallow;
      long = second-of (longest_region os) (longest_in_blocks bs) (2 ^ 64) r.long;
    }

-- ---- a whole module

all-right : (loaded : Loaded) (ts : List Value) → AllByRecursion (IsGoodType loaded) ts
    → AllByRecursion HasBytes ts → AllByRecursion (TypeIsRight loaded) ts
all-right loaded [] p q = tt
all-right loaded (t ∷ ts) (p, ps) (q, qs) =
    (record { good = p; bytes = q }, all-right loaded ts ps qs)

-- a well-formed module is ready from its top on
pub module-ready : (loaded : Loaded) (m : WholeModule) → IsWellFormed loaded m
    → OpsReady loaded (types_in m) 64 (own_numbers 0 m) 0 0 m
module-ready loaded m w = record {
  each = ops-both (IsProperOp loaded) (Meets loaded (types_in m)) (OpIsReady loaded (types_in m))
      (λ visible blocks head rs last p q.
      record { proper = p; meets = q.meets; texts = q.texts }) (own_numbers 0 m) 0 0 m
      w.proper.each
      (ops-both (MeetsSome loaded (types_in m)) HasTexts (Meets loaded (types_in m))
      (λ visible blocks head rs last p q. record { meets = p; texts = q }) (own_numbers 0 m) 0 0 m
      w.meet w.storable.attrs);
  right = all-right loaded (types_in m) w.proper.types w.storable.types;
  room = omega arith;
  shallow = w.proper.nested;
  long = w.storable.blocks;
}
