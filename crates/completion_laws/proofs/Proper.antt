-- A module is proper where operations are in scope and each is right apart from that.
use Rattle.std.proofs.Common.{◌≡◌, ◌<◌, ℕ, Bool, true, List, [], ◌∷◌, Contains}
use Rattle.std.specs.List.{AllByRecursion}
use Rattle.attr_value.specs.Values.{Value}
use Rattle.dialect_defs.specs.declared.definition.OpDef.{OpDef}
use Rattle.generic_syntax.specs.declared.module_cst.BlockCst.{BlockCst, out-BlockCst}
use Rattle.generic_syntax.specs.declared.module_cst.OpCst.{OpCst}
use Rattle.generic_syntax.specs.declared.module_cst.RegionCst.{RegionCst, out-RegionCst}
use Rattle.ir_lexer.specs.Spelling.{Text}
use Rattle.ir_store.specs.Modules.{Regions, Blocks, no_ops, then_op, no_regions, region}
use Rattle.ir_store.specs.Modules.{no_blocks, block}
use Rattle.ir_store.specs.Named.{AttrsAreRight}
use Rattle.completion_laws.specs.Beside.{OpsBeside, RegionsBeside, BlocksBeside}
use Rattle.completion_laws.specs.Named.{OpsNamed, RegionsNamed, BlocksNamed}
use Rattle.completion_laws.proofs.Besides.{Stands}
use Rattle.module_faults.specs.Standings.{generic_regions}
use Rattle.module_meaning.specs.Names.{Env}
use Rattle.module_meaning.specs.WholeModules.{WholeHead, WholeModule, Loaded, IsGood}
use Rattle.module_meaning.specs.WholeModules.{EachOp, EachInRegions, EachInBlocks, IsInScope}
use Rattle.module_meaning.specs.WholeModules.{IsProperOp}

-- what is asked of an operation, but for its scope
pub record IsProperAlone (loaded : Loaded) (head : WholeHead) (is_last : Bool) : Type 0 where
  pub targets : AllByRecursion (λ b. 0 < b) head.successors
  pub attrs : AttrsAreRight head
  pub values : AllByRecursion (IsGood loaded) head.values
  pub terminator : (d : OpDef) → Contains loaded.ops d → d.name ≡ head.name
      → d.terminator ≡ true → is_last ≡ true

module _ (loaded : Loaded) where
  -- of an operation beside its tree
  abbrev pub Alone : OpCst → WholeHead → Regions Text Value → Bool → Type 0
  Alone c head rs last = IsProperAlone loaded head last

  mutual
    -- what is in scope and right apart from that is proper
    pub ops-proper : (visible : List ℕ) (blocks n : ℕ) (cs : List OpCst) (os : WholeModule)
        → EachOp IsInScope visible blocks n os → OpsBeside Alone cs os
        → EachOp (IsProperOp loaded) visible blocks n os
    ops-proper visible blocks n [] no_ops s p = tt
    ops-proper visible blocks n [] (then_op head rs os) s p = absurd p
    ops-proper visible blocks n (c ∷ cs) no_ops s p = absurd p
    ops-proper visible blocks n (c ∷ cs) (then_op head rs os) (s, inner, more)
        (p, below, later) = (
          record {
            in_scope = s;
            targets = p.targets;
            attrs = p.attrs;
            values = p.values;
            terminator = p.terminator;
          },
          regions-proper visible _ (generic_regions c) rs inner below,
          ops-proper visible blocks _ cs os more later,
        )

    regions-proper : (visible : List ℕ) (n : ℕ) (cs : List RegionCst) (rs : Regions Text Value)
        → EachInRegions IsInScope visible n rs → RegionsBeside Alone cs rs
        → EachInRegions (IsProperOp loaded) visible n rs
    regions-proper visible n [] no_regions s p = tt
    regions-proper visible n [] (region bs rs) s p = absurd p
    regions-proper visible n (c ∷ cs) no_regions s p = absurd p
    regions-proper visible n (c ∷ cs) (region bs rs) (s, more) (p, later) = (
      blocks-proper _ _ n (out-RegionCst c).blocks bs s p,
      regions-proper visible _ cs rs more later,
    )

    blocks-proper : (visible : List ℕ) (blocks n : ℕ) (cs : List BlockCst)
        (bs : Blocks Text Value) → EachInBlocks IsInScope visible blocks n bs
        → BlocksBeside Alone cs bs → EachInBlocks (IsProperOp loaded) visible blocks n bs
    blocks-proper visible blocks n [] no_blocks s p = tt
    blocks-proper visible blocks n [] (block xs os bs) s p = absurd p
    blocks-proper visible blocks n (c ∷ cs) no_blocks s p = absurd p
    blocks-proper visible blocks n (c ∷ cs) (block xs os bs) (s, more) (p, later) = (
      ops-proper visible blocks _ (out-BlockCst c).ops os s p,
      blocks-proper visible blocks _ cs bs more later,
    )

  mutual
    -- and what is proper is right apart from its scope
    pub proper-ops : (visible : List ℕ) (blocks n : ℕ) (cs : List OpCst) (os : WholeModule)
        → EachOp (IsProperOp loaded) visible blocks n os → OpsBeside Stands cs os
        → OpsBeside Alone cs os
    proper-ops visible blocks n [] no_ops p s = tt
    proper-ops visible blocks n [] (then_op head rs os) p s = absurd s
    proper-ops visible blocks n (c ∷ cs) no_ops p s = absurd s
    proper-ops visible blocks n (c ∷ cs) (then_op head rs os) (p, inner, more)
        (s, below, later) = (
          record {
            targets = p.targets;
            attrs = p.attrs;
            values = p.values;
            terminator = p.terminator;
          },
          proper-regions visible _ (generic_regions c) rs inner below,
          proper-ops visible blocks _ cs os more later,
        )

    proper-regions : (visible : List ℕ) (n : ℕ) (cs : List RegionCst) (rs : Regions Text Value)
        → EachInRegions (IsProperOp loaded) visible n rs → RegionsBeside Stands cs rs
        → RegionsBeside Alone cs rs
    proper-regions visible n [] no_regions p s = tt
    proper-regions visible n [] (region bs rs) p s = absurd s
    proper-regions visible n (c ∷ cs) no_regions p s = absurd s
    proper-regions visible n (c ∷ cs) (region bs rs) (p, more) (s, later) = (
      proper-blocks _ _ n (out-RegionCst c).blocks bs p s,
      proper-regions visible _ cs rs more later,
    )

    proper-blocks : (visible : List ℕ) (blocks n : ℕ) (cs : List BlockCst)
        (bs : Blocks Text Value) → EachInBlocks (IsProperOp loaded) visible blocks n bs
        → BlocksBeside Stands cs bs → BlocksBeside Alone cs bs
    proper-blocks visible blocks n [] no_blocks p s = tt
    proper-blocks visible blocks n [] (block xs os bs) p s = absurd s
    proper-blocks visible blocks n (c ∷ cs) no_blocks p s = absurd s
    proper-blocks visible blocks n (c ∷ cs) (block xs os bs) (p, more) (s, later) = (
      proper-ops visible blocks _ (out-BlockCst c).ops os p s,
      proper-blocks visible blocks _ cs bs more later,
    )

-- no successor is the first block
abbrev pub Targets : OpCst → WholeHead → Regions Text Value → Bool → Type 0
Targets c head rs last = AllByRecursion (λ b. 0 < b) head.successors

mutual
  -- where names are right
  pub named-targets : (env : Env) (n : ℕ) (cs : List OpCst) (os : WholeModule)
      → OpsNamed env n cs os → OpsBeside Targets cs os
  named-targets env n [] no_ops p = tt
  named-targets env n [] (then_op head rs os) p = absurd p
  named-targets env n (c ∷ cs) no_ops p = absurd p
  named-targets env n (c ∷ cs) (then_op head rs os) (p, inner, more) = (
    p.targets,
    regions-targets _ _ (generic_regions c) rs inner,
    named-targets _ _ cs os more,
  )

  regions-targets : (env : Env) (n : ℕ) (cs : List RegionCst) (rs : Regions Text Value)
      → RegionsNamed env n cs rs → RegionsBeside Targets cs rs
  regions-targets env n [] no_regions p = tt
  regions-targets env n [] (region bs rs) p = absurd p
  regions-targets env n (c ∷ cs) no_regions p = absurd p
  regions-targets env n (c ∷ cs) (region bs rs) (labels, p, more) =
      (blocks-targets _ _ (out-RegionCst c).blocks bs p, regions-targets _ _ cs rs more)

  blocks-targets : (env : Env) (n : ℕ) (cs : List BlockCst) (bs : Blocks Text Value)
      → BlocksNamed env n cs bs → BlocksBeside Targets cs bs
  blocks-targets env n [] no_blocks p = tt
  blocks-targets env n [] (block xs os bs) p = absurd p
  blocks-targets env n (c ∷ cs) no_blocks p = absurd p
  blocks-targets env n (c ∷ cs) (block xs os bs) (new, p, more) =
      (named-targets _ _ (out-BlockCst c).ops os p, blocks-targets _ _ cs bs more)
