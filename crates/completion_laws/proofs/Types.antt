-- Types of all values of a module, and those of each operation's results and of the arguments in
-- its regions.
use Rattle.std.proofs.Common.{Bool, List, [], ◌∷◌, ◌++◌}
use Rattle.std.specs.List.{AllByRecursion}
use Rattle.attr_value.specs.Values.{Value}
use Rattle.generic_syntax.specs.declared.module_cst.BlockCst.{BlockCst, out-BlockCst}
use Rattle.generic_syntax.specs.declared.module_cst.OpCst.{OpCst}
use Rattle.generic_syntax.specs.declared.module_cst.RegionCst.{RegionCst, out-RegionCst}
use Rattle.ir_lexer.specs.Spelling.{Text}
use Rattle.ir_store.specs.Modules.{Regions, Blocks, no_ops, then_op, no_regions, region}
use Rattle.ir_store.specs.Modules.{no_blocks, block, types_in, types_in_regions, types_in_blocks}
use Rattle.ir_store.specs.Modules.{block_args, region_args}
use Rattle.completion_laws.specs.Beside.{OpsBeside, RegionsBeside, BlocksBeside, InEach}
use Rattle.completion_laws.proofs.Besides.{Stands}
use Rattle.module_faults.specs.Standings.{generic_regions}
use Rattle.module_meaning.proofs.Arguments.{region-arguments}
use Rattle.module_meaning.proofs.GenericFacts.{all-apart}
use Rattle.module_meaning.proofs.Places.{all-joined}
use Rattle.module_meaning.specs.WholeModules.{WholeHead, WholeModule}

module _ (G : Value → Type 0) where
  -- of the results of an operation and the arguments in its regions
  abbrev pub OfTypes : OpCst → WholeHead → Regions Text Value → Bool → Type 0
  OfTypes c head regions last =
      AllByRecursion G head.results × InEach G (region_args regions)

  -- of the arguments alone
  abbrev pub OfArguments : OpCst → WholeHead → Regions Text Value → Bool → Type 0
  OfArguments c head regions last = InEach G (region_args regions)

  mutual
    -- what holds of these holds of all values
    pub ops-types : (cs : List OpCst) (os : WholeModule) → OpsBeside OfTypes cs os
        → AllByRecursion G (types_in os)
    ops-types [] no_ops p = tt
    ops-types [] (then_op head rs os) p = absurd p
    ops-types (c ∷ cs) no_ops p = absurd p
    ops-types (c ∷ cs) (then_op head rs os) ((results, arguments), inner, more) =
        all-joined G (head.results ++ types_in_regions rs) (types_in os)
        (all-joined G head.results (types_in_regions rs) results
        (regions-types (generic_regions c) rs inner arguments)) (ops-types cs os more)

    regions-types : (cs : List RegionCst) (rs : Regions Text Value) → RegionsBeside OfTypes cs rs
        → InEach G (region_args rs) → AllByRecursion G (types_in_regions rs)
    regions-types [] no_regions p args = tt
    regions-types [] (region bs rs) p args = absurd p
    regions-types (c ∷ cs) no_regions p args = absurd p
    regions-types (c ∷ cs) (region bs rs) (p, more) (first, args) =
        all-joined G (types_in_blocks bs) (types_in_regions rs)
        (blocks-types (out-RegionCst c).blocks bs p first) (regions-types cs rs more args)

    blocks-types : (cs : List BlockCst) (bs : Blocks Text Value) → BlocksBeside OfTypes cs bs
        → AllByRecursion (AllByRecursion G) (block_args bs)
        → AllByRecursion G (types_in_blocks bs)
    blocks-types [] no_blocks p args = tt
    blocks-types [] (block xs os bs) p args = absurd p
    blocks-types (c ∷ cs) no_blocks p args = absurd p
    blocks-types (c ∷ cs) (block xs os bs) (p, more) (first, args) =
        all-joined G (xs ++ types_in os) (types_in_blocks bs)
        (all-joined G xs (types_in os) first (ops-types (out-BlockCst c).ops os p))
        (blocks-types cs bs more args)

  mutual
    -- what holds of all values holds of the arguments in each operation's regions
    pub types-ops : (cs : List OpCst) (os : WholeModule) → OpsBeside Stands cs os
        → AllByRecursion G (types_in os) → OpsBeside OfArguments cs os
    types-ops [] no_ops s h = tt
    types-ops [] (then_op head rs os) s h = absurd s
    types-ops (c ∷ cs) no_ops s h = absurd s
    types-ops (c ∷ cs) (then_op head rs os) (s, inner, more) h =
        let first = all-apart G (head.results ++ types_in_regions rs) (types_in os) h in
        let second = all-apart G head.results (types_in_regions rs) first.0 in (
          region-arguments G rs second.1,
          types-regions (generic_regions c) rs inner second.1,
          types-ops cs os more first.1,
        )

    types-regions : (cs : List RegionCst) (rs : Regions Text Value) → RegionsBeside Stands cs rs
        → AllByRecursion G (types_in_regions rs) → RegionsBeside OfArguments cs rs
    types-regions [] no_regions s h = tt
    types-regions [] (region bs rs) s h = absurd s
    types-regions (c ∷ cs) no_regions s h = absurd s
    types-regions (c ∷ cs) (region bs rs) (s, more) h =
        let first = all-apart G (types_in_blocks bs) (types_in_regions rs) h in
        (types-blocks (out-RegionCst c).blocks bs s first.0, types-regions cs rs more first.1)

    types-blocks : (cs : List BlockCst) (bs : Blocks Text Value) → BlocksBeside Stands cs bs
        → AllByRecursion G (types_in_blocks bs) → BlocksBeside OfArguments cs bs
    types-blocks [] no_blocks s h = tt
    types-blocks [] (block xs os bs) s h = absurd s
    types-blocks (c ∷ cs) no_blocks s h = absurd s
    types-blocks (c ∷ cs) (block xs os bs) (s, more) h =
        let first = all-apart G (xs ++ types_in os) (types_in_blocks bs) h in
        let second = all-apart G xs (types_in os) first.0 in
        (types-ops (out-BlockCst c).ops os s second.1, types-blocks cs bs more first.1)
