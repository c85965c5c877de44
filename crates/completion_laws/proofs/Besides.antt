-- What is said of each operation beside its tree: two such facts give a third, and what has the
-- shape of trees stands beside them.
use Rattle.std.proofs.Common.{◌≡◌, Bool, List, [], ◌∷◌, refl}
use Rattle.attr_value.specs.Values.{Value}
use Rattle.generic_syntax.specs.declared.module_cst.BlockCst.{BlockCst, out-BlockCst}
use Rattle.generic_syntax.specs.declared.module_cst.FormCst.{out-FormCst}
use Rattle.generic_syntax.specs.declared.module_cst.OpCst.{OpCst, out-OpCst}
use Rattle.generic_syntax.specs.declared.module_cst.RegionCst.{RegionCst, out-RegionCst}
use Rattle.ir_lexer.specs.Spelling.{Text}
use Rattle.ir_store.specs.Modules.{Regions, Blocks, no_ops, then_op, no_regions, region}
use Rattle.ir_store.specs.Modules.{no_blocks, block}
use Rattle.completion_laws.specs.Beside.{OpsBeside, RegionsBeside, BlocksBeside}
use Rattle.module_faults.specs.Shape.{FormFits, HasShape, RegionsHaveShape, BlocksHaveShape}
use Rattle.module_faults.specs.Standings.{generic_regions, is_last_before}
use Rattle.module_meaning.specs.WholeModules.{WholeHead, WholeModule, is_end}

-- that it stands there
abbrev pub Stands : OpCst → WholeHead → Regions Text Value → Bool → Type 0
Stands c head rs last = Unit {0}

module _ (P Q R : OpCst → WholeHead → Regions Text Value → Bool → Type 0)
    (both : (c : OpCst) (head : WholeHead) (regions : Regions Text Value) (last : Bool)
    → P c head regions last → Q c head regions last → R c head regions last) where
  mutual
    -- two facts of each operation give a third
    pub ops-both : (cs : List OpCst) (os : WholeModule) → OpsBeside P cs os → OpsBeside Q cs os
        → OpsBeside R cs os
    ops-both [] no_ops p q = tt
    ops-both [] (then_op head rs os) p q = absurd p
    ops-both (c ∷ cs) no_ops p q = absurd p
    ops-both (c ∷ cs) (then_op head rs os) (p, ps, more) (q, qs, more2) = (
      both c head rs (is_end os) p q,
      regions-both (generic_regions c) rs ps qs,
      ops-both cs os more more2,
    )

    regions-both : (cs : List RegionCst) (rs : Regions Text Value) → RegionsBeside P cs rs
        → RegionsBeside Q cs rs → RegionsBeside R cs rs
    regions-both [] no_regions p q = tt
    regions-both [] (region bs rs) p q = absurd p
    regions-both (c ∷ cs) no_regions p q = absurd p
    regions-both (c ∷ cs) (region bs rs) (p, more) (q, more2) =
        (blocks-both (out-RegionCst c).blocks bs p q, regions-both cs rs more more2)

    blocks-both : (cs : List BlockCst) (bs : Blocks Text Value) → BlocksBeside P cs bs
        → BlocksBeside Q cs bs → BlocksBeside R cs bs
    blocks-both [] no_blocks p q = tt
    blocks-both [] (block args os bs) p q = absurd p
    blocks-both (c ∷ cs) no_blocks p q = absurd p
    blocks-both (c ∷ cs) (block args os bs) (p, more) (q, more2) =
        (ops-both (out-BlockCst c).ops os p q, blocks-both cs bs more more2)

-- one fact of each gives another
pub ops-wider : (P R : OpCst → WholeHead → Regions Text Value → Bool → Type 0)
    → ((c : OpCst) (head : WholeHead) (regions : Regions Text Value) (last : Bool)
    → P c head regions last → R c head regions last)
    → (cs : List OpCst) (os : WholeModule) → OpsBeside P cs os → OpsBeside R cs os
ops-wider P R more cs os p = ops-both P P R (λ c head rs last x y. more c head rs last x) cs os p p

-- where something is said of each, each stands there
pub ops-stand : (P : OpCst → WholeHead → Regions Text Value → Bool → Type 0)
    → (cs : List OpCst) (os : WholeModule) → OpsBeside P cs os → OpsBeside Stands cs os
ops-stand P cs os p = ops-wider P Stands (λ c head rs last x. tt) cs os p

-- an operation is the last where its tree is
pub last-same : (P : OpCst → WholeHead → Regions Text Value → Bool → Type 0)
    → (cs : List OpCst) (os : WholeModule) → OpsBeside P cs os → is_last_before cs ≡ is_end os
last-same P [] no_ops p = refl
last-same P [] (then_op head rs os) p = absurd p
last-same P (c ∷ cs) no_ops p = absurd p
last-same P (c ∷ cs) (then_op head rs os) p = refl

-- ---- shapes

-- the form has as many uses, successors and types of results as the operation
abbrev pub Fits : OpCst → WholeHead → Regions Text Value → Bool → Type 0
Fits c head rs last = FormFits (out-FormCst (out-OpCst c).form) head

mutual
  -- what has the shape of trees stands beside them
  pub shape-beside : (cs : List OpCst) (os : WholeModule) → HasShape cs os → OpsBeside Fits cs os
  shape-beside [] no_ops s = tt
  shape-beside [] (then_op head rs os) s = absurd s
  shape-beside (c ∷ cs) no_ops s = absurd s
  shape-beside (c ∷ cs) (then_op head rs os) (fits, names, inner, more) =
      (fits, regions-shape (generic_regions c) rs inner, shape-beside cs os more)

  regions-shape : (cs : List RegionCst) (rs : Regions Text Value) → RegionsHaveShape cs rs
      → RegionsBeside Fits cs rs
  regions-shape [] no_regions s = tt
  regions-shape [] (region bs rs) s = absurd s
  regions-shape (c ∷ cs) no_regions s = absurd s
  regions-shape (c ∷ cs) (region bs rs) (s, more) =
      (blocks-shape (out-RegionCst c).blocks bs s, regions-shape cs rs more)

  blocks-shape : (cs : List BlockCst) (bs : Blocks Text Value) → BlocksHaveShape cs bs
      → BlocksBeside Fits cs bs
  blocks-shape [] no_blocks s = tt
  blocks-shape [] (block args os bs) s = absurd s
  blocks-shape (c ∷ cs) no_blocks s = absurd s
  blocks-shape (c ∷ cs) (block args os bs) (long, s, more) =
      (shape-beside (out-BlockCst c).ops os s, blocks-shape cs bs more)
