-- Modules with others behind them: their shape, and the operations that they show.
--
--   shape-ops, shape-regions, shape-blocks      both have the shape of their trees
--   shown-ops, shown-regions, shown-blocks      the operations of both
--   args-regions, args-blocks                   the types of the arguments of both
use Rattle.std.proofs.Common.{◌≡◌, List, [], ◌∷◌, ◌++◌, refl, ap, sym, ◌∙◌, append_assoc}
use Rattle.attr_value.specs.declared.head.ValueId.{ValueId}
use Rattle.generic_syntax.specs.declared.module_cst.BlockCst.{BlockCst}
use Rattle.generic_syntax.specs.declared.module_cst.OpCst.{OpCst}
use Rattle.generic_syntax.specs.declared.module_cst.RegionCst.{RegionCst}
use Rattle.ir_store.specs.Modules.{Regions, Blocks, no_ops, then_op, no_regions, region}
use Rattle.ir_store.specs.Modules.{no_blocks, block, block_args}
use Rattle.ir_store.specs.Modules.{joined_ops, joined_regions, joined_blocks}
use Rattle.ir_store.specs.Store.{OpName, Module}
use Rattle.module_builder.specs.Built.{all_args}
use Rattle.module_builder.specs.Filled.{shown_in, shown_in_regions, shown_in_blocks}
use Rattle.module_faults.specs.Shape.{HasShape, RegionsHaveShape, BlocksHaveShape}

-- ---- shape

pub shape-ops : (os more : Module) (xs ys : List OpCst) → HasShape xs os → HasShape ys more
    → HasShape (xs ++ ys) (joined_ops os more)
shape-ops no_ops more [] ys p q = q
shape-ops no_ops more (x ∷ xs) ys p q = absurd p
shape-ops (then_op h rs os) more [] ys p q = absurd p
shape-ops (then_op h rs os) more (x ∷ xs) ys p q =
    (p.0, p.1, p.2, shape-ops os more xs ys p.3 q)

pub shape-regions : (os more : Regions OpName ValueId) (xs ys : List RegionCst)
    → RegionsHaveShape xs os → RegionsHaveShape ys more
    → RegionsHaveShape (xs ++ ys) (joined_regions os more)
shape-regions no_regions more [] ys p q = q
shape-regions no_regions more (x ∷ xs) ys p q = absurd p
shape-regions (region bs os) more [] ys p q = absurd p
shape-regions (region bs os) more (x ∷ xs) ys p q = (p.0, shape-regions os more xs ys p.1 q)

pub shape-blocks : (os more : Blocks OpName ValueId) (xs ys : List BlockCst)
    → BlocksHaveShape xs os → BlocksHaveShape ys more
    → BlocksHaveShape (xs ++ ys) (joined_blocks os more)
shape-blocks no_blocks more [] ys p q = q
shape-blocks no_blocks more (x ∷ xs) ys p q = absurd p
shape-blocks (block args bs os) more [] ys p q = absurd p
shape-blocks (block args bs os) more (x ∷ xs) ys p q =
    (p.0, p.1, shape-blocks os more xs ys p.2 q)

-- ---- operations

pub shown-ops : (os more : Module)
    → shown_in (joined_ops os more) ≡ shown_in os ++ shown_in more
shown-ops no_ops more = refl
shown-ops (then_op h rs os) more = ap (λ l. record { head = h; args = all_args rs } ∷ l)
    (ap (λ l. shown_in_regions rs ++ l) (shown-ops os more)
    ∙ sym (append_assoc (shown_in_regions rs) (shown_in os) (shown_in more)))

pub shown-regions : (os more : Regions OpName ValueId)
    → shown_in_regions (joined_regions os more) ≡ shown_in_regions os ++ shown_in_regions more
shown-regions no_regions more = refl
shown-regions (region bs os) more =
    ap (λ l. shown_in_blocks bs ++ l) (shown-regions os more)
    ∙ sym (append_assoc (shown_in_blocks bs) (shown_in_regions os) (shown_in_regions more))

pub shown-blocks : (os more : Blocks OpName ValueId)
    → shown_in_blocks (joined_blocks os more) ≡ shown_in_blocks os ++ shown_in_blocks more
shown-blocks no_blocks more = refl
shown-blocks (block args bs os) more =
    ap (λ l. shown_in bs ++ l) (shown-blocks os more)
    ∙ sym (append_assoc (shown_in bs) (shown_in_blocks os) (shown_in_blocks more))

-- ---- arguments

pub args-regions : (os more : Regions OpName ValueId)
    → all_args (joined_regions os more) ≡ all_args os ++ all_args more
args-regions no_regions more = refl
args-regions (region bs os) more =
    ap (λ l. block_args bs ++ l) (args-regions os more)
    ∙ sym (append_assoc (block_args bs) (all_args os) (all_args more))

pub args-blocks : (os more : Blocks OpName ValueId)
    → block_args (joined_blocks os more) ≡ block_args os ++ block_args more
args-blocks no_blocks more = refl
args-blocks (block args bs os) more = ap (λ l. args ∷ l) (args-blocks os more)
