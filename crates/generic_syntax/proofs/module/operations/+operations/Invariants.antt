use Rattle.std.proofs.Common.{◌+◌, ◌*◌, []}
use Rattle.ir_lexer.specs.declared.class.Class.TheVariants as cls
use Rattle.grammar.specs.Rules.{◌>>◌, punct}
use Rattle.grammar.proofs.Repeats.{Goes}
use Rattle.generic_syntax.specs.ModuleForms.{list1, inner_region}
use Rattle.generic_syntax.specs.ModuleText.{modules_within}
use Rattle.generic_syntax.specs.Modules.{block, blocks}
use Rattle.generic_syntax.specs.Operations.{no_customs, op_with}
use Rattle.generic_syntax.proofs.Rows.{Builds}
use Rattle.generic_syntax.proofs.module.operations.+operations.Given as goal

abbrev pub decreases-inner_region : goal.decreases-inner_region
decreases-inner_region g l = 16 * l.room + 0

abbrev pub decreases-some_regions : goal.decreases-some_regions
decreases-some_regions g l = 16 * l.room + 1

abbrev pub decreases-regions : goal.decreases-regions
decreases-regions g l = 16 * l.room + 2

abbrev pub decreases-generic : goal.decreases-generic
decreases-generic g l = 16 * l.room + 3

abbrev pub decreases-op : goal.decreases-op
decreases-op g l = 16 * l.room + 4

abbrev pub decreases-ops : goal.decreases-ops
decreases-ops g l = 16 * l.room + 5

abbrev pub decreases-block : goal.decreases-block
decreases-block g l = 16 * l.room + 6

abbrev pub decreases-blocks : goal.decreases-blocks
decreases-blocks g l = 16 * l.room + 7

abbrev pub decreases-region : goal.decreases-region
decreases-region g l = 16 * l.room + 8

abbrev pub invariant-ops-each : goal.invariant-ops-each
invariant-ops-each g l = Goes (modules_within no_customs l.room) (op_with []) l.found
    (g.T.TokenSource.state l.fn.t) (g.T.TokenSource.state l.t)

abbrev pub decreases-ops-each : goal.decreases-ops-each
decreases-ops-each g l = (g.T.TokenSource.state l.t).left

abbrev pub invariant-some_regions-each : goal.invariant-some_regions-each
invariant-some_regions-each g l = Builds (modules_within no_customs l.room)
    (punct cls.Comma >> inner_region) (list1 inner_region) (λ l. l) l.found
    (g.T.TokenSource.state l.fn.t) (g.T.TokenSource.state l.t)

abbrev pub decreases-some_regions-each : goal.decreases-some_regions-each
decreases-some_regions-each g l = (g.T.TokenSource.state l.t).left

abbrev pub invariant-blocks-each : goal.invariant-blocks-each
invariant-blocks-each g l = Builds (modules_within no_customs l.room) (block no_customs)
    (blocks no_customs) (λ l. l) l.found (g.T.TokenSource.state l.fn.t)
    (g.T.TokenSource.state l.t)

abbrev pub decreases-blocks-each : goal.decreases-blocks-each
decreases-blocks-each g l = (g.T.TokenSource.state l.t).left
