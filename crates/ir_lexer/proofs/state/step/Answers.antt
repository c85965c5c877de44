use Rattle.std.proofs.Common.{ap}
use Rattle.ir_lexer.specs.Scan.{step, next}
use Rattle.ir_lexer.proofs.Machine.{step-within}
use Rattle.ir_lexer.proofs.state.step.Goals as goal

pub returns-clause-value : goal.returns-clause-value
unfolding step
returns-clause-value c = ap (next c.args.state) c.column.ensures.value

pub returns-clause-within : goal.returns-clause-within
unfolding step
returns-clause-within c =
    rw c.column.ensures.value (step-within c.args.state c.args.byte c.requires)
