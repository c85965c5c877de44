use Rattle.grammar.proofs.Repeats.{Goes}
use Rattle.irdl_ops.specs.Statements.{op_statement}
use Rattle.irdl_ops.specs.Forms.{in_defs}
use Rattle.irdl_ops.proofs.read.bodies.op_statements.Given as goal

abbrev pub invariant-each : goal.invariant-each
invariant-each g l =
    Goes in_defs op_statement l.found (g.T.TokenSource.state l.fn.t) (g.T.TokenSource.state l.t)

abbrev pub decreases-each : goal.decreases-each
decreases-each g l = (g.T.TokenSource.state l.t).left
