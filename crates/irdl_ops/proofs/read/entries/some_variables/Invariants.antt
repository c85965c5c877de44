use Rattle.ir_lexer.specs.declared.class.Class.TheVariants.{Comma}
use Rattle.grammar.specs.Rules.{◌>>◌, punct}
use Rattle.generic_syntax.proofs.Rows.{Builds}
use Rattle.irdl_ops.specs.Entries.{variable, some_variables}
use Rattle.irdl_ops.specs.Forms.{in_defs}
use Rattle.irdl_ops.proofs.read.entries.some_variables.Given as goal

abbrev pub invariant-each : goal.invariant-each
invariant-each g l =
    Builds in_defs (punct Comma >> variable) some_variables (λ l. l) l.found
    (g.T.TokenSource.state l.fn.t) (g.T.TokenSource.state l.t)

abbrev pub decreases-each : goal.decreases-each
decreases-each g l = (g.T.TokenSource.state l.t).left
