use Rattle.grammar.proofs.Lists.{Lists}
use Rattle.irdl_ops.specs.Entries.{entry}
use Rattle.irdl_ops.specs.Forms.{in_defs}
use Rattle.irdl_ops.proofs.read.entries.entry_list.Given as goal

abbrev pub invariant-each : goal.invariant-each
invariant-each g l =
    Lists in_defs entry l.found (g.T.TokenSource.state l.fn.t) (g.T.TokenSource.state l.t)

abbrev pub decreases-each : goal.decreases-each
decreases-each g l = (g.T.TokenSource.state l.t).left
