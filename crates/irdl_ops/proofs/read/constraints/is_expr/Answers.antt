use Rattle.grammar.proofs.Runs.{exit, at-tok, both-ok, both-first, both-second, made-ok, made-err}
use Rattle.generic_syntax.specs.declared.pieces.TheConstants.{ROOM}
use Rattle.generic_syntax.specs.Pieces.{one_attr}
use Rattle.generic_syntax.proofs.Above.{at-piece}
use Rattle.irdl_ops.proofs.read.constraints.is_expr.Goals as goal

pub returns-in_err-expect_word : goal.returns-in_err-expect_word
returns-in_err-expect_word g c = exit c.from_residual.ensures
    (both-first (at-tok c.in_err-expect_word.ensures.took))

pub returns-in_err-value : goal.returns-in_err-value
returns-in_err-value g c = exit c.from_residual-in_err-value.ensures
    (both-second (at-tok c.in_ok-expect_word.ensures.took)
    (made-err (at-piece ROOM one_attr c.in_err-value.ensures)))

pub returns : goal.returns
returns g c = both-ok (at-tok c.in_ok-expect_word.ensures.took)
    (made-ok (at-piece ROOM one_attr c.in_ok-value.ensures))
