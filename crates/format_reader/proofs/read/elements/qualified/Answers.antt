use Rattle.format_reader.proofs.Runs.{both-first, both-ok, both-second, exit}
use Rattle.format_reader.proofs.read.elements.qualified.Goals as goal

pub returns-in_err-expect_word : goal.returns-in_err-expect_word
returns-in_err-expect_word c = exit c.from_residual.ensures
    (both-first c.in_err-expect_word.ensures)

pub returns-in_err-expect : goal.returns-in_err-expect
returns-in_err-expect c = exit c.from_residual-in_err-expect.ensures
    (both-second c.in_ok-expect_word.ensures (both-first c.in_err-expect.ensures))

pub returns-in_err-kind : goal.returns-in_err-kind
returns-in_err-kind c = exit c.from_residual-in_err-kind.ensures
    (both-second c.in_ok-expect_word.ensures (both-second c.in_ok-expect.ensures (both-first c.in_err-kind.ensures)))

pub returns-in_err-expect-2 : goal.returns-in_err-expect-2
returns-in_err-expect-2 c = exit c.from_residual-in_err-expect-2.ensures
    (both-second c.in_ok-expect_word.ensures (both-second c.in_ok-expect.ensures (both-second c.in_ok-kind.ensures c.in_err-expect-2.ensures)))

pub returns : goal.returns
returns c = both-ok c.in_ok-expect_word.ensures (both-ok c.in_ok-expect.ensures (both-ok c.in_ok-kind.ensures c.in_ok-expect-2.ensures))
