use Rattle.format_reader.proofs.Runs.{both-first, both-ok, both-second, exit, made-err, made-ok}
use Rattle.format_reader.proofs.read.elements.symbol.Goals as goal

pub returns-in_err-expect_word : goal.returns-in_err-expect_word
returns-in_err-expect_word c = exit c.from_residual.ensures
    (made-err (both-first c.in_err-expect_word.ensures))

pub returns-in_err-expect : goal.returns-in_err-expect
returns-in_err-expect c = exit c.from_residual-in_err-expect.ensures
    (made-err (both-second c.in_ok-expect_word.ensures (both-first c.in_err-expect.ensures)))

pub returns-in_err-variable : goal.returns-in_err-variable
returns-in_err-variable c = exit c.from_residual-in_err-variable.ensures
    (made-err (both-second c.in_ok-expect_word.ensures (both-second c.in_ok-expect.ensures (both-first c.in_err-variable.ensures))))

pub returns-in_err-expect-2 : goal.returns-in_err-expect-2
returns-in_err-expect-2 c = exit c.from_residual-in_err-expect-2.ensures
    (made-err (both-second c.in_ok-expect_word.ensures (both-second c.in_ok-expect.ensures (both-second c.in_ok-variable.ensures c.in_err-expect-2.ensures))))

pub returns : goal.returns
returns c = made-ok (both-ok c.in_ok-expect_word.ensures (both-ok c.in_ok-expect.ensures (both-ok c.in_ok-variable.ensures c.in_ok-expect-2.ensures)))
