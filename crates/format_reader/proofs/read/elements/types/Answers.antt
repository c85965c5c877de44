use Rattle.format_reader.proofs.Runs.{both-first, both-ok, both-second, exit, made-err, made-ok}
use Rattle.format_reader.proofs.read.elements.types.Goals as goal

pub returns-in_err-expect_word : goal.returns-in_err-expect_word
returns-in_err-expect_word c = exit c.from_residual.ensures
    (made-err (both-first c.in_err-expect_word.ensures))

pub returns-in_err-expect : goal.returns-in_err-expect
returns-in_err-expect c = exit c.from_residual-in_err-expect.ensures
    (made-err (both-second c.in_ok-expect_word.ensures (both-first c.in_err-expect.ensures)))

pub returns-in_err-shown : goal.returns-in_err-shown
returns-in_err-shown c = exit c.from_residual-in_err-shown.ensures
    (made-err (both-second c.in_ok-expect_word.ensures (both-second c.in_ok-expect.ensures (both-first c.in_err-shown.ensures))))

pub returns-in_err-expect-2 : goal.returns-in_err-expect-2
returns-in_err-expect-2 c = exit c.from_residual-in_err-expect-2.ensures
    (made-err (both-second c.in_ok-expect_word.ensures (both-second c.in_ok-expect.ensures (both-second c.in_ok-shown.ensures c.in_err-expect-2.ensures))))

pub returns : goal.returns
returns c = made-ok (both-ok c.in_ok-expect_word.ensures (both-ok c.in_ok-expect.ensures (both-ok c.in_ok-shown.ensures c.in_ok-expect-2.ensures)))
