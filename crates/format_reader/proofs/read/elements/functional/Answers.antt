use Rattle.format_reader.proofs.Runs.{both-first, both-ok, both-second, exit}
use Rattle.format_reader.proofs.read.elements.functional.Goals as goal

pub returns-in_err-expect_word : goal.returns-in_err-expect_word
returns-in_err-expect_word c = exit c.from_residual.ensures
    (both-first c.in_err-expect_word.ensures)

pub returns-in_err-expect : goal.returns-in_err-expect
returns-in_err-expect c = exit c.from_residual-in_err-expect.ensures
    (both-second c.in_ok-expect_word.ensures (both-first c.in_err-expect.ensures))

pub returns-in_err-inputs : goal.returns-in_err-inputs
returns-in_err-inputs c = exit c.from_residual-in_err-inputs.ensures
    (both-second c.in_ok-expect_word.ensures (both-second c.in_ok-expect.ensures (both-first (both-first c.in_err-inputs.ensures))))

pub returns-in_err-expect-2 : goal.returns-in_err-expect-2
returns-in_err-expect-2 c = exit c.from_residual-in_err-expect-2.ensures
    (both-second c.in_ok-expect_word.ensures (both-second c.in_ok-expect.ensures (both-first (both-second c.in_ok-inputs.ensures (both-first c.in_err-expect-2.ensures)))))

pub returns-in_err-outputs : goal.returns-in_err-outputs
returns-in_err-outputs c = exit c.from_residual-in_err-outputs.ensures
    (both-second c.in_ok-expect_word.ensures (both-second c.in_ok-expect.ensures (both-first (both-second c.in_ok-inputs.ensures (both-second c.in_ok-expect-2.ensures c.in_err-outputs.ensures)))))

pub returns-in_err-expect-3 : goal.returns-in_err-expect-3
returns-in_err-expect-3 c = exit c.from_residual-in_err-expect-3.ensures
    (both-second c.in_ok-expect_word.ensures (both-second c.in_ok-expect.ensures (both-second (both-ok c.in_ok-inputs.ensures (both-ok c.in_ok-expect-2.ensures c.in_ok-outputs.ensures)) c.in_err-expect-3.ensures)))

pub returns : goal.returns
returns c = both-ok c.in_ok-expect_word.ensures (both-ok c.in_ok-expect.ensures (both-ok (both-ok c.in_ok-inputs.ensures (both-ok c.in_ok-expect-2.ensures c.in_ok-outputs.ensures)) c.in_ok-expect-3.ensures))
