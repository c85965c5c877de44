use Rattle.format_reader.proofs.Runs.{both-first, both-ok, both-second, exit, placed-err, placed-ok}
use Rattle.format_reader.proofs.read.group.Goals as goal

pub returns-in_err-first : goal.returns-in_err-first
returns-in_err-first c = exit c.from_residual.ensures
    (placed-err (both-first c.in_err-first.ensures))

pub returns-in_err-otherwise : goal.returns-in_err-otherwise
returns-in_err-otherwise c = exit c.from_residual-in_err-otherwise.ensures
    (placed-err (both-second c.in_ok-first.ensures (both-first c.in_err-otherwise.ensures)))

pub returns-in_err-expect : goal.returns-in_err-expect
returns-in_err-expect c = exit c.from_residual-in_err-expect.ensures
    (placed-err (both-second c.in_ok-first.ensures (both-second c.in_ok-otherwise.ensures c.in_err-expect.ensures)))

pub returns : goal.returns
returns c = placed-ok c.place-at.ensures.place c.place-at.ensures.some (both-ok c.in_ok-first.ensures (both-ok c.in_ok-otherwise.ensures c.in_ok-expect.ensures))
