use Rattle.format_reader.proofs.Runs.{both-first, both-ok, both-second, exit, placed-err, placed-ok}
use Rattle.format_reader.proofs.read.elements.marked.Goals as goal

pub returns-in_err-kind : goal.returns-in_err-kind
returns-in_err-kind c = exit c.from_residual.ensures
    (placed-err (both-first c.in_err-kind.ensures))

pub returns-in_err-anchor : goal.returns-in_err-anchor
returns-in_err-anchor c = exit c.from_residual-in_err-anchor.ensures
    (placed-err (both-second c.in_ok-kind.ensures c.in_err-anchor.ensures))

pub returns : goal.returns
returns c = placed-ok c.place-at.ensures.place c.place-at.ensures.some (both-ok c.in_ok-kind.ensures c.in_ok-anchor.ensures)
