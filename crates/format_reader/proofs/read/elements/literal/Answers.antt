use Rattle.std.proofs.Common.{◌∙◌, ap}
use Rattle.format_reader.proofs.Runs.{exit, placed-ok, placed-err, as-ok, as-err}
use Rattle.format_reader.specs.Spelling.{content_of, literal_kind}
use Rattle.format_reader.proofs.read.elements.literal.Goals as goal

pub returns-in_err-expect : goal.returns-in_err-expect
returns-in_err-expect c = exit c.from_residual-in_err-expect.ensures (placed-err (as-err c.in_err-expect.ensures))

pub returns : goal.returns
returns c = placed-ok c.place-at.ensures.place c.place-at.ensures.some
    (as-ok (c.in_ok-kind.ensures ∙ ap literal_kind (c.content.ensures ∙ ap content_of c.text.ensures))
    c.in_ok-expect.ensures)
