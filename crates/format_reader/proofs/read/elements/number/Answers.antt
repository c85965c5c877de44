use Rattle.std.proofs.Common.{◌∙◌, ap}
use Rattle.format_reader.proofs.Runs.{exit, as-ok, as-err}
use Rattle.format_reader.specs.Elements.{kind_or_index}
use Rattle.format_reader.specs.Spelling.{number_kind}
use Rattle.format_reader.proofs.read.elements.number.Goals as goal

pub returns-in_err-expect : goal.returns-in_err-expect
returns-in_err-expect c = exit c.from_residual.ensures (as-err c.in_err-expect.ensures)

pub returns : goal.returns
returns c = as-ok (c.named_kind-kind.ensures ∙ ap (λ w. kind_or_index (number_kind w)) c.text.ensures)
    c.in_ok-expect.ensures
