use Rattle.std.proofs.Common.{◌∙◌, ap, drop}
use Rattle.format_reader.specs.Ran.{now_of}
use Rattle.format_reader.proofs.Runs.{exit, as-ok, as-err, name-is}
use Rattle.format_reader.proofs.read.elements.variable.Goals as goal

pub returns-in_err-expect : goal.returns-in_err-expect
returns-in_err-expect c = exit c.from_residual-in_err-expect.ensures (as-err c.in_err-expect.ensures)

pub returns : goal.returns
returns c = as-ok (name-is (now_of c.args.t.now) c.place-at.ensures.place
    (c.in_ok-name.ensures ∙ (c.unsigned.ensures ∙ ap (drop 1) c.text.ensures))) c.in_ok-expect.ensures
