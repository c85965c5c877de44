use Rattle.std.proofs.Common.{refl, ◌∙◌, ap}
use Rattle.std.specs.Int.RustNames.{unsigned_abs}
use Rattle.derived_printer.proofs.Printing.{exit, step, stop, named}
use Rattle.derived_printer.proofs.Parts.{number-parts, passed}
use Rattle.derived_printer.proofs.token.number.Goals as goal

pub returns-in_err-minus : goal.returns-in_err-minus
returns-in_err-minus g c =
    let same = passed c.args.n c.ranges.n in
    let minus = rw same at c.in_err-minus.ensures in
    named (number-parts c.args.n _ refl) (exit c.from_residual.ensures (stop _ _ minus))

pub returns : goal.returns
returns g c =
    let same = passed c.args.n c.ranges.n in
    let minus = rw same at c.in_ok-minus.ensures in
    named (number-parts c.args.n _ (c.unsigned_abs.ensures.value ∙ ap unsigned_abs same))
    (step _ _ minus c.digits.ensures)
