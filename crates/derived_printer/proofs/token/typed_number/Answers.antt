use Rattle.std.proofs.Common.{sym, ◌∙◌}
use Rattle.derived_printer.proofs.Printing.{exit, step, stop, named}
use Rattle.derived_printer.proofs.Parts.{typed-parts, passed}
use Rattle.derived_printer.proofs.token.typed_number.Goals as goal

pub returns-in_err-number : goal.returns-in_err-number
returns-in_err-number g c =
    let same = passed c.args.n c.ranges.n in
    let typed =
    typed-parts c.args.kind c.args.n (sym c.is_truth_kind.ensures ∙ c.if-is_truth_kind.false) in
    let number = rw same at c.in_err-number.ensures in
    named typed (exit c.from_residual.ensures (stop _ _ number))

pub returns-in_err-sign : goal.returns-in_err-sign
returns-in_err-sign g c =
    let same = passed c.args.n c.ranges.n in
    let typed =
    typed-parts c.args.kind c.args.n (sym c.is_truth_kind.ensures ∙ c.if-is_truth_kind.false) in
    let number = rw same at c.in_ok-number.ensures in
    named typed
    (exit c.from_residual-in_err-sign.ensures (step _ _ number (stop _ _ c.in_err-sign.ensures)))

pub returns : goal.returns
returns g c =
    let same = passed c.args.n c.ranges.n in
    let typed =
    typed-parts c.args.kind c.args.n (sym c.is_truth_kind.ensures ∙ c.if-is_truth_kind.false) in
    let number = rw same at c.in_ok-number.ensures in
    named typed (step _ _ number (step _ _ c.in_ok-sign.ensures c.int_type.ensures))
