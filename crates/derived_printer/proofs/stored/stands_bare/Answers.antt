use Rattle.std.proofs.Common.{◌∙◌, ap, not}
use Rattle.derived_printer.proofs.ModuleForms.{bare-one}
use Rattle.derived_printer.proofs.stored.stands_bare.Goals as goal

pub returns : goal.returns
returns c =
    ap not c.is_function.ensures
    ∙ bare-one c.args.u.now c.args.types.now (record { 0 = 0 }) c.if-types-ne1.false
