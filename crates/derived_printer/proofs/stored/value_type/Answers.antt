use Rattle.std.proofs.Common.{◌∙◌, sym, ap, subst, [], ◌∷◌}
use Rattle.attr_value.specs.declared.head.ValueId.{ValueId}
use Rattle.attr_value.specs.Ids.{at}
use Rattle.derived_printer.specs.Parts.{CanPrint}
use Rattle.derived_printer.specs.ValueMarks.{value_marks}
use Rattle.derived_printer.proofs.ModuleStored.{type-seen, type-printable}
use Rattle.derived_printer.proofs.Printing.{named}
use Rattle.derived_printer.proofs.stored.value_type.Goals as goal

pub value-requires : goal.value-requires
value-requires g c =
    subst (λ (id : ValueId). CanPrint c.args.m.now.u.now (id ∷ [])) (sym c.type_of.ensures)
    (type-printable c.args.m.now.defs.now c.args.m.now.u.now c.args.m.now.store.now c.args.n
    c.requires.printable c.requires.known)

pub returns : goal.returns
returns g c =
    named
    (ap value_marks
    (type-seen c.args.m.now.form c.args.m.now.defs.now c.args.m.now.u.now c.args.m.now.store.now
    c.args.n c.requires.known
    ∙ ap (λ (id : ValueId). at c.args.m.now.u.now id.0) (sym c.type_of.ensures)))
    c.value.ensures
