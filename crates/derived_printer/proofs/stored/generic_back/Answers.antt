use Rattle.std.proofs.Common.{◌<◌, ◌∙◌, length, sym, ap, subst}
use Rattle.std.specs.List.{AllByRecursion}
use Rattle.ir_store.specs.Modules.{types_in}
use Rattle.derived_printer.specs.ModuleParts.{op_here}
use Rattle.derived_printer.specs.Parts.{CanPrint}
use Rattle.derived_printer.proofs.ModuleForms.{back-same}
use Rattle.derived_printer.proofs.ModuleStored.{op-printable, attrs-printable, results-printable}
use Rattle.derived_printer.proofs.ModuleWalk.{op-is}
use Rattle.derived_printer.proofs.Printing.{named}
use Rattle.derived_printer.proofs.stored.generic_back.Goals as goal

pub back-requires-clause-values : goal.back-requires-clause-values
back-requires-clause-values g c =
    let m = c.args.m.now in
    let x = op_here m.store.now c.args.id in
    let is = op-is m.store.now c.args.id c.requires.known in
    let same = c.as_slice-values.ensures ∙ sym (ap (λ h. h.values) (c.op-row.ensures.head x is)) in
    subst (CanPrint m.u.now) (sym same)
    (attrs-printable m.defs.now m.u.now m.store.now c.args.id c.requires.printable
    c.requires.known)

pub back-requires-clause-count : goal.back-requires-clause-count
back-requires-clause-count g c =
    ap length c.as_slice-values.ensures ∙ c.op-row.ensures.attrs.counts ∙ sym (ap length c.as_slice-keys.ensures)

pub back-requires-clause-known : goal.back-requires-clause-known
back-requires-clause-known g c =
    let m = c.args.m.now in
    let x = op_here m.store.now c.args.id in
    let is = op-is m.store.now c.args.id c.requires.known in
    let same = c.as_slice.ensures ∙ sym (ap (λ h. h.operands) (c.op-row.ensures.head x is)) in
    subst (AllByRecursion (λ n. n < length (types_in m.store.now))) (sym same)
    (op-printable m.defs.now m.u.now m.store.now c.args.id c.requires.printable
    c.requires.known).operands

pub back-requires-clause-results : goal.back-requires-clause-results
back-requires-clause-results g c =
    let m = c.args.m.now in
    let x = op_here m.store.now c.args.id in
    let is = op-is m.store.now c.args.id c.requires.known in
    let same = c.as_slice-2.ensures ∙ sym (ap (λ h. h.results) (c.op-row.ensures.head x is)) in
    subst (CanPrint m.u.now) (sym same)
    (results-printable m.defs.now m.u.now m.store.now c.args.id c.requires.printable
    c.requires.known)

pub returns : goal.returns
returns g c =
    let m = c.args.m.now in
    let x = op_here m.store.now c.args.id in
    let is = op-is m.store.now c.args.id c.requires.known in
    named
    (back-same _ m.u.now x.head _ _ _ _ _ (c.op-row.ensures.head x is) c.as_slice-keys.ensures
    c.as_slice-values.ensures c.as_slice.ensures c.as_slice-2.ensures)
    c.back.ensures
