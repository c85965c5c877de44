use Rattle.std.proofs.Common.{◌<◌, length, subst}
use Rattle.ir_store.specs.Store.{StoredHead}
use Rattle.derived_printer.specs.ModuleParts.{op_here}
use Rattle.derived_printer.proofs.ModuleForms.{front-same}
use Rattle.derived_printer.proofs.ModuleStored.{op-printable}
use Rattle.derived_printer.proofs.ModuleWalk.{op-is}
use Rattle.derived_printer.proofs.Printing.{named}
use Rattle.derived_printer.proofs.stored.generic_front.Goals as goal

pub definition_at-def-requires : goal.definition_at-def-requires
definition_at-def-requires g c =
    let m = c.args.m.now in
    let x = op_here m.store.now c.args.id in
    let is = op-is m.store.now c.args.id c.requires.known in
    let fits = op-printable m.defs.now m.u.now m.store.now c.args.id c.requires.printable
    c.requires.known in
    subst (λ (h : StoredHead). h.name.def < length m.defs.now) (c.op-row.ensures.head x is)
    fits.definition

pub returns : goal.returns
returns g c =
    let m = c.args.m.now in
    let x = op_here m.store.now c.args.id in
    let is = op-is m.store.now c.args.id c.requires.known in
    named
    (front-same m.defs.now x.head _ _ _ _ _ (c.op-row.ensures.head x is) c.definition_at-def.ensures
    c.bytes-name.ensures c.as_slice.ensures c.as_slice-2.ensures)
    c.front.ensures
