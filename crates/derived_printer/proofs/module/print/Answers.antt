use Rattle.std.proofs.Common.{refl, sym, arith}
use Rattle.ir_store.specs.Numbering.{first_numbers}
use Rattle.derived_printer.proofs.ModuleWalk.{ops-marked, ops-there}
use Rattle.derived_printer.proofs.Printing.{named}
use Rattle.derived_printer.proofs.module.print.Goals as goal

pub operations-requires-clause-there : goal.operations-requires-clause-there
operations-requires-clause-there g c =
    ops-there c.args.store.now _ c.args.store.now first_numbers 0 c.top.ensures
    (omega (arith, c.requires.shallow))

pub returns : goal.returns
returns g c =
    named
    (sym (ops-marked c.args.form c.args.defs.now c.args.u.now c.args.store.now _ c.args.store.now
    first_numbers 0 0 refl c.top.ensures))
    c.operations.ensures
