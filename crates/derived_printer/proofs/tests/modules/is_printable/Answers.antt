use Rattle.std.proofs.Common.{◌≤◌, length, arith, rules}
use Rattle.derived_printer.proofs.FewOps.{nesting-few}
use Rattle.ir_store.specs.Numbering.{ops_in}
use Rattle.derived_printer.proofs.tests.modules.is_printable.Goals as goal

pub returns : goal.returns
returns c = λ few.
    let less : length (ops_in c.args.store.now) ≤ 64 = search rules in
    let deep = nesting-few c.args.store.now in
    record { types = search rules; ops = search rules; shallow = omega (arith, less, deep) }
