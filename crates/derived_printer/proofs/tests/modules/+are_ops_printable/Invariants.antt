use Rattle.std.proofs.Common.{◌-◌, length}
use Rattle.ir_store.specs.Numbering.{ops_in}
use Rattle.derived_printer.proofs.tests.modules.+are_ops_printable.Given as goal

abbrev pub decreases-are_ops_printable : goal.decreases-are_ops_printable
decreases-are_ops_printable l = length (ops_in l.store.now) - l.from
