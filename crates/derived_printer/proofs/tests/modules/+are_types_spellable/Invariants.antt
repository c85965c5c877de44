use Rattle.std.proofs.Common.{◌-◌, length}
use Rattle.ir_store.specs.Modules.{types_in}
use Rattle.derived_printer.proofs.tests.modules.+are_types_spellable.Given as goal

abbrev pub decreases-are_types_spellable : goal.decreases-are_types_spellable
decreases-are_types_spellable l = length (types_in l.store.now) - l.from
