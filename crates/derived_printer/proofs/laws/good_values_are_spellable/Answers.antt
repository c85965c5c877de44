use Rattle.derived_printer.proofs.Good.{good-spellable}
use Rattle.derived_printer.proofs.laws.good_values_are_spellable.Goals as goal

pub returns : goal.returns
returns c = good-spellable
