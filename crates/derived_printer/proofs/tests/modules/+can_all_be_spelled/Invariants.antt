use Rattle.std.proofs.Common.{length}
use Rattle.derived_printer.proofs.tests.modules.+can_all_be_spelled.Given as goal

abbrev pub decreases-can_all_be_spelled : goal.decreases-can_all_be_spelled
decreases-can_all_be_spelled l = length l.ids.now
