use Rattle.std.proofs.Common.{◌+◌, ◌*◌}
use Rattle.ir_store.proofs.tests.+grow.Given as goal

abbrev pub decreases-grow : goal.decreases-grow
decreases-grow l = 3 * l.depth + 2

abbrev pub decreases-grow_regions : goal.decreases-grow_regions
decreases-grow_regions l = 3 * l.depth + 1

abbrev pub decreases-grow_block : goal.decreases-grow_block
decreases-grow_block l = 3 * l.depth
