use Rattle.std.proofs.Common.{arith}
use Rattle.segment_match.proofs.Unique.{flexible-le-length}
use Rattle.segment_match.proofs.rest_of.Goals as goal

pub overflow_sub-singles : goal.overflow_sub-singles
overflow_sub-singles c = omega (arith, flexible-le-length c.args.entries.now)
