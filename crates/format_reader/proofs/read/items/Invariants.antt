use Rattle.std.proofs.Common.{length}
use Rattle.format_reader.specs.Elements.{item}
use Rattle.format_reader.proofs.Loops.{Goes}
use Rattle.format_reader.proofs.read.items.Given as goal

abbrev pub invariant-each : goal.invariant-each
invariant-each l = Goes item l.found l.fn.t l.t

abbrev pub decreases-each : goal.decreases-each
decreases-each l = length l.t
