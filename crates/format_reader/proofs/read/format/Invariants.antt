use Rattle.std.proofs.Common.{length}
use Rattle.format_reader.specs.Formats.{element}
use Rattle.format_reader.proofs.Loops.{Goes}
use Rattle.format_reader.proofs.read.format.Given as goal

abbrev pub invariant-each : goal.invariant-each
invariant-each l = Goes element l.found l.fn.t l.t

abbrev pub decreases-each : goal.decreases-each
decreases-each l = length l.t
