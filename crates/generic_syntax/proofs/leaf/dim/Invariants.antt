use Rattle.std.proofs.Common.{◌≡◌, ◌++◌, drop}
use Rattle.generic_syntax.specs.Dims.{known}
use Rattle.generic_syntax.proofs.leaf.dim.Given as goal

abbrev pub invariant-each : goal.invariant-each
invariant-each l = l.digits.items ++ known (drop l.byte-index l.spelling) ≡ known l.spelling
