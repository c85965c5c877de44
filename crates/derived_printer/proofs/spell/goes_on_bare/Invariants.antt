use Rattle.std.proofs.Common.{◌≡◌, drop}
use Rattle.derived_printer.specs.Spelling as spec
use Rattle.derived_printer.proofs.spell.goes_on_bare.Given as goal

abbrev pub invariant-loop-byte : goal.invariant-loop-byte
invariant-loop-byte l = spec.goes_on_bare (drop l.byte-index l.bytes) ≡ spec.goes_on_bare l.bytes
