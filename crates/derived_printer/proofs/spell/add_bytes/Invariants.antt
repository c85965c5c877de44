use Rattle.std.proofs.Common.{◌≡◌, ◌++◌, take}
use Rattle.derived_printer.specs.Spelling as spec
use Rattle.derived_printer.proofs.spell.add_bytes.Given as goal

abbrev pub invariant-loop-byte : goal.invariant-loop-byte
invariant-loop-byte l =
    l.text.items ≡ l.initial.text.items ++ spec.escaped (take l.byte-index l.bytes)
