use Rattle.std.proofs.Common.{◌≡◌, drop}
use Rattle.grammar.specs.Looks as look
use Rattle.derived_printer.proofs.names.has_dot.Given as goal

abbrev pub invariant-loop-byte : goal.invariant-loop-byte
invariant-loop-byte l = look.has_dot (drop l.byte-index l.text) ≡ look.has_dot l.text
