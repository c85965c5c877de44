use Rattle.std.proofs.Common.{◌≡◌, drop}
use Rattle.grammar.specs.Looks.{all_digits}
use Rattle.module_names.proofs.number.are_decimal.Given as goal

abbrev pub invariant-loop-digit : goal.invariant-loop-digit
invariant-loop-digit l = record {
  rest : all_digits (drop l.digit-index l.digits) ≡ all_digits l.digits;
}
