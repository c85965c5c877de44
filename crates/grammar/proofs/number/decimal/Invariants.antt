use Rattle.std.proofs.Common.{◌≡◌, ◌<◌, ◌^◌, drop}
use Rattle.grammar.specs.Looks.{decimal}
use Rattle.grammar.proofs.number.decimal.Given as goal

-- what is left decides the number
abbrev pub invariant-loop-digit : goal.invariant-loop-digit
invariant-loop-digit l = record {
  rest : decimal l.n (drop l.digit-index l.digits) ≡ decimal 0 l.digits;
  within : l.n < 2 ^ 32;
}
