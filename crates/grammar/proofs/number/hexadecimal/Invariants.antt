use Rattle.std.proofs.Common.{◌≡◌, ◌<◌, ◌^◌, drop}
use Rattle.grammar.specs.Looks.{hexadecimal}
use Rattle.grammar.proofs.number.hexadecimal.Given as goal

-- what is left decides the number
abbrev pub invariant-loop-digit : goal.invariant-loop-digit
invariant-loop-digit l = record {
  rest : hexadecimal l.n (drop l.digit-index l.digits) ≡ hexadecimal 0 l.digits;
  within : l.n < 2 ^ 32;
}
