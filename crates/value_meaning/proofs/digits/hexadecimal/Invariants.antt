use Rattle.std.proofs.Common.{◌≡◌, ◌≤◌, min, drop}
use Rattle.grammar.specs.Looks.{hexadecimal}
use Rattle.value_meaning.specs.declared.digits.TheConstants.{TOO_GREAT}
use Rattle.value_meaning.proofs.digits.hexadecimal.Given as goal

-- what is left decides the number
abbrev pub invariant-loop-digit : goal.invariant-loop-digit
invariant-loop-digit l = record {
  rest : min (hexadecimal l.n (drop l.digit-index l.digits)) TOO_GREAT
      ≡ min (hexadecimal 0 l.digits) TOO_GREAT;
  within : l.n ≤ TOO_GREAT;
}
