use Rattle.std.proofs.Common.{◌≡◌, ◌≤◌, min, drop}
use Rattle.grammar.specs.Looks.{decimal}
use Rattle.module_names.specs.declared.number.TheConstants.{GREATEST}
use Rattle.module_names.proofs.number.number_in.Given as goal

-- what is left decides the number
abbrev pub invariant-loop-digit : goal.invariant-loop-digit
invariant-loop-digit l = record {
  rest : min (decimal l.n (drop l.digit-index l.digits)) GREATEST
      ≡ min (decimal 0 l.digits) GREATEST;
  within : l.n ≤ GREATEST;
}
