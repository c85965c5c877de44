use Rattle.std.proofs.Common.{◌≡◌, ◌≤◌, drop}
use Rattle.attr_value.specs.declared.kind.TheConstants.{WIDTH_LIMIT}
use Rattle.grammar.specs.Looks.{decimal, spells_width}
use Rattle.value_meaning.proofs.word.short_decimal.Given as goal

-- what is left decides the width
abbrev pub invariant-loop-digit : goal.invariant-loop-digit
invariant-loop-digit l = record {
  rest : spells_width l.width (drop l.digit-index l.digits) ≡ spells_width 0 l.digits;
  number : decimal l.width (drop l.digit-index l.digits) ≡ decimal 0 l.digits;
  within : l.width ≤ WIDTH_LIMIT;
}
