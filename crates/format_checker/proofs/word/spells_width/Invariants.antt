use Rattle.attr_value.specs.declared.kind.TheConstants.{WIDTH_LIMIT}
use Rattle.std.proofs.Common.{◌≡◌, ◌≤◌, drop}
use Rattle.grammar.specs.Looks.{spells_width}
use Rattle.format_checker.proofs.word.spells_width.Given as goal

abbrev pub invariant-loop-digit : goal.invariant-loop-digit
invariant-loop-digit l = record {
  rest : spells_width l.width (drop l.digit-index l.digits) ≡ spells_width 0 l.digits;
  within : l.width ≤ WIDTH_LIMIT;
}
