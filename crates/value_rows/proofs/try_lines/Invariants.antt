use Rattle.value_rows.specs.Desks.{IsSound}
use Rattle.value_rows.proofs.try_lines.Given as goal

abbrev pub invariant-loop-line : goal.invariant-loop-line
invariant-loop-line l = IsSound l.types l.desk
