use Rattle.std.proofs.Common.{ℕ, ◌<◌}
use Rattle.attr_value.specs.Ids.{at}
use Rattle.derived_printer.specs.Spellable.{NodeIsSpellable, AreSpellable}
use Rattle.derived_printer.proofs.tests.are_spellable.Given as goal

abbrev pub invariant-loop-i : goal.invariant-loop-i
invariant-loop-i l = (j : ℕ) → j < l.i
    → NodeIsSpellable (at l.u j).head (at l.u j).kids × AreSpellable (at l.u j).kids
