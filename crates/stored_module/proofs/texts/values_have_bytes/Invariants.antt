use Rattle.std.proofs.Common.{ℕ, ◌<◌}
use Rattle.attr_value.specs.Ids.{at}
use Rattle.derived_printer.specs.Spellable.{HasBytes}
use Rattle.stored_module.proofs.texts.values_have_bytes.Given as goal

-- the values before this one have bytes
abbrev pub invariant-loop-i : goal.invariant-loop-i
invariant-loop-i l = (j : ℕ) → j < l.i → HasBytes (at l.u j)
