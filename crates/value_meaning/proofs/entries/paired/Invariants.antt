use Rattle.std.proofs.Common.{◌≡◌}
use Rattle.value_meaning.proofs.Entering.{ArePaired}
use Rattle.value_meaning.proofs.entries.paired.Given as goal

abbrev pub invariant-loop-entry : goal.invariant-loop-entry
invariant-loop-entry l =
    (l.pairs.len ≡ l.entry-index) × ArePaired l.entries l.ids l.entry-index l.pairs.items
