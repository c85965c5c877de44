use Rattle.std.proofs.Common.{◌≡◌}
use Rattle.module_builder.proofs.Counting.{ResultsPassed}
use Rattle.module_builder.proofs.firsts.Numbering.pass_results.Given as goal

abbrev pub invariant-loop-name : goal.invariant-loop-name
invariant-loop-name l =
    ResultsPassed l.initial.self.firsts.items l.self.firsts.items l.initial.self.next l.first
    l.names l.name-index
    × (l.self.next ≡ l.initial.self.next) × (l.self.ops ≡ l.initial.self.ops)
