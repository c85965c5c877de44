use Rattle.std.proofs.Common.{◌≡◌}
use Rattle.module_builder.proofs.Counting.{ArgsPassed}
use Rattle.module_builder.proofs.firsts.Numbering.pass_args.Given as goal

abbrev pub invariant-loop : goal.invariant-loop
invariant-loop l =
    ArgsPassed l.initial.self.firsts.items l.self.firsts.items l.initial.self.next l.self.next
    l.count l.counter × (l.self.ops ≡ l.initial.self.ops)
