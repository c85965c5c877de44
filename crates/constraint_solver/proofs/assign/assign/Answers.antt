use Rattle.std.proofs.Common.{◌∙◌, ◌<◌, sym, length, true≢false, rules}
use Rattle.constraint_solver.proofs.Given.{forced-set, forced-same, refuted}
use Rattle.constraint_solver.proofs.Given.{AreKnownIds-set, Forces-true}
use Rattle.constraint_solver.proofs.assign.assign.Goals as goal

pub returns-in-None : goal.returns-in-None
returns-in-None c =
    let within : c.args.var.0 < length c.args.slots.now.ids = search rules in
    Forces-true (forced-set c.args.u.now c.args.slots.now.ids c.args.var c.args.id c.in-None.is
    within c.args.n c.requires.below)
    (AreKnownIds-set _ c.args.slots.now.ids c.args.var.0 c.args.id within c.requires.slots
    c.requires.id)

pub returns-in-Some : goal.returns-in-Some
returns-in-Some c = record {
  forced = λ yes. forced-same c.args.u.now c.args.n c.args.slots.now.ids c.args.var
      c.in-Some.other c.args.id c.in-Some.is (c.same.ensures.same.0 yes);
  known = λ yes. c.requires.slots;
  refuted = λ no. refuted c.args.u.now c.args.slots.now.ids c.args.var c.in-Some.other c.args.id
      c.in-Some.is (λ same. true≢false (sym (c.same.ensures.same.1 same) ∙ no));
}
