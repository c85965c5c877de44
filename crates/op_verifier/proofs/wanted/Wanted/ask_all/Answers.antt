use Rattle.std.proofs.Common.{◌∙◌, drop, sym, subst, refl}
use Rattle.std.specs.List.{AllByRecursion}
use Rattle.dialect_defs.specs.Assignments.{Has}
use Rattle.op_verifier.specs.Seen.{values_at}
use Rattle.op_verifier.specs.Types.{ids_of}
use Rattle.op_verifier.proofs.Asking.{rest-step, rest-refused, rest-end, Decides-true}
use Rattle.op_verifier.proofs.Asking.{Decides-false}
use Rattle.op_verifier.proofs.Walks.{take-next, take-none, value-at, known-at}
use Rattle.op_verifier.proofs.wanted.Wanted.ask_all.Goals as goal

pub ask-requires-clause-id : goal.ask-requires-clause-id
ask-requires-clause-id c =
    rw c.loop-i.invariant.same (known-at _ _ c.loop-i.i _ c.requires.known c.get.ensures)

pub returns-then-not-ask : goal.returns-then-not-ask
returns-then-not-ask c =
    let values = c.args.self.now.u.now in
    let next = take-next (values_at values (ids_of c.args.types.now)) c.loop-i.i c.args.end _
    (value-at values _ c.loop-i.i _ c.get.ensures) c.loop-i-test.true in
    record {
      same = c.if-not-ask.ensures.same ∙ c.loop-i.invariant.same;
      decides = Decides-false (rest-refused c.loop-i.invariant.rest
          (λ a all. (subst (AllByRecursion (Has a c.args.var)) next all).0)
          (rw c.loop-i.invariant.same at (c.if-not-ask.ensures.decides.refuses refl)));
    }

pub loop-i-preserved : goal.loop-i-preserved
loop-i-preserved c =
    let values = c.args.self.now.u.now in
    let next = take-next (values_at values (ids_of c.args.types.now)) c.loop-i.i c.args.end _
    (value-at values _ c.loop-i.i _ c.get.ensures) c.loop-i-test.true in
    record {
      same = c.if-not-ask.ensures.same ∙ c.loop-i.invariant.same;
      rest = rest-step c.loop-i.invariant.rest
          (λ a all. subst (AllByRecursion (Has a c.args.var)) next all)
          (λ a here later. subst (AllByRecursion (Has a c.args.var)) (sym next) (here, later))
          (rw c.loop-i.invariant.same at (c.if-not-ask.ensures.decides.asks refl));
    }

pub returns : goal.returns
returns c =
    let values = c.args.self.now.u.now in
    let none = take-none (drop c.loop-i.i (values_at values (ids_of c.args.types.now)))
    c.loop-i.i c.args.end c.loop-i-test.false in
    record {
      same = c.loop-i.invariant.same;
      decides = Decides-true (rest-end c.loop-i.invariant.rest
          (λ a. subst (AllByRecursion (Has a c.args.var)) (sym none) tt));
    }
