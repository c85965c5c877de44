use Rattle.std.proofs.Common.{refl, ap, ◌∙◌, ◌||◌, ◌++◌, ◌∷◌, []}
use Rattle.symbol_scopes.proofs.Noting.{on-err}
use Rattle.symbol_scopes.proofs.Steps.{same-calls, same-steps, more-calls, more-steps}
use Rattle.symbol_scopes.proofs.calls.Calls.push.Goals as goal

pub invariant_of-self : goal.invariant_of-self
invariant_of-self c =
    same-steps c.self.inside.large.items c.kept_step.new.large.items c.args.call
    c.self.inside.steps.items c.self.inside.of_blocks c.kept_step.ensures.kept c.self.invariant
    c.self.inside.steps.items refl

pub returns-in_err-step-clause-err : goal.returns-in_err-step-clause-err
returns-in_err-step-clause-err c = on-err _ _
    (same-calls c.self.inside.large.items c.kept_step.new.large.items c.args.call
    c.self.inside.steps.items c.self.inside.of_blocks c.kept_step.ensures.kept c.self.invariant
    c.self.inside.steps.items refl ∙ c.self.view_is)

pub invariant_of-self-in_err-push : goal.invariant_of-self-in_err-push
invariant_of-self-in_err-push c =
    same-steps c.self.inside.large.items c.kept_step.new.large.items c.args.call
    c.self.inside.steps.items c.self.inside.of_blocks c.kept_step.ensures.kept c.self.invariant
    c.push.new.self.items c.in_err-push.ensures.items

pub returns-in_err-push-clause-err : goal.returns-in_err-push-clause-err
returns-in_err-push-clause-err c = on-err _ _
    (same-calls c.self.inside.large.items c.kept_step.new.large.items c.args.call
    c.self.inside.steps.items c.self.inside.of_blocks c.kept_step.ensures.kept c.self.invariant
    c.push.new.self.items c.in_err-push.ensures.items ∙ c.self.view_is)

pub invariant_of-self-2 : goal.invariant_of-self-2
invariant_of-self-2 c =
    more-steps c.self.inside.large.items c.kept_step.new.large.items c.args.call
    c.self.inside.steps.items c.self.inside.of_blocks c.kept_step.ensures.kept c.self.invariant
    c.push.new.self.items c.in_ok-step.step c.in_ok-push.ensures.items c.in_ok-step.ensures.is _
    c.in_ok-step.ensures.fits (ap (λ b. c.self.inside.of_blocks || b) c.is_of_blocks.ensures)

pub returns-clause-ok : goal.returns-clause-ok
returns-clause-ok c =
    more-calls c.self.inside.large.items c.kept_step.new.large.items c.args.call
    c.self.inside.steps.items c.self.inside.of_blocks c.kept_step.ensures.kept c.self.invariant
    c.push.new.self.items c.in_ok-step.step c.in_ok-push.ensures.items c.in_ok-step.ensures.is
    ∙ ap (λ l. l ++ c.args.call ∷ []) c.self.view_is
