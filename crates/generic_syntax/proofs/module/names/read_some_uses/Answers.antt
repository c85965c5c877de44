use Rattle.std.proofs.Common.{arith, refl, sym, ◌∙◌}
use Rattle.grammar.proofs.Runs.{exit, at-tok, both-ok, both-first, both-second}
use Rattle.generic_syntax.proofs.Regions.{modules-fit}
use Rattle.generic_syntax.proofs.ModuleSteps.{never}
use Rattle.generic_syntax.proofs.Rows.{builds-on, builds-end, builds-err, builds-memory, builds-first}
use Rattle.generic_syntax.proofs.Steps.{memory-after}
use Rattle.generic_syntax.proofs.module.names.read_some_uses.Goals as goal

pub returns-in_err-read_operand : goal.returns-in_err-read_operand
returns-in_err-read_operand g c = λ regions. exit c.from_residual.ensures
    (both-first (c.in_err-read_operand.ensures regions))

pub returns-in_err-push : goal.returns-in_err-push
returns-in_err-push g c = λ regions. exit c.from_residual-in_err-push.ensures
    (both-first (memory-after (c.in_ok-read_operand.ensures regions)))

pub each-init : goal.each-init
each-init g c = λ regions. rw (c.in_ok-push.ensures.ok, c.new-found.ensures)
    (builds-first (c.in_ok-read_operand.ensures regions))

pub returns-in_err-expect : goal.returns-in_err-expect
returns-in_err-expect g c = λ regions. exit c.from_residual-in_err-expect.ensures
    (builds-err (rw (sym c.is_class.ensures.passes ∙ c.each-test.true) refl)
    (c.each.invariant regions) (both-first (at-tok c.in_err-expect.ensures.took)))

pub returns-in_err-read_operand-2 : goal.returns-in_err-read_operand-2
returns-in_err-read_operand-2 g c = λ regions. exit c.from_residual-in_err-read_operand-2.ensures
    (builds-err (rw (sym c.is_class.ensures.passes ∙ c.each-test.true) refl)
    (c.each.invariant regions)
    (both-second (at-tok c.in_ok-expect.ensures.took) (c.in_err-read_operand-2.ensures regions)))

pub each-preserved : goal.each-preserved
each-preserved g c = λ regions. rw c.in_ok-push-2.ensures.ok
    (builds-on (modules-fit regions) refl
    (rw (sym c.is_class.ensures.passes ∙ c.each-test.true) refl) (c.each.invariant regions)
    (both-ok (at-tok c.in_ok-expect.ensures.took) (c.in_ok-read_operand-2.ensures regions)))

pub returns-in_err-push-2 : goal.returns-in_err-push-2
returns-in_err-push-2 g c = λ regions. exit c.from_residual-in_err-push-2.ensures
    (builds-memory (modules-fit regions) refl
    (rw (sym c.is_class.ensures.passes ∙ c.each-test.true) refl) (c.each.invariant regions)
    (both-ok (at-tok c.in_ok-expect.ensures.took) (c.in_ok-read_operand-2.ensures regions)))

pub each-smaller : goal.each-smaller
each-smaller g c = omega
    (arith, c.in_ok-expect.ensures.took.ran.less, (c.in_ok-read_operand-2.ensures never).ran.less)

pub returns : goal.returns
returns g c = λ regions. rw c.trim.ensures
    (builds-end (rw (sym c.is_class.ensures.passes ∙ c.each-test.false) refl)
    (c.each.invariant regions))
