use Rattle.std.proofs.Common.{arith, refl, sym, ◌∙◌}
use Rattle.grammar.proofs.Repeats.{goes-none, goes_on, goes-end, goes-err, goes-memory}
use Rattle.grammar.proofs.Runs.{exit}
use Rattle.generic_syntax.proofs.Regions.{modules-fit}
use Rattle.generic_syntax.proofs.ModuleSteps.{never}
use Rattle.generic_syntax.proofs.module.parts.read_aliases.Goals as goal

pub each-init : goal.each-init
each-init g c = λ regions. rw c.new-found.ensures goes-none

pub returns-in_err-alias : goal.returns-in_err-alias
returns-in_err-alias g c = λ regions. exit c.from_residual.ensures
    (goes-err (sym c.begins_alias.ensures ∙ c.each-test.true) (c.each.invariant regions)
    (c.in_err-alias.ensures regions))

pub returns-in_err-push : goal.returns-in_err-push
returns-in_err-push g c = λ regions. exit c.from_residual-in_err-push.ensures
    (goes-memory (modules-fit regions) refl (sym c.begins_alias.ensures ∙ c.each-test.true)
    (c.each.invariant regions) (c.in_ok-alias.ensures regions))

pub each-preserved : goal.each-preserved
each-preserved g c = λ regions. rw c.in_ok-push.ensures.ok
    (goes_on (modules-fit regions) refl (sym c.begins_alias.ensures ∙ c.each-test.true)
    (c.each.invariant regions) (c.in_ok-alias.ensures regions))

pub each-smaller : goal.each-smaller
each-smaller g c = omega (arith, (c.in_ok-alias.ensures never).ran.less)

pub returns : goal.returns
returns g c = λ regions. rw c.trim.ensures
    (goes-end (sym c.begins_alias.ensures ∙ c.each-test.false) (c.each.invariant regions))
