use Rattle.std.proofs.Common.{refl, sym, ◌∙◌}
use Rattle.grammar.proofs.Repeats.{goes_on, goes-end, goes-err, goes-memory}
use Rattle.grammar.proofs.Runs.{exit}
use Rattle.irdl_ops.proofs.Fits.{defs-fit}
use Rattle.irdl_ops.proofs.read.dialects.Goals as goal

pub each-preserved : goal.each-preserved
each-preserved g c = rw c.in_ok-push.ensures.ok
    (goes_on defs-fit refl (rw (sym c.is_word.ensures.passes ∙ c.each-test.true) refl)
    c.each.invariant c.in_ok-dialect.ensures)

pub returns-in_err-dialect : goal.returns-in_err-dialect
returns-in_err-dialect g c = exit c.from_residual.ensures
    (goes-err (rw (sym c.is_word.ensures.passes ∙ c.each-test.true) refl) c.each.invariant
    c.in_err-dialect.ensures)

pub returns-in_err-push : goal.returns-in_err-push
returns-in_err-push g c = exit c.from_residual-in_err-push.ensures
    (goes-memory defs-fit refl (rw (sym c.is_word.ensures.passes ∙ c.each-test.true) refl)
    c.each.invariant c.in_ok-dialect.ensures)

pub returns : goal.returns
returns g c = rw c.trim.ensures
    (goes-end (rw (sym c.is_word.ensures.passes ∙ c.each-test.false) refl) c.each.invariant)
