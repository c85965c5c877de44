use Rattle.std.proofs.Common.{refl, sym, ◌∙◌}
use Rattle.grammar.proofs.Runs.{exit, at-tok, at-ret, both-ok, both-first, both-second, left, right}
use Rattle.generic_syntax.proofs.module.names.read_result_names.Goals as goal

pub returns-then-not-is_class : goal.returns-then-not-is_class
returns-then-not-is_class g c = λ regions. rw c.new.ensures
    (right (rw (sym c.is_class.ensures.passes ∙ c.if-not-is_class.true) refl) at-ret)

pub returns-in_err-found : goal.returns-in_err-found
returns-in_err-found g c = λ regions. exit c.from_residual.ensures
    (left (rw (sym c.is_class.ensures.passes ∙ c.if-not-is_class.false) refl)
    (both-first (c.in_err-found.ensures regions)))

pub returns-in_err-expect : goal.returns-in_err-expect
returns-in_err-expect g c = λ regions. exit c.from_residual-in_err-expect.ensures
    (left (rw (sym c.is_class.ensures.passes ∙ c.if-not-is_class.false) refl)
    (both-second (c.in_ok-found.ensures regions) (at-tok c.in_err-expect.ensures.took)))

pub returns : goal.returns
returns g c = λ regions. left (rw (sym c.is_class.ensures.passes ∙ c.if-not-is_class.false) refl)
    (both-ok (c.in_ok-found.ensures regions) (at-tok c.in_ok-expect.ensures.took))
