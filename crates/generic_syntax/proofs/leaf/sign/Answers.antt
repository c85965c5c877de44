use Rattle.std.proofs.Common.{refl, sym, ◌∙◌}
use Rattle.grammar.proofs.Runs.{exit, at-tok, at-ret, left, right, made-ok, made-err}
use Rattle.generic_syntax.proofs.leaf.sign.Goals as goal

pub returns-then-not-is_class : goal.returns-then-not-is_class
returns-then-not-is_class g c = λ n. right (rw (sym c.is_class.ensures.passes ∙ c.if-not-is_class.true) refl) at-ret

pub returns-in_err-expect : goal.returns-in_err-expect
returns-in_err-expect g c = λ n. exit c.from_residual.ensures (left (rw (sym c.is_class.ensures.passes ∙ c.if-not-is_class.false) refl) (made-err (at-tok c.in_err-expect.ensures.took)))

pub returns : goal.returns
returns g c = λ n. (left (rw (sym c.is_class.ensures.passes ∙ c.if-not-is_class.false) refl) (made-ok (at-tok c.in_ok-expect.ensures.took)))
