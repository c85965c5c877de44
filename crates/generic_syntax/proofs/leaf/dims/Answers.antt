use Rattle.std.proofs.Common.{rules, refl, sym, ◌∙◌, []}
use Rattle.grammar.proofs.Runs.{exit, at-tok, at-ret, left, right, took-ok, took-err}
use Rattle.generic_syntax.specs.Values as spec
use Rattle.generic_syntax.proofs.leaf.dims.Goals as goal

pub returns-then-not-is_class : goal.returns-then-not-is_class
returns-then-not-is_class g c = λ n. rw c.new.ensures (right (rw (sym c.is_class.ensures.passes ∙ c.if-not-is_class.true) refl) at-ret)

pub returns-in_err-expect : goal.returns-in_err-expect
returns-in_err-expect g c = λ n. exit c.from_residual-in_err-expect.ensures (left (rw (sym c.is_class.ensures.passes ∙ c.if-not-is_class.false) refl) (at-tok (took-err c.in_err-expect.ensures.took)))

pub returns : goal.returns
returns g c = λ n. left (rw (sym c.is_class.ensures.passes ∙ c.if-not-is_class.false) refl) (at-tok (took-ok (λ t. spec.dims_from [] t.text) (search rules) c.in_ok-expect.ensures.took))
