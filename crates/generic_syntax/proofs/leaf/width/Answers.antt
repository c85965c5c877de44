use Rattle.std.proofs.Common.{rules, refl, sym, ◌∙◌, codes, ap}
use Rattle.grammar.proofs.Codes.{refuses-is}
use Rattle.grammar.proofs.Runs.{exit, made-ok, made-err, took-ok, took-err}
use Rattle.generic_syntax.specs.Values as spec
use Rattle.generic_syntax.proofs.Steps.{at-words, no-words, reads-as}
use Rattle.generic_syntax.proofs.leaf.width.Goals as goal

pub returns-then-not-is_dense_width : goal.returns-then-not-is_dense_width
returns-then-not-is_dense_width g c = λ n. made-err (no-words (codes "i1") spec.dense_widths (sym c.is_dense_width.ensures ∙ c.if-not-is_dense_width.true) (refuses-is (g.T.TokenSource.state c.args.t.now).now _ c.refused.ensures))

pub returns-in_err-expect : goal.returns-in_err-expect
returns-in_err-expect g c = λ n. exit c.from_residual.ensures (made-err (at-words (codes "i1") spec.dense_widths (sym c.is_dense_width.ensures ∙ c.if-not-is_dense_width.false) (took-err c.in_err-expect.ensures.took)))

pub returns : goal.returns
returns g c = λ n. reads-as (c.width_of-width.ensures (search rules) ∙ ap spec.width_in c.text.ensures) (made-ok (at-words (codes "i1") spec.dense_widths (sym c.is_dense_width.ensures ∙ c.if-not-is_dense_width.false) (took-ok (λ t. t.text) refl c.in_ok-expect.ensures.took)))
