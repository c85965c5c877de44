use Rattle.std.proofs.Common.{sym, ◌∙◌, [], ◌∷◌, codes}
use Rattle.grammar.proofs.Runs.{exit, at-tok, both-ok, both-first, both-second, left, right, made-ok, made-err, placed-ok, placed-err}
use Rattle.generic_syntax.proofs.Steps.{at-words}
use Rattle.generic_syntax.proofs.leaf.item.Goals as goal

pub returns-in_err-word : goal.returns-in_err-word
returns-in_err-word g c = λ n. exit c.from_residual.ensures (placed-err (left (sym c.is_truth.ensures ∙ c.if-is_truth.true) (made-err (at-words (codes "true") (codes "false" ∷ []) (sym c.is_truth.ensures ∙ c.if-is_truth.true) c.in_err-word.ensures))))

pub returns-then-is_truth : goal.returns-then-is_truth
returns-then-is_truth g c = λ n. rw c.place-place.ensures (placed-ok (left (sym c.is_truth.ensures ∙ c.if-is_truth.true) (made-ok (at-words (codes "true") (codes "false" ∷ []) (sym c.is_truth.ensures ∙ c.if-is_truth.true) c.in_ok-word.ensures))))

pub returns-in_err-negative : goal.returns-in_err-negative
returns-in_err-negative g c = λ n. exit c.from_residual-in_err-negative.ensures (placed-err (right (sym c.is_truth.ensures ∙ c.if-is_truth.false) (both-first (c.in_err-negative.ensures _))))

pub returns-in_err-spelling : goal.returns-in_err-spelling
returns-in_err-spelling g c = λ n. exit c.from_residual-in_err-spelling.ensures (placed-err (right (sym c.is_truth.ensures ∙ c.if-is_truth.false) (both-second (c.in_ok-negative.ensures _) (at-tok c.in_err-spelling.ensures))))

pub returns : goal.returns
returns g c = λ n. rw c.place-place.ensures (placed-ok (right (sym c.is_truth.ensures ∙ c.if-is_truth.false) (both-ok (c.in_ok-negative.ensures _) (at-tok c.in_ok-spelling.ensures))))
