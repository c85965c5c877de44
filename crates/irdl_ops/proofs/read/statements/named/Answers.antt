use Rattle.std.proofs.Common.{refl, sym, ◌∙◌}
use Rattle.grammar.proofs.Runs.{exit, at-tok, both-ok, both-first, both-second, left, right, made-ok, made-err}
use Rattle.irdl_ops.proofs.read.statements.named.Goals as goal

pub returns-in_err-name : goal.returns-in_err-name
returns-in_err-name g c = exit c.from_residual.ensures (both-first (at-tok c.in_err-name.ensures))

pub returns-in_err-expect : goal.returns-in_err-expect
returns-in_err-expect g c = exit c.from_residual-in_err-expect.ensures
    (both-second (at-tok c.in_ok-name.ensures) (both-first (at-tok c.in_err-expect.ensures.took)))

pub returns-in_err-args : goal.returns-in_err-args
returns-in_err-args g c = exit c.from_residual-in_err-args.ensures
    (both-second (at-tok c.in_ok-name.ensures)
    (both-second (at-tok c.in_ok-expect.ensures.took)
    (left (rw (sym c.is_word.ensures.passes ∙ c.if-is_word.true) refl)
    (made-err c.in_err-args.ensures))))

pub returns-then-is_word : goal.returns-then-is_word
returns-then-is_word g c = both-ok (at-tok c.in_ok-name.ensures)
    (both-ok (at-tok c.in_ok-expect.ensures.took)
    (left (rw (sym c.is_word.ensures.passes ∙ c.if-is_word.true) refl)
    (made-ok c.in_ok-args.ensures)))

pub returns-in_err-expr : goal.returns-in_err-expr
returns-in_err-expr g c = exit c.from_residual-in_err-expr.ensures
    (both-second (at-tok c.in_ok-name.ensures)
    (both-second (at-tok c.in_ok-expect.ensures.took)
    (right (rw (sym c.is_word.ensures.passes ∙ c.if-is_word.false) refl)
    (made-err c.in_err-expr.ensures))))

pub returns : goal.returns
returns g c = both-ok (at-tok c.in_ok-name.ensures)
    (both-ok (at-tok c.in_ok-expect.ensures.took)
    (right (rw (sym c.is_word.ensures.passes ∙ c.if-is_word.false) refl)
    (made-ok c.in_ok-expr.ensures)))
