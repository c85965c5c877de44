use Rattle.std.proofs.Common.{refl, sym, ◌∙◌}
use Rattle.grammar.proofs.Runs.{exit, at-tok, both-ok, both-first, both-second, left, right}
use Rattle.irdl_ops.proofs.read.all_dialects.Goals as goal

pub returns-then-not-is_word : goal.returns-then-not-is_word
returns-then-not-is_word g c = right
    (rw (sym c.is_word.ensures.passes ∙ c.if-not-is_word.true) refl) c.dialects.ensures

pub returns-in_err-expect_word : goal.returns-in_err-expect_word
returns-in_err-expect_word g c = exit c.from_residual.ensures
    (left (rw (sym c.is_word.ensures.passes ∙ c.if-not-is_word.false) refl)
    (both-first (at-tok c.in_err-expect_word.ensures.took)))

pub returns-in_err-expect : goal.returns-in_err-expect
returns-in_err-expect g c = exit c.from_residual-in_err-expect.ensures
    (left (rw (sym c.is_word.ensures.passes ∙ c.if-not-is_word.false) refl)
    (both-second (at-tok c.in_ok-expect_word.ensures.took)
    (both-first (at-tok c.in_err-expect.ensures.took))))

pub returns-in_err-found : goal.returns-in_err-found
returns-in_err-found g c = exit c.from_residual-in_err-found.ensures
    (left (rw (sym c.is_word.ensures.passes ∙ c.if-not-is_word.false) refl)
    (both-second (at-tok c.in_ok-expect_word.ensures.took)
    (both-second (at-tok c.in_ok-expect.ensures.took) (both-first c.in_err-found.ensures))))

pub returns-in_err-expect-2 : goal.returns-in_err-expect-2
returns-in_err-expect-2 g c = exit c.from_residual-in_err-expect-2.ensures
    (left (rw (sym c.is_word.ensures.passes ∙ c.if-not-is_word.false) refl)
    (both-second (at-tok c.in_ok-expect_word.ensures.took)
    (both-second (at-tok c.in_ok-expect.ensures.took)
    (both-second c.in_ok-found.ensures (at-tok c.in_err-expect-2.ensures.took)))))

pub returns : goal.returns
returns g c = left (rw (sym c.is_word.ensures.passes ∙ c.if-not-is_word.false) refl)
    (both-ok (at-tok c.in_ok-expect_word.ensures.took)
    (both-ok (at-tok c.in_ok-expect.ensures.took)
    (both-ok c.in_ok-found.ensures (at-tok c.in_ok-expect-2.ensures.took))))
