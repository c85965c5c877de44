use Rattle.std.proofs.Common.{refl, sym, ◌∙◌}
use Rattle.grammar.proofs.Runs.{at-tok, at-ret, left, right, made-ok}
use Rattle.irdl_ops.proofs.read.entries.arity.Goals as goal

pub returns-then-is_word : goal.returns-then-is_word
returns-then-is_word g c = left (rw (sym c.is_word.ensures.passes ∙ c.if-is_word.true) refl)
    (made-ok (at-tok c.in_ok-expect_word.ensures.took))

pub returns-then-is_word-2 : goal.returns-then-is_word-2
returns-then-is_word-2 g c = right (rw (sym c.is_word.ensures.passes ∙ c.if-is_word.false) refl)
    (left (rw (sym c.is_word-2.ensures.passes ∙ c.if-is_word-2.true) refl)
    (made-ok (at-tok c.in_ok-expect_word-2.ensures.took)))

pub returns-then-is_word-3 : goal.returns-then-is_word-3
returns-then-is_word-3 g c = right (rw (sym c.is_word.ensures.passes ∙ c.if-is_word.false) refl)
    (right (rw (sym c.is_word-2.ensures.passes ∙ c.if-is_word-2.false) refl)
    (left (rw (sym c.is_word-3.ensures.passes ∙ c.if-is_word-3.true) refl)
    (made-ok (at-tok c.in_ok-expect_word-3.ensures.took))))

pub returns : goal.returns
returns g c = right (rw (sym c.is_word.ensures.passes ∙ c.if-is_word.false) refl)
    (right (rw (sym c.is_word-2.ensures.passes ∙ c.if-is_word-2.false) refl)
    (right (rw (sym c.is_word-3.ensures.passes ∙ c.if-is_word-3.false) refl) at-ret))
