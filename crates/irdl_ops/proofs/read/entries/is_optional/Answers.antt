use Rattle.std.proofs.Common.{refl, sym, ◌∙◌}
use Rattle.grammar.proofs.Runs.{at-tok, at-ret, left, right, made-ok}
use Rattle.irdl_ops.proofs.read.entries.is_optional.Goals as goal

pub returns-then-not-is_word : goal.returns-then-not-is_word
returns-then-not-is_word g c = right
    (rw (sym c.is_word.ensures.passes ∙ c.if-not-is_word.true) refl) at-ret

pub returns : goal.returns
returns g c = left (rw (sym c.is_word.ensures.passes ∙ c.if-not-is_word.false) refl)
    (made-ok (at-tok c.in_ok-expect_word.ensures.took))
