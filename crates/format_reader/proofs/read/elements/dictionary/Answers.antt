use Rattle.std.proofs.Common.{sym, ◌∙◌}
use Rattle.format_reader.proofs.Runs.{exit, left, right, made-ok, made-err}
use Rattle.format_reader.proofs.read.elements.dictionary.Goals as goal

pub returns-in_err-expect_word : goal.returns-in_err-expect_word
returns-in_err-expect_word c = exit c.from_residual.ensures
    (left c.is_word.ensures.some (sym c.is_word.ensures.passes ∙ c.if-is_word.true) (made-err c.in_err-expect_word.ensures))

pub returns-then-is_word : goal.returns-then-is_word
returns-then-is_word c = left c.is_word.ensures.some (sym c.is_word.ensures.passes ∙ c.if-is_word.true) (made-ok c.in_ok-expect_word.ensures)

pub returns-in_err-expect_word-2 : goal.returns-in_err-expect_word-2
returns-in_err-expect_word-2 c = exit c.from_residual-in_err-expect_word-2.ensures
    (right c.is_word.ensures.some (sym c.is_word.ensures.passes ∙ c.if-is_word.false) (made-err c.in_err-expect_word-2.ensures))

pub returns : goal.returns
returns c = right c.is_word.ensures.some (sym c.is_word.ensures.passes ∙ c.if-is_word.false) (made-ok c.in_ok-expect_word-2.ensures)
