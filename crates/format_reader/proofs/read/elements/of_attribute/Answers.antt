use Rattle.std.proofs.Common.{sym, ◌∙◌}
use Rattle.format_reader.proofs.Runs.{left, right, alone}
use Rattle.format_reader.proofs.read.elements.of_attribute.Goals as goal

pub returns-then-is_word : goal.returns-then-is_word
returns-then-is_word c = left c.is_word.ensures.some (alone (sym c.is_word.ensures.passes ∙ c.if-is_word.true)) c.symbol.ensures

pub returns-then-is_word-2 : goal.returns-then-is_word-2
returns-then-is_word-2 c = right c.is_word.ensures.some (alone (sym c.is_word.ensures.passes ∙ c.if-is_word.false))
    (left c.is_word-2.ensures.some (alone (sym c.is_word-2.ensures.passes ∙ c.if-is_word-2.true)) c.int_text.ensures)

pub returns : goal.returns
returns c = right c.is_word.ensures.some (alone (sym c.is_word.ensures.passes ∙ c.if-is_word.false))
    (right c.is_word-2.ensures.some (alone (sym c.is_word-2.ensures.passes ∙ c.if-is_word-2.false)) c.qualified.ensures)
