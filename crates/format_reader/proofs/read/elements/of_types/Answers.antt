use Rattle.std.proofs.Common.{sym, ◌∙◌}
use Rattle.format_reader.proofs.Runs.{left, right, alone}
use Rattle.format_reader.proofs.read.elements.of_types.Goals as goal

pub returns-then-is_word : goal.returns-then-is_word
returns-then-is_word c = left c.is_word.ensures.some (alone (sym c.is_word.ensures.passes ∙ c.if-is_word.true)) c.types.ensures

pub returns : goal.returns
returns c = right c.is_word.ensures.some (alone (sym c.is_word.ensures.passes ∙ c.if-is_word.false)) c.functional.ensures
