use Rattle.std.proofs.Common.{sym, ◌∙◌}
use Rattle.format_reader.proofs.Runs.{exit, left, right, made-ok, made-err}
use Rattle.format_reader.proofs.read.elements.argument.Goals as goal

pub returns-in_err-variable : goal.returns-in_err-variable
returns-in_err-variable c = exit c.from_residual.ensures
    (left c.is_class.ensures.some (sym c.is_class.ensures.passes ∙ c.if-is_class.true) (made-err c.in_err-variable.ensures))

pub returns-then-is_class : goal.returns-then-is_class
returns-then-is_class c = left c.is_class.ensures.some (sym c.is_class.ensures.passes ∙ c.if-is_class.true) (made-ok c.in_ok-variable.ensures)

pub returns-then-is_word : goal.returns-then-is_word
returns-then-is_word c = right c.is_class.ensures.some (sym c.is_class.ensures.passes ∙ c.if-is_class.false)
    (left c.is_word.ensures.some (sym c.is_word.ensures.passes ∙ c.if-is_word.true) c.all_operands.ensures)

pub returns : goal.returns
returns c = right c.is_class.ensures.some (sym c.is_class.ensures.passes ∙ c.if-is_class.false)
    (right c.is_word.ensures.some (sym c.is_word.ensures.passes ∙ c.if-is_word.false) c.all_results.ensures)
