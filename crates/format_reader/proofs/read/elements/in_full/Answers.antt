use Rattle.std.proofs.Common.{sym, ◌∙◌}
use Rattle.format_reader.proofs.Runs.{exit, left, right, made-ok, made-err}
use Rattle.format_reader.proofs.read.elements.in_full.Goals as goal

pub returns-then-not-is_class : goal.returns-then-not-is_class
returns-then-not-is_class c = right c.is_class.ensures.some (sym c.is_class.ensures.passes ∙ c.if-not-is_class.true) c.types.ensures

pub returns-in_err-variable : goal.returns-in_err-variable
returns-in_err-variable c = exit c.from_residual.ensures
    (left c.is_class.ensures.some (sym c.is_class.ensures.passes ∙ c.if-not-is_class.false) (made-err c.in_err-variable.ensures))

pub returns : goal.returns
returns c = left c.is_class.ensures.some (sym c.is_class.ensures.passes ∙ c.if-not-is_class.false) (made-ok c.in_ok-variable.ensures)
