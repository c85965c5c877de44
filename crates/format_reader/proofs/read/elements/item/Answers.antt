use Rattle.std.proofs.Common.{sym, ◌∙◌}
use Rattle.format_reader.proofs.Runs.{left, right}
use Rattle.format_reader.proofs.read.elements.item.Goals as goal

pub returns-then-is_class : goal.returns-then-is_class
returns-then-is_class c = left c.is_class.ensures.some (sym c.is_class.ensures.passes ∙ c.if-is_class.true) c.literal.ensures

pub returns : goal.returns
returns c = right c.is_class.ensures.some (sym c.is_class.ensures.passes ∙ c.if-is_class.false) c.marked.ensures
