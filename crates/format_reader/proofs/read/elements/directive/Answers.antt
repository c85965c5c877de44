use Rattle.std.proofs.Common.{sym, ◌∙◌}
use Rattle.format_reader.proofs.Runs.{left, right}
use Rattle.format_reader.proofs.read.elements.directive.Goals as goal

pub returns-then-begins_dictionary : goal.returns-then-begins_dictionary
returns-then-begins_dictionary c = left c.begins_dictionary.ensures.some (sym c.begins_dictionary.ensures.test ∙ c.if-begins_dictionary.true) c.dictionary.ensures

pub returns-then-begins_types : goal.returns-then-begins_types
returns-then-begins_types c = right c.begins_dictionary.ensures.some (sym c.begins_dictionary.ensures.test ∙ c.if-begins_dictionary.false)
    (left c.begins_types.ensures.some (sym c.begins_types.ensures.test ∙ c.if-begins_types.true) c.of_types.ensures)

pub returns : goal.returns
returns c = right c.begins_dictionary.ensures.some (sym c.begins_dictionary.ensures.test ∙ c.if-begins_dictionary.false)
    (right c.begins_types.ensures.some (sym c.begins_types.ensures.test ∙ c.if-begins_types.false) c.of_attribute.ensures)
