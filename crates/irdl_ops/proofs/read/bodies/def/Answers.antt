use Rattle.std.proofs.Common.{refl, sym, ◌∙◌}
use Rattle.grammar.proofs.Runs.{left, right}
use Rattle.irdl_ops.proofs.read.bodies.def.Goals as goal

pub returns-then-is_word : goal.returns-then-is_word
returns-then-is_word g c = left (rw (sym c.is_word.ensures.passes ∙ c.if-is_word.true) refl)
    c.type_def.ensures

pub returns-then-is_word-2 : goal.returns-then-is_word-2
returns-then-is_word-2 g c = right (rw (sym c.is_word.ensures.passes ∙ c.if-is_word.false) refl)
    (left (rw (sym c.is_word-2.ensures.passes ∙ c.if-is_word-2.true) refl)
    c.type_def-then-is_word-2.ensures)

pub returns : goal.returns
returns g c = right (rw (sym c.is_word.ensures.passes ∙ c.if-is_word.false) refl)
    (right (rw (sym c.is_word-2.ensures.passes ∙ c.if-is_word-2.false) refl) c.operation.ensures)
