use Rattle.std.proofs.Common.{refl, sym, ◌∙◌}
use Rattle.grammar.proofs.Runs.{left, right}
use Rattle.irdl_ops.proofs.read.statements.op_statement.Goals as goal

pub returns-then-is_class : goal.returns-then-is_class
returns-then-is_class g c = left (rw (sym c.is_class.ensures.passes ∙ c.if-is_class.true) refl)
    c.named.ensures

pub returns-then-is_word : goal.returns-then-is_word
returns-then-is_word g c = right (rw (sym c.is_class.ensures.passes ∙ c.if-is_class.false) refl)
    (left (rw (sym c.is_word.ensures.passes ∙ c.if-is_word.true) refl) c.operands.ensures)

pub returns-then-is_word-2 : goal.returns-then-is_word-2
returns-then-is_word-2 g c = right (rw (sym c.is_class.ensures.passes ∙ c.if-is_class.false) refl)
    (right (rw (sym c.is_word.ensures.passes ∙ c.if-is_word.false) refl)
    (left (rw (sym c.is_word-2.ensures.passes ∙ c.if-is_word-2.true) refl) c.results.ensures))

pub returns-then-is_word-3 : goal.returns-then-is_word-3
returns-then-is_word-3 g c = right (rw (sym c.is_class.ensures.passes ∙ c.if-is_class.false) refl)
    (right (rw (sym c.is_word.ensures.passes ∙ c.if-is_word.false) refl)
    (right (rw (sym c.is_word-2.ensures.passes ∙ c.if-is_word-2.false) refl)
    (left (rw (sym c.is_word-3.ensures.passes ∙ c.if-is_word-3.true) refl) c.attributes.ensures)))

pub returns-then-is_word-4 : goal.returns-then-is_word-4
returns-then-is_word-4 g c = right (rw (sym c.is_class.ensures.passes ∙ c.if-is_class.false) refl)
    (right (rw (sym c.is_word.ensures.passes ∙ c.if-is_word.false) refl)
    (right (rw (sym c.is_word-2.ensures.passes ∙ c.if-is_word-2.false) refl)
    (right (rw (sym c.is_word-3.ensures.passes ∙ c.if-is_word-3.false) refl)
    (left (rw (sym c.is_word-4.ensures.passes ∙ c.if-is_word-4.true) refl) c.regions.ensures))))

pub returns-then-is_word-5 : goal.returns-then-is_word-5
returns-then-is_word-5 g c = right (rw (sym c.is_class.ensures.passes ∙ c.if-is_class.false) refl)
    (right (rw (sym c.is_word.ensures.passes ∙ c.if-is_word.false) refl)
    (right (rw (sym c.is_word-2.ensures.passes ∙ c.if-is_word-2.false) refl)
    (right (rw (sym c.is_word-3.ensures.passes ∙ c.if-is_word-3.false) refl)
    (right (rw (sym c.is_word-4.ensures.passes ∙ c.if-is_word-4.false) refl)
    (left (rw (sym c.is_word-5.ensures.passes ∙ c.if-is_word-5.true) refl) c.successors.ensures)))))

pub returns-then-is_word-6 : goal.returns-then-is_word-6
returns-then-is_word-6 g c = right (rw (sym c.is_class.ensures.passes ∙ c.if-is_class.false) refl)
    (right (rw (sym c.is_word.ensures.passes ∙ c.if-is_word.false) refl)
    (right (rw (sym c.is_word-2.ensures.passes ∙ c.if-is_word-2.false) refl)
    (right (rw (sym c.is_word-3.ensures.passes ∙ c.if-is_word-3.false) refl)
    (right (rw (sym c.is_word-4.ensures.passes ∙ c.if-is_word-4.false) refl)
    (right (rw (sym c.is_word-5.ensures.passes ∙ c.if-is_word-5.false) refl)
    (left (rw (sym c.is_word-6.ensures.passes ∙ c.if-is_word-6.true) refl)
    c.terminator.ensures))))))

pub returns : goal.returns
returns g c = right (rw (sym c.is_class.ensures.passes ∙ c.if-is_class.false) refl)
    (right (rw (sym c.is_word.ensures.passes ∙ c.if-is_word.false) refl)
    (right (rw (sym c.is_word-2.ensures.passes ∙ c.if-is_word-2.false) refl)
    (right (rw (sym c.is_word-3.ensures.passes ∙ c.if-is_word-3.false) refl)
    (right (rw (sym c.is_word-4.ensures.passes ∙ c.if-is_word-4.false) refl)
    (right (rw (sym c.is_word-5.ensures.passes ∙ c.if-is_word-5.false) refl)
    (right (rw (sym c.is_word-6.ensures.passes ∙ c.if-is_word-6.false) refl) c.format.ensures))))))
