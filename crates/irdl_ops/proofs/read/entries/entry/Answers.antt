use Rattle.std.proofs.Common.{refl, sym, ◌∙◌}
use Rattle.grammar.proofs.Runs.{left, right}
use Rattle.irdl_ops.proofs.read.entries.entry.Goals as goal

pub returns-then-is_class : goal.returns-then-is_class
returns-then-is_class g c = left (rw (sym c.is_class.ensures.passes ∙ c.if-is_class.true) refl)
    c.bare_entry.ensures

pub returns-then-is_word : goal.returns-then-is_word
returns-then-is_word g c = right (rw (sym c.is_class.ensures.passes ∙ c.if-is_class.false) refl)
    (left (rw (sym c.is_word.ensures.passes ∙ c.if-is_word.true) refl) c.arity_entry.ensures)

pub returns-then-is_word-2 : goal.returns-then-is_word-2
returns-then-is_word-2 g c = right (rw (sym c.is_class.ensures.passes ∙ c.if-is_class.false) refl)
    (right (rw (sym c.is_word.ensures.passes ∙ c.if-is_word.false) refl)
    (left (rw (sym c.is_word-2.ensures.passes ∙ c.if-is_word-2.true) refl)
    c.arity_entry-then-is_word-2.ensures))

pub returns-then-is_word-3 : goal.returns-then-is_word-3
returns-then-is_word-3 g c = right (rw (sym c.is_class.ensures.passes ∙ c.if-is_class.false) refl)
    (right (rw (sym c.is_word.ensures.passes ∙ c.if-is_word.false) refl)
    (right (rw (sym c.is_word-2.ensures.passes ∙ c.if-is_word-2.false) refl)
    (left (rw (sym c.is_word-3.ensures.passes ∙ c.if-is_word-3.true) refl)
    c.arity_entry-then-is_word-3.ensures)))

pub returns : goal.returns
returns g c = right (rw (sym c.is_class.ensures.passes ∙ c.if-is_class.false) refl)
    (right (rw (sym c.is_word.ensures.passes ∙ c.if-is_word.false) refl)
    (right (rw (sym c.is_word-2.ensures.passes ∙ c.if-is_word-2.false) refl)
    (right (rw (sym c.is_word-3.ensures.passes ∙ c.if-is_word-3.false) refl)
    c.other_entry.ensures)))
