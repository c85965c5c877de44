use Rattle.std.proofs.Common.{refl, sym, ◌∙◌}
use Rattle.grammar.proofs.Runs.{at-ret, left, right}
use Rattle.generic_syntax.proofs.module.parts.argument_list.Goals as goal

pub returns-then-not-is_class : goal.returns-then-not-is_class
returns-then-not-is_class g c = λ regions. rw c.new.ensures
    (right (rw (sym c.is_class.ensures.passes ∙ c.if-not-is_class.true) refl) at-ret)

pub returns : goal.returns
returns g c = λ regions. left (rw (sym c.is_class.ensures.passes ∙ c.if-not-is_class.false) refl)
    (c.some_arguments.ensures regions)
