use Rattle.std.proofs.Common.{refl, sym, ◌∙◌}
use Rattle.grammar.proofs.Runs.{at-ret, left, right}
use Rattle.generic_syntax.specs.Pieces.{dictionary}
use Rattle.generic_syntax.proofs.ModuleSteps.{in-module}
use Rattle.generic_syntax.proofs.module.parts.read_attributes.Goals as goal

pub returns-then-not-is_class : goal.returns-then-not-is_class
returns-then-not-is_class g c = λ regions. rw c.new.ensures
    (right (rw (sym c.is_class.ensures.passes ∙ c.if-not-is_class.true) refl) at-ret)

pub returns : goal.returns
returns g c = λ regions. left (rw (sym c.is_class.ensures.passes ∙ c.if-not-is_class.false) refl)
    (in-module dictionary regions c.read_dictionary.ensures)
