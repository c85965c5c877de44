use Rattle.std.proofs.Common.{refl, sym, ◌∙◌}
use Rattle.grammar.proofs.Runs.{left, right}
use Rattle.irdl_ops.proofs.read.statements.type_statement.Goals as goal

pub returns-then-is_class : goal.returns-then-is_class
returns-then-is_class g c = left (rw (sym c.is_class.ensures.passes ∙ c.if-is_class.true) refl)
    c.constraint.ensures

pub returns : goal.returns
returns g c = right (rw (sym c.is_class.ensures.passes ∙ c.if-is_class.false) refl)
    c.parameters.ensures
