use Rattle.std.proofs.Common.{refl, sym, ◌∙◌}
use Rattle.grammar.proofs.Runs.{at-ret, left, right}
use Rattle.irdl_ops.proofs.read.entries.variables.Goals as goal

pub returns-then-not-is_class : goal.returns-then-not-is_class
returns-then-not-is_class g c = rw c.new.ensures
    (right (rw (sym c.is_class.ensures.passes ∙ c.if-not-is_class.true) refl) at-ret)

pub returns : goal.returns
returns g c = left (rw (sym c.is_class.ensures.passes ∙ c.if-not-is_class.false) refl)
    c.some_variables.ensures
