use Rattle.dialect_registry.proofs.Breaking.{breaks-missing}
use Rattle.dialect_registry.proofs.statement.judge_expr.Goals as goal

pub returns-in-Pred : goal.returns-in-Pred
returns-in-Pred g c = λ w finds given.
    rw (c.in-Pred.is, c.fault_if.ensures)
    (breaks-missing w.natives c.in-Pred.name.text c.in-Pred.name.place c.find.result
    c.is_none.result (rw (c.bytes.ensures, ← given) at c.find.ensures) c.is_none.ensures)

pub returns-in-Parametric : goal.returns-in-Parametric
returns-in-Parametric g c = λ w finds given.
    rw c.in-Parametric.is (rw c.len.ensures at (c.judge_parts.ensures w finds))
