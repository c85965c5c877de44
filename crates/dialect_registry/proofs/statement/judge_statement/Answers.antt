use Rattle.dialect_registry.proofs.statement.judge_statement.Goals as goal

pub returns-in-Constraint : goal.returns-in-Constraint
returns-in-Constraint g c = λ w finds given.
    rw c.in-Constraint.is (c.judge_expr.ensures w finds given)

pub returns-in-Operands : goal.returns-in-Operands
returns-in-Operands g c = λ w finds given.
    rw c.in-Operands.is (rw c.as_slice.ensures at c.judge_entries.ensures)

pub returns-in-Results : goal.returns-in-Results
returns-in-Results g c = λ w finds given.
    rw c.in-Results.is (rw c.as_slice-in-Results.ensures at c.judge_entries-in-Results.ensures)

pub returns-in-Attributes : goal.returns-in-Attributes
returns-in-Attributes g c = λ w finds given.
    rw c.in-Attributes.is (rw c.as_slice-in-Attributes.ensures at c.judge_attrs.ensures)
