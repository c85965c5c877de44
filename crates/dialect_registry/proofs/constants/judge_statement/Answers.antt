use Rattle.dialect_registry.proofs.constants.judge_statement.Goals as goal

pub returns-in-Constraint-clause-first : goal.returns-in-Constraint-clause-first
returns-in-Constraint-clause-first g c = rw c.in-Constraint.is c.judge_expr.ensures.first
