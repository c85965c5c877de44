use Rattle.dialect_registry.proofs.constants.judge_expr.Goals as goal

pub returns-in-Is-clause-first : goal.returns-in-Is-clause-first
returns-in-Is-clause-first g c = rw c.in-Is.is c.judge_constant.ensures.first
