use Rattle.std.specs.declared.option.Option.TheVariants.{None}
use Rattle.dialect_defs.specs.declared.body.TheConstants.{VARIABLE_LIMIT}
use Rattle.constraint_solver.proofs.Given.{get-or-replicate}
use Rattle.constraint_solver.proofs.assign.empty_slots.Goals as goal

pub returns : goal.returns
returns c = λ v. get-or-replicate VARIABLE_LIMIT None v
