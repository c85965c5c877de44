use Rattle.std.proofs.Common.{◌≡◌}
use Rattle.dialect_registry.specs.ConstantFaults.{free_vars, own_params}
use Rattle.dialect_registry.proofs.shape.own_vars.Given as goal

abbrev pub invariant-loop-i : goal.invariant-loop-i
invariant-loop-i l = record {
  vars : l.vars ≡ free_vars l.i;
  params : l.params ≡ own_params l.i;
}
