use Rattle.attr_value.specs.Ids.{kids_at}
use Rattle.attr_value.specs.Values.{list_of}
use Rattle.native_predicate.specs.Lists.{tests}
use Rattle.constraint_solver.proofs.Instances.{NotBefore}
use Rattle.constraint_solver.proofs.good.is_instance.Given as goal

-- no definition before is of the kind and name and has such an instance
abbrev pub invariant-loop-d : goal.invariant-loop-d
invariant-loop-d g l = NotBefore l.u (tests (λ p. (g.dyn-1.0.entry p.0).1.property p.1) l.natives)
    l.is_type l.name (list_of (kids_at l.u l.kids)) l.types l.d-index
