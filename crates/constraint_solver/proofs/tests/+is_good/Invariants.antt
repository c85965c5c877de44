use Rattle.std.proofs.Common.{drop, length}
use Rattle.std.specs.List.{AllByRecursion}
use Rattle.attr_value.specs.Ids.{kids_at, AreKnown}
use Rattle.attr_value.specs.Values.{list_of}
use Rattle.dialect_defs.specs.Goodness.{Good}
use Rattle.native_predicate.specs.Lists.{tests}
use Rattle.constraint_solver.proofs.tests.+is_good.Given as goal

abbrev pub decreases-is_good : goal.decreases-is_good
decreases-is_good g l = l.deep

-- where the kids that are left are good, all are
abbrev pub invariant-loop-kid : goal.invariant-loop-kid
invariant-loop-kid g l = record {
  known : AreKnown (length l.u) (drop l.kid-index l.kids);
  good : AllByRecursion
      (Good l.u (tests (λ p. (g.dyn-1.0.entry p.0).1.property p.1) l.natives) l.types)
      (list_of (kids_at l.u (drop l.kid-index l.kids)))
      → AllByRecursion
      (Good l.u (tests (λ p. (g.dyn-1.0.entry p.0).1.property p.1) l.natives) l.types)
      (list_of (kids_at l.u l.kids));
}
