use Rattle.std.proofs.Common.{◌≡◌, ℕ, ◌<◌}
use Rattle.attr_value.specs.Ids.{at}
use Rattle.native_predicate.specs.Lists.{tests}
use Rattle.constraint_solver.specs.Roots.{assigned}
use Rattle.constraint_solver.proofs.Filled.{var_at}
use Rattle.constraint_solver.proofs.Tried.{MemberRefuted}
use Rattle.constraint_solver.proofs.search.+solve_below.Given as goal

abbrev pub decreases-solve_below : goal.decreases-solve_below
decreases-solve_below g l = l.n

-- no member before is the value of an assignment
abbrev pub invariant-loop-member : goal.invariant-loop-member
invariant-loop-member g l = record {
  same : l.slots.ids ≡ l.fn.slots.ids;
  tried : (k : ℕ) → k < l.member-index → MemberRefuted l.v l.u
      (tests (λ p. (g.dyn-1.0.entry p.0).1.property p.1) l.natives) l.body
      (assigned l.u l.fn.slots.ids) (var_at l.member-items k) (at l.u l.id.0);
}
