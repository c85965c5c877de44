use Rattle.std.proofs.Common.{◌≡◌, ◌<◌, Some}
use Rattle.ir_store.specs.Named.{op_at}
use Rattle.ir_store.specs.declared.rows.OpId.{OpId}
use Rattle.native_predicate.specs.Lists.{tests}
use Rattle.op_verifier.specs.Meets.{MeetsStored}
use Rattle.op_verifier.specs.Seen.{Site}
use Rattle.op_verifier.proofs.operations.verify.Given as goal

-- the operations before meet their definitions
abbrev pub invariant-loop-i : goal.invariant-loop-i
invariant-loop-i g l =
    (other : OpId) (x : Site) → other.0 < l.i → op_at l.store other ≡ Some x
    → MeetsStored l.u (tests (λ p. (g.dyn-1.0.entry p.0).1.property p.1) l.natives) l.defs l.store x
