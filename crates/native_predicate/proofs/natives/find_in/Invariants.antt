use Rattle.std.proofs.Common.{◌≡◌, ℕ, ◌<◌, false, get_or}
use Rattle.std.specs.Prelude.{bytes_eq}
use Rattle.native_predicate.proofs.natives.find_in.Given as goal

-- no predicate before has the name
abbrev pub invariant-loop-i : goal.invariant-loop-i
invariant-loop-i g l = (k : ℕ) (d : _) → k < l.i →
    let p = get_or l.list k d in
    bytes_eq ((goal.NativePredicate-dyn g (p.vtable, p.value)).title p.value) l.name ≡ false
