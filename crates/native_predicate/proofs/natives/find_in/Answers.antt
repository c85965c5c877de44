use Rattle.std.proofs.Common.{◌≡◌, ◌∙◌, true, arith, sym, subst}
use Rattle.std.specs.Prelude.{bytes_eq}
use Rattle.native_predicate.proofs.First.{first-at, nowhere}
use Rattle.native_predicate.proofs.natives.find_in.Goals as goal

pub returns-then-is_named : goal.returns-then-is_named
returns-then-is_named g c =
    first-at (λ b. (goal.NativePredicate-dyn g (b.vtable, b.value)).title b.value)
    (λ own. bytes_eq own c.args.name.now) c.args.list.now c.loop-i.i c.index-list-i.result
    c.loop-i-test.true c.loop-i.invariant
    (subst (λ b. bytes_eq ((goal.NativePredicate-dyn g (b.vtable, b.value)).title b.value)
    c.args.name.now ≡ true)
    c.index-list-i.is (sym c.is_named.ensures ∙ c.if-is_named.true))

pub returns : goal.returns
returns g c =
    nowhere (λ b. (goal.NativePredicate-dyn g (b.vtable, b.value)).title b.value)
    (λ own. bytes_eq own c.args.name.now) c.args.list.now c.loop-i.i (omega arith)
    c.loop-i.invariant
