use Rattle.std.proofs.Common.{◌≡◌, None, refl, subst, sym, arith}
use Rattle.std.specs.List.{AllByRecursion}
use Rattle.op_verifier.proofs.Slots.{all-push}
use Rattle.op_verifier.proofs.wanted.Wanted.new.Goals as goal

pub loop-preserved : goal.loop-preserved
loop-preserved c = record {
  size = omega arith;
  none = subst (AllByRecursion (λ slot. slot ≡ None)) (sym c.push.ensures.items)
      (all-push _ _ None c.loop.invariant.none refl);
}
