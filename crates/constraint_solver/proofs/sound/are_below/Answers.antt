use Rattle.std.proofs.Common.{◌<◌, arith, refl}
use Rattle.constraint_solver.proofs.Filled.{all-from}
use Rattle.constraint_solver.proofs.sound.are_below.Goals as goal

pub returns : goal.returns
returns c = (
  λ is. all-from (λ v. v.0 < c.args.n) c.args.vars.now (record { 0 = 0 })
      (λ k within. c.loop-var.invariant k (omega arith)),
  λ below. refl,
)
