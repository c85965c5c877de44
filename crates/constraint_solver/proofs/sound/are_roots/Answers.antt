use Rattle.std.proofs.Common.{◌<◌, arith, refl, length}
use Rattle.constraint_solver.proofs.Filled.{all-from}
use Rattle.constraint_solver.proofs.sound.are_roots.Goals as goal

pub returns : goal.returns
returns c = (
  λ is. record {
    vars = all-from (λ root. root.0.0 < length c.args.body.now.vars) c.args.roots.now
        (record { 0 = 0 }, record { 0 = 0 })
        (λ k within. c.loop-root.invariant.vars k (omega arith));
    ids = all-from (λ root. root.1.0 < c.args.len) c.args.roots.now
        (record { 0 = 0 }, record { 0 = 0 })
        (λ k within. c.loop-root.invariant.ids k (omega arith));
  },
  λ roots. refl,
)
