use Rattle.std.proofs.Common.{◌<◌, refl, arith, length, sym, true≢false}
use Rattle.ir_store.specs.Numbering.{ops_in}
use Rattle.op_verifier.specs.Meets.{IsJudgeable}
use Rattle.op_verifier.proofs.RegionSteps.{an-element}
use Rattle.op_verifier.proofs.Walks.{all-fails, all-step}
use Rattle.op_verifier.proofs.sound.are_judgeable.Goals as goal

pub returns-then-not-is_judgeable : goal.returns-then-not-is_judgeable
returns-then-not-is_judgeable c =
    let within : c.loop-i.i < length (ops_in c.args.store.now) = omega arith in
    let x = an-element (ops_in c.args.store.now) c.loop-i.i within in (
      λ yes. absurd (true≢false (sym yes)),
      λ all. absurd (all-fails (IsJudgeable c.args.count c.args.len c.args.store.now)
          (ops_in c.args.store.now) c.loop-i.i x.0 x.1
          (λ is. true≢false (sym ((c.if-not-is_judgeable.ensures x.0 x.1).1 is))) all),
    )

pub loop-i-preserved : goal.loop-i-preserved
loop-i-preserved c =
    let within : c.loop-i.i < length (ops_in c.args.store.now) = omega arith in
    let x = an-element (ops_in c.args.store.now) c.loop-i.i within in
    all-step (IsJudgeable c.args.count c.args.len c.args.store.now)
    (ops_in c.args.store.now) c.loop-i.i x.0 x.1
    ((c.if-not-is_judgeable.ensures x.0 x.1).0 refl) c.loop-i.invariant
