use Rattle.std.proofs.Common.{◌<◌, refl, arith, length, sym, true≢false}
use Rattle.attr_value.specs.Ids.{AreKnown}
use Rattle.ir_store.specs.Numbering.{ops_in}
use Rattle.op_verifier.specs.Seen.{Site}
use Rattle.op_verifier.proofs.RegionSteps.{an-element}
use Rattle.op_verifier.proofs.Walks.{all-fails, all-step}
use Rattle.op_verifier.proofs.sound.has_attrs.Goals as goal

pub returns-then-not-has_attrs_at : goal.returns-then-not-has_attrs_at
returns-then-not-has_attrs_at c =
    let within : c.loop-i.i < length (ops_in c.args.store.now) = omega arith in
    let x = an-element (ops_in c.args.store.now) c.loop-i.i within in (
      λ yes. absurd (true≢false (sym yes)),
      λ all. absurd (all-fails (λ (site : Site). AreKnown c.args.len site.head.values)
          (ops_in c.args.store.now) c.loop-i.i x.0 x.1
          (λ is. true≢false (sym ((c.if-not-has_attrs_at.ensures x.0 x.1).1 is))) all),
    )

pub loop-i-preserved : goal.loop-i-preserved
loop-i-preserved c =
    let within : c.loop-i.i < length (ops_in c.args.store.now) = omega arith in
    let x = an-element (ops_in c.args.store.now) c.loop-i.i within in
    all-step (λ (site : Site). AreKnown c.args.len site.head.values)
    (ops_in c.args.store.now) c.loop-i.i x.0 x.1
    ((c.if-not-has_attrs_at.ensures x.0 x.1).0 refl) c.loop-i.invariant
