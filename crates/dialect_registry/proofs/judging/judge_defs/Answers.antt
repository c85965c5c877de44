use Rattle.std.proofs.Common.{[], take, ◌∙◌}
use Rattle.dialect_registry.specs.DefFaults.{IsDefFault}
use Rattle.dialect_registry.proofs.Seen.{defs-none, defs-more}
use Rattle.dialect_registry.proofs.Walks.{behind-none, behind-more, behind-all}
use Rattle.dialect_registry.proofs.judging.judge_defs.Goals as goal

pub loop-def-init : goal.loop-def-init
loop-def-init g c = record {
  seen = defs-none c.new-seen.result c.new-seen.ensures;
  first = λ w finds given. behind-none (IsDefFault w c.args.own.now) [] c.args.defs.now;
}

pub loop-def-preserved : goal.loop-def-preserved
loop-def-preserved g c =
    let i = c.loop-def.def-index in
    let known = rw c.bytes.ensures at c.in_ok-known.ensures.before in
    let seen = c.loop-def.invariant.seen in
    record {
      seen = defs-more c.args.defs.now i c.def-item.result c.loop-def.seen c.add.new.self
          c.loop-def-test.true c.def-item.is seen
          (rw c.bytes.ensures at c.in_ok-known.ensures.after);
      first = λ w finds given.
          rw c.earlier-first.ensures
          (behind-more (IsDefFault w c.args.own.now) [] c.args.defs.now i c.def-item.result
          c.loop-def.first _ c.loop-def-test.true c.def-item.is
          (c.loop-def.invariant.first w finds given)
          (c.in_ok-judge_def.ensures w (take i c.args.defs.now) finds given
          (known ∙ seen.each c.def-item.result.name)));
    }

pub returns : goal.returns
returns g c = λ w finds given.
    behind-all (IsDefFault w c.args.own.now) [] c.args.defs.now c.loop-def.def-index
    c.loop-def.first c.loop-def.auto.def-index-end c.loop-def-test.false
    (c.loop-def.invariant.first w finds given)
