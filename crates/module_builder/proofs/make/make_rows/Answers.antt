use Rattle.std.proofs.Common.{ap, ◌∙◌, arith, length, map, subst, refl}
use Rattle.module_builder.specs.declared.make.Making.{Making}
use Rattle.module_builder.specs.Making.{AllMade}
use Rattle.module_builder.proofs.Taking.{can-next, made-more, made-all}
use Rattle.module_faults.specs.Listed.{seen}
use Rattle.module_faults.specs.Standings.{ops_of}
use Rattle.module_builder.proofs.make.make_rows.Goals as goal

pub pass-requires : goal.pass-requires
pass-requires c =
    let begun : Making = record {
      ids = c.into_iter.result;
      rows = c.new.result;
      uses = 0;
      successors = 0;
    } in
    record {
      can = can-next c.args.uses.now c.args.firsts.now begun c.loop-standing.making
          c.args.standings.now _
          c.standing-item.result c.loop-standing-test.true c.standing-item.is c.requires.defined
          (record {
            ids = ap length c.into_iter.ensures.rest ∙ c.requires.ids;
            uses = let long = c.requires.uses in omega arith;
            successors = let long = c.requires.successors in omega arith;
          })
          c.loop-standing.invariant;
    }

pub loop-standing-preserved : goal.loop-standing-preserved
loop-standing-preserved c =
    made-more c.args.uses.now c.args.firsts.now _ c.loop-standing.making c.pass.new.self
    c.args.standings.now _ c.standing-item.result c.loop-standing-test.true c.standing-item.is
    c.loop-standing.invariant c.in_ok-pass.ensures

pub returns : goal.returns
returns c =
    let begun : Making = record {
      ids = c.into_iter.result;
      rows = c.new.result;
      uses = 0;
      successors = 0;
    } in
    let cs = ops_of (map seen c.args.standings.now) in
    subst (λ l. AllMade cs l c.loop-standing.making.rows.items c.args.uses.now c.args.firsts.now)
    c.into_iter.ensures.rest
    (made-all c.args.uses.now c.args.firsts.now begun c.loop-standing.making c.args.standings.now
    c.loop-standing.standing-index c.loop-standing-test.false
    (record {
      ids = ap length c.into_iter.ensures.rest ∙ c.requires.ids;
      uses = let long = c.requires.uses in omega arith;
      successors = let long = c.requires.successors in omega arith;
    })
    c.new.ensures.items refl refl c.loop-standing.invariant)
