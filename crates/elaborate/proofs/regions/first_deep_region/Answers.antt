use Rattle.std.proofs.Common.{map, subst}
use Rattle.dialect_registry.proofs.Walks.{whole-take}
use Rattle.elaborate.specs.Regions.{IsDeepRegion}
use Rattle.first_fault.specs.Firsts.{IsFirst}
use Rattle.module_faults.specs.Listed.{seen}
use Rattle.elaborate.proofs.DeepRegions.{deep-more, deep-none}
use Rattle.elaborate.proofs.Taking.{map-next}
use Rattle.elaborate.proofs.regions.first_deep_region.Goals as goal

pub loop-standing-init : goal.loop-standing-init
loop-standing-init c = record { first_is = deep-none }

pub loop-standing-preserved : goal.loop-standing-preserved
loop-standing-preserved c =
    let all = c.args.standings.now in
    let next = map-next seen all c.loop-standing.standing-index c.standing-item.result
    c.loop-standing-test.true c.standing-item.is in
    record {
      first_is = rw (next, c.earlier-first.ensures) (deep-more _ (seen c.standing-item.result) _ _
          c.loop-standing.invariant.first_is c.region_fault.ensures);
    }

pub returns : goal.returns
returns c =
    subst (λ l. IsFirst (IsDeepRegion (map seen l)) c.loop-standing.first)
    (whole-take c.args.standings.now c.loop-standing.standing-index
    c.loop-standing.auto.standing-index-end c.loop-standing-test.false)
    c.loop-standing.invariant.first_is
