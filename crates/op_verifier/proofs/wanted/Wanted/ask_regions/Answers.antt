use Rattle.std.proofs.Common.{List, subst, sym}
use Rattle.attr_value.specs.Values.{Value}
use Rattle.ir_store.specs.Numbering.{ops_in}
use Rattle.op_verifier.specs.Views.{HasFront, AreKnownRegions}
use Rattle.op_verifier.specs.declared.view.OpRegions.{OpRegions}
use Rattle.op_verifier.proofs.RegionSteps.{an-element}
use Rattle.op_verifier.proofs.Shown.{fronts-ask}
use Rattle.op_verifier.proofs.wanted.Wanted.ask_regions.Goals as goal

pub ask_stored-requires-clause-op : goal.ask_stored-requires-clause-op
ask_stored-requires-clause-op c = (rw c.in-Stored.is at c.requires.known).1

pub returns-in-Listed : goal.returns-in-Listed
returns-in-Listed c =
    let values = c.args.self.now.u.now in
    λ rs front.
    let same = subst (λ (r : OpRegions). HasFront values r rs) c.in-Listed.is front in
    record {
      same = c.ask_listed.ensures.same;
      decides = fronts-ask c.args.entries.now rs _ same c.ask_listed.ensures.decides;
    }

pub returns-in-Stored : goal.returns-in-Stored
returns-in-Stored c =
    let values = c.args.self.now.u.now in
    let known = subst (AreKnownRegions _) c.in-Stored.is c.requires.known in
    let x = an-element (ops_in c.in-Stored.store.now) c.in-Stored.op.0 known.1 in
    λ rs front.
    let same = subst (λ (r : OpRegions). HasFront values r rs) c.in-Stored.is front in
    let asked = c.ask_stored.ensures x.0 x.1 in
    record {
      same = asked.same;
      decides = fronts-ask c.args.entries.now rs _ (same x.0 x.1) asked.decides;
    }
