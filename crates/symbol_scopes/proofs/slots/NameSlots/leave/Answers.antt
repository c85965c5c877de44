use Rattle.std.proofs.Common.{Some, suc, ◌<◌, length, sym, subst, refl, arith}
use Rattle.std.proofs.lemmas.Option.{slice_get_read}
use Rattle.symbol_scopes.specs.ScopeMarks.{behind_own}
use Rattle.symbol_scopes.specs.Slots.{AreSlots}
use Rattle.symbol_scopes.specs.Listed.{bindings_in, binding_of}
use Rattle.symbol_scopes.proofs.Finds.{bound, from}
use Rattle.symbol_scopes.proofs.Ending.{Ends, left, ends-start, ends-end, ends-step}
use Rattle.symbol_scopes.proofs.Visits.{Visited, visited, head-is, name-within, falls, round-parts}
use Rattle.symbol_scopes.proofs.slots.NameSlots.leave.Goals as goal
use Rattle.symbol_scopes.proofs.slots.NameSlots.leave.Goals.{After-index-row}

-- what was visited before the definition that the loop is at
begun : (c : After-index-row) → Ends c.args.names.now (bindings_in c.args.names.now c.args.listed.now)
    c.region-region.result (behind_own c.args.round.now.round) (Some c.in-Some.d) c.loop-at.self
begun c = subst (λ o. Ends c.args.names.now (bindings_in c.args.names.now c.args.listed.now)
    c.region-region.result (behind_own c.args.round.now.round) o c.loop-at.self) c.in-Some.is
    c.loop-at.invariant

-- the definition that the loop is at
here : (c : After-index-row) → Visited c.args.names.now c.args.listed.now c.region-region.result
    c.in-Some.d c.index-row.result.now
here c = visited c.args.names.now c.args.listed.now _ c.region-region.result
    (length (bindings_in c.args.names.now c.args.listed.now)) c.in-Some.d c.index-row.result.now
    c.requires.listed (begun c).next c.index-row.ensures

pub loop-at-init : goal.loop-at-init
loop-at-init c =
    let ns = c.args.names.now in
    let l = c.args.listed.now in
    let ds = bindings_in ns l in
    let r = c.region-region.result in
    let rest = behind_own c.args.round.now.round in
    let known : r < length l.heads.items =
    subst (λ n. n < length l.heads.items) (sym c.region-region.ensures.own) c.requires.known in
    let head = head-is ns l _ r c.index-at.result.now c.requires.listed known c.index-at.ensures in
    subst (λ o. Ends ns ds r rest o c.args.self.now) (sym head)
    (ends-start ns ds r rest c.args.self.now
    (subst (λ q. AreSlots ns ds q c.args.self.now)
    (sym (round-parts r c.args.round.now.round c.region-region.ensures.own
    c.region-region.ensures.some))
    c.requires.slots))

pub index_mut-requires : goal.index_mut-requires
index_mut-requires c =
    let ns = c.args.names.now in
    let ds = bindings_in ns c.args.listed.now in
    let r = c.region-region.result in
    let row = (goal.at.index_mut-requires c).After-index-row in
    name-within
    (λ x. left ns ds r (behind_own c.args.round.now.round) (from ds (suc c.in-Some.d) r x) x) ns
    c.loop-at.self.slots c.index-row.result.now.name _ (begun row).slots (here row).named

pub loop-at-smaller : goal.loop-at-smaller
loop-at-smaller c =
    let next = c.index-row.result.now.next in
    subst (λ o. bound next < bound o) (sym c.in-Some.is)
    (falls (bindings_in c.args.names.now c.args.listed.now) c.region-region.result c.in-Some.d next
    (here (goal.at.loop-at-smaller c).After-index-row).follows)

pub loop-at-preserved : goal.loop-at-preserved
loop-at-preserved c =
    let ns = c.args.names.now in
    let ds = bindings_in ns c.args.listed.now in
    let d = c.in-Some.d in
    let row = c.index-row.result.now in
    let b = begun (goal.at.loop-at-preserved c).After-index-row in
    let v = here (goal.at.loop-at-preserved c).After-index-row in
    ends-step ns ds c.region-region.result (behind_own c.args.round.now.round) c.loop-at.self d b
    (binding_of ns row) v.there row.name row.next c.index.result.now _ c.len.ensures.distinct
    v.named v.region v.follows
    (slice_get_read c.loop-at.self.saved.items c.loop-at.self.saved.len d c.index.result.now
    c.loop-at.self.saved.ok.0
    (let w = b.next.within in let m = b.room in let o = c.loop-at.self.saved.ok.0 in omega arith)
    c.index.ensures)
    refl refl

pub returns : goal.returns
returns c =
    let ns = c.args.names.now in
    let ds = bindings_in ns c.args.listed.now in
    let r = c.region-region.result in
    let rest = behind_own c.args.round.now.round in
    ends-end ns ds r rest c.loop-at.self
    (subst (λ o. Ends ns ds r rest o c.loop-at.self) c.in_default.is c.loop-at.invariant)
