use Rattle.std.proofs.Common.{◌≡◌, Some, suc, ◌<◌, length, set, sym, ◌∙◌, ap, subst, refl}
use Rattle.std.proofs.lemmas.List.{length-map}
use Rattle.symbol_scopes.specs.ScopeMarks.{behind_own}
use Rattle.symbol_scopes.specs.Slots.{AreSlots, Descend, slot_of, outer_of}
use Rattle.symbol_scopes.specs.Listed.{bindings_in, binding_of}
use Rattle.symbol_scopes.proofs.Finds.{bound}
use Rattle.symbol_scopes.proofs.Turns.{slot_from}
use Rattle.symbol_scopes.proofs.Beginning.{Begins, begins-start, begins-end, begins-step, outside-is}
use Rattle.symbol_scopes.proofs.Visits.{Visited, visited, head-is, slot-read, name-within, falls, round-parts, descend-behind}
use Rattle.symbol_scopes.proofs.slots.NameSlots.enter.Goals as goal
use Rattle.symbol_scopes.proofs.slots.NameSlots.enter.Goals.{After-index-row}

-- what was visited before the definition that the loop is at
begun : (c : After-index-row) → Begins c.args.names.now (bindings_in c.args.names.now c.args.listed.now)
    c.region-region.result (behind_own c.args.round.now.round) (Some c.in-Some.d) c.loop-at.self
begun c = subst (λ o. Begins c.args.names.now (bindings_in c.args.names.now c.args.listed.now)
    c.region-region.result (behind_own c.args.round.now.round) o c.loop-at.self) c.in-Some.is
    c.loop-at.invariant

-- the definition that the loop is at
here : (c : After-index-row) → Visited c.args.names.now c.args.listed.now c.region-region.result
    c.in-Some.d c.index-row.result.now
here c = visited c.args.names.now c.args.listed.now _ c.region-region.result
    (length (bindings_in c.args.names.now c.args.listed.now)) c.in-Some.d c.index-row.result.now
    c.requires.listed (begun c).next c.index-row.ensures

-- its name has a slot
slotted : (c : After-index-row) → c.index-row.result.now.name < c.loop-at.self.slots.len
slotted c = name-within
    (slot_from (bindings_in c.args.names.now c.args.listed.now) (behind_own c.args.round.now.round)
    c.region-region.result (suc c.in-Some.d)) c.args.names.now c.loop-at.self.slots
    c.index-row.result.now.name _ (begun c).slots (here c).named

pub loop-at-init : goal.loop-at-init
loop-at-init c =
    let ns = c.args.names.now in
    let l = c.args.listed.now in
    let r = c.region-region.result in
    let rest = behind_own c.args.round.now.round in
    let known : r < length l.heads.items =
    subst (λ n. n < length l.heads.items) (sym c.region-region.ensures.own) c.requires.known in
    let head = head-is ns l _ r c.index-at.result.now c.requires.listed known c.index-at.ensures in
    subst (λ o. Begins ns (bindings_in ns l) r rest o c.args.self.now) (sym head)
    (begins-start ns (bindings_in ns l) r rest c.args.self.now c.requires.slots)

pub index-slot-requires : goal.index-slot-requires
index-slot-requires c = slotted (goal.at.index-slot-requires c).After-index-row

pub outer_slot-out-requires : goal.outer_slot-out-requires
outer_slot-out-requires c =
    let l = c.args.listed.now in
    ap length c.as_slice.ensures.value ∙ c.loop-at.invariant.room
    ∙ length-map l.rows.items (binding_of c.args.names.now)

pub index_mut-requires-in-Some : goal.index_mut-requires-in-Some
index_mut-requires-in-Some c = slotted (goal.at.index_mut-requires-in-Some c).After-index-row

pub loop-at-smaller : goal.loop-at-smaller
loop-at-smaller c =
    let next = c.index-row.result.now.next in
    subst (λ o. bound next < bound o) (sym c.in-Some.is)
    (falls (bindings_in c.args.names.now c.args.listed.now) c.region-region.result c.in-Some.d next
    (here (goal.at.loop-at-smaller c).After-index-row).follows)

pub loop-at-preserved : goal.loop-at-preserved
loop-at-preserved c =
    let ns = c.args.names.now in
    let ds = bindings_in ns c.args.listed.now in
    let r = c.region-region.result in
    let rest = behind_own c.args.round.now.round in
    let d = c.in-Some.d in
    let row = c.index-row.result.now in
    let b = begun (goal.at.loop-at-preserved c).After-index-row in
    let v = here (goal.at.loop-at-preserved c).After-index-row in
    let s = binding_of ns row in
    let descend : Descend r rest =
    subst (λ n. Descend n rest) (sym c.region-region.ensures.own)
    (descend-behind _ c.args.round.now.round c.region-region.ensures.descend) in
    let slot : c.index-slot.result.now ≡ slot_from ds rest r (suc d) s.name =
    slot-read (slot_from ds rest r (suc d)) ns c.loop-at.self.slots.items row.name s.name
    c.index-slot.result.now b.slots v.named c.index-slot.ensures in
    let out : c.outer_slot-out.result ≡ slot_of ds rest s.name =
    c.outer_slot-out.ensures ns
    ∙ ap (λ xs. outer_of ds c.index-slot.result.now xs r) c.as_slice.ensures.value
    ∙ outside-is ns ds r rest descend c.loop-at.self d b s v.there c.index-slot.result.now slot in
    begins-step ns ds r rest descend c.loop-at.self d b s v.there row.name c.outer_slot-out.result
    row.next _ c.len.ensures.distinct v.named v.region out v.follows refl
    (ap (λ n. set c.loop-at.self.slots.items row.name (record { found = d; least = n }))
    c.min.ensures)

pub returns : goal.returns
returns c =
    let ns = c.args.names.now in
    let ds = bindings_in ns c.args.listed.now in
    let r = c.region-region.result in
    let rest = behind_own c.args.round.now.round in
    let b = subst (λ o. Begins ns ds r rest o c.loop-at.self) c.in_default.is c.loop-at.invariant in
    subst (λ q. AreSlots ns ds q c.loop-at.self)
    (round-parts r c.args.round.now.round c.region-region.ensures.own c.region-region.ensures.some)
    (begins-end ns ds r rest c.loop-at.self b)
