use Rattle.std.proofs.Common.{◌≢◌, ◌∙◌, [], ap, length, map, subst, sym}
use Rattle.attr_value.specs.Ids.{AreDistinct, AreKnown}
use Rattle.elaborate.proofs.Composing.{judged-fit, judged-uses-fit, stored-known, stored-named}
use Rattle.elaborate.proofs.Composing.{stored-uses}
use Rattle.elaborate.proofs.Ending.{ended-completes, ended-refused, handed}
use Rattle.elaborate.proofs.Refusing.{of-judged, of-names, refused-unmeant}
use Rattle.elaborate.proofs.UseTypes.{shown-enough, shown-known, shown_ids}
use Rattle.elaborate.specs.Composed.{IsStored}
use Rattle.elaborate.specs.declared.stop.ModStop.TheVariants.{Refused}
use Rattle.elaborate.specs.Elaborated.{loaded_of, MeansNothing, RefusesModule}
use Rattle.module_faults.specs.Listed.{seen}
use Rattle.module_faults.specs.Standings.{ops_of, standings}
use Rattle.module_meaning.specs.Completes.{aliases_of}
use Rattle.native_predicate.specs.Lists.{tests}
use Rattle.elaborate.proofs.module.elaborate.Goals as goal

pub returns-in_err-uses-clause-unmeant : goal.returns-in_err-uses-clause-unmeant
returns-in_err-uses-clause-unmeant g c =
    let loaded = loaded_of c.args.u.now
    (tests (λ p. (goal.NativePredicate-dyn g p).property p.1) c.args.natives.now)
    c.args.registry.now in
    let tree = c.args.tree.now in
    handed (MeansNothing loaded tree) c.from_residual.result c.in_err-uses.field-0.0
    c.from_residual.ensures
    (refused-unmeant loaded tree c.requires.ops_apart c.in_err-uses.field-0.0
    (of-names loaded tree c.in_err-uses.field-0.0 c.in_err-uses.ensures.refused))

pub returns-in_err-ids-clause-refused : goal.returns-in_err-ids-clause-refused
returns-in_err-ids-clause-refused g c =
    let loaded = loaded_of c.args.u.now
    (tests (λ p. (goal.NativePredicate-dyn g p).property p.1) c.args.natives.now)
    c.args.registry.now in
    let tree = c.args.tree.now in
    handed (RefusesModule loaded tree) c.from_residual-in_err-ids.result c.in_err-ids.field-0.0
    c.from_residual-in_err-ids.ensures
    (of-judged loaded tree c.in_ok-uses.ensures.right c.in_err-ids.field-0.0
    c.in_err-ids.ensures.refused)

pub returns-in_err-ids-clause-unmeant : goal.returns-in_err-ids-clause-unmeant
returns-in_err-ids-clause-unmeant g c =
    let loaded = loaded_of c.args.u.now
    (tests (λ p. (goal.NativePredicate-dyn g p).property p.1) c.args.natives.now)
    c.args.registry.now in
    let tree = c.args.tree.now in
    handed (MeansNothing loaded tree) c.from_residual-in_err-ids.result c.in_err-ids.field-0.0
    c.from_residual-in_err-ids.ensures
    (refused-unmeant loaded tree c.requires.ops_apart c.in_err-ids.field-0.0
    (of-judged loaded tree c.in_ok-uses.ensures.right c.in_err-ids.field-0.0
    c.in_err-ids.ensures.refused))

pub build-requires-clause-fit : goal.build-requires-clause-fit
build-requires-clause-fit g c =
    let loaded = loaded_of c.args.u.now
    (tests (λ p. (goal.NativePredicate-dyn g p).property p.1) c.args.natives.now)
    c.args.registry.now in
    let tree = c.args.tree.now in
    let now = c.judge_values.new.u in
    let ids = c.in_ok-ids.ids.items in
    let judged = c.in_ok-ids.ensures.judged in
    judged-fit loaded tree now ids judged

pub build-requires-clause-uses : goal.build-requires-clause-uses
build-requires-clause-uses g c =
    let loaded = loaded_of c.args.u.now
    (tests (λ p. (goal.NativePredicate-dyn g p).property p.1) c.args.natives.now)
    c.args.registry.now in
    let tree = c.args.tree.now in
    let now = c.judge_values.new.u in
    let ids = c.in_ok-ids.ids.items in
    let judged = c.in_ok-ids.ensures.judged in
    judged-uses-fit loaded tree now ids judged c.in_ok-uses.uses c.in_ok-uses.ensures.meant

pub types_differ_by_ids-requires : goal.types_differ_by_ids-requires
types_differ_by_ids-requires g c =
    let loaded = loaded_of c.args.u.now
    (tests (λ p. (goal.NativePredicate-dyn g p).property p.1) c.args.natives.now)
    c.args.registry.now in
    let tree = c.args.tree.now in
    let now = c.judge_values.new.u in
    let ids = c.in_ok-ids.ids.items in
    let judged = c.in_ok-ids.ensures.judged in
    let listed = c.deref-4.ensures.value
    ∙ (c.in_ok-shown.ensures ∙ ap shown_ids c.deref-2.ensures.value) in
    subst (AreKnown (length now)) (sym listed)
    (shown-known loaded (aliases_of tree) now (ops_of (standings tree)) ids judged.each)

pub first_wrong_use-requires-clause-fit : goal.first_wrong_use-requires-clause-fit
first_wrong_use-requires-clause-fit g c =
    let loaded = loaded_of c.args.u.now
    (tests (λ p. (goal.NativePredicate-dyn g p).property p.1) c.args.natives.now)
    c.args.registry.now in
    let tree = c.args.tree.now in
    let now = c.judge_values.new.u in
    let ids = c.in_ok-ids.ids.items in
    let judged = c.in_ok-ids.ensures.judged in
    let uses = c.in_ok-uses.uses in
    let store = c.in_ok-store.store in
    let stored : IsStored tree ids uses store = record {
      shape = c.in_ok-store.ensures.shape;
      parts = c.in_ok-store.ensures.parts;
      places = c.in_ok-store.ensures.places;
      operands = c.in_ok-store.ensures.operands;
      successors = c.in_ok-store.ensures.successors;
    } in
    let ss = map seen c.deref-5.result.now in
    let stands = ap (map seen) c.deref-5.ensures.value ∙ c.in_ok-list.ensures in
    stored-uses loaded tree now ids judged uses store stored ss stands

pub first_wrong_use-requires-clause-shown : goal.first_wrong_use-requires-clause-shown
first_wrong_use-requires-clause-shown g c =
    let loaded = loaded_of c.args.u.now
    (tests (λ p. (goal.NativePredicate-dyn g p).property p.1) c.args.natives.now)
    c.args.registry.now in
    let tree = c.args.tree.now in
    let now = c.judge_values.new.u in
    let ids = c.in_ok-ids.ids.items in
    let judged = c.in_ok-ids.ensures.judged in
    let ss = map seen c.deref-5.result.now in
    let stands = ap (map seen) c.deref-5.ensures.value ∙ c.in_ok-list.ensures in
    let shown = c.deref-6.result.now in
    let listed = c.deref-6.ensures.value
    ∙ (c.in_ok-shown.ensures ∙ ap shown_ids c.deref-2.ensures.value) in
    shown-enough loaded tree now ids judged.each ss shown stands listed

pub returns-in-None-clause-completes : goal.returns-in-None-clause-completes
returns-in-None-clause-completes g c =
    let loaded = loaded_of c.args.u.now
    (tests (λ p. (goal.NativePredicate-dyn g p).property p.1) c.args.natives.now)
    c.args.registry.now in
    let tree = c.args.tree.now in
    let now = c.judge_values.new.u in
    let ids = c.in_ok-ids.ids.items in
    let judged = c.in_ok-ids.ensures.judged in
    let uses = c.in_ok-uses.uses in
    let store = c.in_ok-store.store in
    let stored : IsStored tree ids uses store = record {
      shape = c.in_ok-store.ensures.shape;
      parts = c.in_ok-store.ensures.parts;
      places = c.in_ok-store.ensures.places;
      operands = c.in_ok-store.ensures.operands;
      successors = c.in_ok-store.ensures.successors;
    } in
    let ss = map seen c.deref-5.result.now in
    let stands = ap (map seen) c.deref-5.ensures.value ∙ c.in_ok-list.ensures in
    let shown = c.deref-6.result.now in
    let listed = c.deref-6.ensures.value
    ∙ (c.in_ok-shown.ensures ∙ ap shown_ids c.deref-2.ensures.value) in
    let distinct : shown ≢ [] → AreDistinct now = λ some.
    c.types_differ_by_ids.ensures
    (λ e. some (c.deref-6.ensures.value ∙ (sym c.deref-4.ensures.value ∙ e))) in
    ended-completes loaded tree now ids judged uses store stored c.in_ok-uses.ensures.right
    c.in_ok-uses.ensures.meant ss shown stands listed distinct
    c.in-None.ensures

pub returns-in-None-clause-named : goal.returns-in-None-clause-named
returns-in-None-clause-named g c =
    let loaded = loaded_of c.args.u.now
    (tests (λ p. (goal.NativePredicate-dyn g p).property p.1) c.args.natives.now)
    c.args.registry.now in
    let tree = c.args.tree.now in
    let now = c.judge_values.new.u in
    let ids = c.in_ok-ids.ids.items in
    let judged = c.in_ok-ids.ensures.judged in
    let uses = c.in_ok-uses.uses in
    let store = c.in_ok-store.store in
    let stored : IsStored tree ids uses store = record {
      shape = c.in_ok-store.ensures.shape;
      parts = c.in_ok-store.ensures.parts;
      places = c.in_ok-store.ensures.places;
      operands = c.in_ok-store.ensures.operands;
      successors = c.in_ok-store.ensures.successors;
    } in
    stored-named loaded tree now ids judged uses store stored

pub returns-in-None-clause-ids : goal.returns-in-None-clause-ids
returns-in-None-clause-ids g c =
    let loaded = loaded_of c.args.u.now
    (tests (λ p. (goal.NativePredicate-dyn g p).property p.1) c.args.natives.now)
    c.args.registry.now in
    let tree = c.args.tree.now in
    let now = c.judge_values.new.u in
    let ids = c.in_ok-ids.ids.items in
    let judged = c.in_ok-ids.ensures.judged in
    let uses = c.in_ok-uses.uses in
    let store = c.in_ok-store.store in
    let stored : IsStored tree ids uses store = record {
      shape = c.in_ok-store.ensures.shape;
      parts = c.in_ok-store.ensures.parts;
      places = c.in_ok-store.ensures.places;
      operands = c.in_ok-store.ensures.operands;
      successors = c.in_ok-store.ensures.successors;
    } in
    stored-known loaded tree now ids judged uses store stored

pub returns-clause-refused : goal.returns-clause-refused
returns-clause-refused g c =
    let loaded = loaded_of c.args.u.now
    (tests (λ p. (goal.NativePredicate-dyn g p).property p.1) c.args.natives.now)
    c.args.registry.now in
    let tree = c.args.tree.now in
    let now = c.judge_values.new.u in
    let ids = c.in_ok-ids.ids.items in
    let judged = c.in_ok-ids.ensures.judged in
    let uses = c.in_ok-uses.uses in
    let store = c.in_ok-store.store in
    let stored : IsStored tree ids uses store = record {
      shape = c.in_ok-store.ensures.shape;
      parts = c.in_ok-store.ensures.parts;
      places = c.in_ok-store.ensures.places;
      operands = c.in_ok-store.ensures.operands;
      successors = c.in_ok-store.ensures.successors;
    } in
    let ss = map seen c.deref-5.result.now in
    let stands = ap (map seen) c.deref-5.ensures.value ∙ c.in_ok-list.ensures in
    let shown = c.deref-6.result.now in
    let listed = c.deref-6.ensures.value
    ∙ (c.in_ok-shown.ensures ∙ ap shown_ids c.deref-2.ensures.value) in
    let distinct : shown ≢ [] → AreDistinct now = λ some.
    c.types_differ_by_ids.ensures
    (λ e. some (c.deref-6.ensures.value ∙ (sym c.deref-4.ensures.value ∙ e))) in
    ended-refused loaded tree now ids judged uses store stored c.in_ok-uses.ensures.right
    c.in_ok-uses.ensures.meant ss shown stands listed distinct
    c.requires.ops_apart c.in-Some.fault c.in-Some.ensures

pub returns-clause-unmeant : goal.returns-clause-unmeant
returns-clause-unmeant g c =
    let loaded = loaded_of c.args.u.now
    (tests (λ p. (goal.NativePredicate-dyn g p).property p.1) c.args.natives.now)
    c.args.registry.now in
    let tree = c.args.tree.now in
    let now = c.judge_values.new.u in
    let ids = c.in_ok-ids.ids.items in
    let judged = c.in_ok-ids.ensures.judged in
    let uses = c.in_ok-uses.uses in
    let store = c.in_ok-store.store in
    let stored : IsStored tree ids uses store = record {
      shape = c.in_ok-store.ensures.shape;
      parts = c.in_ok-store.ensures.parts;
      places = c.in_ok-store.ensures.places;
      operands = c.in_ok-store.ensures.operands;
      successors = c.in_ok-store.ensures.successors;
    } in
    let ss = map seen c.deref-5.result.now in
    let stands = ap (map seen) c.deref-5.ensures.value ∙ c.in_ok-list.ensures in
    let shown = c.deref-6.result.now in
    let listed = c.deref-6.ensures.value
    ∙ (c.in_ok-shown.ensures ∙ ap shown_ids c.deref-2.ensures.value) in
    let distinct : shown ≢ [] → AreDistinct now = λ some.
    c.types_differ_by_ids.ensures
    (λ e. some (c.deref-6.ensures.value ∙ (sym c.deref-4.ensures.value ∙ e))) in
    refused-unmeant loaded tree c.requires.ops_apart (Refused c.in-Some.fault)
    (ended-refused loaded tree now ids judged uses store stored c.in_ok-uses.ensures.right
    c.in_ok-uses.ensures.meant ss shown stands listed distinct
    c.requires.ops_apart c.in-Some.fault c.in-Some.ensures)
