use Rattle.std.proofs.Common.{◌∙◌, refl, sym, subst}
use Rattle.constraint_solver.specs.Definitions.{AreSoundDefs}
use Rattle.constraint_solver.proofs.Grows.{extends-trans}
use Rattle.native_predicate.specs.Lists.{count, names, tests}
use Rattle.value_meaning.specs.Distinct.{HaveDistinctNames}
use Rattle.dialect_registry.specs.ConstantFaults.{shapes_of}
use Rattle.dialect_registry.specs.DefFaults.{dialects_of, world_of}
use Rattle.dialect_registry.specs.Resolved.{located_in, types_among}
use Rattle.dialect_registry.proofs.Loads.{have-ops, have-types}
use Rattle.dialect_registry.proofs.SoundTypes.{distinct-types, named-shapes, named-types, sound-shapes}
use Rattle.dialect_registry.proofs.loading.define.Goals as goal

pub of-requires : goal.of-requires
of-requires g c = record {
  distinct = subst HaveDistinctNames (sym c.in_ok-list.ensures)
      (distinct-types c.args.raw.now (names (λ p. (goal.NativePredicate-dyn g p).title p.1) c.args.natives.now) c.requires.rules (shapes_of c.args.raw.now)
      (named-shapes (types_among (located_in (dialects_of c.args.raw.now)))));
}

pub resolve-resolved-requires : goal.resolve-resolved-requires
resolve-resolved-requires g c = record {
  shapes = subst (AreSoundDefs 0 (count c.args.natives.now))
      (sym (c.in_ok-shapes.ensures ∙ c.in_ok-list.ensures))
      (sound-shapes c.args.raw.now 0 (count c.args.natives.now));
}

pub of-requires-in-Ok : goal.of-requires-in-Ok
of-requires-in-Ok g c =
    let w = world_of c.args.raw.now (names (λ p. (goal.NativePredicate-dyn g p).title p.1) c.args.natives.now) in
    record {
      distinct = distinct-types c.args.raw.now (names (λ p. (goal.NativePredicate-dyn g p).title p.1) c.args.natives.now) c.requires.rules _
          (named-types w (tests (λ p. (goal.NativePredicate-dyn g p).property p.1) c.args.natives.now) c.in_ok-shapes.shapes _
          (types_among (located_in (dialects_of c.args.raw.now))) _
          (c.in-Ok.ensures.ok w c.requires.targets refl).types);
    }

pub returns-in-Ok-clause-types : goal.returns-in-Ok-clause-types
returns-in-Ok-clause-types g c =
    have-types c.args.raw.now (names (λ p. (goal.NativePredicate-dyn g p).title p.1) c.args.natives.now) (tests (λ p. (goal.NativePredicate-dyn g p).property p.1) c.args.natives.now) c.resolve-resolved.new.u c.in_ok-shapes.shapes c.in-Ok.resolved
    c.in_ok-of-in-Ok.field-0 c.requires.rules
    (c.in_ok-shapes.ensures ∙ c.in_ok-list.ensures)
    (c.in-Ok.ensures.ok (world_of c.args.raw.now (names (λ p. (goal.NativePredicate-dyn g p).title p.1) c.args.natives.now)) c.requires.targets refl)
    c.in_ok-of-in-Ok.ensures

pub returns-in-Ok-clause-ops : goal.returns-in-Ok-clause-ops
returns-in-Ok-clause-ops g c =
    have-ops c.args.raw.now (names (λ p. (goal.NativePredicate-dyn g p).title p.1) c.args.natives.now) (tests (λ p. (goal.NativePredicate-dyn g p).property p.1) c.args.natives.now) c.resolve-resolved.new.u c.in_ok-shapes.shapes c.in-Ok.resolved
    (c.in_ok-shapes.ensures ∙ c.in_ok-list.ensures)
    (c.in-Ok.ensures.ok (world_of c.args.raw.now (names (λ p. (goal.NativePredicate-dyn g p).title p.1) c.args.natives.now)) c.requires.targets refl)

pub returns-in-Err-BadConstant-clause-later : goal.returns-in-Err-BadConstant-clause-later
returns-in-Err-BadConstant-clause-later g c =
    extends-trans c.resolve-resolved.ensures.later c.first_meaningless.ensures.later
