use Rattle.std.proofs.Common.{[], length, sym, subst}
use Rattle.std.specs.declared.option.Option.TheVariants.{Some, None}
use Rattle.constraint_solver.specs.Definitions.{AreSoundDefs}
use Rattle.native_predicate.specs.Lists.{count, tests}
use Rattle.dialect_registry.specs.ConstantFaults.{IsConstantFault, IsFaultIn}
use Rattle.dialect_registry.specs.DefFaults.{IsFirstIn}
use Rattle.dialect_registry.specs.Refusals.{fault_of}
use Rattle.dialect_registry.proofs.BadConstants.{bad-fault}
use Rattle.dialect_registry.proofs.NoAliases.{from-nothing}
use Rattle.dialect_registry.proofs.SoundTypes.{sound-shapes}
use Rattle.dialect_registry.proofs.loading.first_meaningless.Goals as goal

pub judge_constants-requires : goal.judge_constants-requires
judge_constants-requires g c = record {
  types = subst (AreSoundDefs (length c.args.u.now) (count c.args.natives.now)) (sym c.requires.shapes)
      (sound-shapes c.args.raw.now (length c.args.u.now) (count c.args.natives.now));
}

pub unreachable-requires : goal.unreachable-requires
unreachable-requires g c =
    let sound : AreSoundDefs 0 (count c.args.natives.now) c.args.shapes.now =
    subst (AreSoundDefs 0 (count c.args.natives.now)) (sym c.requires.shapes)
    (sound-shapes c.args.raw.now 0 (count c.args.natives.now)) in
    let none : IsFirstIn (IsFaultIn (IsConstantFault [] (tests (λ p. (goal.NativePredicate-dyn g p).property p.1) c.args.natives.now) c.args.shapes.now) c.args.raw.now) None =
    rw c.in-Ok-None.field-0-is at
    (c.in-Ok-None.ensures.first [] (from-nothing c.args.u.now) sound) in
    let bad = bad-fault (tests (λ p. (goal.NativePredicate-dyn g p).property p.1) c.args.natives.now) c.args.shapes.now c.args.raw.now c.requires.bad in
    none bad.0 bad.1 bad.2

pub returns-in-Ok-Some-clause-refused : goal.returns-in-Ok-Some-clause-refused
returns-in-Ok-Some-clause-refused g c =
    let sound : AreSoundDefs 0 (count c.args.natives.now) c.args.shapes.now =
    subst (AreSoundDefs 0 (count c.args.natives.now)) (sym c.requires.shapes)
    (sound-shapes c.args.raw.now 0 (count c.args.natives.now)) in
    let first : IsFirstIn (IsFaultIn (IsConstantFault [] (tests (λ p. (goal.NativePredicate-dyn g p).property p.1) c.args.natives.now) c.args.shapes.now) c.args.raw.now)
    (Some c.in-Ok-Some.fault) =
    rw c.in-Ok-Some.field-0-is at
    (c.in-Ok-Some.ensures.first [] (from-nothing c.args.u.now) sound) in
    let told : IsFirstIn (IsFaultIn (IsConstantFault [] (tests (λ p. (goal.NativePredicate-dyn g p).property p.1) c.args.natives.now) c.args.shapes.now) c.args.raw.now)
    (Some (fault_of c.plain.result)) =
    subst (λ f. IsFirstIn (IsFaultIn (IsConstantFault [] (tests (λ p. (goal.NativePredicate-dyn g p).property p.1) c.args.natives.now) c.args.shapes.now) c.args.raw.now) (Some f))
    (sym c.plain.ensures.fault) first in
    record {
      first = subst (λ s. IsFirstIn (IsFaultIn (IsConstantFault [] (tests (λ p. (goal.NativePredicate-dyn g p).property p.1) c.args.natives.now) s) c.args.raw.now)
          (Some (fault_of c.plain.result))) c.requires.shapes told;
      plain = c.plain.ensures.plain;
    }
