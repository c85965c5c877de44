use Rattle.std.proofs.Common.{refl, true}
use Rattle.native_predicate.specs.Lists.{tests}
use Rattle.value_meaning.specs.AliasTable.{alias_values}
use Rattle.value_meaning.specs.Faults.{Means}
use Rattle.dialect_registry.specs.declared.code.DefCode.TheVariants.{ConstantBad}
use Rattle.dialect_registry.specs.Resolved.{IsMeaningless}
use Rattle.dialect_registry.proofs.Breaking.{breaks-first}
use Rattle.dialect_registry.proofs.NoAliases.{means-after, means-before, refused-unmeant}
use Rattle.dialect_registry.proofs.constants.judge_constant.Goals as goal

pub returns-in-Ok-clause-first : goal.returns-in-Ok-clause-first
returns-in-Ok-clause-first g c = λ values e sound f p.
    p.0 _ (means-before e sound c.new-aliases.ensures c.in-Ok.ensures.ok)

pub returns-in-Err-Refused-clause-first : goal.returns-in-Err-Refused-clause-first
returns-in-Err-Refused-clause-first g c = λ values e sound.
    rw c.fault_if.ensures
    (breaks-first (IsMeaningless values (tests (λ p. (goal.NativePredicate-dyn g p).property p.1) c.args.ground.now.natives.now) c.args.ground.now.types.now c.args.cst.now)
    true c.args.cst.now.place ConstantBad (
      λ t v means. refused-unmeant (Means c.args.u.now (tests (λ p. (goal.NativePredicate-dyn g p).property p.1) c.args.ground.now.natives.now)
          c.args.ground.now.types.now (alias_values c.args.u.now c.new-aliases.result) c.args.cst.now)
          c.in-Err-Refused.field-0-is c.in-Err-Refused.ensures.unmeant v
          (means-after e sound c.new-aliases.ensures means),
      λ m. refl,
    ))
