use Rattle.std.proofs.Common.{arith}
use Rattle.constraint_solver.proofs.Grows.{sound-defs-grows}
use Rattle.native_predicate.specs.Lists.{tests}
use Rattle.value_meaning.specs.AliasTable.{alias_values}
use Rattle.value_meaning.specs.Faults.{Means}
use Rattle.dialect_registry.proofs.NoAliases.{from-nothing, means-after, means-before, refused-unmeant}
use Rattle.dialect_registry.proofs.resolve.constraint.constant.Goals as goal

pub value_in-requires-clause-defs : goal.value_in-requires-clause-defs
value_in-requires-clause-defs g c = sound-defs-grows (omega arith) c.requires.shapes

pub returns-in-Ok-clause-ok : goal.returns-in-Ok-clause-ok
returns-in-Ok-clause-ok g c = record {
  known = c.in-Ok.ensures.known;
  means = means-before (from-nothing c.args.u.now) c.requires.shapes c.new-aliases.ensures
      c.in-Ok.ensures.ok;
}

pub returns-in-Err-Refused-clause-bad : goal.returns-in-Err-Refused-clause-bad
returns-in-Err-Refused-clause-bad g c = λ e v means.
    refused-unmeant (Means c.args.u.now (tests (λ p. (goal.NativePredicate-dyn g p).property p.1) c.args.env.now.natives.now)
    c.args.env.now.shapes.now (alias_values c.args.u.now c.new-aliases.result) c.args.cst.now)
    c.in-Err-Refused.field-0-is c.in-Err-Refused.ensures.unmeant v
    (means-after (from-nothing c.args.u.now) c.requires.shapes c.new-aliases.ensures means)
