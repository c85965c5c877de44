use Rattle.std.proofs.Common.{subst}
use Rattle.std.specs.Prelude.{IfErr}
use Rattle.native_predicate.specs.Lists.{tests}
use Rattle.value_meaning.specs.AliasTable.{alias_values}
use Rattle.value_meaning.specs.Faults.{IsFault}
use Rattle.value_meaning.specs.Refusals.{RefusesValue}
use Rattle.dialect_registry.specs.Registered.{Registered}
use Rattle.dialect_registry.proofs.registry.Registry.value.Goals as goal

pub returns-clause-refused : goal.returns-clause-refused
returns-clause-refused g c =
    subst (λ (r : Registered). IfErr c.value_in.result (RefusesValue (IsFault c.args.u.now
    (tests (λ p. (goal.NativePredicate-dyn g p).property p.1) c.args.natives.now) r.types
    (alias_values c.args.u.now c.args.aliases.now) 1 c.args.cst.now))) c.self.view_is
    c.value_in.ensures.refused
