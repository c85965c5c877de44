use Rattle.std.proofs.Common.{sym, subst}
use Rattle.std.specs.declared.option.Option.TheVariants.{Some}
use Rattle.native_predicate.specs.Lists.{names}
use Rattle.dialect_registry.specs.Codes.{IsRule}
use Rattle.dialect_registry.specs.DefFaults.{IsFault, IsFirstIn}
use Rattle.dialect_registry.specs.Loaded.{in_rules}
use Rattle.dialect_registry.proofs.loading.load.Goals as goal

pub returns-in-Some-clause-refused : goal.returns-in-Some-clause-refused
returns-in-Some-clause-refused g c =
    in_rules (subst (λ f. IsFirstIn (IsFault c.args.raw.now (names (λ p. (goal.NativePredicate-dyn g p).title p.1) c.args.natives.now)) (Some f))
    (sym c.plain.ensures.fault) (rw c.in-Some.is at c.in_ok-fault.ensures.first))
    c.plain.ensures.plain
