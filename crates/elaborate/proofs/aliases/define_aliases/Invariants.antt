use Rattle.std.proofs.Common.{take}
use Rattle.constraint_solver.specs.Grown.{Extends}
use Rattle.elaborate.specs.Aliases.{AreKnownSo}
use Rattle.native_predicate.specs.Lists.{tests}
use Rattle.value_meaning.specs.AliasTable.{AreGoodAliases}
use Rattle.elaborate.proofs.aliases.define_aliases.Given as goal

-- the aliases before are known
abbrev pub invariant-loop-alias : goal.invariant-loop-alias
invariant-loop-alias g l =
    let said = tests (λ p. (goal.NativePredicate-dyn g p).property p.1) l.natives in
    record {
      grown : Extends l.fn.u l.u;
      good : AreGoodAliases l.u said l.registry.types l.aliases;
      known : AreKnownSo l.fn.u said l.registry.types (take l.alias-index l.list) l.u l.aliases;
    }
