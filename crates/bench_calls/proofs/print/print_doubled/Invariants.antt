use Rattle.std.proofs.Common.{[], ◌<◌, length}
use Rattle.attr_value.specs.Ids.{at}
use Rattle.derived_printer.specs.Spellable.{Spellable}
use Rattle.value_meaning.specs.AliasTable.{AreGoodAliases}
use Rattle.bench_calls.proofs.print.print_doubled.Given as goal

-- the aliases are good, and the last value can be printed
abbrev pub invariant-each : goal.invariant-each
invariant-each l = record {
  good : AreGoodAliases l.u [] [] l.aliases;
  known : l.last.0 < length l.u;
  spellable : Spellable (at l.u l.last.0);
}
