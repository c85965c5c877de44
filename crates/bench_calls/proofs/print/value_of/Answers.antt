use Rattle.std.proofs.Common.{sym, subst}
use Rattle.std.specs.Prelude.{IfSome}
use Rattle.std.specs.declared.option.Option.{Option}
use Rattle.attr_value.specs.declared.head.ValueId.{ValueId}
use Rattle.attr_value.specs.Ids.{at}
use Rattle.derived_printer.specs.Spellable.{Spellable}
use Rattle.bench_calls.proofs.Good.{meant-spellable}
use Rattle.bench_calls.proofs.print.value_of.Goals as goal

pub returns-clause-spellable : goal.returns-clause-spellable
returns-clause-spellable c =
    subst (λ (o : Option ValueId). IfSome o (λ id. Spellable (at c.value_in.new.u id.0)))
    (sym c.ok.ensures.value)
    (meant-spellable _ c.value_in.new.u _ _ _ _ c.value_in.result c.requires.none c.value_in.ensures.ok)
