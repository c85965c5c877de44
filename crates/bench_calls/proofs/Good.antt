-- Good values can be printed, where no dialect defines any.
use Rattle.std.proofs.Common.{◌≡◌, List, [], sym, subst}
use Rattle.std.specs.Prelude.{IfOk, IfSome}
use Rattle.std.specs.Result.{result_ok}
use Rattle.std.specs.declared.result.Result.{Result}
use Rattle.std.specs.declared.result.Result.TheVariants.{Ok, Err}
use Rattle.attr_value.specs.declared.head.ValueId.{ValueId}
use Rattle.attr_value.specs.Ids.{at}
use Rattle.attr_value.specs.Values.{Value}
use Rattle.dialect_defs.specs.declared.definition.TypeDef.{TypeDef}
use Rattle.dialect_defs.specs.Assignments.{Tests}
use Rattle.derived_printer.specs.Spellable.{HaveFullNames, Spellable}
use Rattle.derived_printer.proofs.Good.{good-spellable}
use Rattle.generic_syntax.specs.declared.cst.ValueCst.{ValueCst}
use Rattle.value_meaning.specs.declared.value.ValueStop.{ValueStop}
use Rattle.value_meaning.specs.Faults.{Means}
use Rattle.value_meaning.specs.Meaning.{Aliases}

-- the value that a tree means can be printed
pub meant-spellable : (old new : List Value) (tests : Tests) (types : List TypeDef)
    (aliases : Aliases) (c : ValueCst) (r : Result ValueId ValueStop) → types ≡ []
    → IfOk r (λ id. Means old tests types aliases c (at new id.0))
    → IfSome (result_ok r) (λ id. Spellable (at new id.0))
meant-spellable old new tests types aliases c (Ok id) none means =
    good-spellable old tests types (at new id.0)
    (subst HaveFullNames (sym none) (record { each = tt })) means.good
meant-spellable old new tests types aliases c (Err stop) none means = tt
