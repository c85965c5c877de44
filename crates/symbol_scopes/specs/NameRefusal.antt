-- The refusal of a text for its names.
--
--   RefusesNames ms stop     stop is the first fault of these marks, or want of memory
use Rattle.std.specs.Prelude.{List}
use Rattle.std.specs.declared.option.Option.TheVariants.{Some}
use Rattle.symbol_scopes.specs.declared.scopes.NameStop.{NameStop}
use Rattle.symbol_scopes.specs.declared.scopes.NameStop.TheVariants.{Refused, OutOfMemory}
use Rattle.symbol_scopes.specs.ScopeMarks.{ScopeMark}
use Rattle.first_fault.specs.Firsts.{IsFirst}
use Rattle.symbol_scopes.specs.Faults.{IsNameFault}

-- the first fault, or want of memory
abbrev pub RefusesNames : List ScopeMark → NameStop → Type 0
RefusesNames ms (Refused place code) =
    IsFirst (IsNameFault ms) (Some (record { place = place; code = code }))
RefusesNames ms OutOfMemory = Unit {0}
