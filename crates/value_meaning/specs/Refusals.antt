-- The refusal of a tree.
--
--   RefusesValue P stop    stop is the first of the faults P, or want of memory
--   ExcludesValue P stop   where stop is a fault, no value is one of P
use Rattle.std.specs.declared.option.Option.TheVariants.{Some}
use Rattle.attr_value.specs.Values.{Value}
use Rattle.first_fault.specs.declared.fault.Fault.{Fault}
use Rattle.first_fault.specs.Firsts.{IsFirst}
use Rattle.value_meaning.specs.declared.value.ValueStop.{ValueStop}
use Rattle.value_meaning.specs.declared.value.ValueStop.TheVariants.{Refused, OutOfMemory}

-- the first of these faults, or want of memory
abbrev pub RefusesValue : (Fault → Type 0) → ValueStop → Type 0
RefusesValue P (Refused fault) = IsFirst P (Some fault)
RefusesValue P OutOfMemory = Unit {0}

-- no value is one of these, unless memory ran out
abbrev pub ExcludesValue : (Value → Type 0) → ValueStop → Type 0
ExcludesValue P (Refused fault) = (v : Value) → P v → ⊥
ExcludesValue P OutOfMemory = Unit {0}
