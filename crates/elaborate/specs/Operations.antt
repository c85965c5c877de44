-- What is found of the operations that stand in a tree.
--
-- As in `op_judgement`, `loaded` is what is defined, `al` are the values of aliases, and `now` is
-- the table of which ids are.
--
--   FaultAmong F ss f                     f is what F says of an operation among these
--   IsValueFaultAmong loaded al ss f      a value of an operation among these is at fault
--   IsOpFaultAmong loaded al ss f         an operation is; the number is the rank of its rule
--   AreFound loaded al ss now found       the first faults, and where there is none the ids
--
-- Inside: no public clause rests on this.
use Rattle.std.specs.Prelude.{◌≡◌, Bool, List, Contains}
use Rattle.std.specs.List.{AllZip}
use Rattle.std.specs.declared.option.Option.TheVariants.{None}
use Rattle.attr_value.specs.Values.{Value}
use Rattle.elaborate.specs.declared.operations.Found.{Found}
use Rattle.first_fault.specs.declared.fault.Fault.{Fault}
use Rattle.first_fault.specs.Firsts.{IsFirst}
use Rattle.generic_syntax.specs.declared.module_cst.OpCst.{OpCst}
use Rattle.module_faults.specs.OpFaults.{IsOpFault, IsValueFault}
use Rattle.module_faults.specs.Standings.{Standing, an_op, ops_of}
use Rattle.module_meaning.specs.Facts.{no_forms}
use Rattle.module_meaning.specs.WholeModules.{Loaded}
use Rattle.op_judgement.specs.Judged.{AreIdsOf}
use Rattle.value_meaning.specs.Meaning.{Aliases}

-- an operation that stands among these has the fault, as F says of it
pub record FaultAmong (F : OpCst → Bool → Fault → Type 0) (ss : List Standing) (f : Fault) : Type 0
  where
    pub op : OpCst
    pub is_last : Bool
    pub stands : Contains ss (an_op op is_last)
    pub fault : F op is_last f

module _ (loaded : Loaded) (al : Aliases) where
  -- a value of an operation that stands among these is at fault
  abbrev pub IsValueFaultAmong : List Standing → Fault → Type 0
  IsValueFaultAmong = FaultAmong (λ op is_last. IsValueFault loaded no_forms al op)

  -- an operation is
  abbrev pub IsOpFaultAmong : List Standing → Fault → Type 0
  IsOpFaultAmong = FaultAmong (IsOpFault loaded no_forms al)

  -- The first fault of values; where there is none, the first of operations; and where there is
  -- none, the ids of what each says.
  pub record AreFound (ss : List Standing) (now : List Value) (found : Found) : Type 0 where
    pub values : IsFirst (IsValueFaultAmong ss) found.values
    pub operations : found.values ≡ None → IsFirst (IsOpFaultAmong ss) found.operations
    pub ids : found.values ≡ None → found.operations ≡ None
        → AllZip (λ c ids. AreIdsOf loaded al c now ids) (ops_of ss) found.ids.items
