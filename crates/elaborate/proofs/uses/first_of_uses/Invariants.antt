use Rattle.std.proofs.Common.{take}
use Rattle.elaborate.specs.Uses.{IsWrongUse}
use Rattle.first_fault.specs.Firsts.{IsFirst}
use Rattle.ir_store.specs.Modules.{types_in}
use Rattle.elaborate.proofs.uses.first_of_uses.Given as goal

-- the first of those before
abbrev pub invariant-loop-i : goal.invariant-loop-i
invariant-loop-i l =
    IsFirst (IsWrongUse (types_in l.store) (take l.i l.uses) l.shown l.numbers) l.first
