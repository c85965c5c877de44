use Rattle.std.proofs.Common.{◌↔◌, drop}
use Rattle.std.specs.List.{AllByRecursion}
use Rattle.ir_store.specs.Numbering.{ops_in}
use Rattle.stored_module.proofs.places.ops_are_held.Given as goal
use Rattle.stored_module.specs.Held.{IsHeld}

-- it holds of all if it does of what is left
abbrev pub invariant-loop-i : goal.invariant-loop-i
invariant-loop-i l =
    AllByRecursion IsHeld (ops_in l.store) ↔ AllByRecursion IsHeld (drop l.i (ops_in l.store))
