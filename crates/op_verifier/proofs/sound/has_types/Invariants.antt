use Rattle.std.proofs.Common.{◌↔◌, drop}
use Rattle.attr_value.specs.Ids.{AreKnown}
use Rattle.ir_store.specs.Modules.{types_in}
use Rattle.op_verifier.proofs.sound.has_types.Given as goal

-- what is left decides the rest
abbrev pub invariant-loop-i : goal.invariant-loop-i
invariant-loop-i l =
    AreKnown l.len (types_in l.store) ↔ AreKnown l.len (drop l.i (types_in l.store))
