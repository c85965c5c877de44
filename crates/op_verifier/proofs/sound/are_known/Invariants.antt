use Rattle.std.proofs.Common.{◌↔◌, drop}
use Rattle.attr_value.specs.Ids.{AreKnown}
use Rattle.op_verifier.proofs.sound.are_known.Given as goal

-- what is left decides the rest
abbrev pub invariant-loop-id : goal.invariant-loop-id
invariant-loop-id l =
    AreKnown l.len l.ids ↔ AreKnown l.len (drop l.id-index l.ids)
