use Rattle.std.proofs.Common.{◌↔◌, drop}
use Rattle.op_verifier.specs.Sound.{RegionsAreBelow}
use Rattle.op_verifier.proofs.sound.are_regions_below.Given as goal

-- what is left decides the rest
abbrev pub invariant-loop-entry : goal.invariant-loop-entry
invariant-loop-entry l =
    RegionsAreBelow l.n l.entries ↔ RegionsAreBelow l.n (drop l.entry-index l.entries)
