use Rattle.std.proofs.Common.{◌↔◌, drop}
use Rattle.op_verifier.specs.Sound.{AreSoundOps}
use Rattle.op_verifier.proofs.sound.are_sound_ops.Given as goal

-- what is left decides the rest
abbrev pub invariant-loop-def : goal.invariant-loop-def
invariant-loop-def l =
    AreSoundOps l.len l.count l.defs ↔ AreSoundOps l.len l.count (drop l.def-index l.defs)
