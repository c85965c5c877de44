-- Definitions of operations stay sound as the table of values grows.
use Rattle.std.proofs.Common.{ℕ, ◌≤◌, List, [], ◌∷◌}
use Rattle.constraint_solver.proofs.Grows.{sound-body-grows}
use Rattle.dialect_defs.specs.declared.definition.OpDef.{OpDef}
use Rattle.op_verifier.specs.Sound.{IsSoundOp, AreSoundOps}

pub sound-op-grows : {m n count : ℕ} {d : OpDef} → m ≤ n → IsSoundOp m count d → IsSoundOp n count d
sound-op-grows most sound = record {
  body = sound-body-grows most sound.body;
  names = sound.names;
}

pub sound-ops-grows : (m n count : ℕ) (defs : List OpDef) → m ≤ n → AreSoundOps m count defs
    → AreSoundOps n count defs
sound-ops-grows m n count [] most sound = tt
sound-ops-grows m n count (d ∷ defs) most sound =
    (sound-op-grows most sound.0, sound-ops-grows m n count defs most sound.1)
