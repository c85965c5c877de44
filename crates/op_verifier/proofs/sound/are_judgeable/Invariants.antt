use Rattle.std.proofs.Common.{◌↔◌, drop}
use Rattle.std.specs.List.{AllByRecursion}
use Rattle.ir_store.specs.Numbering.{ops_in}
use Rattle.op_verifier.specs.Meets.{IsJudgeable}
use Rattle.op_verifier.proofs.sound.are_judgeable.Given as goal

-- what is left decides the rest
abbrev pub invariant-loop-i : goal.invariant-loop-i
invariant-loop-i l =
    AllByRecursion (IsJudgeable l.count l.len l.store) (ops_in l.store)
    ↔ AllByRecursion (IsJudgeable l.count l.len l.store) (drop l.i (ops_in l.store))
