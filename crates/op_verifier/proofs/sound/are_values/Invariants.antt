use Rattle.std.proofs.Common.{◌↔◌, ◌<◌, drop}
use Rattle.std.specs.List.{AllByRecursion}
use Rattle.op_verifier.proofs.sound.are_values.Given as goal

-- what is left decides the rest
abbrev pub invariant-loop-number : goal.invariant-loop-number
invariant-loop-number l =
    AllByRecursion (λ k. k < l.n) l.numbers
    ↔ AllByRecursion (λ k. k < l.n) (drop l.number-index l.numbers)
