use Rattle.std.proofs.Common.{◌≡◌, ◌+◌, take}
use Rattle.op_judgement.specs.Arity.{values_named}
use Rattle.op_judgement.proofs.arity.are_as_many.Given as goal

abbrev pub invariant-loop-name : goal.invariant-loop-name
invariant-loop-name l = l.left + values_named (take l.name-index l.named) ≡ l.fn.count
