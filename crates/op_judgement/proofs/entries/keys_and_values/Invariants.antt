use Rattle.std.proofs.Common.{◌≡◌, map, take}
use Rattle.value_meaning.specs.Dicts.{keyed}
use Rattle.op_judgement.proofs.entries.keys_and_values.Given as goal

pub record Begun (l : goal.Live-loop-entry) : Type 0 where
  pub keys : l.keys ≡ map (λ e. e.0) (keyed (take l.entry-index l.entries))
  pub values : l.values ≡ map (λ e. e.1) (keyed (take l.entry-index l.entries))

abbrev pub invariant-loop-entry : goal.invariant-loop-entry
invariant-loop-entry l = Begun l
