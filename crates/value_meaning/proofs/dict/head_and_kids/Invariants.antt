use Rattle.std.proofs.Common.{◌≡◌, map, take}
use Rattle.value_meaning.specs.Dicts.{keyed}
use Rattle.value_meaning.proofs.dict.head_and_kids.Given as goal

pub record Begun (l : goal.Live-loop-entry) : Type 0 where
  pub keys : l.keys ≡ map (λ e. e.0) (keyed (take l.entry-index l.entries))
  pub kids : l.kids.items ≡ map (λ e. e.1) (keyed (take l.entry-index l.entries))

abbrev pub invariant-loop-entry : goal.invariant-loop-entry
invariant-loop-entry l = Begun l
