use Rattle.std.proofs.Common.{refl}
use Rattle.value_meaning.proofs.Gathering.{kids-none}
use Rattle.value_meaning.proofs.judged.Kids.new.Goals as goal

pub returns-clause-none : goal.returns-clause-none
returns-clause-none c = λ g n new. kids-none g n new _ c.new.ensures.items refl refl
