use Rattle.completion_laws.proofs.Faultless.{uses-are-those, those-are-uses}
use Rattle.completion_laws.proofs.laws.uses_of_one.Goals as goal

pub returns : goal.returns
returns c loaded distinct tree m nearly f =
    (uses-are-those loaded distinct tree m nearly f, those-are-uses loaded distinct tree m nearly f)
