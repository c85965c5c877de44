use Rattle.dialect_registry.proofs.Walks.{sees-none}
use Rattle.dialect_registry.proofs.body.see_word.Goals as goal

pub returns-in-Some : goal.returns-in-Some
returns-in-Some c = rw (← c.word_of.ensures, c.in-Some.is) c.begin.ensures

pub returns-in-None : goal.returns-in-None
returns-in-None c = rw (← c.word_of.ensures, c.in-None.is) (sees-none c.args.scope.now)
