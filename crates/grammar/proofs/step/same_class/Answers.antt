use Rattle.ir_lexer.specs.Classes.{same_class}
use Rattle.grammar.proofs.step.same_class.Goals as goal

pub returns-clause-value : goal.returns-clause-value
unfolding same_class
returns-clause-value c = c.eq.ensures
