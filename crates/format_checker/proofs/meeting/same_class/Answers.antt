use Rattle.ir_lexer.specs.Classes.{same_class}
use Rattle.format_checker.proofs.meeting.same_class.Goals as goal

pub returns : goal.returns
unfolding same_class
returns c = c.eq.ensures
