use Rattle.value_rows.proofs.Sound.{sound-new}
use Rattle.value_rows.proofs.desk.Desk.new.Goals as goal

pub returns : goal.returns
returns c = λ types sound names. sound-new types _ sound names c.new.ensures c.new-2.ensures
