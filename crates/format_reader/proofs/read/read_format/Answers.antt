use Rattle.format_reader.proofs.Answered.{read-ok, read-refused, read-accepts}
use Rattle.format_reader.proofs.read.read_format.Goals as goal

pub returns-clause-ok : goal.returns-clause-ok
returns-clause-ok c =
    read-ok c.args.text.now c.new-t.result c.new-t.ensures c.whole_format.result
    c.whole_format.ensures

pub returns-clause-accepts : goal.returns-clause-accepts
returns-clause-accepts c =
    read-accepts c.args.text.now c.new-t.result c.new-t.ensures c.whole_format.result
    c.whole_format.ensures

pub returns-clause-refused : goal.returns-clause-refused
returns-clause-refused c =
    read-refused c.args.text.now c.new-t.result c.new-t.ensures c.whole_format.result
    c.whole_format.ensures
