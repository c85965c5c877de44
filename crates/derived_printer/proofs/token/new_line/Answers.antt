use Rattle.derived_printer.proofs.Printing.{prints-call}
use Rattle.derived_printer.proofs.token.new_line.Goals as goal

pub returns : goal.returns
returns g c =
    prints-call c.break_line.ensures.lays c.break_line.ensures.again c.break_line.ensures.untouched
    c.break_line.ensures.same_sink
