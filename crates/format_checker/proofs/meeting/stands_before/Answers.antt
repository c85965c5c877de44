use Rattle.attr_value.proofs.Order.{is-text-lt}
use Rattle.format_checker.proofs.meeting.stands_before.Goals as goal

pub returns : goal.returns
returns c = is-text-lt c.args.a.now c.args.b.now c.lt.result c.lt.ensures
