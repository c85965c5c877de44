use Rattle.std.proofs.Common.{◌++◌, arith}
use Rattle.format_checker.proofs.Best.{best-end}
use Rattle.format_checker.proofs.meeting.place_of_meeting.Goals as goal

pub loop-at-init : goal.loop-at-init
loop-at-init c = (best-end c.args.own.now (c.args.near.now ++ c.args.far.now), omega arith)
