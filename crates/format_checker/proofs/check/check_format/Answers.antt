use Rattle.format_checker.proofs.Accepting.{readable-from}
use Rattle.format_checker.proofs.Unequal.{accepts, refuses}
use Rattle.format_checker.proofs.check.check_format.Goals as goal

pub returns-clause-accepts : goal.returns-clause-accepts
returns-clause-accepts c =
    accepts c.args.op.now c.args.raw.now c.args.length c.judged.result c.judged.ensures.ok
    c.judged.ensures.refused

pub returns-clause-readable : goal.returns-clause-readable
returns-clause-readable c =
    readable-from c.args.op.now c.args.raw.now c.judged.result c.judged.ensures.ok

pub returns-clause-refuses : goal.returns-clause-refuses
returns-clause-refuses c =
    refuses c.args.op.now c.args.raw.now c.args.length c.judged.result c.judged.ensures.ok
    c.judged.ensures.refused
