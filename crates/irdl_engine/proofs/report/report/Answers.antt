use Rattle.std.proofs.Common.{refl}
use Rattle.irdl_engine.proofs.Given.{says-as}
use Rattle.irdl_engine.proofs.report.report.Goals as goal

pub returns-in-Unreadable-clause-says : goal.returns-in-Unreadable-clause-says
returns-in-Unreadable-clause-says g c =
    rw c.in-Unreadable.is (says-as _ _ _ _ _ _ c.report_name.ensures.says refl
    (rw c.name_of.ensures))

pub returns-in-TooLong-clause-says : goal.returns-in-TooLong-clause-says
returns-in-TooLong-clause-says g c =
    rw c.in-TooLong.is (says-as _ _ _ _ _ _ c.report_name-in-TooLong.ensures.says refl
    (rw c.name_of-in-TooLong.ensures))
