use Rattle.std.proofs.Common.{refl}
use Rattle.format_checker.specs.Tables.{flag}
use Rattle.format_checker.proofs.Flags.{not-all}
use Rattle.format_checker.proofs.shown.Flags.has_all.Goals as goal

pub returns-in-Some : goal.returns-in-Some
returns-in-Some c =
    not-all (flag c.args.self.now) c.in-Some.field-0 c.args.count
    (c.in-Some.ensures.some c.in-Some.field-0 refl)
