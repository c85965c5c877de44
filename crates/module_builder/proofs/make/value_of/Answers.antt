use Rattle.std.proofs.Common.{◌≡◌, Some}
use Rattle.std.specs.List.{slice_get}
use Rattle.module_builder.proofs.Taking.{meant-number}
use Rattle.module_builder.proofs.make.value_of.Goals as goal

pub returns : goal.returns
returns c =
    let got : slice_get c.args.uses.now.values c.args.at
    ≡ Some (c.in-Some.definition, c.in-Some.number) = cc in
    meant-number c.args.uses.now.values c.args.at c.args.firsts.now
    (c.in-Some.definition, c.in-Some.number) c.past.result got c.past.ensures
