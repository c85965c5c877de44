use Rattle.std.proofs.Common.{◌≡◌, ◌-◌, ◌≤◌, ◌∙◌, ap, rules, arith, to_z, of_z}
use Rattle.std.specs.Prelude.{pos, ◌*ℤ◌}
use Rattle.std.specs.Int.{w128}
use Rattle.attr_value.specs.Numbers.{power}
use Rattle.attr_value.proofs.Powers.{twice-power}
use Rattle.attr_value.proofs.number.half_of.Goals as goal

pub returns-clause-doubled : goal.returns-clause-doubled
returns-clause-doubled c =
    let width : 1 ≤ c.args.width = omega arith in
    let half : to_z w128 (of_z w128 c.from.result) ≡ power (c.args.width - 1) = search rules in
    ap (λ z. pos 2 *ℤ z) half ∙ twice-power c.args.width width
