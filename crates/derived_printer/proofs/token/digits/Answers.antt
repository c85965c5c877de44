use Rattle.std.proofs.Common.{arith, ◌∙◌}
use Rattle.derived_printer.proofs.Spelled.{decimal-spelled}
use Rattle.derived_printer.proofs.token.digits.Goals as goal

pub token-requires : goal.token-requires
token-requires g c =
    rw (c.as_bytes.ensures.value ∙ c.format.ensures.text)
    (decimal-spelled c.args.n (let small = c.ranges.n in omega (arith, small)))
