use Rattle.std.proofs.Common.{◌≡◌, subst}
use Rattle.attr_value.specs.Heads.{text_lt}
use Rattle.attr_value.proofs.Order.{is-text-lt}
use Rattle.attr_value.proofs.rule.stands_before.Goals as goal

pub returns : goal.returns
returns c =
    let first = subst (λ a. c.lt.result ≡ text_lt a c.bytes-2.result.now) c.bytes.ensures
    (is-text-lt c.bytes.result.now c.bytes-2.result.now c.lt.result c.lt.ensures) in
    subst (λ b. c.lt.result ≡ text_lt c.args.a.now b) c.bytes-2.ensures first
