use Rattle.std.proofs.Common.{sym, ◌∙◌, rules}
use Rattle.module_names.proofs.Sizes.{size-no_digits, size-great, size-right}
use Rattle.module_names.proofs.number.pack_size.Goals as goal

pub returns-then-not-are_decimal : goal.returns-then-not-are_decimal
returns-then-not-are_decimal c =
    size-no_digits c.args.digits.now (sym c.are_decimal.ensures ∙ c.if-not-are_decimal.true)

pub returns-then-size-gt-PACK_LIMIT : goal.returns-then-size-gt-PACK_LIMIT
returns-then-size-gt-PACK_LIMIT c =
    size-great c.args.digits.now c.number_in-size.result
    (sym c.are_decimal.ensures ∙ c.if-not-are_decimal.false) c.number_in-size.ensures
    c.if-size-gt-PACK_LIMIT.true

pub returns : goal.returns
returns c =
    size-right c.args.digits.now c.number_in-size.result
    (sym c.are_decimal.ensures ∙ c.if-not-are_decimal.false) c.number_in-size.ensures
    (search rules) c.if-size-gt-PACK_LIMIT.false
