use Rattle.std.proofs.Common.{sym, ◌∙◌}
use Rattle.grammar.proofs.Widths.{too-wide-at}
use Rattle.format_checker.proofs.word.spells_width.Goals as goal

pub returns-then-width-gt-WIDTH_LIMIT : goal.returns-then-width-gt-WIDTH_LIMIT
returns-then-width-gt-WIDTH_LIMIT c =
    sym (too-wide-at c.args.digits.now c.loop-digit.digit-index c.loop-digit.width
    c.loop-digit-test.true c.if-width-gt-WIDTH_LIMIT.true)
    ∙ c.loop-digit.invariant.rest
