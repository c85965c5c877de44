use Rattle.std.proofs.Common.{◌≡◌, false, sym, arith, ◌∙◌}
use Rattle.grammar.proofs.Widths.{too-wide-at}
use Rattle.grammar.specs.Looks.{spells_width}
use Rattle.value_meaning.proofs.word.short_decimal.Goals as goal

pub returns-then-width-gt-WIDTH_LIMIT : goal.returns-then-width-gt-WIDTH_LIMIT
returns-then-width-gt-WIDTH_LIMIT c =
    let ds = c.args.digits.now in
    let wide : spells_width 0 ds ≡ false = sym c.loop-digit.invariant.rest
    ∙ too-wide-at ds c.loop-digit.digit-index c.loop-digit.width
    c.loop-digit-test.true (omega arith) in
    rw wide
