use Rattle.std.proofs.Common.{refl, ◌∙◌}
use Rattle.ir_lexer.specs.declared.class.Class.TheVariants as class
use Rattle.derived_printer.specs.ValueMarks.{part_marks}
use Rattle.derived_printer.proofs.Printing.{exit}
use Rattle.derived_printer.proofs.Loops.{turn, turn-first, turn-second, next-at}
use Rattle.derived_printer.proofs.leaf.symbol.Goals as goal

pub returns-in_err-separate : goal.returns-in_err-separate
returns-in_err-separate g c =
    exit c.from_residual.ensures
    (turn-first _ _ c.loop-i.invariant c.in_err-separate.ensures
    (next-at class.ColonColon part_marks c.args.parts.now c.loop-i.i _ _ _ c.loop-i-test.true refl
    c.index-parts-i.is))

pub returns-in_err-part : goal.returns-in_err-part
returns-in_err-part g c =
    exit c.from_residual-in_err-part.ensures
    (turn-second _ _ _ c.loop-i.invariant c.in_ok-separate.ensures c.in_err-part.ensures
    (next-at class.ColonColon part_marks c.args.parts.now c.loop-i.i _ _ _ c.loop-i-test.true refl
    (c.bytes.ensures ∙ c.index-parts-i.is)))

pub loop-i-preserved : goal.loop-i-preserved
loop-i-preserved g c =
    turn _ _ _ c.loop-i.invariant c.in_ok-separate.ensures c.in_ok-part.ensures
    (next-at class.ColonColon part_marks c.args.parts.now c.loop-i.i _ _ _ c.loop-i-test.true refl
    (c.bytes.ensures ∙ c.index-parts-i.is))
