use Rattle.std.proofs.Common.{refl, pos}
use Rattle.ir_lexer.specs.declared.class.Class.TheVariants as class
use Rattle.derived_printer.specs.ValueMarks.{item_marks}
use Rattle.derived_printer.proofs.Printing.{exit}
use Rattle.derived_printer.proofs.Loops.{turn, turn-first, turn-second, next-at}
use Rattle.derived_printer.proofs.leaf.items.Goals as goal

pub returns-in_err-separate : goal.returns-in_err-separate
returns-in_err-separate g c =
    exit c.from_residual.ensures
    (turn-first _ _ c.loop-i.invariant c.in_err-separate.ensures
    (next-at class.Comma (item_marks c.args.width) c.args.items.now c.loop-i.i _ _ (pos 0)
    c.loop-i-test.true refl refl))

pub returns-in_err-item : goal.returns-in_err-item
returns-in_err-item g c =
    exit c.from_residual-in_err-item.ensures
    (turn-second _ _ _ c.loop-i.invariant c.in_ok-separate.ensures c.in_err-item.ensures
    (next-at class.Comma (item_marks c.args.width) c.args.items.now c.loop-i.i _ _ (pos 0)
    c.loop-i-test.true refl refl))

pub loop-i-preserved : goal.loop-i-preserved
loop-i-preserved g c =
    turn _ _ _ c.loop-i.invariant c.in_ok-separate.ensures c.in_ok-item.ensures
    (next-at class.Comma (item_marks c.args.width) c.args.items.now c.loop-i.i _ _ (pos 0)
    c.loop-i-test.true refl refl)
