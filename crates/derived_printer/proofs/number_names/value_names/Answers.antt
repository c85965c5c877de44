use Rattle.std.proofs.Common.{refl}
use Rattle.ir_lexer.specs.declared.class.Class.TheVariants as class
use Rattle.derived_printer.specs.ModuleMarks.{value_name}
use Rattle.derived_printer.proofs.Printing.{exit}
use Rattle.derived_printer.proofs.Loops.{turn, turn-first, turn-second, next-at}
use Rattle.derived_printer.proofs.number_names.value_names.Goals as goal

pub returns-in_err-separate : goal.returns-in_err-separate
returns-in_err-separate g c =
    exit c.from_residual.ensures
    (turn-first _ _ c.loop-i.invariant c.in_err-separate.ensures
    (next-at class.Comma value_name c.args.numbers.now c.loop-i.i _ _ 0 c.loop-i-test.true refl
    refl))

pub returns-in_err-value_name : goal.returns-in_err-value_name
returns-in_err-value_name g c =
    exit c.from_residual-in_err-value_name.ensures
    (turn-second _ _ _ c.loop-i.invariant c.in_ok-separate.ensures c.in_err-value_name.ensures
    (next-at class.Comma value_name c.args.numbers.now c.loop-i.i _ _ 0 c.loop-i-test.true refl
    refl))

pub loop-i-preserved : goal.loop-i-preserved
loop-i-preserved g c =
    turn _ _ _ c.loop-i.invariant c.in_ok-separate.ensures c.in_ok-value_name.ensures
    (next-at class.Comma value_name c.args.numbers.now c.loop-i.i _ _ 0 c.loop-i-test.true refl
    refl)
