use Rattle.std.proofs.Common.{refl, arith}
use Rattle.ir_lexer.specs.declared.class.Class.TheVariants as class
use Rattle.derived_printer.specs.ModuleMarks.{value_name}
use Rattle.derived_printer.proofs.ModulePieces.{next-number, end-numbers}
use Rattle.derived_printer.proofs.Printing.{exit}
use Rattle.derived_printer.proofs.Loops.{turn, turn-first, turn-second, went-end}
use Rattle.derived_printer.proofs.number_names.names_from.Goals as goal

pub returns-in_err-separate : goal.returns-in_err-separate
returns-in_err-separate g c =
    exit c.from_residual.ensures
    (turn-first _ _ c.loop-i.invariant c.in_err-separate.ensures
    (next-number class.Comma value_name c.args.first c.args.count c.loop-i.i _
    c.loop-i-test.true refl))

pub returns-in_err-value_name : goal.returns-in_err-value_name
returns-in_err-value_name g c =
    exit c.from_residual-in_err-value_name.ensures
    (turn-second _ _ _ c.loop-i.invariant c.in_ok-separate.ensures c.in_err-value_name.ensures
    (next-number class.Comma value_name c.args.first c.args.count c.loop-i.i _
    c.loop-i-test.true refl))

pub loop-i-preserved : goal.loop-i-preserved
loop-i-preserved g c =
    turn _ _ _ c.loop-i.invariant c.in_ok-separate.ensures c.in_ok-value_name.ensures
    (next-number class.Comma value_name c.args.first c.args.count c.loop-i.i _
    c.loop-i-test.true refl)

pub returns : goal.returns
returns g c =
    went-end c.loop-i.invariant
    (end-numbers class.Comma value_name c.args.first c.args.count c.loop-i.i (omega arith))
