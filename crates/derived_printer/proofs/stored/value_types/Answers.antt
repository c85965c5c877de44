use Rattle.std.proofs.Common.{refl}
use Rattle.attr_value.specs.Ids.{at}
use Rattle.ir_lexer.specs.declared.class.Class.TheVariants as class
use Rattle.derived_printer.specs.ModuleParts.{all_types}
use Rattle.derived_printer.specs.ValueMarks.{value_marks}
use Rattle.derived_printer.proofs.ModuleStored.{next-twice}
use Rattle.derived_printer.proofs.Printing.{exit}
use Rattle.derived_printer.proofs.Loops.{turn, turn-first, turn-second}
use Rattle.derived_printer.proofs.stored.value_types.Goals as goal

pub returns-in_err-separate : goal.returns-in_err-separate
returns-in_err-separate g c =
    let types =
    all_types c.args.m.now.form c.args.m.now.defs.now c.args.m.now.u.now c.args.m.now.store.now in
    exit c.from_residual.ensures
    (turn-first _ _ c.loop-i.invariant c.in_err-separate.ensures
    (next-twice class.Comma value_marks (at types) c.args.numbers.now c.loop-i.i _ _ 0
    c.loop-i-test.true refl refl))

pub returns-in_err-value_type : goal.returns-in_err-value_type
returns-in_err-value_type g c =
    let types =
    all_types c.args.m.now.form c.args.m.now.defs.now c.args.m.now.u.now c.args.m.now.store.now in
    exit c.from_residual-in_err-value_type.ensures
    (turn-second _ _ _ c.loop-i.invariant c.in_ok-separate.ensures c.in_err-value_type.ensures
    (next-twice class.Comma value_marks (at types) c.args.numbers.now c.loop-i.i _ _ 0
    c.loop-i-test.true refl refl))

pub loop-i-preserved : goal.loop-i-preserved
loop-i-preserved g c =
    let types =
    all_types c.args.m.now.form c.args.m.now.defs.now c.args.m.now.u.now c.args.m.now.store.now in
    turn _ _ _ c.loop-i.invariant c.in_ok-separate.ensures c.in_ok-value_type.ensures
    (next-twice class.Comma value_marks (at types) c.args.numbers.now c.loop-i.i _ _ 0
    c.loop-i-test.true refl refl)
