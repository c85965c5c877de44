use Rattle.std.proofs.Common.{refl, arith}
use Rattle.ir_lexer.specs.declared.class.Class.TheVariants as class
use Rattle.derived_printer.specs.ModuleParts.{all_types, argument_at}
use Rattle.derived_printer.proofs.ModulePieces.{next-number, end-numbers}
use Rattle.derived_printer.proofs.Printing.{exit}
use Rattle.derived_printer.proofs.Loops.{turn, turn-first, turn-second, went-end}
use Rattle.derived_printer.proofs.labels.argument_list.Goals as goal

pub returns-in_err-separate : goal.returns-in_err-separate
returns-in_err-separate g c =
    let types =
    all_types c.args.m.now.form c.args.m.now.defs.now c.args.m.now.u.now c.args.m.now.store.now in
    exit c.from_residual.ensures
    (turn-first _ _ c.loop-i.invariant c.in_err-separate.ensures
    (next-number class.Comma (argument_at types) c.args.first c.args.count c.loop-i.i _
    c.loop-i-test.true refl))

pub returns-in_err-argument : goal.returns-in_err-argument
returns-in_err-argument g c =
    let types =
    all_types c.args.m.now.form c.args.m.now.defs.now c.args.m.now.u.now c.args.m.now.store.now in
    exit c.from_residual-in_err-argument.ensures
    (turn-second _ _ _ c.loop-i.invariant c.in_ok-separate.ensures c.in_err-argument.ensures
    (next-number class.Comma (argument_at types) c.args.first c.args.count c.loop-i.i _
    c.loop-i-test.true refl))

pub loop-i-preserved : goal.loop-i-preserved
loop-i-preserved g c =
    let types =
    all_types c.args.m.now.form c.args.m.now.defs.now c.args.m.now.u.now c.args.m.now.store.now in
    turn _ _ _ c.loop-i.invariant c.in_ok-separate.ensures c.in_ok-argument.ensures
    (next-number class.Comma (argument_at types) c.args.first c.args.count c.loop-i.i _
    c.loop-i-test.true refl)

pub returns : goal.returns
returns g c =
    let types =
    all_types c.args.m.now.form c.args.m.now.defs.now c.args.m.now.u.now c.args.m.now.store.now in
    went-end c.loop-i.invariant
    (end-numbers class.Comma (argument_at types) c.args.first c.args.count c.loop-i.i (omega arith))

pub argument-requires-clause-known : goal.argument-requires-clause-known
argument-requires-clause-known g c = c.requires.known c.loop-i.i c.loop-i-test.true
