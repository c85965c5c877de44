use Rattle.std.proofs.Common.{ap, arith, length}
use Rattle.generic_syntax.specs.declared.module_cst.FormCst.{out-FormCst}
use Rattle.ir_store.specs.Store.{head_of}
use Rattle.elaborate.proofs.UseWalk.{generic-uses, operands-there}
use Rattle.elaborate.proofs.uses.first_of_form.Goals as goal

pub first_of_uses-requires-clause-numbers : goal.first_of_uses-requires-clause-numbers
first_of_uses-requires-clause-numbers c =
    let form = ap length (generic-uses c.args.form.now c.in-Generic.g c.in-Generic.is) in
    let uses = ap length c.as_slice.ensures in
    let numbers = ap length c.as_slice-in-Generic.ensures in
    let many = operands-there c.args.store.now c.args.op (out-FormCst c.args.form.now)
    (head_of c.op-row.result.now) c.requires.there c.requires.fits c.op-row.ensures.head in
    omega (arith, form, uses, numbers, many)
