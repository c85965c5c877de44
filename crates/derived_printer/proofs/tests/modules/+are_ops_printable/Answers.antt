use Rattle.std.proofs.Common.{◌≡◌, ℕ, suc, ◌+◌, ◌<◌, length, drop, subst, arith}
use Rattle.std.specs.List.{AllByRecursion}
use Rattle.attr_value.specs.declared.head.ValueId.{ValueId}
use Rattle.derived_printer.specs.Printable.{OpIsPrintable}
use Rattle.derived_printer.proofs.FewOps.{all-from, there}
use Rattle.ir_store.specs.Modules.{types_in}
use Rattle.ir_store.specs.Numbering.{ops_in, OpSite}
use Rattle.ir_store.specs.Store.{OpName}
use Rattle.derived_printer.proofs.tests.modules.+are_ops_printable.Goals as goal

pub returns-then-is_op_printable : goal.returns-then-is_op_printable
returns-then-is_op_printable t c = λ yes.
    let P : OpSite OpName ValueId → Type 0 = λ x.
    OpIsPrintable c.args.count (length (types_in c.args.store.now)) c.args.u.now x.head in
    let within : c.args.from < length (ops_in c.args.store.now) = omega arith in
    let next : c.args.from + 1 ≡ suc c.args.from = omega arith in
    let x = there (ops_in c.args.store.now) c.args.from within in
    all-from P (ops_in c.args.store.now) c.args.from x.0 x.1
    (c.is_op_printable.ensures x.0 x.1 c.if-is_op_printable.true)
    (subst (λ (n : ℕ). AllByRecursion P (drop n (ops_in c.args.store.now))) next
    (c.are_ops_printable.ensures yes))
