use Rattle.std.proofs.Common.{◌≡◌, ℕ, suc, ◌+◌, drop, sym, ◌∙◌, subst, arith}
use Rattle.std.specs.List.{AllByRecursion}
use Rattle.derived_printer.specs.Printable.{CanBeSpelled}
use Rattle.derived_printer.proofs.FewOps.{all-from}
use Rattle.ir_store.specs.Modules.{types_in}
use Rattle.derived_printer.proofs.tests.modules.+are_types_spellable.Goals as goal

pub returns-then-can_be_spelled : goal.returns-then-can_be_spelled
returns-then-can_be_spelled t c = λ yes.
    let next : c.args.from + 1 ≡ suc c.args.from = omega arith in
    all-from (CanBeSpelled c.args.u.now) (types_in c.args.store.now) c.args.from c.in-Some.ty
    (sym c.type_of.ensures ∙ c.in-Some.is)
    (c.can_be_spelled.ensures c.if-can_be_spelled.true)
    (subst (λ (n : ℕ). AllByRecursion (CanBeSpelled c.args.u.now)
    (drop n (types_in c.args.store.now))) next (c.are_types_spellable.ensures yes))
