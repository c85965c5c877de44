use Rattle.std.proofs.Common.{ap, sym, ◌∙◌}
use Rattle.symbol_scopes.specs.declared.call.Call.TheVariants.{Name}
use Rattle.symbol_scopes.specs.Faults.{fault_if}
use Rattle.symbol_scopes.specs.Listed.{bindings_in}
use Rattle.symbol_scopes.proofs.Judging.{define-fault, less-is, less-not}
use Rattle.symbol_scopes.proofs.values.value_fault.Goals as goal

pub returns-then-slot-before : goal.returns-then-slot-before
returns-then-slot-before c =
    sym (define-fault c.args.names.now (bindings_in c.args.names.now c.args.listed.now)
    c.args.walk.now.round.round c.args.before c.args.next _ _ _ c.slot.result
    (c.in-Name.is ∙ ap (Name c.in-Name.name) c.in-Define.is) c.slot.ensures c.requires.most
    ∙ ap (λ b. fault_if b c.in-Define.place 8) (less-is _ _ c.if-slot-before.true))

pub returns-else-slot-before : goal.returns-else-slot-before
returns-else-slot-before c =
    sym (define-fault c.args.names.now (bindings_in c.args.names.now c.args.listed.now)
    c.args.walk.now.round.round c.args.before c.args.next _ _ _ c.slot.result
    (c.in-Name.is ∙ ap (Name c.in-Name.name) c.in-Define.is) c.slot.ensures c.requires.most
    ∙ ap (λ b. fault_if b c.in-Define.place 8) (less-not _ _ c.if-slot-before.false))
