use Rattle.std.proofs.Common.{subst}
use Rattle.module_names.specs.ModuleNotes.{module_notes}
use Rattle.module_names.specs.Said.{Said}
use Rattle.symbol_scopes.specs.NameRefusal.{RefusesNames}
use Rattle.elaborate.proofs.Meaning.{names-meant, names-refused, names-right}
use Rattle.elaborate.proofs.names.judge_names.Goals as goal

pub returns-in-Ok-clause-right : goal.returns-in-Ok-clause-right
returns-in-Ok-clause-right c =
    let tree = c.args.tree.now in
    let ms = c.note_module.new.scopes in
    names-right tree ms (subst (λ l. Said l ms (module_notes tree)) c.new-scopes.ensures
    c.in_ok-note_module.ensures) c.in-Ok.ensures.ok

pub returns-in-Ok-clause-meant : goal.returns-in-Ok-clause-meant
returns-in-Ok-clause-meant c =
    let tree = c.args.tree.now in
    let ms = c.note_module.new.scopes in
    names-meant tree ms (subst (λ l. Said l ms (module_notes tree)) c.new-scopes.ensures
    c.in_ok-note_module.ensures) c.in-Ok.uses c.in-Ok.ensures.values c.in-Ok.ensures.blocks

pub returns-in-Err-Refused-clause-refused : goal.returns-in-Err-Refused-clause-refused
returns-in-Err-Refused-clause-refused c =
    let tree = c.args.tree.now in
    let ms = c.note_module.new.scopes in
    names-refused tree ms (subst (λ l. Said l ms (module_notes tree)) c.new-scopes.ensures
    c.in_ok-note_module.ensures) _
    (subst (RefusesNames ms) c.in-Err-Refused.field-0-is c.in-Err-Refused.ensures.refused)
