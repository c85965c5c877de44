use Rattle.dialect_registry.proofs.Walks.{on-ok, sees-then}
use Rattle.dialect_registry.proofs.body.see_statement.Goals as goal

pub returns : goal.returns
returns c = on-ok c.see_kind.result
    (sees-then _ _ c.args.scope.now c.see_word.new.scope c.see_kind.new.scope
    c.in_ok-see_word.ensures)
    c.see_kind.ensures
