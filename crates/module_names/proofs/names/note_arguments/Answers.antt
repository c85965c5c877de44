use Rattle.symbol_scopes.specs.Regions as say
use Rattle.module_names.specs.ModuleNotes.{argument_noted}
use Rattle.module_names.specs.Said.{Said, one}
use Rattle.module_names.proofs.Saying.{said-more, said-then}
use Rattle.module_names.proofs.names.note_arguments.Goals as goal

pub loop-a-preserved : goal.loop-a-preserved
loop-a-preserved c =
    let a = c.a-item.result in
    let defined : Said c.loop-a.scopes c.define.new.self (one (say.defines
    (record { name = a.name; place = a.place; count = 1 }))) =
    record { is = rw c.bytes.ensures at c.in_ok-define.ensures.ok } in
    said-more argument_noted c.args.args.now _ _ _ _ _ c.loop-a-test.true c.a-item.is
    c.loop-a.invariant (said-then _ _ _ _ _ defined c.in_ok-note_value.ensures)
