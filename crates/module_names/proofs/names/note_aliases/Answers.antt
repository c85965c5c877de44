use Rattle.symbol_scopes.specs.Regions as say
use Rattle.module_names.specs.ModuleNotes.{alias_noted}
use Rattle.module_names.specs.Said.{Said, one}
use Rattle.module_names.proofs.Saying.{said-more, said-then}
use Rattle.module_names.proofs.names.note_aliases.Goals as goal

pub loop-alias-preserved : goal.loop-alias-preserved
loop-alias-preserved c =
    let a = c.alias-item.result in
    let defined : Said c.note_value.new.scopes c.define_alias.new.self (one (say.defines_alias
    (record { is_type = a.is_type; name = a.name; place = a.place }))) =
    record { is = rw c.bytes.ensures at c.in_ok-define_alias.ensures.ok } in
    said-more alias_noted c.args.aliases.now _ _ _ _ _ c.loop-alias-test.true c.alias-item.is
    c.loop-alias.invariant (said-then _ _ _ _ _ c.in_ok-note_value.ensures defined)
