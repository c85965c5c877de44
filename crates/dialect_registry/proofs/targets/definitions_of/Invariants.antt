use Rattle.std.proofs.Common.{◌≡◌, take}
use Rattle.std.specs.Prelude.{option_map}
use Rattle.ir_lexer.specs.Spelling.{Text}
use Rattle.dialect_registry.specs.Scopes.{value_at}
use Rattle.dialect_registry.specs.Targets.{target_of, def_named}
use Rattle.dialect_registry.proofs.targets.definitions_of.Given as goal

abbrev pub invariant-loop-def : goal.invariant-loop-def
invariant-loop-def l = (name : Text) → value_at l.named name
    ≡ option_map target_of (def_named (take l.def-index l.def-items) name)
