use Rattle.std.proofs.Common.{◌∙◌, bytes_eq, sym}
use Rattle.std.specs.HashMap.{get}
use Rattle.dialect_registry.proofs.Maps.{keeps-known}
use Rattle.dialect_registry.proofs.operations.note.Goals as goal

pub returns-then-contains_key : goal.returns-then-contains_key
returns-then-contains_key c = λ other.
    keeps-known (get bytes_eq c.args.places.now) c.args.name.now other c.args.place
    (sym c.contains_key.ensures ∙ c.if-contains_key.true)
