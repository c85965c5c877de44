use Rattle.std.proofs.Common.{refl}
use Rattle.dialect_registry.specs.Scopes.{value_at}
use Rattle.dialect_registry.proofs.names.NameMap.new.Goals as goal

pub returns : goal.returns
unfolding value_at
returns g c = λ name. rw c.new.ensures.empty refl
