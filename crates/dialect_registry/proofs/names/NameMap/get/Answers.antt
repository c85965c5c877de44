use Rattle.dialect_registry.specs.Scopes.{value_at}
use Rattle.dialect_registry.proofs.names.NameMap.get.Goals as goal

pub returns : goal.returns
unfolding value_at
returns g c = c.get.ensures.value
