use Rattle.std.proofs.Common.{refl}
use Rattle.dialect_registry.specs.Scopes.{holds}
use Rattle.dialect_registry.proofs.names.NameSet.new.Goals as goal

pub returns : goal.returns
unfolding holds
returns c = λ name. rw c.new.ensures.empty refl
