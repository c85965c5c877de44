use Rattle.std.proofs.Common.{refl}
use Rattle.dialect_registry.proofs.Known.{knows-none}
use Rattle.dialect_registry.proofs.scope.Scope.new.Goals as goal

pub returns : goal.returns
returns c = knows-none _ c.new.ensures c.new-2.ensures c.new-3.ensures refl refl
