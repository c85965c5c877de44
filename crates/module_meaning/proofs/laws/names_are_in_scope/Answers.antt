use Rattle.module_meaning.proofs.ScopesHold.{module-in-scope}
use Rattle.module_meaning.specs.Completes.{AsMany}
use Rattle.module_meaning.proofs.laws.names_are_in_scope.Goals as goal

pub returns : goal.returns
returns c loaded forms aliases cs m p =
    module-in-scope loaded forms aliases AsMany (λ ts ns e. e) cs m p
