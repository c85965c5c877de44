use Rattle.type_infer.specs.Completes.{Tells}
use Rattle.type_infer.specs.Rule.{ShowsBy}
use Rattle.type_infer.proofs.More.{infers-more}
use Rattle.type_infer.proofs.laws.infers_more.Goals as goal

pub returns : goal.returns
returns c = λ d operands results shown more infers.
    infers-more d (ShowsBy operands results) (Tells shown) (λ i e is shows. more i shows) infers
