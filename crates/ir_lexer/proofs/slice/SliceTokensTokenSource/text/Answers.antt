use Rattle.std.proofs.Common.{◌∙◌, ap}
use Rattle.ir_lexer.specs.Slice.{slice_source}
use Rattle.ir_lexer.proofs.slice.SliceTokensTokenSource.text.Goals as goal

pub returns : goal.returns
unfolding slice_source
returns c =
    ap (λ t. t.text) c.self.invariant.present ∙ ap (λ r. (slice_source r).now.text) c.self.view_is
