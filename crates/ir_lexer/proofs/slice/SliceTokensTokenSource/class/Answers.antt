use Rattle.std.proofs.Common.{◌∙◌, ap}
use Rattle.ir_lexer.specs.Slice.{slice_source}
use Rattle.ir_lexer.proofs.Sliced.{in-order}
use Rattle.ir_lexer.proofs.slice.SliceTokensTokenSource.class.Goals as goal

pub returns-clause-class : goal.returns-clause-class
unfolding slice_source
returns-clause-class c =
    ap (λ t. t.class) c.self.invariant.present ∙ ap (λ r. (slice_source r).now.class) c.self.view_is

pub returns-clause-order : goal.returns-clause-order
unfolding slice_source
returns-clause-order c = in-order c.args.self.now.text c.args.self.now.place
