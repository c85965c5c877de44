use Rattle.std.proofs.Common.{◌≡◌, ◌≢◌, ap, subst, sym, ◌∙◌, rules, Ok}
use Rattle.ir_lexer.specs.declared.class.Class.TheVariants.{End}
use Rattle.ir_lexer.specs.Reading.{Reading}
use Rattle.ir_lexer.specs.Scan.{next_token}
use Rattle.ir_lexer.specs.Slice.{slice_source}
use Rattle.ir_lexer.specs.Source.{Advances}
use Rattle.ir_lexer.proofs.Sliced.{at_end, goes-to, end-is}
use Rattle.ir_lexer.proofs.slice.SliceTokensTokenSource.advance.Goals as goal

pub returns-then-ne-clause-step : goal.returns-then-ne-clause-step
unfolding slice_source
returns-then-ne-clause-step c =
    let s = c.self.inside in
    let other : s.now.class ≢ End = search rules in
    let present = c.self.invariant.present in
    let token = next_token s.src.now s.from in
    let behind = end-is s.src.now s.now token present c.self.invariant.inside in
    let to : Reading = record { text = s.src.now; place = s.now.end } in
    subst (λ r. Advances (slice_source r) (Ok tt) (slice_source to)) c.self.view_is
    (goes-to s.src.now s.from s.now.end (λ e. other (ap (λ t. t.class) present ∙ e)) behind)

pub returns-else-ne-clause-step : goal.returns-else-ne-clause-step
unfolding slice_source
returns-else-ne-clause-step c =
    let s = c.self.inside in
    let same : s.now.class ≡ End = search rules in
    subst (λ r. Advances (slice_source r) (Ok tt) (slice_source r)) c.self.view_is
    (at_end s.src.now s.from (sym (ap (λ t. t.class) c.self.invariant.present) ∙ same))
