use Rattle.std.proofs.Common.{length, subst, sym, ap, ◌∙◌}
use Rattle.ir_lexer.specs.Reading.{token_shown}
use Rattle.ir_lexer.specs.Tokens.{IsNext}
use Rattle.ir_lexer.proofs.Next.{is_next, next-end}
use Rattle.ir_lexer.proofs.lexer.Lexer.next.Goals as goal

pub returns-clause-next : goal.returns-clause-next
returns-clause-next c =
    let l = c.self.inside in
    let token = c.token_at-token.result in
    subst (λ r. IsNext r.text r.place (token_shown r.text token)) c.self.view_is
    (subst (IsNext l.src.now l.at) (sym c.token_at-token.ensures.value) (is_next l.src.now l.at))

pub returns-clause-end : goal.returns-clause-end
returns-clause-end c end =
    let l = c.self.inside in
    let token = c.token_at-token in
    next-end l.src.now l.at token.result token.ensures.value token.ensures.inside end
    ∙ ap (λ r. length r.text) c.self.view_is
