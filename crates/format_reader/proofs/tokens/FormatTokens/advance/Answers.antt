use Rattle.std.proofs.Common.{◌≡◌, ◌∷◌, false, ap, subst, ◌∙◌, rules}
use Rattle.grammar.specs.Looks.{any_of, passes}
use Rattle.ir_lexer.specs.declared.class.Class.TheVariants.{End}
use Rattle.ir_lexer.specs.Reading.{token_shown}
use Rattle.format_reader.specs.Ran.{now_of, behind}
use Rattle.format_reader.specs.Scan.{next_token, tokens_behind}
use Rattle.format_reader.proofs.Next.{advanced, shown-end, end-passes}
use Rattle.format_reader.proofs.tokens.FormatTokens.advance.Goals as goal

pub returns-then-ne : goal.returns-then-ne
returns-then-ne c =
    let s = c.self.inside in
    let src = s.text.now in
    let t = token_shown src s.present in
    let next = token_shown src c.token_at-self-inside.result in
    let end = shown-end src s.present c.self.invariant.inside.0 c.self.invariant.inside.1 in
    subst (λ ts. passes (any_of End) (now_of ts) ≡ false
    → next ∷ tokens_behind src next ≡ behind ts) c.self.view_is
    (λ other. advanced src t next other
    (c.token_at-self-inside.ensures.value ∙ ap (next_token src) end))

pub returns-else-ne : goal.returns-else-ne
returns-else-ne c =
    let s = c.self.inside in
    let src = s.text.now in
    let t = token_shown src s.present in
    let same : s.present.class ≡ End = search rules in
    subst (λ ts. passes (any_of End) (now_of ts) ≡ false → ts ≡ behind ts) c.self.view_is
    (λ other. absurd (cc (end-passes t same, other)))
