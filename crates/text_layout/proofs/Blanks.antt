-- The front of a line feed and spaces.
use Rattle.std.proofs.Common.{◌≡◌, ℕ, suc, ◌+◌, ◌-◌, ◌≤◌, ◌∷◌, take, drop, ◌∙◌, ap, arith}
use Rattle.std.proofs.lemmas.List.{take-replicate}
use Rattle.ir_lexer.specs.Signs.{line_feed, space}
use Rattle.ir_lexer.specs.Spelling.{Text}
use Rattle.text_layout.specs.Lines.{spaces}

-- the first spaces behind the line feed
pub indent-front : (m n : ℕ) (t : Text) → n ≤ m → t ≡ line_feed ∷ spaces m
    → take (1 + n - 1) (drop 1 t) ≡ spaces n
indent-front m n t le e =
    let same : 1 + n - 1 ≡ n = omega arith in
    ap (λ k. take k (drop 1 t)) same ∙ ap (λ s. take n (drop 1 s)) e ∙ take-replicate n m space le

-- the line feed and the first spaces
pub break-front : (m n : ℕ) (t : Text) → n ≤ m → t ≡ line_feed ∷ spaces m
    → take (1 + n) t ≡ line_feed ∷ spaces n
break-front m n t le e =
    let same : 1 + n ≡ suc n = omega arith in
    ap (λ k. take k t) same ∙ ap (λ s. take (suc n) s) e
    ∙ ap (λ s. line_feed ∷ s) (take-replicate n m space le)
