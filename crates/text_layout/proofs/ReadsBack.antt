-- The tokens of a layout are those that were handed in.
--
-- The layout is a text of pieces: each token is a spelling behind the blanks that the layout put
-- before it. That none is longer where it stands goes by induction from the last token to the
-- first.
use Rattle.std.proofs.Common.{◌≡◌, inl, inr, ℕ, ◌+◌, Bool, true, false, ◌&&◌, ◌||◌, not, List, [], ◌∷◌, ◌++◌, length, refl, sym, ◌∙◌, ap, subst, arith, append_assoc, length-append, eqb-true, ◌==◌, Some}
use Rattle.ir_lexer.specs.declared.class.Class.{Class}
use Rattle.ir_lexer.specs.declared.class.Class.TheVariants as c
use Rattle.ir_lexer.specs.Signs.{line_feed}
use Rattle.ir_lexer.specs.Spelling.{Text, Spells}
use Rattle.ir_lexer.specs.Tokens.{AreTokens, is_blank}
use Rattle.ir_lexer.specs.Written.{Piece, IsGap, text_of_pieces, AreApart, NoneLonger, placed, is_exponent, begins_sign}
use Rattle.ir_lexer.proofs.Apart.{at-blank, ends-longest, or-either, pieces-back}
use Rattle.ir_lexer.proofs.Derive.{and-right, and-both}
use Rattle.ir_lexer.proofs.Longest.{none-empty}
use Rattle.text_layout.specs.declared.gap.Gap.{Gap}
use Rattle.text_layout.specs.declared.gap.Gap.TheVariants as gap
use Rattle.text_layout.specs.Apart.{AreSpelled, may_run_together, may_clash, is_float_class, ends_with_float, is_empty, keeps_apart, are_apart, tokens_from, tokens_of}
use Rattle.text_layout.specs.Lines.{Mark, token, ask, break_line, Row, Line, first_line, gap_before, first_of, line_end, line_after, line_behind, text_of, layout}
use Rattle.text_layout.proofs.Touching.{append-gap, gap-is-blank, end-is-blank, touching}

-- a line that has tokens
abbrev on : ℕ → Row → Gap → Line
on indent row asked = record { indent = indent; row = Some row; gap = asked }

-- the bytes of marks, and the end of the last line
abbrev rest_of : Line → List Mark → Text
rest_of line ms = text_of line ms ++ line_end (line_behind line ms).row

-- the bytes of a token, and what follows them
at-token : (line : Line) (b : Class) (y : Text) (ms : List Mark)
    → rest_of line (token b y ∷ ms)
    ≡ gap_before line b y ++ (y ++ rest_of (line_after line (token b y)) ms)
at-token line b y ms =
    let g = gap_before line b y in
    let t = text_of (line_after line (token b y)) ms in
    let e = line_end (line_behind (line_after line (token b y)) ms).row in
    append_assoc (g ++ y) t e ∙ append_assoc g y (t ++ e)

no-sign-blank : (b : ℕ) → is_blank b ≡ true → ((b == 43) || (b == 45)) ≡ true → ⊥
no-sign-blank b blank sign = elim (or-either (b == 43) (b == 45) sign) [
  | inl e ↦ absurd (cc (blank, ap is_blank (eqb-true b 43 e)))
  | inr e ↦ absurd (cc (blank, ap is_blank (eqb-true b 45 e)))
]

-- what the test says of a token that stands without a gap
no-clash : (clash rest : Bool) (g : Text) → (not (clash && is_empty g) && rest) ≡ true → g ≡ []
    → clash ≡ false
no-clash true rest [] e is = absurd (cc)
no-clash true rest (b ∷ g) e is = absurd (cc)
no-clash false rest g e is = refl

or-left-false : (p q : Bool) → (p || q) ≡ false → p ≡ false
or-left-false true q e = absurd (cc)
or-left-false false q e = refl

or-right-false : (p q : Bool) → (p || q) ≡ false → q ≡ false
or-right-false true q e = absurd (cc)
or-right-false false q e = e

-- behind an exponent, no sign follows without a gap
no-sign : (indent : ℕ) (row : Row) (asked : Gap) (ms : List Mark) → AreSpelled ms
    → keeps_apart true (on indent row asked) ms ≡ true
    → begins_sign (rest_of (on indent row asked) ms) ≡ true → ⊥
no-sign indent row asked [] spelled test sign = absurd (cc)
no-sign indent row asked (ask next ∷ ms) spelled test sign =
    no-sign indent row next ms spelled test sign
no-sign indent row asked (break_line n ∷ ms) spelled test sign = absurd (cc)
no-sign indent row asked (token b y ∷ ms) (f, spelled) test sign =
    let line = on indent row asked in
    at-gap (gap_before line b y) y (rest_of (line_after line (token b y)) ms) f
    (gap-is-blank asked indent (Some row) b y)
    (λ e. or-right-false (may_run_together row.last b) (begins_sign y)
    (no-clash (may_run_together row.last b || begins_sign y) _ (gap_before line b y) test e))
    (sym (ap begins_sign (at-token line b y ms)) ∙ sign)
  where
    at-gap : (g y rest : Text) → Spells b y → IsGap g → (g ≡ [] → begins_sign y ≡ false)
        → begins_sign (g ++ (y ++ rest)) ≡ true → ⊥
    at-gap [] [] rest f blank none sign = none-empty b f
    at-gap [] (k ∷ y) rest f blank none sign = absurd (cc (none refl, sign))
    at-gap (k ∷ g) y rest f blank none sign = no-sign-blank k blank.0 sign

-- before the marks that follow it, no spelling is longer than the last token of the line
after-row : (ms : List Mark) (indent : ℕ) (row : Row) (asked : Gap) (exponent : Bool)
    → Spells row.last row.text → AreSpelled ms
    → keeps_apart exponent (on indent row asked) ms ≡ true
    → NoneLonger row.text (rest_of (on indent row asked) ms)
after-row [] indent row asked exponent f spelled test =
    ends-longest row.last row.text (line_feed ∷ []) f (at-blank row.last line_feed [] refl)
after-row (ask next ∷ ms) indent row asked exponent f spelled test =
    after-row ms indent row next exponent f spelled test
after-row (break_line n ∷ ms) indent row asked exponent f spelled test =
    let rest = rest_of (line_after (on indent row asked) (break_line n)) ms in
    ends-longest row.last row.text (line_feed ∷ rest) f (at-blank row.last line_feed rest refl)
after-row (token b y ∷ ms) indent row asked exponent f (g, spelled) test =
    let line = on indent row asked in
    let next : Row = record { first = first_of asked (Some row) b; last = b; text = y } in
    let touch = is_empty (gap_before line b y) in
    let opens = is_float_class row.last && (is_exponent y && touch) in
    let clash = may_clash exponent (Some row) b y in
    let later : keeps_apart opens (on indent next gap.Plain) ms ≡ true =
    and-right (not (clash && touch)) (keeps_apart opens (on indent next gap.Plain) ms) test in
    subst (NoneLonger row.text) (sym (at-token line b y ms))
    (at-gap (gap_before line b y) refl (gap-is-blank asked indent (Some row) b y)
    (rest_of (on indent next gap.Plain) ms)
    (λ e. touching asked indent row b y (rest_of (on indent next gap.Plain) ms) f g e
    (or-left-false (may_run_together row.last b) (exponent && begins_sign y)
    (no-clash clash _ (gap_before line b y) test e))
    (after-row ms indent next gap.Plain opens g spelled later)
    (λ float is sign. no-sign indent next gap.Plain ms spelled
    (subst (λ v. keeps_apart v (on indent next gap.Plain) ms ≡ true)
    (opened float is e) later) sign)))
  where
    at-gap : (t : Text) → gap_before (on indent row asked) b y ≡ t → IsGap t → (rest : Text)
        → (gap_before (on indent row asked) b y ≡ [] → NoneLonger row.text (y ++ rest))
        → NoneLonger row.text (t ++ (y ++ rest))
    at-gap [] e blank rest h = h e
    at-gap (k ∷ t) e blank rest h =
        ends-longest row.last row.text (k ∷ (t ++ (y ++ rest))) f
        (at-blank row.last k (t ++ (y ++ rest)) blank.0)

    opened : row.last ≡ c.Float → is_exponent y ≡ true → gap_before (on indent row asked) b y ≡ []
        → (is_float_class row.last && (is_exponent y && is_empty (gap_before (on indent row asked) b y)))
        ≡ true
    opened float is e = and-both _ _ (ap is_float_class float) (and-both _ _ is (ap is_empty e))

-- ---- the layout as pieces

-- the tokens with the blanks before them, where some stand there already
pieces : Text → Line → List Mark → List Piece
pieces before line [] = []
pieces before line (token b y ∷ ms) =
    record { gap = before ++ gap_before line b y; class = b; text = y }
    ∷ pieces [] (line_after line (token b y)) ms
pieces before line (ask next ∷ ms) = pieces before (line_after line (ask next)) ms
pieces before line (break_line n ∷ ms) =
    pieces (before ++ line_end line.row) (line_after line (break_line n)) ms

-- the blanks behind the last token
tail-of : Text → Line → List Mark → Text
tail-of before line [] = before ++ line_end line.row
tail-of before line (token b y ∷ ms) = tail-of [] (line_after line (token b y)) ms
tail-of before line (ask next ∷ ms) = tail-of before (line_after line (ask next)) ms
tail-of before line (break_line n ∷ ms) =
    tail-of (before ++ line_end line.row) (line_after line (break_line n)) ms

written-is : (ms : List Mark) (before : Text) (line : Line)
    → text_of_pieces (pieces before line ms) (tail-of before line ms) ≡ before ++ rest_of line ms
unfolding pieces tail-of
written-is [] before line = refl
written-is (token b y ∷ ms) before line =
    let g = gap_before line b y in
    append_assoc before g (y ++ text_of_pieces (pieces [] (line_after line (token b y)) ms)
    (tail-of [] (line_after line (token b y)) ms))
    ∙ ap (λ t. before ++ (g ++ (y ++ t))) (written-is ms [] (line_after line (token b y)))
    ∙ ap (λ t. before ++ t) (sym (at-token line b y ms))
written-is (ask next ∷ ms) before line = written-is ms before (line_after line (ask next))
written-is (break_line n ∷ ms) before line =
    let after = line_after line (break_line n) in
    let e = line_end line.row in
    written-is ms (before ++ e) after
    ∙ append_assoc before e (rest_of after ms)
    ∙ ap (λ t. before ++ t)
    (sym (append_assoc e (text_of after ms) (line_end (line_behind after ms).row)))

placed-is : (ms : List Mark) (before : Text) (line : Line) (at : ℕ)
    → placed at (pieces before line ms) (tail-of before line ms)
    ≡ tokens_from (at + length before) line ms
unfolding pieces tail-of
placed-is [] before line at =
    ap (λ n. record { class = c.End; text = []; place = n } ∷ [])
    (omega (arith, length-append before (line_end line.row)))
placed-is (token b y ∷ ms) before line at =
    let g = gap_before line b y in
    let after = line_after line (token b y) in
    let here : at + length (before ++ g) ≡ at + length before + length g =
    omega (arith, length-append before g) in
    let behind : at + length (before ++ g) + length y + 0
    ≡ at + length before + length g + length y =
    omega (arith, here) in
    ap (λ n. record { class = b; text = y; place = n }
    ∷ placed (at + length (before ++ g) + length y) (pieces [] after ms) (tail-of [] after ms)) here
    ∙ ap (λ ts. record { class = b; text = y; place = at + length before + length g } ∷ ts)
    (placed-is ms [] after (at + length (before ++ g) + length y)
    ∙ ap (λ n. tokens_from n after ms) behind)
placed-is (ask next ∷ ms) before line at = placed-is ms before (line_after line (ask next)) at
placed-is (break_line n ∷ ms) before line at =
    placed-is ms (before ++ line_end line.row) (line_after line (break_line n)) at
    ∙ ap (λ k. tokens_from k (line_after line (break_line n)) ms)
    (omega (arith, length-append before (line_end line.row)))

all-apart : (ms : List Mark) (before : Text) (line : Line) (exponent : Bool) → IsGap before
    → AreSpelled ms → keeps_apart exponent line ms ≡ true
    → AreApart (pieces before line ms) (tail-of before line ms)
unfolding pieces tail-of
all-apart [] before line exponent blank spelled test =
    append-gap before (line_end line.row) blank (end-is-blank line.row)
all-apart (token b y ∷ ms) before line exponent blank (f, spelled) test =
    let after = line_after line (token b y) in
    let touch = is_empty (gap_before line b y) in
    let opens = ends_with_float line.row && (is_exponent y && touch) in
    let clash = may_clash exponent line.row b y && touch in
    let later : keeps_apart opens after ms ≡ true =
    and-right (not clash) (keeps_apart opens after ms) test in
    let row : Row = record { first = first_of line.gap line.row b; last = b; text = y } in (
      append-gap before (gap_before line b y) blank
          (gap-is-blank line.gap line.indent line.row b y),
      f,
      subst (NoneLonger y) (sym (written-is ms [] after))
          (after-row ms line.indent row gap.Plain opens f spelled later),
      all-apart ms [] after opens tt spelled later,
    )
all-apart (ask next ∷ ms) before line exponent blank spelled test =
    all-apart ms before (line_after line (ask next)) exponent blank spelled test
all-apart (break_line n ∷ ms) before line exponent blank spelled test =
    all-apart ms (before ++ line_end line.row) (line_after line (break_line n)) false
    (append-gap before (line_end line.row) blank (end-is-blank line.row)) spelled test

-- the tokens of a layout are those handed in, where they keep apart
pub layout-reads-back : (marks : List Mark) → AreSpelled marks → are_apart marks ≡ true
    → AreTokens (layout marks) (tokens_of marks)
layout-reads-back marks spelled test =
    subst (AreTokens (layout marks)) (placed-is marks [] first_line 0)
    (pieces-back (pieces [] first_line marks) (tail-of [] first_line marks) (layout marks) 0
    (sym (written-is marks [] first_line)) (all-apart marks [] first_line false tt spelled test))
