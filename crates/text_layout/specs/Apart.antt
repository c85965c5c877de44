-- When the tokens of a layout are those that were handed in.
--
-- Between most tokens that stand without a space, none is needed: no spelling of the first class
-- goes on with the first byte of one of the second. But the gap rules put none between six pairs of
-- classes that may run together. And an empty literal puts none where two texts stay apart, which a
-- third text can undo in one case: a float, `e` or `E`, and a sign, as in `1.5e-5`.
--
--   AreSpelled marks      each token's text spells its class
--   are_apart marks       no tokens that may run together stand side by side without a gap
--   never_clash marks     by the classes alone, no tokens run together
--   tokens_of marks       the tokens, at their places in the layout, and the end
use Rattle.std.specs.Prelude.{ℕ, ◌+◌, Bool, true, false, not, ◌&&◌, ◌||◌, List, [], ◌∷◌, length, Option, Some, None}
use Rattle.ir_lexer.specs.declared.class.Class.{Class}
use Rattle.ir_lexer.specs.declared.class.Class.TheVariants as c
use Rattle.ir_lexer.specs.Spelling.{Text, Spells}
use Rattle.ir_lexer.specs.Tokens.{Token}
use Rattle.ir_lexer.specs.Written.{is_exponent, begins_sign}
use Rattle.text_layout.specs.Lines.{Mark, token, ask, break_line, Row, Line, first_line, gap_before, line_end, line_after}

-- each token's text spells its class
abbrev pub AreSpelled : List Mark → Type 0
AreSpelled [] = Unit {0}
AreSpelled (token class text ∷ marks) = Spells class text × AreSpelled marks
AreSpelled (ask gap ∷ marks) = AreSpelled marks
AreSpelled (break_line indent ∷ marks) = AreSpelled marks

-- The pairs of classes that may run together and between which the gap rules put no space:
-- dimensions before a number, dimensions or `?`; `:` before `::`; and `-` before `>`.
abbrev pub may_run_together : Class → Class → Bool
may_run_together c.Dims c.Integer = true
may_run_together c.Dims c.Float = true
may_run_together c.Dims c.Dims = true
may_run_together c.Dims c.Question = true
may_run_together c.Colon c.ColonColon = true
may_run_together c.Minus c.Greater = true
may_run_together _ _ = false

-- the class is that of floats
abbrev pub is_float_class : Class → Bool
is_float_class c.Float = true
is_float_class _ = false

-- the line's last token is a float
abbrev pub ends_with_float : Option Row → Bool
ends_with_float None = false
ends_with_float (Some row) = is_float_class row.last

-- the text has no byte
abbrev pub is_empty : Text → Bool
is_empty [] = true
is_empty (b ∷ t) = false

-- no gap stands before the token
abbrev pub touches : Line → Class → Text → Bool
touches line b text = is_empty (gap_before line b text)

-- The line's last token and one of the class b may run together: by their classes, or since the
-- last one is an exponent behind a float, and this one begins with a sign.
abbrev pub may_clash : Bool → Option Row → Class → Text → Bool
may_clash exponent None b text = false
may_clash exponent (Some row) b text = may_run_together row.last b || (exponent && begins_sign text)

-- No tokens that may run together stand side by side without a gap. The flag says that the line's
-- last token is `e` or `E` and stands behind a float without a gap.
abbrev pub keeps_apart : Bool → Line → List Mark → Bool
keeps_apart exponent line [] = true
keeps_apart exponent line (token b text ∷ marks) =
    not (may_clash exponent line.row b text && touches line b text)
    && keeps_apart (ends_with_float line.row && (is_exponent text && touches line b text))
    (line_after line (token b text)) marks
keeps_apart exponent line (ask gap ∷ marks) =
    keeps_apart exponent (line_after line (ask gap)) marks
keeps_apart exponent line (break_line indent ∷ marks) =
    keeps_apart false (line_after line (break_line indent)) marks

-- no tokens of marks that may run together stand side by side without a gap
abbrev pub are_apart : List Mark → Bool
are_apart marks = keeps_apart false first_line marks

-- behind a token of the class, if there is one, no token is a float, and no two in a row are of
-- classes that may run together
abbrev pub clash_never : Option Class → List Mark → Bool
clash_never last [] = true
clash_never None (token b text ∷ marks) = not (is_float_class b) && clash_never (Some b) marks
clash_never (Some a) (token b text ∷ marks) =
    not (is_float_class b) && (not (may_run_together a b) && clash_never (Some b) marks)
clash_never last (ask gap ∷ marks) = clash_never last marks
clash_never last (break_line indent ∷ marks) = clash_never last marks

-- A test that looks at no gap: what passes it passes `are_apart`.
abbrev pub never_clash : List Mark → Bool
never_clash marks = clash_never None marks

-- the tokens of marks, from a place on
abbrev pub tokens_from : ℕ → Line → List Mark → List Token
tokens_from at line [] =
    record { class = c.End; text = []; place = at + length (line_end line.row) } ∷ []
tokens_from at line (token class text ∷ marks) =
    let place = at + length (gap_before line class text) in
    record { class = class; text = text; place = place }
    ∷ tokens_from (place + length text) (line_after line (token class text)) marks
tokens_from at line (ask gap ∷ marks) = tokens_from at (line_after line (ask gap)) marks
tokens_from at line (break_line indent ∷ marks) =
    tokens_from (at + length (line_end line.row)) (line_after line (break_line indent)) marks

-- the tokens of marks at their places, and the end of the text
abbrev pub tokens_of : List Mark → List Token
tokens_of marks = tokens_from 0 first_line marks
