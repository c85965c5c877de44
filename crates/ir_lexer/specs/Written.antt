-- Texts that are made of spellings, with blanks between them.
--
-- Such a text has these spellings as its tokens again where each is the longest where it stands.
-- Most pairs of classes may stand side by side: no spelling of the first goes on with the first
-- byte of one of the second. `may_join` names the other pairs.
--
--   text_of_pieces pieces tail     the text of the pieces, and blanks behind the last
--   NoneLonger text rest    before this rest, no spelling goes on behind the text
--   AreApart pieces tail    each piece is a spelling, and the longest where it stands
--   placed at pieces tail   the tokens of the pieces, from a place on, and the end
--   may_join a b            a spelling of a may go on with the first byte of one of b
--   is_exponent t           the text is `e` or `E`
--   begins_sign t           the text begins with `+` or `-`
use Rattle.std.specs.Prelude.{◌≡◌, ℕ, ◌+◌, ◌==◌, Bool, true, false, ◌||◌, List, [], ◌∷◌, ◌++◌, length}
use Rattle.ir_lexer.specs.declared.class.Class.{Class}
use Rattle.ir_lexer.specs.declared.class.Class.TheVariants as c
use Rattle.ir_lexer.specs.Spelling.{Text, Spells}
use Rattle.ir_lexer.specs.Tokens.{Token, is_blank, NoneFrom}

-- a spelling, and the blanks before it
pub record Piece : Type 0 where
  pub gap : Text
  pub class : Class
  pub text : Text

-- blanks alone
abbrev pub IsGap : Text → Type 0
IsGap [] = Unit {0}
IsGap (b ∷ t) = (is_blank b ≡ true) × IsGap t

-- the pieces, and blanks behind the last
abbrev pub text_of_pieces : List Piece → Text → Text
text_of_pieces [] tail = tail
text_of_pieces (p ∷ ps) tail = p.gap ++ (p.text ++ text_of_pieces ps tail)

-- no prefix of the two together that is longer than the text spells any class
abbrev pub NoneLonger : Text → Text → Type 0
NoneLonger text rest = NoneFrom (length text + 1) (text ++ rest)

-- each piece is a spelling behind blanks, and no longer spelling begins where it does
abbrev pub AreApart : List Piece → Text → Type 0
AreApart [] tail = IsGap tail
AreApart (p ∷ ps) tail =
    IsGap p.gap × Spells p.class p.text × NoneLonger p.text (text_of_pieces ps tail) × AreApart ps tail

-- the tokens of the pieces, and the end, where the first gap begins at the place
abbrev pub placed : ℕ → List Piece → Text → List Token
placed at [] tail = record { class = c.End; text = []; place = at + length tail } ∷ []
placed at (p ∷ ps) tail =
    record { class = p.class; text = p.text; place = at + length p.gap }
    ∷ placed (at + length p.gap + length p.text) ps tail

-- no spelling of the class goes on with what follows
abbrev pub EndsAt : Class → Text → Type 0
EndsAt class [] = Unit {0}
EndsAt class (b ∷ rest) =
    (t u : Text) (other : Class) → Spells class t → Spells other (t ++ b ∷ u) → ⊥

-- the classes whose spellings may begin with a letter, a digit or a `?`
abbrev pub begins_word : Class → Bool
begins_word c.Word = true
begins_word c.Integer = true
begins_word c.Float = true
begins_word c.Dims = true
begins_word _ = false

-- those that may begin with a digit or a `?`
abbrev pub begins_number : Class → Bool
begins_number c.Integer = true
begins_number c.Float = true
begins_number c.Dims = true
begins_number _ = false

-- those that begin with a `-`
abbrev pub begins_minus : Class → Bool
begins_minus c.Arrow = true
begins_minus c.Minus = true
begins_minus _ = false

-- The pairs that may run together where nothing stands between them: a name or a number before what
-- goes on with it, and the signs of two bytes.
abbrev pub may_join : Class → Class → Bool
may_join c.Word b = begins_word b
may_join c.Integer b = begins_word b
may_join c.Float b = begins_word b
may_join c.Dims c.Question = true
may_join c.Dims b = begins_number b
may_join c.ValueName b = begins_word b || begins_minus b
may_join c.BlockName b = begins_word b || begins_minus b
may_join c.SymbolName b = begins_word b || begins_minus b
may_join c.TypeName b = begins_word b || begins_minus b
may_join c.AttrName b = begins_word b || begins_minus b
may_join c.ResultNumber b = begins_number b
may_join c.Colon c.Colon = true
may_join c.Colon c.ColonColon = true
may_join c.Minus c.Greater = true
may_join c.Question c.Word = true
may_join _ _ = false

-- the text is `e` or `E`, as in the exponent of a float
abbrev pub is_exponent : Text → Bool
is_exponent (b ∷ []) = (b == 101) || (b == 69)
is_exponent _ = false

-- the text begins with `+` or `-`
abbrev pub begins_sign : Text → Bool
begins_sign [] = false
begins_sign (b ∷ t) = (b == 43) || (b == 45)
