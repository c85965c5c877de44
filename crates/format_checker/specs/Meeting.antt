-- Looks that meet, and which of them is told.
--
-- Two looks meet where one token may pass both: they are equal, or one is `intword` and the other a
-- word that names an integer type, or one is `dotted` and the other a word with a dot. Of several
-- looks the first is told, in this order: the signs `:` `::` `,` `=` `<` `>` `(` `)` `{` `}` `[`
-- `]` `->` `-` `?` `+` `*`, then value, block, symbol, typename, attrname, integer, string,
-- intword, dotted, end, and then words by their bytes.
--
--   meets p q                  one token may pass both
--   meets_some p qs            the look meets one of these
--   precedes p q               p comes before q
--   first_meeting own others   the first look of the own that meets one of the others
--   IsFirstMeeting own others l
--                              the same, as a relation
use Rattle.std.specs.Prelude.{◌≡◌, ℕ, Bool, true, false, ◌||◌, List, [], ◌∷◌, Option, Some, None, nat_lt, slice_get, if◌then◌else◌}
use Rattle.std.specs.List.{list_any}
use Rattle.attr_value.specs.Heads.{text_lt}
use Rattle.ir_lexer.specs.declared.class.Class.{Class}
use Rattle.ir_lexer.specs.declared.class.Class.TheVariants as c
use Rattle.grammar.specs.Looks as grammar
use Rattle.format_checker.specs.declared.look.Look.{Look}
use Rattle.format_checker.specs.declared.look.Look.TheVariants as look
use Rattle.format_checker.specs.Fits.{demand}

-- one token may pass both
abbrev pub meets : Look → Look → Bool
meets p q = grammar.looks_meet (demand p) (demand q)

abbrev pub meets_some : Look → List Look → Bool
meets_some p qs = list_any (meets p) qs

-- the place of a sign in the order
abbrev pub sign_rank : Class → ℕ
sign_rank c.Colon = 0
sign_rank c.ColonColon = 1
sign_rank c.Comma = 2
sign_rank c.Equal = 3
sign_rank c.Less = 4
sign_rank c.Greater = 5
sign_rank c.LParen = 6
sign_rank c.RParen = 7
sign_rank c.LBrace = 8
sign_rank c.RBrace = 9
sign_rank c.LSquare = 10
sign_rank c.RSquare = 11
sign_rank c.Arrow = 12
sign_rank c.Minus = 13
sign_rank c.Question = 14
sign_rank c.Plus = 15
sign_rank c.Star = 16
sign_rank _ = 17

-- the place of a look; words share one
abbrev pub rank : Look → ℕ
rank (look.Punct class) = sign_rank class
rank look.Value = 18
rank look.Block = 19
rank look.Symbol = 20
rank look.TypeName = 21
rank look.AttrName = 22
rank look.Integer = 23
rank look.Str = 24
rank look.IntWord = 25
rank look.Dotted = 26
rank look.End = 27
rank (look.Word w) = 28

-- words go by their bytes
abbrev pub words_ascend : Look → Look → Bool
words_ascend (look.Word v) (look.Word w) = text_lt v w
words_ascend _ _ = false

abbrev pub precedes : Look → Look → Bool
precedes p q = nat_lt (rank p) (rank q) || words_ascend p q

-- the first of a look and one that may be there
abbrev pub sooner : Look → Option Look → Look
sooner p None = p
sooner p (Some q) = if precedes q p then q else p

-- the first look of the own that meets one of the others
abbrev pub first_meeting : List Look → List Look → Option Look
first_meeting [] others = None
first_meeting (p ∷ own) others =
    if meets_some p others then Some (sooner p (first_meeting own others))
    else first_meeting own others

-- l is such a look, and none that is another comes before it
pub record IsFirstMeeting (own others : List Look) (l : Look) : Type 0 where
  pub place : ℕ
  pub there : slice_get own place ≡ Some l
  pub met : meets_some l others ≡ true
  pub first : (i : ℕ) (m : Look) → slice_get own i ≡ Some m → meets_some m others ≡ true
      → precedes m l ≡ false
