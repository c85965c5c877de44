-- How tokens are laid out as bytes.
--
-- A printer hands in marks: tokens, white-space literals, and breaks of lines. A line begins with
-- its indent. Between two tokens of a line stands one space, or none where the classes say so, and
-- a literal before the second may ask for something else. Each line that has a token ends with a
-- line feed.
--
--   Mark                  a token, what is asked of the next gap, or a break
--   Line                  where the present line stands
--   is_tight first a t b  by the classes alone, nothing stands between two tokens
--   bytes_of line mark    the bytes that a mark adds
--   line_after line mark  where the line stands behind a mark
--   layout marks          the bytes of a list of marks
use Rattle.std.specs.Prelude.{ℕ, ◌+◌, Bool, true, false, not, ◌&&◌, ◌||◌, List, [], ◌∷◌, ◌++◌, length, replicate, Option, Some, None, if◌then◌else◌, nat_eq}
use Rattle.ir_lexer.specs.declared.class.Class.{Class}
use Rattle.ir_lexer.specs.declared.class.Class.TheVariants as c
use Rattle.ir_lexer.specs.Scan.{front}
use Rattle.ir_lexer.specs.Signs.{line_feed, space}
use Rattle.ir_lexer.specs.Spelling.{Text}
use Rattle.grammar.specs.Looks.{is_integer_word}
use Rattle.text_layout.specs.declared.gap.Gap.{Gap}
use Rattle.text_layout.specs.declared.gap.Gap.TheVariants as gap

-- what a printer hands in, one after another
pub data Mark : Type 0 where
  -- a token of a class, and its text
  token : Class → Text → Mark
  -- what is asked of the gap before the next token
  ask : Gap → Mark
  -- the line ends where it has a token, and the next one has an indent of so many spaces
  break_line : ℕ → Mark

-- the tokens of a line, as far as gaps look at them: the class of the first, and the last one
pub record Row : Type 0 where
  pub first : Class
  pub last : Class
  pub text : Text

-- the indent that the last break set, the tokens of the line, and what is asked of the next gap
pub record Line : Type 0 where
  pub indent : ℕ
  pub row : Option Row
  pub gap : Gap

-- where a layout begins
abbrev pub first_line : Line
first_line = record { indent = 0; row = None; gap = gap.Plain }

-- ---- the gap between two tokens of one line

-- no space stands behind `(`, `[`, `<`, `{`, `::`, `-` and dimensions
abbrev pub no_space_behind : Class → Bool
no_space_behind c.LParen = true
no_space_behind c.LSquare = true
no_space_behind c.Less = true
no_space_behind c.LBrace = true
no_space_behind c.ColonColon = true
no_space_behind c.Minus = true
no_space_behind c.Dims = true
no_space_behind _ = false

-- no space stands before `)`, `]`, `>`, `}`, `,` and `::`
abbrev pub no_space_before : Class → Bool
no_space_before c.RParen = true
no_space_before c.RSquare = true
no_space_before c.Greater = true
no_space_before c.RBrace = true
no_space_before c.Comma = true
no_space_before c.ColonColon = true
no_space_before _ = false

-- no space stands between a string, a symbol or a block's name and `(`, or between a word, a type's
-- or an attribute's name and `<`
abbrev pub no_space_between : Class → Class → Bool
no_space_between c.Str c.LParen = true
no_space_between c.SymbolName c.LParen = true
no_space_between c.BlockName c.LParen = true
no_space_between c.Word c.Less = true
no_space_between c.TypeName c.Less = true
no_space_between c.AttrName c.Less = true
no_space_between _ _ = false

-- the class is that of words
abbrev pub is_word : Class → Bool
is_word c.Word = true
is_word _ = false

-- the class is that of blocks' names
abbrev pub is_block_name : Class → Bool
is_block_name c.BlockName = true
is_block_name _ = false

-- the class is that of `:`
abbrev pub is_colon : Class → Bool
is_colon c.Colon = true
is_colon _ = false

-- No space stands before a `:` that follows another token than `:`, where that token is the name of
-- an integer type, or where the line begins with a block's name.
abbrev pub is_tight_colon : Class → Class → Text → Class → Bool
is_tight_colon first a text b =
    is_colon b && (not (is_colon a) && ((is_word a && is_integer_word text) || is_block_name first))

-- Nothing stands between a token of the class a, with its text, and one of the class b, on a line
-- that begins with a token of the class first.
abbrev pub is_tight : Class → Class → Text → Class → Bool
is_tight first a text b =
    no_space_behind a || (no_space_before b
    || (no_space_between a b || is_tight_colon first a text b))

-- the first token of the two spellings put together is the first
abbrev pub stays_apart : Text → Text → Bool
stays_apart a b = nat_eq (front (a ++ b)).1 (length a)

-- ---- the bytes of a mark

-- so many spaces
abbrev pub spaces : ℕ → Text
spaces n = replicate n space

-- one space, or none
abbrev pub plain_gap : Row → Class → Text
plain_gap row b = if is_tight row.first row.last row.text b then [] else space ∷ []

-- The bytes before a token of the class b and this text, by what is asked of them. A line begins
-- with its indent. A space literal makes a space in every case. An empty literal makes none where
-- the two texts stay apart, and else changes nothing. A line feed literal goes on with a line of
-- two spaces more.
abbrev pub gap_by : Gap → ℕ → Option Row → Class → Text → Text
gap_by asked indent None b text = spaces indent
gap_by gap.Plain indent (Some row) b text = plain_gap row b
gap_by gap.Space indent (Some row) b text = space ∷ []
gap_by gap.Empty indent (Some row) b text =
    if stays_apart row.text text then [] else plain_gap row b
gap_by gap.Newline indent (Some row) b text = line_feed ∷ spaces (indent + 2)

-- the bytes before a token of the class b and this text, where the line stands
abbrev pub gap_before : Line → Class → Text → Text
gap_before line b text = gap_by line.gap line.indent line.row b text

-- the line feed of a line that has a token
abbrev pub line_end : Option Row → Text
line_end None = []
line_end (Some row) = line_feed ∷ []

-- The bytes that a mark adds: those before a token and its text, the end of the line, or none.
abbrev pub bytes_of : Line → Mark → Text
bytes_of line (token class text) = gap_before line class text ++ text
bytes_of line (ask asked) = []
bytes_of line (break_line indent) = line_end line.row

-- ---- the lines behind a mark

-- the class of the first token of the line on which a token stands
abbrev pub first_of : Gap → Option Row → Class → Class
first_of asked None class = class
first_of gap.Newline (Some row) class = class
first_of _ (Some row) class = row.first

-- Where the line stands behind a mark. A break sets the indent of a new line, and a token and a
-- break drop what was asked of the gap.
abbrev pub line_after : Line → Mark → Line
line_after line (token class text) = record {
  indent = line.indent;
  row = Some (record { first = first_of line.gap line.row class; last = class; text = text });
  gap = gap.Plain;
}
line_after line (ask asked) = record line { gap = asked }
line_after line (break_line indent) = record { indent = indent; row = None; gap = gap.Plain }

-- where the line stands behind marks
abbrev pub line_behind : Line → List Mark → Line
line_behind line [] = line
line_behind line (mark ∷ marks) = line_behind (line_after line mark) marks

-- ---- the bytes of marks

-- the bytes that marks add behind where the line stands
abbrev pub text_of : Line → List Mark → Text
text_of line [] = []
text_of line (mark ∷ marks) = bytes_of line mark ++ text_of (line_after line mark) marks

-- the bytes of a list of marks, and the end of the last line
abbrev pub layout : List Mark → Text
layout marks = text_of first_line marks ++ line_end (line_behind first_line marks).row
