-- The bytes that stand before a token.
--
--   blank_text b  the bytes of a blank
--   IsShort b     its indent is at most that of a line feed literal in the deepest line
--
-- Inside: no public clause rests on this.
use Rattle.std.specs.Prelude.{◌+◌, ◌≤◌, [], ◌∷◌}
use Rattle.ir_lexer.specs.Signs.{line_feed, space}
use Rattle.ir_lexer.specs.Spelling.{Text}
use Rattle.text_layout.specs.declared.blank.TheConstants.{INDENT_LIMIT}
use Rattle.text_layout.specs.declared.blank.Blank.{Blank}
use Rattle.text_layout.specs.declared.blank.Blank.TheVariants.{Nothing, Space, Indent, Break}
use Rattle.text_layout.specs.Lines.{spaces}

-- the bytes of a blank
abbrev pub blank_text : Blank → Text
blank_text Nothing = []
blank_text Space = space ∷ []
blank_text (Indent n) = spaces n
blank_text (Break n) = line_feed ∷ spaces n

-- the longest indent is that of a line feed literal in the deepest line
abbrev pub IsShort : Blank → Type 0
IsShort (Indent n) = n ≤ INDENT_LIMIT + 2
IsShort (Break n) = n ≤ INDENT_LIMIT + 2
IsShort _ = Unit {0}
