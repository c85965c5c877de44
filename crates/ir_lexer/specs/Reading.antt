-- A text that is being cut into tokens, and the tokens that the code makes of it.
--
-- A token of the code has only places, so what it says hangs on the text.
--
--   Reading        a text, and the place at which the search for the next token begins
--   token_shown src t     the token that the places of t show in the text src
use Rattle.std.specs.Prelude.{ℕ, slice_range}
use Rattle.ir_lexer.specs.declared.lexer.Token.{Token as Cut}
use Rattle.ir_lexer.specs.Spelling.{Text}
use Rattle.ir_lexer.specs.Tokens.{Token}

-- a text, and a place in it
pub record Reading : Type 0 where
  pub text : Text
  pub place : ℕ

-- the class, the bytes from start to end, and the start as the place
abbrev pub token_shown : Text → Cut → Token
token_shown src t = record { class = t.class; text = slice_range src t.start t.end; place = t.start }
