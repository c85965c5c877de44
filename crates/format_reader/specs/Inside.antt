-- What the fields of a text's tokens mean, and what always holds of them.
use Rattle.std.specs.Prelude.{◌≤◌, List, ◌∷◌, length}
use Rattle.ir_lexer.specs.declared.lexer.TheConstants.{TEXT_LIMIT}
use Rattle.ir_lexer.specs.Reading.{token_shown}
use Rattle.ir_lexer.specs.Tokens.{Token}
use Rattle.format_reader.specs.declared.tokens.FormatTokens.TheInside.{Inside}
use Rattle.format_reader.specs.Scan.{tokens_behind}

-- the present token, and those behind it
abbrev pub tokens_of : Inside → List Token
tokens_of s =
    let t = token_shown s.text.now s.present in t ∷ tokens_behind s.text.now t

-- the present token lies in the text
pub record IsInText (s : Inside) : Type 0 where
  pub short : length s.text.now ≤ TEXT_LIMIT
  pub inside : (s.present.start ≤ s.present.end) × (s.present.end ≤ length s.text.now)
