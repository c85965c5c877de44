-- What the fields of a slice's tokens mean, and what always holds of them.
use Rattle.std.specs.Prelude.{◌≡◌, ◌≤◌, length}
use Rattle.ir_lexer.specs.declared.lexer.TheConstants.{TEXT_LIMIT}
use Rattle.ir_lexer.specs.declared.slice.SliceTokens.TheInside.{Inside}
use Rattle.ir_lexer.specs.Reading.{Reading, token_shown}
use Rattle.ir_lexer.specs.Scan.{next_token}

-- the text of the fields, and the place from which the present token was looked for
abbrev pub reading_of : Inside → Reading
reading_of s = record { text = s.src.now; place = s.from }

-- The present token is the one that comes next from the place on, and lies in the text.
pub record IsAtToken (s : Inside) : Type 0 where
  pub short : length s.src.now ≤ TEXT_LIMIT
  pub inside : (s.now.start ≤ s.now.end) × (s.now.end ≤ length s.src.now)
  pub present : token_shown s.src.now s.now ≡ next_token s.src.now s.from
