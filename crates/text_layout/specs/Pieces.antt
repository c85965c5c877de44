-- Pieces on their way to a sink, of which the last ones are held back.
--
--   Sends before after owed held  the sink got the first of the bytes owed, and the rest is held
--
-- Inside: no public clause rests on this.
use Rattle.std.specs.Prelude.{◌≡◌, ◌++◌, Option}
use Rattle.std.specs.Io.KnownBytes.{Appends}
use Rattle.ir_lexer.specs.Spelling.{Text}

-- The sink got the first of the bytes that it is owed, and the rest of them is held back. Its bytes
-- before and after are told or not.
pub record Sends (before after : Option Text) (owed held : Text) : Type 0 where
  pub sent : Text
  pub got : Appends before after sent
  pub all : sent ++ held ≡ owed
