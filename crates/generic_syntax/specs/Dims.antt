-- What one dimension spells, as the code finds it.
--
-- Inside: no public clause rests on this.
use Rattle.std.specs.Prelude.{[], ◌∷◌, if◌then◌else◌, ◌==◌}
use Rattle.ir_lexer.specs.Spelling.{Text}

-- all bytes but the question marks
abbrev pub known : Text → Text
known [] = []
known (b ∷ t) = if b == 63 then known t else b ∷ known t
