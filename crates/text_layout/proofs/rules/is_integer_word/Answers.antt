use Rattle.std.proofs.Common.{◌∙◌}
use Rattle.text_layout.proofs.Single.{reads-integer-word}
use Rattle.text_layout.proofs.rules.is_integer_word.Goals as goal

pub returns-in-Word : goal.returns-in-Word
returns-in-Word c =
    rw c.in-Word.is (c.is_integer_type.ensures.passes
    ∙ reads-integer-word _ _ (rw c.in-Word.is at c.requires.spelled) c.new.ensures)
