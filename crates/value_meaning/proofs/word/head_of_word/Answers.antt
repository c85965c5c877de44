use Rattle.std.proofs.Common.{sym, ◌∙◌}
use Rattle.value_meaning.proofs.word.head_of_word.Goals as goal
use Rattle.value_meaning.proofs.Words.{word_head-type, word_head-plain}

pub returns-in-Some : goal.returns-in-Some
returns-in-Some c =
    rw (← c.bytes-word.ensures)
    (word_head-type c.bytes-word.result.now c.in-Some.kind (sym c.int_kind.ensures ∙ c.in-Some.is))

pub returns-in-None : goal.returns-in-None
returns-in-None c =
    rw (← c.bytes-word.ensures) (c.head_of_plain.ensures
    ∙ word_head-plain c.bytes-word.result.now (sym c.int_kind.ensures ∙ c.in-None.is))
