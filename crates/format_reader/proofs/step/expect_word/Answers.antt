use Rattle.std.proofs.Common.{refl, sym, ◌∙◌}
use Rattle.grammar.specs.Looks.{word}
use Rattle.format_reader.specs.Ran.{now_of}
use Rattle.grammar.proofs.Meet.{word-before-end}
use Rattle.format_reader.proofs.Runs.{tok-ok, tok-err, past-end}
use Rattle.format_reader.proofs.step.expect_word.Goals as goal

pub returns-then-not-is_word : goal.returns-then-not-is_word
returns-then-not-is_word c = tok-err (sym c.is_word.ensures.passes ∙ c.if-not-is_word.true) c.refused.ensures

pub returns : goal.returns
returns c = let passed = (sym c.is_word.ensures.passes ∙ c.if-not-is_word.false) in
    tok-ok c.is_word.ensures.some passed refl
    (c.advance.ensures (past-end (word c.args.word.now) (now_of c.args.t.now) passed word-before-end))
