use Rattle.format_checker.proofs.Pushed.{five}
use Rattle.format_checker.proofs.columns.former_words.Goals as goal

pub returns : goal.returns
returns c =
    rw (
      c.in_ok-push_word-5.ensures,
      c.in_ok-push_word-4.ensures,
      c.in_ok-push_word-3.ensures,
      c.in_ok-push_word-2.ensures,
      c.in_ok-push_word.ensures,
    ) (five c.args.found.now _ _ _ _ _)
