use Rattle.grammar.proofs.Runs.{exit, at-tok, both-ok, both-first, both-second, made-ok, made-err}
use Rattle.generic_syntax.proofs.leaf.dense.Goals as goal

pub returns-in_err-expect_word : goal.returns-in_err-expect_word
returns-in_err-expect_word g c = λ n. exit c.from_residual.ensures (made-err (both-first (at-tok c.in_err-expect_word.ensures.took)))

pub returns-in_err-expect : goal.returns-in_err-expect
returns-in_err-expect g c = λ n. exit c.from_residual-in_err-expect.ensures (made-err (both-second (at-tok c.in_ok-expect_word.ensures.took) (both-first (at-tok c.in_err-expect.ensures.took))))

pub returns-in_err-width : goal.returns-in_err-width
returns-in_err-width g c = λ n. exit c.from_residual-in_err-width.ensures (made-err (both-second (at-tok c.in_ok-expect_word.ensures.took) (both-second (at-tok c.in_ok-expect.ensures.took) (both-first (both-first (c.in_err-width.ensures _))))))

pub returns-in_err-items : goal.returns-in_err-items
returns-in_err-items g c = λ n. exit c.from_residual-in_err-items.ensures (made-err (both-second (at-tok c.in_ok-expect_word.ensures.took) (both-second (at-tok c.in_ok-expect.ensures.took) (both-first (both-second (c.in_ok-width.ensures _) (c.in_err-items.ensures _))))))

pub returns-in_err-expect-2 : goal.returns-in_err-expect-2
returns-in_err-expect-2 g c = λ n. exit c.from_residual-in_err-expect-2.ensures (made-err (both-second (at-tok c.in_ok-expect_word.ensures.took) (both-second (at-tok c.in_ok-expect.ensures.took) (both-second (both-ok (c.in_ok-width.ensures _) (c.in_ok-items.ensures _)) (at-tok c.in_err-expect-2.ensures.took)))))

pub returns : goal.returns
returns g c = λ n. (made-ok (both-ok (at-tok c.in_ok-expect_word.ensures.took) (both-ok (at-tok c.in_ok-expect.ensures.took) (both-ok (both-ok (c.in_ok-width.ensures _) (c.in_ok-items.ensures _)) (at-tok c.in_ok-expect-2.ensures.took)))))
