use Rattle.value_meaning.proofs.Joining.{only-bad, only-some}
use Rattle.value_meaning.proofs.judged.Kids.only.Goals as goal

pub returns-then-not-self-clause-judged : goal.returns-then-not-self-clause-judged
returns-then-not-self-clause-judged c = λ g n s new x integer.
    only-bad g n s new c.args.self x integer c.if-not-self.true

pub returns-clause-judged : goal.returns-clause-judged
returns-clause-judged c = λ g n s new x integer.
    only-some g n s new c.args.self x integer c.copied.result c.if-not-self.false
    (search (c.copied.ensures, c.first.ensures.value, c.deref.ensures.value))
