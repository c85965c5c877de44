use Rattle.op_judgement.proofs.judge.judge_op.Goals as goal

pub returns-in-Custom-clause-judged : goal.returns-in-Custom-clause-judged
returns-in-Custom-clause-judged g c = λ old al over.
    c.judge_custom-rule.ensures old c.args.u.now al over
