use Rattle.dialect_registry.specs.DefFaults.{IsStatementFault}
use Rattle.dialect_registry.proofs.Walks.{among-none, among-more, among-all}
use Rattle.dialect_registry.proofs.statement.judge_statements.Goals as goal

pub loop-statement-init : goal.loop-statement-init
loop-statement-init g c = λ w finds given.
    among-none (λ s. IsStatementFault w c.args.own.now s.kind)

pub loop-statement-preserved : goal.loop-statement-preserved
loop-statement-preserved g c = λ w finds given.
    rw c.earlier-first.ensures
    (among-more (λ s. IsStatementFault w c.args.own.now s.kind) c.args.statements.now
    c.loop-statement.statement-index c.statement-item.result c.loop-statement.first
    c.judge_statement.result c.loop-statement-test.true c.statement-item.is
    (c.loop-statement.invariant w finds given) (c.judge_statement.ensures w finds given))

pub returns : goal.returns
returns g c = λ w finds given.
    among-all (λ s. IsStatementFault w c.args.own.now s.kind) c.args.statements.now
    c.loop-statement.statement-index c.loop-statement.first
    c.loop-statement.auto.statement-index-end c.loop-statement-test.false
    (c.loop-statement.invariant w finds given)
