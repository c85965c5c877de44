use Rattle.std.proofs.Common.{◌+◌, ◌∙◌}
use Rattle.value_meaning.proofs.Dialects.{dialect-bad, dialect-made}
use Rattle.value_meaning.proofs.part.dialect.Goals as goal

pub returns-in-Some-clause-judged : goal.returns-in-Some-clause-judged
returns-in-Some-clause-judged g c = λ table n spelled ms p least.
    rw c.bad.ensures.value (rw c.bad.ensures.first
    (dialect-bad _ table c.args.u.now n spelled ms c.args.args p c.args.is_type c.args.name.now
    c.args.place c.dialect_fault.result (c.dialect_fault.ensures.first table (n + 1) spelled ms p)
    c.in-Some.fault c.in-Some.is c.dialect_fault.ensures.wrong))

pub returns-in_ok-name-in-None-clause-judged : goal.returns-in_ok-name-in-None-clause-judged
returns-in_ok-name-in-None-clause-judged g c = λ table n spelled ms p least.
    dialect-made _ table c.args.u.now n spelled ms c.args.args p c.args.is_type c.args.name.now
    c.args.place c.made.result c.made.new.u c.in_ok-name-in-None.name
    (c.in_ok-name-in-None.ensures ∙ c.bytes.ensures) c.dialect_fault.result
    (c.dialect_fault.ensures.first table (n + 1) spelled ms p) c.in-None.is
    (c.dialect_fault.ensures.right c.in-None.is) least c.made.ensures.judged
