use Rattle.grammar.proofs.Wholes.{whole-ok, whole-at, whole-err, whole-exit}
use Rattle.generic_syntax.proofs.module.whole_module.Goals as goal

pub returns-in_err-module-clause-whole : goal.returns-in_err-module-clause-whole
returns-in_err-module-clause-whole g c = whole-exit c.from_residual.ensures
    (whole-err c.in_err-module.ensures)

pub returns-in_err-expect_end-clause-whole : goal.returns-in_err-expect_end-clause-whole
returns-in_err-expect_end-clause-whole g c = whole-exit c.from_residual-in_err-expect_end.ensures
    (whole-at c.in_ok-module.ensures c.in_err-expect_end.ensures)

pub returns-clause-whole : goal.returns-clause-whole
returns-clause-whole g c = whole-ok c.in_ok-module.ensures c.in_ok-expect_end.ensures
