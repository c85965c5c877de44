use Rattle.std.proofs.Common.{◌++◌, take, ◌∙◌, subst, sym, append-nil}
use Rattle.dialect_registry.specs.DefFaults.{IsDialectFault}
use Rattle.dialect_registry.specs.Scopes.{HasDialects}
use Rattle.dialect_registry.proofs.Seen.{dialects-more}
use Rattle.dialect_registry.proofs.Walks.{behind-none, behind-more, behind-all, whole-take}
use Rattle.dialect_registry.proofs.judging.judge_file.Goals as goal

pub loop-dialect-init : goal.loop-dialect-init
loop-dialect-init g c = record {
  seen = λ earlier k.
      subst (λ l. HasDialects l c.args.dialects.now) (sym (append-nil earlier)) k;
  first = λ w earlier finds given k.
      behind-none (IsDialectFault w) earlier c.as_slice-dialect-items.result.now;
}

pub loop-dialect-preserved : goal.loop-dialect-preserved
loop-dialect-preserved g c =
    let items = c.as_slice-dialect-items.result.now in
    let i = c.loop-dialect.dialect-index in
    let dialect = c.dialect-item.result in
    let known = rw c.bytes.ensures at c.in_ok-known.ensures.before in
    let seen = c.loop-dialect.invariant.seen in
    record {
      seen = λ earlier k.
          dialects-more earlier items i dialect c.loop-dialect.dialects c.add.new.self
          c.loop-dialect-test.true c.dialect-item.is (seen earlier k)
          (rw c.bytes.ensures at c.in_ok-known.ensures.after);
      first = λ w earlier finds given k.
          rw c.earlier-first.ensures
          (behind-more (IsDialectFault w) earlier items i dialect c.loop-dialect.first _
          c.loop-dialect-test.true c.dialect-item.is
          (c.loop-dialect.invariant.first w earlier finds given k)
          (c.in_ok-judge_dialect.ensures w (earlier ++ take i items) finds given
          (known ∙ (seen earlier k).each dialect.name)));
    }

pub returns-clause-seen : goal.returns-clause-seen
returns-clause-seen g c = λ earlier k.
    subst (λ l. HasDialects (earlier ++ l) c.loop-dialect.dialects)
    (whole-take c.as_slice-dialect-items.result.now c.loop-dialect.dialect-index
    c.loop-dialect.auto.dialect-index-end c.loop-dialect-test.false
    ∙ c.as_slice-dialect-items.ensures) (c.loop-dialect.invariant.seen earlier k)

pub returns-clause-first : goal.returns-clause-first
returns-clause-first g c = λ w earlier finds given k.
    rw c.as_slice-dialect-items.ensures at
    (behind-all (IsDialectFault w) earlier c.as_slice-dialect-items.result.now
    c.loop-dialect.dialect-index c.loop-dialect.first
    c.loop-dialect.auto.dialect-index-end c.loop-dialect-test.false
    (c.loop-dialect.invariant.first w earlier finds given k))
