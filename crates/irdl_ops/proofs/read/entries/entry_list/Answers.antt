use Rattle.std.proofs.Common.{arith, refl, sym, ◌∙◌}
use Rattle.grammar.proofs.Lists.{list-none, list-err, lists-first, lists-on, lists-end, lists-err, lists-memory}
use Rattle.grammar.proofs.Runs.{exit, at-tok, both-ok, both-first, both-second}
use Rattle.irdl_ops.proofs.Entries.{entry-begins}
use Rattle.irdl_ops.proofs.Fits.{defs-fit}
use Rattle.irdl_ops.proofs.read.entries.entry_list.Goals as goal

pub returns-then-not-begins_entry : goal.returns-then-not-begins_entry
returns-then-not-begins_entry g c = rw c.new-found.ensures
    (list-none refl
    (entry-begins (g.T.TokenSource.state c.args.t.now).now
    ∙ (sym c.begins_entry.ensures ∙ c.if-not-begins_entry.true)))

pub returns-in_err-entry : goal.returns-in_err-entry
returns-in_err-entry g c = exit c.from_residual.ensures
    (list-err
    (entry-begins (g.T.TokenSource.state c.args.t.now).now
    ∙ (sym c.begins_entry.ensures ∙ c.if-not-begins_entry.false)) c.in_err-entry.ensures)

pub each-init : goal.each-init
each-init g c = rw (c.in_ok-push.ensures.ok, c.new-found.ensures)
    (lists-first
    (entry-begins (g.T.TokenSource.state c.args.t.now).now
    ∙ (sym c.begins_entry.ensures ∙ c.if-not-begins_entry.false)) c.in_ok-entry.ensures)

pub returns-in_err-expect : goal.returns-in_err-expect
returns-in_err-expect g c = exit c.from_residual-in_err-expect.ensures
    (lists-err (sym c.is_class.ensures.passes ∙ c.each-test.true) c.each.invariant
    (both-first (at-tok c.in_err-expect.ensures.took)))

pub returns-in_err-entry-2 : goal.returns-in_err-entry-2
returns-in_err-entry-2 g c = exit c.from_residual-in_err-entry-2.ensures
    (lists-err (sym c.is_class.ensures.passes ∙ c.each-test.true) c.each.invariant
    (both-second (at-tok c.in_ok-expect.ensures.took) c.in_err-entry-2.ensures))

pub each-preserved : goal.each-preserved
each-preserved g c = rw c.in_ok-push-2.ensures.ok
    (lists-on defs-fit (sym c.is_class.ensures.passes ∙ c.each-test.true) c.each.invariant
    (both-ok (at-tok c.in_ok-expect.ensures.took) c.in_ok-entry-2.ensures))

pub returns-in_err-push-2 : goal.returns-in_err-push-2
returns-in_err-push-2 g c = exit c.from_residual-in_err-push-2.ensures
    (lists-memory defs-fit (sym c.is_class.ensures.passes ∙ c.each-test.true) c.each.invariant
    (both-ok (at-tok c.in_ok-expect.ensures.took) c.in_ok-entry-2.ensures))

pub each-smaller : goal.each-smaller
each-smaller g c = omega
    (arith, c.in_ok-expect.ensures.took.ran.less, c.in_ok-entry-2.ensures.ran.less)

pub returns : goal.returns
returns g c = rw c.trim.ensures
    (lists-end (sym c.is_class.ensures.passes ∙ c.each-test.false) c.each.invariant)
