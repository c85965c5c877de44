use Rattle.std.proofs.Common.{arith, refl, sym, ◌∙◌}
use Rattle.grammar.proofs.Lists.{list-none, list-err, lists-first, lists-on, lists-end, lists-err, lists-memory}
use Rattle.grammar.proofs.Runs.{exit, at-tok, both-ok, both-first, both-second}
use Rattle.irdl_ops.proofs.Fits.{defs-fit}
use Rattle.irdl_ops.proofs.read.entries.plain_name_list.Goals as goal

pub returns-then-not-is_class : goal.returns-then-not-is_class
returns-then-not-is_class g c = rw c.new-found.ensures
    (list-none refl (sym c.is_class.ensures.passes ∙ c.if-not-is_class.true))

pub returns-in_err-read_word : goal.returns-in_err-read_word
returns-in_err-read_word g c = exit c.from_residual.ensures
    (list-err (sym c.is_class.ensures.passes ∙ c.if-not-is_class.false)
    (at-tok c.in_err-read_word.ensures))

pub each-init : goal.each-init
each-init g c = rw (c.in_ok-push.ensures.ok, c.new-found.ensures)
    (lists-first (sym c.is_class.ensures.passes ∙ c.if-not-is_class.false)
    (at-tok c.in_ok-read_word.ensures))

pub returns-in_err-expect : goal.returns-in_err-expect
returns-in_err-expect g c = exit c.from_residual-in_err-expect.ensures
    (lists-err (sym c.is_class-in-each.ensures.passes ∙ c.each-test.true) c.each.invariant
    (both-first (at-tok c.in_err-expect.ensures.took)))

pub returns-in_err-read_word-2 : goal.returns-in_err-read_word-2
returns-in_err-read_word-2 g c = exit c.from_residual-in_err-read_word-2.ensures
    (lists-err (sym c.is_class-in-each.ensures.passes ∙ c.each-test.true) c.each.invariant
    (both-second (at-tok c.in_ok-expect.ensures.took) (at-tok c.in_err-read_word-2.ensures)))

pub each-preserved : goal.each-preserved
each-preserved g c = rw c.in_ok-push-2.ensures.ok
    (lists-on defs-fit (sym c.is_class-in-each.ensures.passes ∙ c.each-test.true) c.each.invariant
    (both-ok (at-tok c.in_ok-expect.ensures.took) (at-tok c.in_ok-read_word-2.ensures)))

pub returns-in_err-push-2 : goal.returns-in_err-push-2
returns-in_err-push-2 g c = exit c.from_residual-in_err-push-2.ensures
    (lists-memory defs-fit (sym c.is_class-in-each.ensures.passes ∙ c.each-test.true)
    c.each.invariant
    (both-ok (at-tok c.in_ok-expect.ensures.took) (at-tok c.in_ok-read_word-2.ensures)))

pub each-smaller : goal.each-smaller
each-smaller g c = omega
    (arith, c.in_ok-expect.ensures.took.ran.less, c.in_ok-read_word-2.ensures.ran.less)

pub returns : goal.returns
returns g c = rw c.trim.ensures
    (lists-end (sym c.is_class-in-each.ensures.passes ∙ c.each-test.false) c.each.invariant)
