use Rattle.std.proofs.Common.{sym, ◌∙◌}
use Rattle.format_reader.proofs.Runs.{exit, left, right, alone, at-ret, both-first, both-rest}
use Rattle.format_reader.proofs.read.otherwise.Goals as goal

pub returns-then-not-is_class : goal.returns-then-not-is_class
returns-then-not-is_class c = rw c.new.ensures
    (right c.is_class.ensures.some (alone (sym c.is_class.ensures.passes ∙ c.if-not-is_class.true)) at-ret)

pub returns-in_err-expect : goal.returns-in_err-expect
returns-in_err-expect c = exit c.from_residual.ensures
    (left c.is_class.ensures.some (alone (sym c.is_class.ensures.passes ∙ c.if-not-is_class.false)) (both-first c.in_err-expect.ensures))

pub returns : goal.returns
returns c = left c.is_class.ensures.some (alone (sym c.is_class.ensures.passes ∙ c.if-not-is_class.false))
    (both-rest c.in_ok-expect.ensures c.branch_items.ensures)
