use Rattle.std.proofs.Common.{refl, sym, ◌∙◌}
use Rattle.grammar.specs.Looks.{word}
use Rattle.grammar.proofs.Runs.{exit, at-tok, both-ok, both-first, both-second, left, right, made-ok, made-err}
use Rattle.generic_syntax.proofs.Steps.{at-look}
use Rattle.irdl_ops.proofs.read.entries.arity_entry.Goals as goal

pub returns-in_err-first : goal.returns-in_err-first
returns-in_err-first g c = exit c.from_residual.ensures
    (both-first (at-look (word c.args.word.now) c.requires c.in_err-first.ensures))

pub returns-in_err-arity : goal.returns-in_err-arity
returns-in_err-arity g c = exit c.from_residual-in_err-arity.ensures
    (both-second (at-look (word c.args.word.now) c.requires c.in_ok-first.ensures)
    (left (rw (sym c.is_class.ensures.passes ∙ c.if-is_class.true) refl)
    (made-err c.in_err-arity.ensures)))

pub returns-then-is_class : goal.returns-then-is_class
returns-then-is_class g c = both-ok
    (at-look (word c.args.word.now) c.requires c.in_ok-first.ensures)
    (left (rw (sym c.is_class.ensures.passes ∙ c.if-is_class.true) refl)
    (made-ok c.in_ok-arity.ensures))

pub returns-in_err-var : goal.returns-in_err-var
returns-in_err-var g c = exit c.from_residual-in_err-var.ensures
    (both-second (at-look (word c.args.word.now) c.requires c.in_ok-first.ensures)
    (right (rw (sym c.is_class.ensures.passes ∙ c.if-is_class.false) refl)
    (made-err (at-tok c.in_err-var.ensures))))

pub returns : goal.returns
returns g c = both-ok (at-look (word c.args.word.now) c.requires c.in_ok-first.ensures)
    (right (rw (sym c.is_class.ensures.passes ∙ c.if-is_class.false) refl)
    (made-ok (at-tok c.in_ok-var.ensures)))
