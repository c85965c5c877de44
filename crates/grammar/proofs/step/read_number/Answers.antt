use Rattle.std.proofs.Common.{◌^◌, ◌-◌, sym, ◌∙◌}
use Rattle.grammar.specs.Looks.{number_to}
use Rattle.grammar.proofs.Codes.{refuses-is}
use Rattle.grammar.proofs.Meet.{before-end}
use Rattle.grammar.proofs.Numbers.{number-other, number-great, number-fits}
use Rattle.grammar.proofs.Runs.{took-token, took-refused, took-failed, took-exit}
use Rattle.grammar.proofs.step.read_number.Goals as goal

pub returns-then-not-is_class : goal.returns-then-not-is_class
returns-then-not-is_class g c =
    let now = (g.T.TokenSource.state c.args.t.now).now in
    took-refused
    (number-other (2 ^ 32 - 1) now (sym c.is_class.ensures.passes ∙ c.if-not-is_class.true))
    (refuses-is now _ c.refused.ensures)

pub returns-in-None : goal.returns-in-None
returns-in-None g c =
    let now = (g.T.TokenSource.state c.args.t.now).now in
    took-refused
    (number-great (2 ^ 32 - 1) now (rw c.text.ensures at c.in-None.ensures))
    (refuses-is now _ c.refused-in-None.ensures)

pub returns-in_err-advance-in-Some : goal.returns-in_err-advance-in-Some
returns-in_err-advance-in-Some g c =
    took-exit c.from_residual.ensures (took-failed c.in_err-advance-in-Some.ensures)

pub returns-in_ok-advance-in-Some : goal.returns-in_ok-advance-in-Some
returns-in_ok-advance-in-Some g c =
    let now = (g.T.TokenSource.state c.args.t.now).now in
    let fits = number-fits (2 ^ 32 - 1) now
    (sym c.is_class.ensures.passes ∙ c.if-not-is_class.false)
    (rw c.text.ensures at c.in-Some.ensures.0) in
    let other = before-end (number_to (2 ^ 32 - 1)) now fits (λ e. cc) in
    took-token fits c.is_class.ensures.order (g.met.T.TokenSource.ends _) other
    (rw c.text.ensures at c.in-Some.ensures.1) c.in_ok-advance-in-Some.ensures
