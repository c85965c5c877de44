use Rattle.grammar.proofs.Runs.{exit, at-tok, both-ok, both-first, both-second}
use Rattle.generic_syntax.proofs.Steps.{took-as}
use Rattle.irdl_ops.proofs.Entries.{other-as}
use Rattle.irdl_ops.proofs.read.entries.other_entry.Goals as goal

pub returns-in_err-name : goal.returns-in_err-name
returns-in_err-name g c = exit c.from_residual.ensures
    (both-first
    (at-tok
    (took-as
    (other-as (g.T.TokenSource.state c.args.t.now).now c.requires.single c.requires.optional
    c.requires.variadic) c.in_err-name.ensures)))

pub returns-in_err-arity : goal.returns-in_err-arity
returns-in_err-arity g c = exit c.from_residual-in_err-arity.ensures
    (both-second
    (at-tok
    (took-as
    (other-as (g.T.TokenSource.state c.args.t.now).now c.requires.single c.requires.optional
    c.requires.variadic) c.in_ok-name.ensures)) c.in_err-arity.ensures)

pub returns : goal.returns
returns g c = both-ok
    (at-tok
    (took-as
    (other-as (g.T.TokenSource.state c.args.t.now).now c.requires.single c.requires.optional
    c.requires.variadic) c.in_ok-name.ensures)) c.in_ok-arity.ensures
