use Rattle.std.proofs.Common.{sym, ◌∙◌}
use Rattle.grammar.specs.Looks.{undotted}
use Rattle.grammar.proofs.Codes.{refuses-is}
use Rattle.grammar.proofs.Runs.{took-refused}
use Rattle.generic_syntax.proofs.Steps.{took-look}
use Rattle.generic_syntax.proofs.module.parts.alias_name.Goals as goal

pub returns-then-not-is_undotted : goal.returns-then-not-is_undotted
returns-then-not-is_undotted g c = took-refused
    (sym c.is_undotted.ensures ∙ c.if-not-is_undotted.true)
    (refuses-is (g.T.TokenSource.state c.args.t.now).now _ c.refused.ensures)

pub returns : goal.returns
returns g c = took-look (undotted c.args.kind)
    (sym c.is_undotted.ensures ∙ c.if-not-is_undotted.false) c.read_sign_name.ensures
