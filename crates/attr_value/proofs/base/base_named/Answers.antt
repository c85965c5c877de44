use Rattle.std.proofs.Common.{◌≡◌, subst, sym, ◌∙◌}
use Rattle.std.specs.Prelude.{IfSome}
use Rattle.attr_value.specs.Bases.{base_name}
use Rattle.attr_value.proofs.Named.{table-named, only-named}
use Rattle.attr_value.proofs.base.base_named.Goals as goal

pub returns-clause-some : goal.returns-clause-some
returns-clause-some c = subst (λ r. IfSome r (λ base. base_name base ≡ c.args.s.now))
    (sym c.first_named.ensures) (table-named c.args.s.now)

pub returns-clause-only : goal.returns-clause-only
returns-clause-only c base same = c.first_named.ensures ∙ only-named c.args.s.now base same
