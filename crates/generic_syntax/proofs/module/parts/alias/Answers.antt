use Rattle.std.proofs.Common.{refl, sym, ◌∙◌}
use Rattle.grammar.proofs.Runs.{left, right}
use Rattle.generic_syntax.proofs.module.parts.alias.Goals as goal

pub returns-then-is_undotted : goal.returns-then-is_undotted
returns-then-is_undotted g c = λ regions. left
    (rw (sym c.is_undotted.ensures ∙ c.if-is_undotted.true) refl) (c.type_alias.ensures regions)

pub returns : goal.returns
returns g c = λ regions. right (rw (sym c.is_undotted.ensures ∙ c.if-is_undotted.false) refl)
    (c.attr_alias.ensures regions)
