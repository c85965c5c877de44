use Rattle.std.proofs.Common.{sym, ◌∙◌}
use Rattle.dialect_registry.specs.Scopes.{value_at}
use Rattle.dialect_registry.proofs.Maps.{keeps-known, gives-new}
use Rattle.dialect_registry.proofs.names.NameMap.add.Goals as goal

pub returns-then-contains_key-clause-before : goal.returns-then-contains_key-clause-before
unfolding value_at
returns-then-contains_key-clause-before g c = sym c.if-contains_key.true ∙ c.contains_key.ensures

pub returns-then-contains_key-clause-after : goal.returns-then-contains_key-clause-after
unfolding value_at
returns-then-contains_key-clause-after g c = λ other.
    keeps-known (value_at c.args.self.now) c.args.name.now other c.args.value
    (sym c.contains_key.ensures ∙ c.if-contains_key.true)

pub returns-in-Ok-clause-before : goal.returns-in-Ok-clause-before
unfolding value_at
returns-in-Ok-clause-before g c = sym c.if-contains_key.false ∙ c.contains_key.ensures

pub returns-in-Ok-clause-after : goal.returns-in-Ok-clause-after
unfolding value_at
returns-in-Ok-clause-after g c = λ other.
    gives-new (value_at c.args.self.now)
    (value_at (record c.args.self.now { entries = c.insert.new.self })) c.args.name.now other
    c.args.value (sym c.contains_key.ensures ∙ c.if-contains_key.false)
    (c.in-Ok.ensures.updates.0 (record { ref_ptr = (0, 0); now = other }))
