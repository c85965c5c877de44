use Rattle.std.proofs.Common.{◌≡◌, ◌||◌, Bool, true, false, refl, ap, ◌∙◌, bytes_eq, cond, not}
use Rattle.dialect_registry.specs.Scopes.{holds}
use Rattle.dialect_registry.proofs.names.NameSet.add.Goals as goal

either : (a b : Bool) → cond a true b ≡ (a || b)
either true b = refl
either false b = refl

twice : (a : Bool) → not (not a) ≡ a
twice true = refl
twice false = refl

pub returns-in-Ok-clause-before : goal.returns-in-Ok-clause-before
unfolding holds
returns-in-Ok-clause-before c = ap not c.in-Ok.ensures.added ∙ twice _

pub returns-in-Ok-clause-after : goal.returns-in-Ok-clause-after
unfolding holds
returns-in-Ok-clause-after c =
    λ other. c.in-Ok.ensures.updates.0 (record { ref_ptr = (0, 0); now = other })
    ∙ either (bytes_eq c.args.name.now other) (holds c.args.self.now other)
