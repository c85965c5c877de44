use Rattle.std.proofs.Common.{◌∙◌, ap, sym, subst, bytes_eq}
use Rattle.std.specs.Prelude.{position}
use Rattle.native_predicate.specs.Lists.{names, tests}
use Rattle.dialect_registry.specs.Resolved.{IsConstraint, native_by}
use Rattle.dialect_registry.specs.Resolving.{constraints_of}
use Rattle.dialect_registry.proofs.resolve.constraint.constraint.Goals as goal

pub returns-in-Pred-clause-ok : goal.returns-in-Pred-clause-ok
returns-in-Pred-clause-ok g c = λ w finds given.
    subst (λ x. IsConstraint w (tests (λ p. (goal.NativePredicate-dyn g p).property p.1) c.args.env.now.natives.now) c.args.env.now.shapes.now c.args.u.now c.args.own.now
    (constraints_of c.args.known.now) x c.native.result) (sym c.in-Pred.is)
    (c.native.ensures
    ∙ ap (λ t. native_by (position (λ own. bytes_eq own t) (names (λ p. (goal.NativePredicate-dyn g p).title p.1) c.args.env.now.natives.now))) c.bytes.ensures
    ∙ ap (λ l. native_by (position (λ own. bytes_eq own c.in-Pred.name.text) l)) (sym given))
