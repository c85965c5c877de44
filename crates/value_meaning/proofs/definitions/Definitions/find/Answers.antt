use Rattle.std.proofs.Common.{sym, subst}
use Rattle.std.specs.Prelude.{IfNone, IfSome}
use Rattle.constraint_solver.specs.Definitions.{IsOnlyDefinition}
use Rattle.value_meaning.specs.Faults.{IsNamed}
use Rattle.value_meaning.specs.Places.{place_of}
use Rattle.value_meaning.proofs.Placed.{found, lost}
use Rattle.value_meaning.proofs.definitions.Definitions.find.Goals as goal

pub returns-clause-some : goal.returns-clause-some
returns-clause-some c =
    subst (λ types. IfSome c.get-2.result
    (λ d. IsOnlyDefinition types c.args.is_type c.args.name.now d.now)) c.self.view_is
    (found c.self.inside.list.items (place_of c.self.inside.places) c.self.invariant
    c.args.is_type c.args.name.now c.in_ok-place.place (sym c.in_ok-place.ensures)
    c.as_slice.result.now c.as_slice.ensures.value c.get-2.result c.get-2.ensures.lookup)

pub returns-clause-none : goal.returns-clause-none
returns-clause-none c =
    subst (λ types. IfNone c.get-2.result (IsNamed types c.args.is_type c.args.name.now → ⊥))
    c.self.view_is
    (lost c.self.inside.list.items (place_of c.self.inside.places) c.self.invariant
    c.args.is_type c.args.name.now c.in_ok-place.place (sym c.in_ok-place.ensures)
    c.as_slice.result.now c.as_slice.ensures.value c.get-2.result c.get-2.ensures.lookup)
