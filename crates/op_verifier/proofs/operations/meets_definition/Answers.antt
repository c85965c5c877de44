use Rattle.std.proofs.Common.{◌∙◌, ap, sym, subst, refl, length}
use Rattle.native_predicate.specs.Lists.{tests}
use Rattle.constraint_solver.specs.Roots.{HasRoots}
use Rattle.dialect_defs.specs.Assignments.{MeetsBody}
use Rattle.dialect_defs.specs.Operations.{MeetsDefinition}
use Rattle.op_verifier.specs.Views.{IsShown}
use Rattle.op_verifier.proofs.Judging.{refused, solved, unsolved, roots-sound, decided}
use Rattle.op_verifier.proofs.Shown.{an-operation}
use Rattle.op_verifier.proofs.operations.meets_definition.Goals as goal

pub returns-then-not-ask_parts : goal.returns-then-not-ask_parts
returns-then-not-ask_parts g c =
    let says = tests (λ p. (g.dyn-1.0.entry p.0).1.property p.1) c.args.natives.now in
    let table = c.new-wanted.ensures.table in
    λ o shown.
    let asked = c.if-not-ask_parts.ensures o
    (subst (λ vs. IsShown vs c.args.op.now o) (sym table) shown) in (
      λ yes. absurd (cc yes),
      λ m. absurd (refused c.args.u.now says c.args.def.now o c.new-wanted.result.slots.items
          c.new-wanted.ensures.none (rw table at (asked.decides.refuses refl)) m),
    )

pub ask_parts-requires-clause-op : goal.ask_parts-requires-clause-op
ask_parts-requires-clause-op g c = rw c.new-wanted.ensures.table c.requires.op

pub solve-requires-clause-roots : goal.solve-requires-clause-roots
solve-requires-clause-roots g c =
    let (o, shown) = an-operation (length c.args.u.now) c.args.u.now c.args.op.now c.requires.op in
    let table = c.new-wanted.ensures.table in
    let asked = c.if-not-ask_parts.ensures o
    (subst (λ vs. IsShown vs c.args.op.now o) (sym table) shown) in
    let asks = rw table at (asked.decides.asks refl) in
    roots-sound (length c.args.u.now) c.args.def.now.body c.ask_parts.new.self.slots.items
    c.as_slice-2.result.now (c.as_slice-2.ensures.value ∙ c.roots-roots.ensures)
    (asks.size ∙ c.new-wanted.ensures.size ∙ ap length c.as_slice.ensures)
    (rw (asked.same ∙ table) at c.ask_parts.new.self.known)

pub returns : goal.returns
returns g c =
    let says = tests (λ p. (g.dyn-1.0.entry p.0).1.property p.1) c.args.natives.now in
    let roots = c.as_slice-2.ensures.value ∙ c.roots-roots.ensures in
    let table = c.new-wanted.ensures.table in
    λ o shown.
    let asked = c.if-not-ask_parts.ensures o
    (subst (λ vs. IsShown vs c.args.op.now o) (sym table) shown) in
    let asks = rw table at (asked.decides.asks refl) in
    decided c.solve.result c.is_some.result (MeetsBody c.args.u.now says c.args.def.now.body)
    (HasRoots c.args.u.now c.as_slice-2.result.now)
    (MeetsDefinition c.args.u.now says c.args.def.now o) c.args.u.now c.is_some.ensures
    c.solve.ensures.meets c.solve.ensures.roots c.solve.ensures.none
    (λ a body has. solved c.args.u.now says c.args.def.now o c.new-wanted.result.slots.items
    c.ask_parts.new.self.slots.items c.as_slice-2.result.now a roots asks body has)
    (λ never. unsolved c.args.u.now says c.args.def.now o c.new-wanted.result.slots.items
    c.ask_parts.new.self.slots.items c.as_slice-2.result.now c.new-wanted.ensures.none
    roots asks never)
