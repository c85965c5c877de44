use Rattle.std.proofs.Common.{List}
use Rattle.constraint_solver.proofs.Grows.{extends-of-interned}
use Rattle.op_judgement.specs.Found.{basis_of}
use Rattle.op_judgement.specs.Grounds.{loaded_by}
use Rattle.op_judgement.proofs.Entering.{tree-entry, unit-entry}
use Rattle.value_meaning.proofs.Results.{ok-map}
use Rattle.op_judgement.proofs.entries.entry_value.Goals as goal

pub returns-in-Some-clause-found : goal.returns-in-Some-clause-found
returns-in-Some-clause-found g c =
    let b = basis_of (λ p. (goal.NativePredicate-dyn g p).property p.1) c.args.env.now in
    ok-map c.tree_value.result
    (λ found h old al over. tree-entry (loaded_by b old) al c.args.entry.now c.in-Some.tree
    c.in-Some.is c.tree_value.new.u found (h old al over))
    c.tree_value.ensures.found

pub returns-in_ok-intern-in-None-clause-found : goal.returns-in_ok-intern-in-None-clause-found
returns-in_ok-intern-in-None-clause-found g c =
    let b = basis_of (λ p. (goal.NativePredicate-dyn g p).property p.1) c.args.env.now in
    λ old al over. unit-entry (loaded_by b old) al c.args.entry.now c.in-None.is c.args.u.now
    c.intern.new.self c.in_ok-intern-in-None.field-0 c.in_ok-intern-in-None.ensures.known
    c.in_ok-intern-in-None.ensures.ok
