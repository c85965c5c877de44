use Rattle.std.proofs.Common.{arith}
use Rattle.op_judgement.specs.Found.{basis_of}
use Rattle.op_judgement.specs.Grounds.{loaded_by}
use Rattle.op_judgement.proofs.Finding.{found-grow}
use Rattle.op_judgement.proofs.Gathering.{types-found}
use Rattle.op_judgement.proofs.Grown.{ready-grows, ground-grows}
use Rattle.op_judgement.proofs.parts.types_of.Goals as goal

pub types-requires-2 : goal.types-requires-2
types-requires-2 g c = (omega arith, ready-grows c.requires.ready c.types.ensures.later)

pub returns-clause-found : goal.returns-clause-found
returns-clause-found g c =
    let b = basis_of (λ p. (goal.NativePredicate-dyn g p).property p.1) c.args.env.now in
    λ old al over.
    let ins = rw c.as_slice.ensures at (c.in_ok-operands.ensures.found old al over) in
    let outs = rw c.as_slice-2.ensures at (c.in_ok-results.ensures.found old al
    (ground-grows c.requires.ready over c.types.ensures.later)) in
    types-found (loaded_by b old) al c.args.form.now c.types-2.new.u _ c.in_ok-operands.in_operands
    c.in_ok-results.in_results (found-grow c.types-2.ensures.later ins) outs c.earlier.ensures
