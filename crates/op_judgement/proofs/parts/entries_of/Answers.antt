use Rattle.std.proofs.Common.{[]}
use Rattle.op_judgement.specs.Found.{basis_of}
use Rattle.op_judgement.specs.Grounds.{loaded_by}
use Rattle.op_judgement.proofs.Entering.{entered-none}
use Rattle.op_judgement.proofs.Grown.{ready-grows, ground-grows}
use Rattle.op_judgement.proofs.parts.entries_of.Goals as goal

pub add_all-requires-2 : goal.add_all-requires-2
add_all-requires-2 g c = record { ready = ready-grows c.requires.ready c.add_all.ensures.later }

pub returns-clause-found : goal.returns-clause-found
returns-clause-found g c =
    let b = basis_of (λ p. (goal.NativePredicate-dyn g p).property p.1) c.args.env.now in
    λ old al over.
    let none = entered-none (loaded_by b old) al c.args.u.now c.new-entries.result
    c.new-entries.ensures.seen c.new-entries.ensures.pairs c.new-entries.ensures.first in
    let props = rw c.as_slice.ensures at (c.in_ok-add_all.ensures.entered old al [] over none) in
    rw c.as_slice-2.ensures at
    (c.in_ok-add_all-2.ensures.entered old al _
    (ground-grows c.requires.ready over c.add_all.ensures.later) props)
