use Rattle.std.proofs.Common.{◌-◌, length}
use Rattle.std.specs.declared.option.Option.TheVariants.{None}
use Rattle.value_meaning.specs.Bases.{basis_of}
use Rattle.value_meaning.specs.KidsSeen.{kids_seen}
use Rattle.value_meaning.proofs.Listing.{IsSoFar}
use Rattle.value_meaning.proofs.judge.+judge.Given as goal

abbrev pub decreases-judge : goal.decreases-judge
decreases-judge g l = goal.size-judge g l

-- the first kids are judged
abbrev pub invariant-loop-kid : goal.invariant-loop-kid
invariant-loop-kid g l =
    IsSoFar (basis_of (λ p. (g.dyn-1.0.entry p.0).1.property p.1) l.env) l.inner l.fn.u l.u
    (λ al. kids_seen al l.cst.node) l.i l.kids

-- the kids that are left
abbrev pub decreases-loop-kid : goal.decreases-loop-kid
decreases-loop-kid g l = length (kids_seen (λ is_type name. None) l.cst.node) - l.i
