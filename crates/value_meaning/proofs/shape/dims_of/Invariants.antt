use Rattle.value_meaning.specs.Spelled.{dim_of}
use Rattle.value_meaning.proofs.Gathered.{Gathered}
use Rattle.value_meaning.proofs.shape.dims_of.Given as goal

-- the dimensions so far
abbrev pub invariant-loop-text : goal.invariant-loop-text
invariant-loop-text l = Gathered (dim_of l.kind) l.dims l.text-index l.right
