use Rattle.std.proofs.Common.{take}
use Rattle.irdl_engine.specs.Judged.{SpellFiles}
use Rattle.irdl_engine.specs.Said.{bytes_of}
use Rattle.irdl_engine.proofs.trees.read_trees.Given as goal

-- the texts before spell the trees so far
abbrev pub invariant-loop-file : goal.invariant-loop-file
invariant-loop-file l = SpellFiles (take l.file (bytes_of l.texts)) l.trees.items
