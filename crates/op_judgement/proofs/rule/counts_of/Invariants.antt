use Rattle.std.proofs.Common.{◌≡◌, take}
use Rattle.op_judgement.specs.Shown.{block_counts}
use Rattle.op_judgement.proofs.rule.counts_of.Given as goal

abbrev pub invariant-loop-region : goal.invariant-loop-region
invariant-loop-region l = l.counts.items ≡ block_counts (take l.region-index l.regions)
