use Rattle.std.proofs.Common.{◌≡◌, ℕ, ◌<◌, true}
use Rattle.format_checker.specs.Tables.{flag}
use Rattle.format_checker.proofs.shown.Flags.first_other.Given as goal

abbrev pub invariant-loop-number : goal.invariant-loop-number
invariant-loop-number l = (k : ℕ) → k < l.number → flag l.self k ≡ true
