use Rattle.std.proofs.Common.{map}
use Rattle.std.specs.List.{range_with_len}
use Rattle.format_checker.specs.declared.shown.Thing.TheVariants as thing
use Rattle.format_checker.specs.Shown.{showing}
use Rattle.format_checker.specs.Tables.{Notes}
use Rattle.format_checker.proofs.shown.Shown.note_result_types.Given as goal

abbrev pub invariant-loop-number : goal.invariant-loop-number
invariant-loop-number l =
    Notes (map (showing l.at) (map (λ i. thing.ResultTypes i) (range_with_len 0 l.number)))
    l.fn.self l.self
