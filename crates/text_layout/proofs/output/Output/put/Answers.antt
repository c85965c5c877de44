use Rattle.std.proofs.Common.{rules, [], ◌++◌, refl}
use Rattle.text_layout.proofs.Flows.{stops-more}
use Rattle.text_layout.proofs.Going.{out-of-memory-then}
use Rattle.text_layout.proofs.output.Output.put.Goals as goal

pub returns-in_err-hand_on-clause-err : goal.returns-in_err-hand_on-clause-err
returns-in_err-hand_on-clause-err g c =
    let more = stops-more _ _ [] (c.args.gap.now ++ c.args.text.now) _ c.in_err-hand_on.ensures.err
    in search rules

pub returns-in-Err-clause-err : goal.returns-in-Err-clause-err
returns-in-Err-clause-err g c = out-of-memory-then _ _ _ _ c.in_ok-hand_on.ensures.ok refl refl
