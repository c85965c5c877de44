use Rattle.std.proofs.Common.{◌<◌, ◌≤◌, ap, arith, option_copied}
use Rattle.segment_match.specs.Spread.{flexible}
use Rattle.segment_match.proofs.Unique.{few-some, few-only, given-none, given-length, given-is}
use Rattle.segment_match.proofs.Unique.{given-only}
use Rattle.segment_match.proofs.sizes.Goals as goal

pub returns-then-count_flexible-lt2-clause-some : goal.returns-then-count_flexible-lt2-clause-some
returns-then-count_flexible-lt2-clause-some c =
    let few : flexible c.args.entries.now < 2 = omega arith in
    few-some _ c.args.entries.now c.args.count _ few c.checked.ensures.some

pub returns-then-count_flexible-lt2-clause-only : goal.returns-then-count_flexible-lt2-clause-only
returns-then-count_flexible-lt2-clause-only c =
    let few : flexible c.args.entries.now < 2 = omega arith in
    few-only _ c.args.entries.now c.args.count c.rest_of.result _ _ few c.rest_of.ensures
    c.spread_over.ensures c.checked.ensures.only

pub returns-in_err-list-clause-only : goal.returns-in_err-list-clause-only
returns-in_err-list-clause-only c =
    let many : 2 ≤ flexible c.args.entries.now = omega arith in
    λ s h. absurd (given-none _ _ _ s many (ap option_copied c.in_err-list.was) h)

pub returns-then-list-entries-clause-only : goal.returns-then-list-entries-clause-only
returns-then-list-entries-clause-only c =
    let many : 2 ≤ flexible c.args.entries.now = omega arith in
    λ s h. c.if-list-entries.true
    (given-length _ _ _ _ s many (ap option_copied c.in_ok-list.was) h)

pub returns-in_err-read_given-clause-only : goal.returns-in_err-read_given-clause-only
returns-in_err-read_given-clause-only c =
    let many : 2 ≤ flexible c.args.entries.now = omega arith in
    λ s h. absurd (c.in_err-read_given.ensures.only s
    (given-is _ _ _ _ s many (ap option_copied c.in_ok-list.was) h))

pub returns-clause-only : goal.returns-clause-only
returns-clause-only c =
    let many : 2 ≤ flexible c.args.entries.now = omega arith in
    given-only _ c.args.entries.now c.args.count _ _ _ many
    (ap option_copied c.in_ok-list.was) c.in_ok-read_given.ensures.some
    c.checked-2.ensures.only
