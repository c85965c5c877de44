use Rattle.std.proofs.Common.{◌++◌, sym, ◌∙◌}
use Rattle.format_checker.proofs.Best.{item-at, none-at, best-stays, best-moves, best-first}
use Rattle.format_checker.proofs.meeting.best_from.Goals as goal

pub returns-then-precedes : goal.returns-then-precedes
returns-then-precedes c = λ known.
    let others = c.args.near.now ++ c.args.far.now in
    let met = sym c.meets_either.ensures ∙ c.if-not-meets_either.false in
    let there = item-at c.args.own.now c.args.best c.in-Some.other.now
    c.in-Some.ensures.lookup.3.0 c.in-Some.ensures.lookup.1 in
    best-stays c.args.own.now others c.args.at c.args.best c.index-own-at.result
    c.requires.inside c.index-own-at.is known c.in-Some.other.now met there
    (sym c.precedes.ensures ∙ c.if-precedes.true)

pub returns-else-precedes : goal.returns-else-precedes
returns-else-precedes c = λ known.
    let others = c.args.near.now ++ c.args.far.now in
    let met = sym c.meets_either.ensures ∙ c.if-not-meets_either.false in
    let there = item-at c.args.own.now c.args.best c.in-Some.other.now
    c.in-Some.ensures.lookup.3.0 c.in-Some.ensures.lookup.1 in
    best-moves c.args.own.now others c.args.at c.args.best c.index-own-at.result
    c.requires.inside c.index-own-at.is known c.in-Some.other.now met there
    (sym c.precedes.ensures ∙ c.if-precedes.false)

pub returns-in-None : goal.returns-in-None
returns-in-None c = λ known.
    let others = c.args.near.now ++ c.args.far.now in
    let met = sym c.meets_either.ensures ∙ c.if-not-meets_either.false in
    best-first c.args.own.now others c.args.at c.args.best c.index-own-at.result
    c.requires.inside c.index-own-at.is known met
    (none-at c.args.own.now c.args.best c.in-None.ensures.lookup.0)
