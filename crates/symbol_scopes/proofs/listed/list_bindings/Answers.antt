use Rattle.std.proofs.Common.{◌≡◌, ◌+◌, ◌++◌, take, ap, sym, ◌∙◌, arith}
use Rattle.symbol_scopes.specs.ScopeMarks.{bindings, bindings_of, standing, passed}
use Rattle.symbol_scopes.specs.Calls.{mark_of, marks_of}
use Rattle.symbol_scopes.specs.Listed.{bindings_in}
use Rattle.symbol_scopes.proofs.Walks.{at-step, further-along, marks-whole}
use Rattle.symbol_scopes.proofs.Listing.{listed-same}
use Rattle.symbol_scopes.proofs.listed.list_bindings.Goals as goal

pub take-requires-clause-listed : goal.take-requires-clause-listed
take-requires-clause-listed c =
    let was = c.loop-at.invariant in
    listed-same c.args.names.now _ _ _ _ _ (sym was.1.bindings)
    (ap (λ s. s.entered + 1) (sym was.0)) was.1

pub loop-at-preserved : goal.loop-at-preserved
loop-at-preserved c =
    let ns = c.args.names.now in
    let calls = c.args.calls.now in
    let i = c.loop-at.at in
    let k = c.args.kind in
    let ms = marks_of ns calls in
    let m = mark_of ns c.get.result in
    let count = c.len-at-end.ensures.count in
    let test = c.loop-at-test.true in
    let here = at-step ns calls i c.get.result (omega arith) c.get.ensures in
    let was = c.loop-at.invariant in
    let round : c.take.new.round ≡ standing (take (i + 1) ms) =
    c.in_ok-take.ensures.round ∙ ap (λ s. passed s m) was.0 ∙ sym here.stands in
    let bindings : bindings_in ns c.loop-at.listed ++ bindings_of k c.loop-at.round.round m
    ≡ bindings k (take (i + 1) ms) =
    ap (λ l. l ++ bindings_of k c.loop-at.round.round m) was.1.bindings
    ∙ ap (λ s. bindings k (take i ms) ++ bindings_of k s.round m) was.0
    ∙ sym (further-along (bindings_of k) ms i m here) in
    (round, listed-same ns _ _ _ _ _ bindings (ap (λ s. s.entered + 1) round) c.in_ok-take.ensures.listed)

pub returns : goal.returns
returns c =
    let ns = c.args.names.now in
    let calls = c.args.calls.now in
    let count = c.len-at-end.ensures.count in
    let test = c.loop-at-test.false in
    let whole = marks-whole ns calls c.loop-at.at (omega arith) in
    listed-same ns _ _ _ _ _ (ap (bindings c.args.kind) whole)
    (ap (λ ms. (standing ms).entered + 1) whole) c.loop-at.invariant.1
