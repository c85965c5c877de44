use Rattle.std.proofs.Common.{arith, ◌<◌, ◌+◌, length, subst}
use Rattle.symbol_scopes.specs.ScopeMarks.{passed}
use Rattle.symbol_scopes.specs.Calls.{mark_of}
use Rattle.symbol_scopes.proofs.Walks.{own-below}
use Rattle.symbol_scopes.proofs.walk.Walk.take.Goals as goal

pub leave-requires-clause-known : goal.leave-requires-clause-known
leave-requires-clause-known c =
    let s = c.args.self.now.round in
    let many : s.entered < length c.args.listed.now.heads.items =
    subst (λ x. (passed s (mark_of c.args.names.now x)).entered < length c.args.listed.now.heads.items)
    c.in-Leave.is c.requires.regions in
    let inner : 1 < length s.round = c.is_inner.ensures.inner.0 c.if-is_inner.true in
    let own-is = own-below (s.entered + 1) s.round (omega arith) c.is_inner.ensures.descend in
    omega arith
