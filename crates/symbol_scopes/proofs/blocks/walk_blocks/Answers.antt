use Rattle.std.proofs.Common.{arith}
use Rattle.symbol_scopes.specs.declared.call.NameKind.TheVariants.{Labels}
use Rattle.symbol_scopes.specs.Faults.{block_fault}
use Rattle.symbol_scopes.specs.Meanings.{block_meaning}
use Rattle.symbol_scopes.specs.Calls.{mark_of, marks_of}
use Rattle.symbol_scopes.proofs.Judging.{most, regions-there, judges-start, judges-step, judges-first}
use Rattle.symbol_scopes.proofs.Walks.{at-step, marks-whole}
use Rattle.symbol_scopes.proofs.blocks.walk_blocks.Goals as goal

pub loop-at-init : goal.loop-at-init
loop-at-init c =
    judges-start c.args.names.now (marks_of c.args.names.now c.args.calls.now) Labels
    c.in_ok-listed.listed c.in_ok-listed.ensures block_fault block_meaning c.in_ok-walk.walk _ _
    c.in_ok-walk.ensures.round c.in_ok-walk.ensures.slots c.new-blocks.ensures.first
    c.new-blocks.ensures.meanings

pub block_fault-fault-requires-clause-most : goal.block_fault-fault-requires-clause-most
block_fault-fault-requires-clause-most c =
    most c.args.names.now (marks_of c.args.names.now c.args.calls.now) Labels
    c.in_ok-listed.listed c.in_ok-listed.ensures c.loop-at.walk c.loop-at.before c.loop-at.at
    c.loop-at.invariant.going

pub take-requires-in-loop-at-clause-regions : goal.take-requires-in-loop-at-clause-regions
take-requires-in-loop-at-clause-regions c =
    let count = c.len-at-end.ensures.count in
    let test = c.loop-at-test.true in
    regions-there c.args.names.now (marks_of c.args.names.now c.args.calls.now) Labels
    c.in_ok-listed.listed c.in_ok-listed.ensures c.loop-at.walk c.loop-at.before c.loop-at.at _
    c.loop-at.invariant.going
    (at-step c.args.names.now c.args.calls.now c.loop-at.at c.get-next.result (omega arith)
    c.get-next.ensures)

pub loop-at-preserved : goal.loop-at-preserved
loop-at-preserved c =
    let ns = c.args.names.now in
    let ms = marks_of ns c.args.calls.now in
    let count = c.len-at-end.ensures.count in
    let test = c.loop-at-test.true in
    let here = at-step ns c.args.calls.now c.loop-at.at c.get-next.result (omega arith)
    c.get-next.ensures in
    judges-step ns ms Labels c.in_ok-listed.listed c.in_ok-listed.ensures block_fault block_meaning
    c.loop-at.walk c.take-in-loop-at.new.self c.loop-at.before c.loop-at.at
    c.definitions-before.result (mark_of ns c.get-next.result) c.loop-at.blocks.first
    c.block_fault-fault.result c.take.new.self.first c.loop-at.blocks.meanings.items _
    c.take.new.self.meanings.items c.loop-at.invariant here c.in_ok-take-2.ensures.round
    c.in_ok-take-2.ensures.slots (c.definitions-before.ensures.count ns c.loop-at.walk.round.round)
    c.definitions-before.ensures.most c.block_fault-fault.ensures
    (c.block_meaning.ensures c.loop-at.before) c.in_ok-take.ensures.first
    c.in_ok-take.ensures.meanings

pub returns-clause-first : goal.returns-clause-first
returns-clause-first c =
    let count = c.len-at-end.ensures.count in
    let test = c.loop-at-test.false in
    judges-first c.args.names.now (marks_of c.args.names.now c.args.calls.now) Labels
    c.in_ok-listed.listed block_fault block_meaning c.loop-at.walk c.loop-at.before c.loop-at.at _ _
    c.loop-at.invariant
    (marks-whole c.args.names.now c.args.calls.now c.loop-at.at (omega arith))
