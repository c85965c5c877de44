use Rattle.std.specs.List.{flat_map}
use Rattle.dialect_registry.specs.NameFaults.{marks_of_entry}
use Rattle.dialect_registry.proofs.Walks.{sees-none, sees-more, sees-all}
use Rattle.dialect_registry.proofs.body.see_entries.Goals as goal

pub loop-entry-init : goal.loop-entry-init
loop-entry-init c = sees-none c.args.scope.now

pub loop-entry-preserved : goal.loop-entry-preserved
loop-entry-preserved c =
    sees-more (marks_of_entry c.args.sort) c.args.entries.now c.loop-entry.entry-index
    c.entry-item.result c.args.scope.now c.loop-entry.scope c.see_entry.new.scope
    c.loop-entry-test.true c.entry-item.is c.loop-entry.invariant c.in_ok-see_entry.ensures

pub returns : goal.returns
returns c =
    sees-all (flat_map (marks_of_entry c.args.sort)) c.args.entries.now c.loop-entry.entry-index
    c.args.scope.now c.loop-entry.scope
    c.loop-entry.auto.entry-index-end c.loop-entry-test.false c.loop-entry.invariant
