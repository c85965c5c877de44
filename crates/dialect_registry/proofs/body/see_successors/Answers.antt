use Rattle.std.proofs.Common.{map}
use Rattle.dialect_registry.specs.NameFaults.{labels}
use Rattle.dialect_registry.proofs.Walks.{sees-none, sees-map, sees-all}
use Rattle.dialect_registry.proofs.body.see_successors.Goals as goal

pub loop-name-init : goal.loop-name-init
loop-name-init c = sees-none c.args.scope.now

pub loop-name-preserved : goal.loop-name-preserved
loop-name-preserved c =
    sees-map (λ n. labels n.place n.name) c.args.names.now c.loop-name.name-index
    c.name-item.result c.args.scope.now c.loop-name.scope c.label.new.self
    c.loop-name-test.true c.name-item.is c.loop-name.invariant
    (rw c.bytes.ensures at c.in_ok-label.ensures)

pub returns : goal.returns
returns c =
    sees-all (map (λ n. labels n.place n.name)) c.args.names.now c.loop-name.name-index
    c.args.scope.now c.loop-name.scope
    c.loop-name.auto.name-index-end c.loop-name-test.false c.loop-name.invariant
