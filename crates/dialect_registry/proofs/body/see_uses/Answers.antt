use Rattle.dialect_registry.specs.NameFaults.{uses, uses_of}
use Rattle.dialect_registry.specs.declared.scope.ValueSort.TheVariants as sort
use Rattle.dialect_registry.proofs.Walks.{sees-none, sees-map, sees-all}
use Rattle.dialect_registry.proofs.body.see_uses.Goals as goal

pub loop-name-init : goal.loop-name-init
loop-name-init c = sees-none c.args.scope.now

pub loop-name-preserved : goal.loop-name-preserved
loop-name-preserved c =
    sees-map (λ n. uses sort.Constraint n.place n.name) c.args.names.now c.loop-name.name-index
    c.name-item.result c.args.scope.now c.loop-name.scope c.use_name.new.self
    c.loop-name-test.true c.name-item.is c.loop-name.invariant
    (rw c.bytes.ensures at c.use_name.ensures)

pub returns : goal.returns
returns c =
    sees-all uses_of c.args.names.now c.loop-name.name-index c.args.scope.now c.loop-name.scope
    c.loop-name.auto.name-index-end c.loop-name-test.false c.loop-name.invariant
