use Rattle.std.specs.List.{flat_map}
use Rattle.dialect_registry.specs.NameFaults.{marks_of_attr}
use Rattle.dialect_registry.proofs.Walks.{sees-none, sees-more, sees-all}
use Rattle.dialect_registry.proofs.body.see_attrs.Goals as goal

pub loop-attr-init : goal.loop-attr-init
loop-attr-init c = sees-none c.args.scope.now

pub loop-attr-preserved : goal.loop-attr-preserved
loop-attr-preserved c =
    sees-more marks_of_attr c.args.attrs.now c.loop-attr.attr-index
    c.attr-item.result c.args.scope.now c.loop-attr.scope c.see_attr.new.scope
    c.loop-attr-test.true c.attr-item.is c.loop-attr.invariant c.in_ok-see_attr.ensures

pub returns : goal.returns
returns c =
    sees-all (flat_map marks_of_attr) c.args.attrs.now c.loop-attr.attr-index
    c.args.scope.now c.loop-attr.scope
    c.loop-attr.auto.attr-index-end c.loop-attr-test.false c.loop-attr.invariant
