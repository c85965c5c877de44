use Rattle.dialect_registry.specs.DefFaults.{IsAttrFault}
use Rattle.dialect_registry.proofs.Walks.{among-none, among-more, among-all}
use Rattle.dialect_registry.proofs.statement.judge_attrs.Goals as goal

pub loop-attr-init : goal.loop-attr-init
loop-attr-init c = among-none IsAttrFault

pub loop-attr-preserved : goal.loop-attr-preserved
loop-attr-preserved c =
    rw c.earlier-first.ensures
    (among-more IsAttrFault c.args.attrs.now c.loop-attr.attr-index c.attr-item.result
    c.loop-attr.first c.judge_attr.result c.loop-attr-test.true c.attr-item.is
    c.loop-attr.invariant c.judge_attr.ensures)

pub returns : goal.returns
returns c =
    among-all IsAttrFault c.args.attrs.now c.loop-attr.attr-index c.loop-attr.first
    c.loop-attr.auto.attr-index-end c.loop-attr-test.false c.loop-attr.invariant
