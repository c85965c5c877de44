use Rattle.std.proofs.Common.{◌≡◌, ◌∙◌, ◌+◌, ap, refl, subst, arith, IsTrue}
use Rattle.std.proofs.lemmas.Bool.{eqb-true}
use Rattle.std.proofs.lemmas.Bool.Decides.{nat_tests}
use Rattle.generic_syntax.specs.declared.module_cst.ResultCst.{ResultCst}
use Rattle.dialect_registry.proofs.Walks.{whole-take}
use Rattle.module_meaning.specs.Names.{pack_size}
use Rattle.op_judgement.specs.Arity.{values_named}
use Rattle.op_judgement.proofs.Sizes.{sum-next, sum-within}
use Rattle.op_judgement.proofs.arity.are_as_many.Goals as goal

pub returns-then-size-left : goal.returns-then-size-left
returns-then-size-left c =
    let xs = c.args.named.now in
    let i = c.loop-name.name-index in
    let next = sum-next (λ (r : ResultCst). pack_size r.pack) xs i c.name-item.result
    c.loop-name-test.true c.name-item.is in
    let most = sum-within (λ (r : ResultCst). pack_size r.pack) xs (i + 1) in
    let kept = c.loop-name.invariant in
    let size = c.size_of-size.ensures in
    (λ yes. absurd (cc yes), λ e. absurd (omega arith))

pub loop-name-preserved : goal.loop-name-preserved
loop-name-preserved c =
    let xs = c.args.named.now in
    let i = c.loop-name.name-index in
    let next = sum-next (λ (r : ResultCst). pack_size r.pack) xs i c.name-item.result
    c.loop-name-test.true c.name-item.is in
    let kept = c.loop-name.invariant in
    let size = c.size_of-size.ensures in
    omega arith

pub returns : goal.returns
returns c =
    let all = ap values_named (whole-take c.args.named.now c.loop-name.name-index
    c.loop-name.auto.name-index-end c.loop-name-test.false) in
    let kept = c.loop-name.invariant in
    (λ yes. grind (arith, nat_tests), λ e. grind (arith, nat_tests))
