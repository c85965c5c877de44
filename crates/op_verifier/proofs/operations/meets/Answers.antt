use Rattle.std.proofs.Common.{◌≡◌, ◌↔◌, subst, IsTrue}
use Rattle.dialect_defs.specs.Operations.{MeetsDefinition}
use Rattle.ir_store.specs.Numbering.{ops_in}
use Rattle.native_predicate.specs.Lists.{tests}
use Rattle.op_verifier.specs.Seen.{operation_seen}
use Rattle.op_verifier.proofs.Judging.{named-meets, same-answer}
use Rattle.op_verifier.proofs.RegionSteps.{an-element}
use Rattle.op_verifier.proofs.Walks.{all-get}
use Rattle.op_verifier.proofs.operations.meets.Goals as goal

pub judge-requires-clause-def : goal.judge-requires-clause-def
judge-requires-clause-def g c =
    let x = an-element (ops_in c.args.store.now) c.args.op.0 c.requires.op in
    all-get _ c.args.defs.now x.0.head.name.def c.definition-def.result.now c.requires.defs
    (c.definition-def.ensures x.0 x.1)

pub returns-clause-meets : goal.returns-clause-meets
returns-clause-meets g c =
    let says = tests (λ p. (g.dyn-1.0.entry p.0).1.property p.1) c.args.natives.now in
    λ x e. named-meets c.args.u.now says c.args.defs.now c.args.operands.now x
    c.definition-def.result.now c.judge.result (c.definition-def.ensures x e)
    (c.judge.ensures x e)

pub returns-clause-fronts : goal.returns-clause-fronts
returns-clause-fronts g c =
    let says = tests (λ p. (g.dyn-1.0.entry p.0).1.property p.1) c.args.natives.now in
    λ x e d o named same.
    let found = c.definition-def.ensures x e in
    let is : c.definition-def.result.now ≡ d = cc in
    same-answer c.args.u.now says d o (operation_seen c.args.u.now c.args.operands.now x)
    c.judge.result same
    (subst (λ k. IsTrue c.judge.result
    ↔ MeetsDefinition c.args.u.now says k (operation_seen c.args.u.now c.args.operands.now x)) is
    (c.judge.ensures x e))
