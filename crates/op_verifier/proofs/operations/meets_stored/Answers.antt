use Rattle.std.proofs.Common.{◌<◌, ◌↔◌, ◌∙◌, ap, sym, subst, length, map, IsTrue}
use Rattle.std.specs.List.{AllByRecursion}
use Rattle.dialect_defs.specs.Operations.{MeetsDefinition}
use Rattle.ir_store.specs.Modules.{types_in}
use Rattle.ir_store.specs.Numbering.{ops_in}
use Rattle.ir_store.specs.Store.{StoredHead}
use Rattle.native_predicate.specs.Lists.{tests}
use Rattle.op_verifier.specs.Seen.{operation_seen, type_in, operand_types}
use Rattle.op_verifier.proofs.Judging.{named-meets, operands-known}
use Rattle.op_verifier.proofs.RegionSteps.{an-element}
use Rattle.op_verifier.proofs.Walks.{all-get}
use Rattle.op_verifier.proofs.operations.meets_stored.Goals as goal

pub definition-def-requires-clause-named : goal.definition-def-requires-clause-named
definition-def-requires-clause-named g c = λ x e. (c.requires.judgeable x e).def

pub judge-requires-clause-def : goal.judge-requires-clause-def
judge-requires-clause-def g c =
    let x = an-element (ops_in c.args.store.now) c.args.op.0 c.requires.op in
    all-get _ c.args.defs.now x.0.head.name.def c.definition-def.result.now c.requires.defs
    (c.definition-def.ensures x.0 x.1)

pub judge-requires-clause-types : goal.judge-requires-clause-types
judge-requires-clause-types g c =
    let x = an-element (ops_in c.args.store.now) c.args.op.0 c.requires.op in
    let numbers = ap (λ (h : StoredHead). h.operands) (c.op.ensures.head x.0 x.1)
    ∙ sym c.as_slice.ensures in
    operands-known (length c.args.u.now) c.args.store.now c.as_slice.result.now c.requires.ids.types
    (subst (AllByRecursion (λ n. n < length (types_in c.args.store.now))) numbers
    (c.requires.judgeable x.0 x.1).operands)

pub returns : goal.returns
returns g c =
    let says = tests (λ p. (g.dyn-1.0.entry p.0).1.property p.1) c.args.natives.now in
    λ x e.
    let numbers = c.as_slice.ensures
    ∙ sym (ap (λ (h : StoredHead). h.operands) (c.op.ensures.head x e)) in
    named-meets c.args.u.now says c.args.defs.now (operand_types c.args.store.now x) x
    c.definition-def.result.now c.judge.result (c.definition-def.ensures x e)
    (subst (λ ns. IsTrue c.judge.result ↔ MeetsDefinition c.args.u.now says
    c.definition-def.result.now (operation_seen c.args.u.now (map (type_in c.args.store.now) ns) x))
    numbers (c.judge.ensures x e))
