use Rattle.std.proofs.Common.{◌≡◌, ◌<◌, sym, subst, length, slice_get, Some}
use Rattle.ir_store.specs.Numbering.{ops_in}
use Rattle.ir_store.specs.Store.{StoredHead}
use Rattle.op_verifier.proofs.RegionSteps.{an-element}
use Rattle.op_verifier.proofs.operations.definition.Goals as goal

pub definition_at-requires : goal.definition_at-requires
definition_at-requires c =
    let x = an-element (ops_in c.args.store.now) c.args.op.0 c.requires.op in
    subst (λ (h : StoredHead). h.name.def < length c.args.defs.now) (c.op.ensures.head x.0 x.1)
    (c.requires.named x.0 x.1)

pub returns : goal.returns
returns c =
    λ x e. subst
    (λ (h : StoredHead). slice_get c.args.defs.now h.name.def ≡ Some c.definition_at.result.now)
    (sym (c.op.ensures.head x e)) c.definition_at.ensures
