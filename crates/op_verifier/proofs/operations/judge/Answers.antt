use Rattle.std.proofs.Common.{◌≡◌, ◌∙◌, ap, sym, subst, refl, length}
use Rattle.attr_value.specs.Ids.{AreKnown}
use Rattle.ir_store.specs.Numbering.{ops_in}
use Rattle.ir_store.specs.Store.{StoredHead, head_of}
use Rattle.ir_store.proofs.Inside.{op-placed}
use Rattle.op_verifier.specs.Seen.{operation_seen}
use Rattle.op_verifier.specs.Types.{ids_of}
use Rattle.op_verifier.proofs.AllParts.{types-known}
use Rattle.op_verifier.proofs.RegionSteps.{an-element}
use Rattle.op_verifier.proofs.Shown.{stored-shown, stored-front}
use Rattle.op_verifier.proofs.Walks.{all-get}
use Rattle.op_verifier.proofs.operations.judge.Goals as goal

pub meets_definition-requires-clause-op : goal.meets_definition-requires-clause-op
meets_definition-requires-clause-op g c =
    let len = length c.args.u.now in
    let x = an-element (ops_in c.args.store.now) c.args.op.0 c.requires.op in
    let head = c.op-row.ensures.head x.0 x.1 in
    record {
      operands = c.requires.types;
      results = rw c.as_slice.ensures
          (subst (λ (h : StoredHead). AreKnown len h.results) head
          (types-known _ c.args.store.now x.0.at.values x.0.head.results c.requires.ids.types
          (op-placed c.args.store.now c.args.op x.0 x.1).1));
      ascend = rw c.as_slice-2.ensures c.op-row.ensures.attrs.ascend;
      counts = ap length c.as_slice-3.ensures ∙ c.op-row.ensures.attrs.counts
          ∙ ap length (sym c.as_slice-2.ensures);
      values = rw c.as_slice-3.ensures
          (subst (λ (h : StoredHead). AreKnown len h.values) head
          (all-get _ (ops_in c.args.store.now) c.args.op.0 x.0 c.requires.ids.attrs x.1));
      regions = (c.requires.ids.types, c.requires.op);
    }

pub returns : goal.returns
returns g c =
    λ x e.
    c.meets_definition.ensures (operation_seen c.args.u.now (ids_of c.args.types.now) x)
    (stored-shown (head_of c.op-row.result.now) x (c.op-row.ensures.head x e) refl
    c.as_slice.ensures c.as_slice-2.ensures c.as_slice-3.ensures c.len.ensures.value
    (stored-front c.args.u.now c.args.store.now c.args.op x e))
