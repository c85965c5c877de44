use Rattle.std.proofs.Common.{◌≡◌, ◌<◌, ap, sym, subst, refl, arith, length, inl, inr}
use Rattle.std.proofs.Common.{IsTrue, false, slice_get, Some}
use Rattle.std.proofs.lemmas.Bool.{cases_lt}
use Rattle.std.proofs.lemmas.Option.{slice_get_within}
use Rattle.ir_store.specs.Numbering.{ops_in}
use Rattle.ir_store.specs.Store.{StoredHead}
use Rattle.op_verifier.proofs.Judging.{judge-ids}
use Rattle.op_verifier.proofs.RegionSteps.{an-element}
use Rattle.op_verifier.proofs.Walks.{all-get}
use Rattle.op_verifier.proofs.operations.verify.Goals as goal

pub meets_stored-requires-clause-ids : goal.meets_stored-requires-clause-ids
meets_stored-requires-clause-ids g c = judge-ids _ _ c.args.store.now c.requires.module

pub meets_stored-requires-clause-judgeable : goal.meets_stored-requires-clause-judgeable
meets_stored-requires-clause-judgeable g c =
    λ x e. all-get _ (ops_in c.args.store.now) c.loop-i.i x c.requires.module.ops e

pub returns-then-not-meets_stored-clause-err : goal.returns-then-not-meets_stored-clause-err
returns-then-not-meets_stored-clause-err g c =
    let within : c.loop-i.i < length (ops_in c.args.store.now) = omega arith in
    let x = an-element (ops_in c.args.store.now) c.loop-i.i within in
    record {
      site = x.0;
      stands = x.1;
      place = ap (λ (h : StoredHead). h.name.place) (sym (c.op.ensures.head x.0 x.1));
      fails = λ m.
          let yes : IsTrue false = (c.if-not-meets_stored.ensures x.0 x.1).1 m in
          absurd (cc yes);
      before = c.loop-i.invariant;
    }

pub loop-i-preserved : goal.loop-i-preserved
loop-i-preserved g c =
    λ other x less e. elim (cases_lt other.0 c.loop-i.i) [
      | inl low ↦ c.loop-i.invariant other x low e
      | inr high ↦
          let same : other.0 ≡ c.loop-i.i = omega (arith, less, high) in
          (c.if-not-meets_stored.ensures x
          (subst (λ k. slice_get (ops_in c.args.store.now) k ≡ Some x) same e)).0 refl
    ]

pub returns-clause-ok : goal.returns-clause-ok
returns-clause-ok g c =
    λ id x e.
    let within = slice_get_within (ops_in c.args.store.now) id.0 x e in
    c.loop-i.invariant id x (omega (arith, within)) e
