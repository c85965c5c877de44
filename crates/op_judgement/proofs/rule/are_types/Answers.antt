use Rattle.std.proofs.Common.{sym, subst, refl, arith, IsTrue, false, length, ◌≡◌, ◌≤◌}
use Rattle.std.proofs.Math.ListN.{drop_of_length-le}
use Rattle.std.proofs.lemmas.List.{length-map}
use Rattle.std.proofs.lemmas.Option.{slice_get-get_or}
use Rattle.std.specs.List.{AllByRecursion}
use Rattle.attr_value.specs.declared.head.ValueId.{ValueId}
use Rattle.attr_value.specs.Heads.{IsType}
use Rattle.attr_value.specs.Ids.{at}
use Rattle.op_verifier.specs.Seen.{values_at}
use Rattle.op_verifier.proofs.Walks.{all-step, drop-next, known-at, value-at}
use Rattle.op_judgement.proofs.rule.are_types.Goals as goal

pub is_type-requires : goal.is_type-requires
is_type-requires c =
    let id = slice_get-get_or c.args.ids.now c.loop-id.id-index (record { 0 = 0 })
    c.loop-id-test.true in
    known-at (length c.args.u.now) c.args.ids.now c.loop-id.id-index _ c.requires id

pub returns-then-not-is_type : goal.returns-then-not-is_type
returns-then-not-is_type c =
    let vs = values_at c.args.u.now c.args.ids.now in
    let id = slice_get-get_or c.args.ids.now c.loop-id.id-index (record { 0 = 0 })
    c.loop-id-test.true in
    let next = drop-next vs c.loop-id.id-index _
    (value-at c.args.u.now c.args.ids.now c.loop-id.id-index _ id) in (
      λ yes. absurd (cc yes),
      λ all. c.if-not-is_type.ensures.1
          (subst (AllByRecursion IsType) next (c.loop-id.invariant.0 all)).0,
    )

pub loop-id-preserved : goal.loop-id-preserved
loop-id-preserved c =
    let vs = values_at c.args.u.now c.args.ids.now in
    let id = slice_get-get_or c.args.ids.now c.loop-id.id-index (record { 0 = 0 })
    c.loop-id-test.true in
    all-step IsType vs c.loop-id.id-index _
    (value-at c.args.u.now c.args.ids.now c.loop-id.id-index _ id)
    (c.if-not-is_type.ensures.0 refl) c.loop-id.invariant

pub returns : goal.returns
returns c =
    let vs = values_at c.args.u.now c.args.ids.now in
    let long : length vs ≡ length c.args.ids.now =
    length-map c.args.ids.now (λ (id : ValueId). at c.args.u.now id.0) in
    let past : length vs ≤ c.loop-id.id-index = let test = c.loop-id-test.false in omega arith in
    let none = drop_of_length-le vs {i = c.loop-id.id-index} past in
    (λ yes. c.loop-id.invariant.1 (subst (AllByRecursion IsType) (sym none) tt), λ all. refl)
