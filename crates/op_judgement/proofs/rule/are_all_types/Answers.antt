use Rattle.std.proofs.Common.{sym, subst, refl, arith, length, ap, Some, List, [], map, option_map, ◌≡◌, ◌≤◌, ◌∙◌}
use Rattle.std.proofs.Math.ListN.{drop_of_length-le}
use Rattle.std.proofs.lemmas.List.{length-map}
use Rattle.std.proofs.lemmas.Option.{slice_get-get_or, slice_get-map}
use Rattle.std.specs.List.{AllByRecursion}
use Rattle.attr_value.specs.Heads.{IsType}
use Rattle.attr_value.specs.Ids.{AreKnown}
use Rattle.op_verifier.specs.Seen.{values_at}
use Rattle.op_verifier.proofs.Walks.{all-get, all-step, drop-next}
use Rattle.op_judgement.proofs.rule.are_all_types.Goals as goal

pub are_types-requires : goal.are_types-requires
are_types-requires c =
    let ids = slice_get-get_or c.args.lists.now c.loop-ids.ids-index _ c.loop-ids-test.true
    ∙ ap Some (sym c.ids-item.is) in
    subst (AreKnown (length c.args.u.now)) (sym c.as_slice.ensures)
    (all-get (AreKnown (length c.args.u.now)) c.args.lists.now c.loop-ids.ids-index _ c.requires
    ids)

pub returns-then-not-are_types : goal.returns-then-not-are_types
returns-then-not-are_types c =
    let vs = map (values_at c.args.u.now) c.args.lists.now in
    let ids = slice_get-get_or c.args.lists.now c.loop-ids.ids-index _ c.loop-ids-test.true
    ∙ ap Some (sym c.ids-item.is) in
    let there = slice_get-map (values_at c.args.u.now) c.args.lists.now c.loop-ids.ids-index
    ∙ ap (option_map (values_at c.args.u.now)) ids in
    let next = drop-next vs c.loop-ids.ids-index _ there in (
      λ yes. absurd (cc yes),
      λ all. c.if-not-are_types.ensures.1
          (subst (λ l. AllByRecursion IsType (values_at c.args.u.now l)) (sym c.as_slice.ensures)
          (subst (AllByRecursion (AllByRecursion IsType)) next (c.loop-ids.invariant.0 all)).0),
    )

pub loop-ids-preserved : goal.loop-ids-preserved
loop-ids-preserved c =
    let vs = map (values_at c.args.u.now) c.args.lists.now in
    let ids = slice_get-get_or c.args.lists.now c.loop-ids.ids-index _ c.loop-ids-test.true
    ∙ ap Some (sym c.ids-item.is) in
    let there = slice_get-map (values_at c.args.u.now) c.args.lists.now c.loop-ids.ids-index
    ∙ ap (option_map (values_at c.args.u.now)) ids in
    all-step (AllByRecursion IsType) vs c.loop-ids.ids-index _ there
    (subst (λ l. AllByRecursion IsType (values_at c.args.u.now l)) c.as_slice.ensures
    (c.if-not-are_types.ensures.0 refl)) c.loop-ids.invariant

pub returns : goal.returns
returns c =
    let vs = map (values_at c.args.u.now) c.args.lists.now in
    let long : length vs ≡ length c.args.lists.now =
    length-map c.args.lists.now (values_at c.args.u.now) in
    let past : length vs ≤ c.loop-ids.ids-index = let test = c.loop-ids-test.false in omega arith in
    let none = drop_of_length-le vs {i = c.loop-ids.ids-index} past in (
      λ yes. c.loop-ids.invariant.1
          (subst (AllByRecursion (AllByRecursion IsType)) (sym none) tt),
      λ all. refl,
    )
