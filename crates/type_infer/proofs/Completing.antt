-- Completions are the assignments that meet the body and have what is wanted.
use Rattle.std.proofs.Common.{◌≡◌, ◌⊎◌, inl, inr, ℕ, ◌<◌, List, [], ◌∷◌, length, Option}
use Rattle.std.proofs.Common.{refl, sym, subst, arith, map}
use Rattle.std.specs.List.{AllByRecursion}
use Rattle.attr_value.specs.declared.head.ValueId.{ValueId}
use Rattle.attr_value.specs.Values.{Value}
use Rattle.dialect_defs.specs.declared.body.VarId.{VarId}
use Rattle.dialect_defs.specs.declared.definition.OpDef.{OpDef}
use Rattle.dialect_defs.specs.declared.definition.TypeDef.{TypeDef}
use Rattle.dialect_defs.specs.declared.entry.Entry.{Entry}
use Rattle.dialect_defs.specs.Assignments.{Tests, Assignment, Has, MeetsBody}
use Rattle.dialect_defs.specs.Operations.{EntriesHave}
use Rattle.constraint_solver.specs.Roots.{assigned}
use Rattle.type_infer.specs.declared.entries.Shown.{Shown}
use Rattle.type_infer.specs.AllShown.{HasShown}
use Rattle.type_infer.specs.Asked.{Slots, Within}
use Rattle.type_infer.specs.Completes.{EachStandFor, CompletesBy, IsShownOf, result_count}
use Rattle.type_infer.specs.Found.{Finds}
use Rattle.type_infer.specs.Picked.{types_by, IsPicked, ArePicked}
use Rattle.type_infer.specs.Wants.{IsHiddenAt, IsHidden, IsWanted}
use Rattle.type_infer.proofs.Once.{operand-side, result-side}
use Rattle.type_infer.proofs.Picking.{picked-have, picked-stand}
use Rattle.type_infer.proofs.Sides.{Side, at-entry, stand-length, shown-have}
use Rattle.type_infer.proofs.Lists.{fit-length}

some-has : (a : Assignment) (v : VarId) (xs : List Value) → 0 < length xs
    → AllByRecursion (Has a v) xs → (y : Value) × Has a v y
some-has a v [] some have = absurd (omega arith)
some-has a v (x ∷ xs) some have = (x, have.0)

module _ (values : List Value) (tests : Tests) (types : List TypeDef) where
  -- a hidden entry that has values has a value
  hidden-has : (entries : List Entry) (shown : List (Option (List ValueId))) (counts : List ℕ)
      → Side entries shown counts → (lists : List (List Value)) (a : Assignment) (v : VarId)
      → EachStandFor values tests types shown counts lists → EntriesHave a entries lists
      → IsHiddenAt entries shown counts v → (y : Value) × Has a v y
  hidden-has entries shown counts side lists a v stand have at_v =
      let there = at-entry values tests types entries shown counts side lists a at_v.place at_v.entry
      stand have at_v.stands in
      let long = stand-length values tests types entries shown counts side at_v.place there.ids
      there.count there.list there.shows there.counted there.stands in
      let count : there.count ≡ at_v.count = let c = there.counted in let e = at_v.counted in cc in
      let got = some-has a at_v.entry.var there.list (omega (arith, long, count, at_v.some))
      there.have in
      (got.0, subst (λ w. Has a w got.0) (sym at_v.is) got.1)

  module _ (d : OpDef) (shown : Shown) (right : IsShownOf d shown) where
    -- a completion has what is shown
    pub completes-shown : (xs ys : List (List Value)) (a : Assignment)
        → CompletesBy values tests types d shown xs ys a → HasShown values d shown a
    completes-shown xs ys a by = record {
      operands = shown-have values tests types _ _ _ (operand-side d shown right) xs a
          by.operand_types by.operands_have;
      results = shown-have values tests types _ _ _ (result-side d shown right) ys a
          by.result_types by.results_have;
      attrs = λ k entry attr from is there. by.attrs_have k entry attr is there;
      args = λ k entry ids from is there. by.args_have k entry ids is there;
    }

    completes-hidden : (xs ys : List (List Value)) (a : Assignment) (v : VarId)
        → CompletesBy values tests types d shown xs ys a → IsHidden d shown v
        → (y : Value) × Has a v y
    completes-hidden xs ys a v by (inl at_v) =
        hidden-has _ _ _ (operand-side d shown right) xs a v by.operand_types by.operands_have at_v
    completes-hidden xs ys a v by (inr at_v) =
        hidden-has _ _ _ (result-side d shown right) ys a v by.result_types by.results_have at_v

    -- a completion has what is wanted
    pub completes-wanted : (asked found wanted : Slots) (xs ys : List (List Value)) (a : Assignment)
        → CompletesBy values tests types d shown xs ys a → IsWanted values d shown asked found wanted
        → Within (assigned values asked) a → Finds values found a
        → Within (assigned values wanted) a
    completes-wanted asked found wanted xs ys a by want within finds v x has = go (want.only v x has)
      where
        go : Has (assigned values asked) v x ⊎ (IsHidden d shown v × Has (assigned values found) v x)
            → Has a v x
        go (inl was_asked) = within v x was_asked
        go (inr (hides, was_found)) =
            let got = completes-hidden xs ys a v by hides in
            subst (Has a v) (finds.same v x got.0 was_found got.1) got.1

    -- what has the shown values, and a good type that is picked for each hidden one, completes it
    pub picked-completes : (pick : VarId → Value) (a : Assignment) → MeetsBody values tests d.body a
        → HasShown values d shown a
        → ((v : VarId) → IsHidden d shown v → IsPicked values tests types pick a v)
        → CompletesBy values tests types d shown
        (types_by values pick d.operands shown.operand_types shown.operand_counts)
        (types_by values pick d.results shown.result_types (map result_count shown.result_types)) a
    picked-completes pick a body has picked = record {
      operand_types = picked-stand values tests types pick a _ _ _ operands;
      result_types = picked-stand values tests types pick a _ _ _ results;
      body = body;
      operands_have = picked-have values tests types pick a _ _ _ (operand-side d shown right).as_many
          (sym (fit-length d.operands shown.operand_counts right.operand_counts)) has.operands operands;
      results_have = picked-have values tests types pick a _ _ _ (result-side d shown right).as_many
          (sym (fit-length d.results (map result_count shown.result_types) right.result_counts))
          has.results results;
      attrs_have = λ k entry attr is there. has.attrs k entry attr (omega arith) is there;
      args_have = λ k entry ids is there. has.args k entry ids (omega arith) is there;
    }
      where
        operands : ArePicked values tests types pick a d.operands shown.operand_types
            shown.operand_counts
        operands k e n is none count some = picked e.var (inl (record {
          place = k;
          entry = e;
          count = n;
          stands = is;
          hidden = none;
          counted = count;
          some = some;
          is = refl;
        }))

        results : ArePicked values tests types pick a d.results shown.result_types
            (map result_count shown.result_types)
        results k e n is none count some = picked e.var (inr (record {
          place = k;
          entry = e;
          count = n;
          stands = is;
          hidden = none;
          counted = count;
          some = some;
          is = refl;
        }))
