-- What is shown of an operation leaves at most one list of types.
use Rattle.std.proofs.Common.{◌≡◌, ◌∙◌, ℕ, false, List, length, Option, Some, None, map}
use Rattle.std.proofs.Common.{refl, ap, sym, arith, slice_get}
use Rattle.std.proofs.lemmas.Option.{slice_get_within}
use Rattle.std.specs.List.{Contains}
use Rattle.std.specs.Option.{option_map}
use Rattle.attr_value.specs.declared.head.ValueId.{ValueId}
use Rattle.attr_value.specs.Ids.{at}
use Rattle.attr_value.specs.Values.{Value}
use Rattle.dialect_defs.specs.declared.definition.OpDef.{OpDef}
use Rattle.dialect_defs.specs.declared.definition.TypeDef.{TypeDef}
use Rattle.dialect_defs.specs.declared.entry.Arity.TheVariants.{Single}
use Rattle.dialect_defs.specs.declared.entry.AttrEntry.{AttrEntry}
use Rattle.dialect_defs.specs.declared.entry.Entry.{Entry}
use Rattle.dialect_defs.specs.Assignments.{Tests, Assignment, Has}
use Rattle.dialect_defs.specs.Operations.{AttrHas}
use Rattle.constraint_solver.proofs.Given.{has-one}
use Rattle.type_infer.specs.declared.entries.EntryRef.{EntryRef}
use Rattle.type_infer.specs.declared.entries.EntryRef.TheVariants as ref
use Rattle.type_infer.specs.declared.entries.Shown.{Shown}
use Rattle.type_infer.specs.Completes.{CompletesBy, IsShownOf, Tells, result_count}
use Rattle.type_infer.specs.Completes.{AttrsHave}
use Rattle.type_infer.specs.Determined.{entry_at, Forced, Infers}
use Rattle.type_infer.specs.OneCompletion.{OneCompletion}
use Rattle.type_infer.proofs.Agree.{SameAt, agree, forced-has}
use Rattle.type_infer.proofs.Lists.{get-contains, get-there, get-mapped, length-mapped, fit-length}
use Rattle.type_infer.proofs.Sides.{Side, single-has, single-same, sides-same}

module _ (d : OpDef) (shown : Shown) (right : IsShownOf d shown) where
  pub operand-side : Side d.operands shown.operand_types shown.operand_counts
  operand-side = record {
    fit = right.operand_counts;
    as_many = right.operand_types;
    as_long = right.operand_lists;
  }

  pub result-side : Side d.results shown.result_types (map result_count shown.result_types)
  result-side = record {
    fit = right.result_counts;
    as_many = sym (length-mapped result_count shown.result_types)
        ∙ sym (fit-length d.results (map result_count shown.result_types) right.result_counts);
    as_long = λ k ids n is count.
        let counted = get-mapped result_count shown.result_types k (Some ids) is in
        let same : Some (length ids) ≡ Some n = sym counted ∙ count in
        cc;
  }

  module _ (values : List Value) (tests : Tests) (types : List TypeDef) where
    abbrev By : List (List Value) → List (List Value) → Assignment → Type 0
    By = CompletesBy values tests types d shown

    -- the attribute of a required entry is there, with its variable's value
    required-has : (a : Assignment) (e : AttrEntry) (attr : Option ValueId) → e.optional ≡ false
        → AttrHas a e (option_map (λ (id : ValueId). at values id.0) attr)
        → (id : ValueId) × (attr ≡ Some id) × Has a e.var (at values id.0)
    required-has a e (Some id) required have = (id, refl, have)
    required-has a e None required have = absurd cc

    pub attr-has : (a : Assignment) (e : AttrEntry) → Contains d.attrs e → e.optional ≡ false
        → AttrsHave values a d.attrs shown.attrs
        → (k : ℕ) × (id : ValueId) × (slice_get d.attrs k ≡ Some e)
        × (slice_get shown.attrs k ≡ Some (Some id)) × Has a e.var (at values id.0)
    attr-has a e among required have =
        let place = get-contains d.attrs e among in
        let within = slice_get_within d.attrs place.0 e place.1 in
        let attr = get-there shown.attrs place.0 (omega (arith, within, right.attrs)) in
        let got = required-has a e attr.0 required (have place.0 e attr.0 place.1 attr.1) in
        (place.0, got.0, place.1, attr.1 ∙ ap Some got.1, got.2)

    pub completes-forced : (xs ys : List (List Value)) (a : Assignment) → By xs ys a
        → (i : EntryRef) (e : Entry) → entry_at d i ≡ Some e → e.arity ≡ Single
        → (x : Value) × Has a e.var x
    completes-forced xs ys a by (ref.Operand k) e is single =
        single-has values tests types _ _ _ operand-side xs a k e by.operand_types by.operands_have
        is single
    completes-forced xs ys a by (ref.Result k) e is single =
        single-has values tests types _ _ _ result-side ys a k e by.result_types by.results_have
        is single

    pub completes-has : (xs ys : List (List Value)) (a : Assignment) → By xs ys a
        → (v : _) → Forced d v → (x : Value) × Has a v x
    completes-has xs ys a by = forced-has values tests d a by.body (completes-forced xs ys a by)
        (λ e among required.
        let got = attr-has a e among required by.attrs_have in
        (at values got.1.0, got.4))

    module _ (xs ys us vs : List (List Value)) (a b : Assignment) (one : By xs ys a)
        (two : By us vs b) where
      shown-same : (i : EntryRef) (e : Entry) → entry_at d i ≡ Some e → e.arity ≡ Single
          → Tells shown i → SameAt a b e.var
      shown-same (ref.Operand k) e is single tells =
          single-same values tests types _ _ _ operand-side xs us a b one.operand_types
          one.operands_have two.operand_types two.operands_have k e tells.0 is single tells.1
      shown-same (ref.Result k) e is single tells =
          single-same values tests types _ _ _ result-side ys vs a b one.result_types
          one.results_have two.result_types two.results_have k e tells.0 is single tells.1

      attr-same : (e : AttrEntry) → Contains d.attrs e → e.optional ≡ false → SameAt a b e.var
      attr-same e among required x y has other =
          let place = get-contains d.attrs e among in
          let within = slice_get_within d.attrs place.0 e place.1 in
          let attr = get-there shown.attrs place.0 (omega (arith, within, right.attrs)) in
          let first = required-has a e attr.0 required (one.attrs_have place.0 e attr.0 place.1 attr.1) in
          let second = required-has b e attr.0 required (two.attrs_have place.0 e attr.0 place.1 attr.1) in
          let ids : first.0 ≡ second.0 = let f = first.1 in let s = second.1 in cc in
          has-one a e.var x _ has first.2 ∙ ap (λ (id : ValueId). at values id.0) ids
          ∙ sym (has-one b e.var y _ other second.2)

      hidden-same : Infers d (Tells shown) → (i : EntryRef) (e : Entry) → entry_at d i ≡ Some e
          → (Tells shown i → ⊥) → SameAt a b e.var
      hidden-same infers i e is hidden =
          agree values tests d (Tells shown) a b one.body two.body
          (λ v must. (completes-has xs ys a one v must, completes-has us vs b two v must))
          shown-same attr-same e.var (infers i e is hidden)

      pub same-by : Infers d (Tells shown) → (xs ≡ us) × (ys ≡ vs)
      same-by infers = (
        sides-same values tests types _ _ _ operand-side xs us a b one.operand_types
            one.operands_have two.operand_types two.operands_have
            (λ k e is none. hidden-same infers (ref.Operand k) e is
            (λ tells. let t = tells.1 in cc)),
        sides-same values tests types _ _ _ result-side ys vs a b one.result_types
            one.results_have two.result_types two.results_have
            (λ k e is none. hidden-same infers (ref.Result k) e is
            (λ tells. let t = tells.1 in cc)),
      )

pub one_completion : OneCompletion
one_completion values tests types d shown right infers xs ys us vs one two =
    same-by d shown right values tests types xs ys us vs one.assignment two.assignment one.by two.by
    infers
