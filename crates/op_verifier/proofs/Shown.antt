-- What a view asks is what the operation asks that it shows.
use Rattle.std.proofs.Common.{◌≡◌, ◌∙◌, ℕ, Bool, List, [], ◌∷◌, length, Some, refl, ap, sym, subst}
use Rattle.std.proofs.Common.{Option}
use Rattle.std.specs.List.{AllByRecursion}
use Rattle.attr_value.specs.Values.{Value}
use Rattle.dialect_defs.specs.declared.definition.OpDef.{OpDef}
use Rattle.dialect_defs.specs.declared.entry.AttrEntry.{AttrEntry}
use Rattle.dialect_defs.specs.declared.entry.RegionEntry.{RegionEntry}
use Rattle.dialect_defs.specs.Assignments.{Assignment}
use Rattle.dialect_defs.specs.Operations.{Operation, AttrHas, RegionsHave, attr_at, given_sizes}
use Rattle.dialect_defs.specs.Operations.{operand_sizes_key, result_sizes_key}
use Rattle.attr_value.specs.declared.head.ValueId.{ValueId}
use Rattle.ir_store.specs.declared.rows.OpId.{OpId}
use Rattle.ir_store.specs.Named.{op_at}
use Rattle.ir_store.specs.Numbering.{ops_in}
use Rattle.ir_store.specs.Store.{Module, StoredHead}
use Rattle.op_verifier.specs.declared.view.OpRegions.{OpRegions}
use Rattle.op_verifier.specs.declared.view.OpRegions.TheVariants.{Listed, Stored}
use Rattle.op_verifier.specs.declared.view.OpView.{OpView}
use Rattle.op_verifier.specs.Asked.{Slots, Decides}
use Rattle.op_verifier.specs.Meets.{SameFront, SameFronts}
use Rattle.op_verifier.specs.Parts.{HasSegments}
use Rattle.op_verifier.specs.Seen.{Site, attrs_seen, operation, operation_seen, regions_seen, values_at}
use Rattle.op_verifier.specs.Types.{ids_of}
use Rattle.op_verifier.specs.Views.{AreKnownRegions, HasFront, IsKnownView, IsShown, listed_regions}
use Rattle.op_verifier.specs.Views.{view_attrs}
use Rattle.op_verifier.proofs.AllParts.{Operands, Results, Attributes}
use Rattle.op_verifier.proofs.Asking.{Decides-as}
use Rattle.op_verifier.proofs.Fronts.{front-regions, fronts-sym}
use Rattle.op_verifier.proofs.Judging.{all-map}
use Rattle.op_verifier.proofs.RegionSteps.{an-element}

module _ {values : List Value} {op : OpView} {o : Operation} (shown : IsShown values op o)
    (d : OpDef) {s t : Slots} {taken : Bool} where
  -- so it is with operands
  pub operands-shown : Decides values s t taken (λ a. HasSegments a d.operands
      (values_at values (ids_of op.operands))
      (given_sizes (attr_at (view_attrs values op) operand_sizes_key)))
      → Decides values s t taken (Operands values d o)
  operands-shown asked =
      subst (λ (vs : List Value). Decides values s t taken (λ a. HasSegments a d.operands vs
      (given_sizes (attr_at o.attrs operand_sizes_key)))) (sym shown.operands)
      (subst (λ (x : Option Value). Decides values s t taken (λ a. HasSegments a d.operands
      (values_at values (ids_of op.operands)) (given_sizes x)))
      (sym (shown.attrs operand_sizes_key)) asked)

  -- with results
  pub results-shown : Decides values s t taken (λ a. HasSegments a d.results
      (values_at values op.results.now)
      (given_sizes (attr_at (view_attrs values op) result_sizes_key)))
      → Decides values s t taken (Results values d o)
  results-shown asked =
      subst (λ (vs : List Value). Decides values s t taken (λ a. HasSegments a d.results vs
      (given_sizes (attr_at o.attrs result_sizes_key)))) (sym shown.results)
      (subst (λ (x : Option Value). Decides values s t taken (λ a. HasSegments a d.results
      (values_at values op.results.now) (given_sizes x)))
      (sym (shown.attrs result_sizes_key)) asked)

  -- and with attributes
  pub attrs-shown : Decides values s t taken (λ a. AllByRecursion
      (λ entry. AttrHas a entry (attr_at (view_attrs values op) entry.name)) d.attrs)
      → Decides values s t taken (Attributes values d o)
  attrs-shown asked =
      Decides-as
      (λ a all. all-map (λ entry. AttrHas a entry (attr_at (view_attrs values op) entry.name))
      (λ entry. AttrHas a entry (attr_at o.attrs entry.name)) d.attrs
      (λ (entry : AttrEntry) h. subst (AttrHas a entry) (sym (shown.attrs entry.name)) h) all)
      (λ a all. all-map (λ entry. AttrHas a entry (attr_at o.attrs entry.name))
      (λ entry. AttrHas a entry (attr_at (view_attrs values op) entry.name)) d.attrs
      (λ (entry : AttrEntry) h. subst (AttrHas a entry) (shown.attrs entry.name) h) all)
      asked

-- regions with the same fronts ask the same
pub fronts-ask : {values : List Value} {s t : Slots} {taken : Bool}
    (entries : List RegionEntry) (rs more : List (List (List Value))) → SameFronts rs more
    → Decides values s t taken (λ a. RegionsHave a entries more)
    → Decides values s t taken (λ a. RegionsHave a entries rs)
fronts-ask entries rs more same asked =
    Decides-as
    (λ a have. front-regions a entries more rs (fronts-sym rs more same) have)
    (λ a have. front-regions a entries rs more same have) asked

-- ---- an operation that is shown

front-refl : (blocks : List (List Value)) → SameFront blocks blocks
front-refl [] = tt
front-refl (x ∷ xs) = (refl, refl)

pub fronts-refl : (rs : List (List (List Value))) → SameFronts rs rs
fronts-refl [] = tt
fronts-refl (r ∷ rs) = (front-refl r, fronts-refl rs)

-- some regions have the fronts
some-regions : (len : ℕ) (values : List Value) (regions : OpRegions) → AreKnownRegions len regions
    → (rs : List (List (List Value))) × HasFront values regions rs
some-regions len values (Listed counts args) known =
    (listed_regions values counts.now args.now, fronts-refl _)
some-regions len values (Stored store op) known =
    let x = an-element (ops_in store.now) op.0 known.1 in (
      regions_seen values x.0.regions,
      λ y e.
          let same : x.0 ≡ y = let f = x.1 in cc in
          subst (λ (z : Site). SameFronts (regions_seen values x.0.regions)
          (regions_seen values z.regions)) same (fronts-refl _),
    )

-- a view of known ids shows an operation
pub an-operation : (len : ℕ) (values : List Value) (op : OpView) → IsKnownView len op
    → (o : Operation) × IsShown values op o
an-operation len values op known =
    let (rs, front) = some-regions len values op.regions known.regions in (
      record {
        operands = values_at values (ids_of op.operands);
        results = values_at values op.results.now;
        successors = op.successors;
        attrs = view_attrs values op;
        regions = rs;
      },
      record {
        operands = refl;
        results = refl;
        successors = refl;
        attrs = λ key. refl;
        regions = front;
      },
    )

-- a stored operation is shown by a view of its parts
pub stored-shown : {values : List Value} {op : OpView} {types : List ValueId} (row : StoredHead)
    (x : Site) → x.head ≡ row → ids_of op.operands ≡ types → op.results.now ≡ row.results
    → op.keys.now ≡ row.keys → op.values.now ≡ row.values → op.successors ≡ length row.successors
    → HasFront values op.regions (regions_seen values x.regions)
    → IsShown values op (operation_seen values types x)
stored-shown {values} {op} {types} row x head operands results keys vs successors front =
    subst (λ (h : StoredHead). IsShown values op (operation values types h x.regions)) (sym head)
    (record {
      operands = ap (values_at values) (sym operands);
      results = ap (values_at values) (sym results);
      successors = sym successors;
      attrs = λ key. ap (λ ks. attr_at (attrs_seen values ks row.values) key) (sym keys)
          ∙ ap (λ vs. attr_at (attrs_seen values op.keys.now vs) key) (sym vs);
      regions = front;
    })

-- its regions have their own fronts
pub stored-front : (values : List Value) (store : Module) (id : OpId) (x : Site)
    → op_at store id ≡ Some x → (y : Site) → op_at store id ≡ Some y
    → SameFronts (regions_seen values x.regions) (regions_seen values y.regions)
stored-front values store id x e y f =
    let same : x ≡ y = cc in
    subst (λ (z : Site). SameFronts (regions_seen values x.regions) (regions_seen values z.regions))
    same (fronts-refl _)
