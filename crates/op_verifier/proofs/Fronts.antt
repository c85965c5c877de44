-- Of the regions of an operation only fronts matter.
use Rattle.std.proofs.Common.{◌≡◌, suc, List, [], ◌∷◌, length, Some, None, Option, IfSome}
use Rattle.std.proofs.Common.{refl, sym, ap, subst}
use Rattle.attr_value.specs.Values.{Value}
use Rattle.dialect_defs.specs.declared.body.VarId.{VarId}
use Rattle.dialect_defs.specs.declared.definition.OpDef.{OpDef}
use Rattle.dialect_defs.specs.declared.entry.RegionEntry.{RegionEntry}
use Rattle.dialect_defs.specs.Assignments.{Tests, Assignment, HaveEach}
use Rattle.dialect_defs.specs.Operations.{Operation, ArgsHave, RegionHas, RegionsHave}
use Rattle.dialect_defs.specs.Operations.{MeetsDefinition}
use Rattle.op_verifier.specs.Meets.{SameFront, SameFronts, HasFronts}

front-length : (blocks more : List (List Value)) → SameFront blocks more
    → length blocks ≡ length more
front-length [] [] same = refl
front-length (x ∷ xs) (y ∷ ys) same = ap suc same.1
front-length [] (y ∷ ys) same = absurd same
front-length (x ∷ xs) [] same = absurd same

front-args : (a : Assignment) (vars : Option (List VarId)) (blocks more : List (List Value))
    → SameFront blocks more → ArgsHave a vars blocks → ArgsHave a vars more
front-args a None blocks more same have = tt
front-args a (Some vars) [] [] same have = have
front-args a (Some vars) (x ∷ xs) (y ∷ ys) same have = subst (HaveEach a vars) same.0 have
front-args a (Some vars) [] (y ∷ ys) same have = absurd same
front-args a (Some vars) (x ∷ xs) [] same have = absurd same

front-region : (a : Assignment) (entry : RegionEntry) (blocks more : List (List Value))
    → SameFront blocks more → RegionHas a entry blocks → RegionHas a entry more
front-region a entry blocks more same have = record {
  size = subst (λ k. IfSome entry.size (λ n. k ≡ n)) (front-length blocks more same) have.size;
  args = front-args a entry.args blocks more same have.args;
}

pub front-regions : (a : Assignment) (entries : List RegionEntry) (rs ss : List (List (List Value)))
    → SameFronts rs ss → RegionsHave a entries rs → RegionsHave a entries ss
front-regions a [] [] [] same have = tt
front-regions a (e ∷ es) (r ∷ rs) (s ∷ ss) same have =
    (front-region a e r s same.0 have.0, front-regions a es rs ss same.1 have.1)
front-regions a entries [] (s ∷ ss) same have = absurd same
front-regions a entries (r ∷ rs) [] same have = absurd same
front-regions a [] (r ∷ rs) (s ∷ ss) same have = absurd have
front-regions a (e ∷ es) [] [] same have = absurd have

front-sym : (blocks more : List (List Value)) → SameFront blocks more → SameFront more blocks
front-sym [] [] same = tt
front-sym (x ∷ xs) (y ∷ ys) same = (sym same.0, sym same.1)
front-sym [] (y ∷ ys) same = absurd same
front-sym (x ∷ xs) [] same = absurd same

pub fronts-sym : (rs ss : List (List (List Value))) → SameFronts rs ss → SameFronts ss rs
fronts-sym [] [] same = tt
fronts-sym (r ∷ rs) (s ∷ ss) same = (front-sym r s same.0, fronts-sym rs ss same.1)
fronts-sym [] (s ∷ ss) same = absurd same
fronts-sym (r ∷ rs) [] same = absurd same

-- operations with other regions, of the same fronts
by-regions : (values : List Value) (tests : Tests) (d : OpDef) (o : Operation)
    (regions : List (List (List Value))) → SameFronts o.regions regions
    → MeetsDefinition values tests d o
    → MeetsDefinition values tests d (record o { regions = regions })
by-regions values tests d o regions same m = record {
  operand_sizes = m.operand_sizes;
  result_sizes = m.result_sizes;
  assignment = m.assignment;
  meets = record {
    operand_segments = m.meets.operand_segments;
    result_segments = m.meets.result_segments;
    body = m.meets.body;
    operands = m.meets.operands;
    results = m.meets.results;
    attrs = m.meets.attrs;
    successors = m.meets.successors;
    regions = front-regions m.assignment d.regions o.regions regions same m.meets.regions;
  };
}

operation-is : (o p : Operation) → o.operands ≡ p.operands → o.results ≡ p.results
    → o.successors ≡ p.successors → o.attrs ≡ p.attrs → (record o { regions = p.regions }) ≡ p
operation-is o p operands results successors attrs = λ i. record {
  operands = operands i;
  results = results i;
  successors = successors i;
  attrs = attrs i;
  regions = p.regions;
}

-- to have the same fronts goes both ways
pub fronts-have : (o p : Operation) → HasFronts o p → HasFronts p o
fronts-have o p same = record {
  operands = sym same.operands;
  results = sym same.results;
  successors = sym same.successors;
  attrs = sym same.attrs;
  regions = fronts-sym o.regions p.regions same.regions;
}

-- an operation with the same fronts meets what the other meets
pub fronts-meet : (values : List Value) (tests : Tests) (d : OpDef) (o p : Operation)
    → HasFronts o p → MeetsDefinition values tests d o → MeetsDefinition values tests d p
fronts-meet values tests d o p same m =
    subst (MeetsDefinition values tests d)
    (operation-is o p same.operands same.results same.successors same.attrs)
    (by-regions values tests d o p.regions same.regions m)
