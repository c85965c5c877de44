-- The parts of an operation, one after the other.
use Rattle.std.proofs.Common.{◌≡◌, ℕ, suc, ◌+◌, List, [], ◌∷◌, length, Some, slice_get, refl}
use Rattle.std.proofs.Common.{◌∙◌, subst, arith, Bool}
use Rattle.std.specs.List.{AllByRecursion}
use Rattle.attr_value.specs.declared.head.ValueId.{ValueId}
use Rattle.attr_value.specs.Ids.{AreKnown}
use Rattle.attr_value.specs.Values.{Value}
use Rattle.dialect_defs.specs.declared.definition.OpDef.{OpDef}
use Rattle.dialect_defs.specs.Assignments.{Assignment}
use Rattle.dialect_defs.specs.Operations.{Operation, AttrHas, RegionsHave, attr_at, given_sizes}
use Rattle.dialect_defs.specs.Operations.{operand_sizes_key, result_sizes_key}
use Rattle.ir_store.specs.Modules.{types_in}
use Rattle.ir_store.specs.Named.{HaveTypes}
use Rattle.ir_store.specs.Store.{Module}
use Rattle.op_verifier.specs.Asked.{Slots, Asks, Refuses, Decides}
use Rattle.op_verifier.specs.Parts.{HasSegments, HasParts}
use Rattle.op_verifier.proofs.Walks.{known-at}

module _ (values : List Value) (d : OpDef) (o : Operation) where
  -- what the operands ask
  abbrev pub Operands : Assignment → Type 0
  Operands a = HasSegments a d.operands o.operands
      (given_sizes (attr_at o.attrs operand_sizes_key))

  -- what the results ask
  abbrev pub Results : Assignment → Type 0
  Results a = HasSegments a d.results o.results (given_sizes (attr_at o.attrs result_sizes_key))

  -- what the attributes ask
  abbrev pub Attributes : Assignment → Type 0
  Attributes a = AllByRecursion (λ entry. AttrHas a entry (attr_at o.attrs entry.name)) d.attrs

  -- what the regions ask
  abbrev pub InRegions : Assignment → Type 0
  InRegions a = RegionsHave a d.regions o.regions

module _ (values : List Value) (d : OpDef) (o : Operation) (s0 s1 s2 s3 : Slots) where
  -- another number of successors refuses the whole
  pub successors-refuse : (o.successors ≡ length d.successors → ⊥) → Refuses values s0 (HasParts d o)
  successors-refuse differ = record { none = λ a w has. differ has.successors }

  -- so do operands that are refused
  pub operands-refuse : Refuses values s0 (Operands values d o)
      → Refuses values s0 (HasParts d o)
  operands-refuse refuses = record { none = λ a w has. refuses.none a w has.operands }

  -- results behind operands
  pub results-refuse : Asks values s0 s1 (Operands values d o)
      → Refuses values s1 (Results values d o) → Refuses values s0 (HasParts d o)
  results-refuse first refuses = record {
    none = λ a w has. refuses.none a (first.down a w has.operands).0 has.results;
  }

  -- attributes behind these
  pub attrs-refuse : Asks values s0 s1 (Operands values d o)
      → Asks values s1 s2 (Results values d o)
      → Refuses values s2 (Attributes values d o) → Refuses values s0 (HasParts d o)
  attrs-refuse first second refuses = record {
    none = λ a w has.
        let one = (first.down a w has.operands).0 in
        refuses.none a (second.down a one has.results).0 has.attrs;
  }

  -- a part that is refused refuses the whole
  regions-refuse : Asks values s0 s1 (Operands values d o)
      → Asks values s1 s2 (Results values d o) → Asks values s2 s3 (Attributes values d o)
      → Refuses values s3 (InRegions values d o) → Refuses values s0 (HasParts d o)
  regions-refuse first second third refuses = record {
    none = λ a w has.
        let one = (first.down a w has.operands).0 in
        let two = (second.down a one has.results).0 in
        refuses.none a (third.down a two has.attrs).0 has.regions;
  }

  -- all parts are asked
  parts-ask : (s4 : Slots) → o.successors ≡ length d.successors
      → Asks values s0 s1 (Operands values d o) → Asks values s1 s2 (Results values d o)
      → Asks values s2 s3 (Attributes values d o) → Asks values s3 s4 (InRegions values d o)
      → Asks values s0 s4 (HasParts d o)
  parts-ask s4 successors first second third fourth = record {
    size = fourth.size ∙ third.size ∙ second.size ∙ first.size;
    down = λ a w has.
        let one = (first.down a w has.operands).0 in
        let two = (second.down a one has.results).0 in
        let three = (third.down a two has.attrs).0 in
        fourth.down a three has.regions;
    up = λ a w u.
        let four = fourth.up a w tt in
        let three = third.up a four.0 tt in
        let two = second.up a three.0 tt in
        let one = first.up a two.0 tt in (
          one.0,
          record {
            operands = one.1;
            results = two.1;
            attrs = three.1;
            successors = successors;
            regions = four.1;
          },
        );
  }

  -- where the first parts are asked, what regions ask decides the rest
  pub parts-asked : (s4 : Slots) (taken : Bool) → o.successors ≡ length d.successors
      → Asks values s0 s1 (Operands values d o) → Asks values s1 s2 (Results values d o)
      → Asks values s2 s3 (Attributes values d o)
      → Decides values s3 s4 taken (InRegions values d o)
      → Decides values s0 s4 taken (HasParts d o)
  parts-asked s4 taken successors first second third asked = record {
    asks = λ yes. parts-ask s4 successors first second third (asked.asks yes);
    refuses = λ no. regions-refuse first second third (asked.refuses no);
  }

-- ids that are the types of values are known
pub types-known : (len : ℕ) (m : Module) (n : ℕ) (ids : List ValueId) → AreKnown len (types_in m)
    → HaveTypes m n ids → AreKnown len ids
types-known len m n [] known have = tt
types-known len m n (id ∷ ids) known have = (
  known-at len (types_in m) (n + 0) id known (have 0 id refl),
  types-known len m (n + 1) ids known (λ i t e.
      let next : n + suc i ≡ n + 1 + i = omega arith in
      subst (λ k. slice_get (types_in m) k ≡ Some t) next (have (suc i) t e)),
)
