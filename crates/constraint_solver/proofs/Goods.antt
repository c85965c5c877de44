-- Values whose kids are good.
use Rattle.std.proofs.Common.{◌≡◌, ℕ, ◌≤◌, Bool, List, subst, sym, refl}
use Rattle.std.specs.List.{AllByRecursion}
use Rattle.attr_value.specs.declared.head.Head.{Head}
use Rattle.attr_value.specs.declared.head.Head.TheVariants as h
use Rattle.attr_value.specs.declared.head.ValueId.{ValueId}
use Rattle.attr_value.specs.Ids.{kids_at}
use Rattle.attr_value.specs.Values.{Value, Values, none, more, value, list_of, depth}
use Rattle.dialect_defs.specs.declared.definition.TypeDef.{TypeDef}
use Rattle.dialect_defs.specs.Assignments.{Tests}
use Rattle.dialect_defs.specs.Goodness.{Good, AreGoodNodes, IsGoodNode, IsDefined}
use Rattle.attr_value.specs.declared.head.TheConstants.{DEPTH_LIMIT}
use Rattle.constraint_solver.specs.Definitions.{HasGoodKids}

module _ (values : List Value) (tests : Tests) (types : List TypeDef) where
  -- good values keep to their rules, and so do all in them
  pub good-nodes : (vs : Values) → AllByRecursion (Good values tests types) (list_of vs)
      → AreGoodNodes values tests types vs
  good-nodes none good = tt
  good-nodes (more head kids rest) good =
      (good.0.node, good.0.kids, good-nodes rest good.1)

  module _ (x : Value) (head : Head) (ids : List ValueId) (is : x ≡ value head (kids_at values ids))
    where
      abbrev Node : Type 0
      Node = IsGoodNode values tests types head (list_of (kids_at values ids))

      -- a value with good kids that nests not too deep and keeps to its own rules is good
      pub is-good : HasGoodKids values tests types x → depth x ≤ DEPTH_LIMIT → Node
          → Good values tests types x
      is-good kids shallow node = record {
        shallow = shallow;
        node = subst (λ y. IsGoodNode values tests types y.head (list_of y.kids)) (sym is) node;
        kids = good-nodes x.kids kids.each;
      }

      -- a good value keeps to its own rules
      pub node-of : Good values tests types x → Node
      node-of good = subst (λ y. IsGoodNode values tests types y.head (list_of y.kids)) is good.node

  -- only the heads of dialects are defined
  pub other-defined : (head : Head) (kids : List Value)
      → ((is_type : Bool) (name : List ℕ) → head ≡ h.Dialect is_type name → ⊥)
      → IsDefined values tests types head kids
  other-defined (h.Dialect is_type name) kids other = absurd (other is_type name refl)
  other-defined _ kids other = tt
