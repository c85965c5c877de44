-- Instances of a kind and name and instances of one definition; and the definitions of a kind and
-- name that were tried.
use Rattle.std.proofs.Common.{◌≡◌, ◌∙◌, ◌↔◌, ℕ, ◌+◌, ◌<◌, ◌≤◌, ◌⊎◌, inl, inr, Bool, List, length}
use Rattle.std.proofs.Common.{get_or}
use Rattle.std.proofs.Common.{ap, sym, subst, arith}
use Rattle.std.proofs.lemmas.Bool.{cases_lt}
use Rattle.attr_value.specs.Values.{Value}
use Rattle.dialect_defs.specs.declared.definition.TypeDef.{TypeDef}
use Rattle.dialect_defs.specs.Assignments.{Tests}
use Rattle.dialect_defs.specs.Goodness.{IsDefinedAs, IsInstance}
use Rattle.constraint_solver.specs.Definitions.{IsInstanceOf, IsOnlyDefinition}
use Rattle.constraint_solver.proofs.Settled.{same-default}

-- an instance of a definition is one of the definition's kind and name
pub instance-named : {values : List Value} {tests : Tests} {types : List TypeDef} {is_type : Bool}
    {name : List ℕ} {d : TypeDef} {kids : List Value} → IsDefinedAs types is_type name d
    → IsInstanceOf values tests d kids → IsInstance values tests types is_type name kids
instance-named {d = d} defined instance = record {
  definition = d;
  defined = defined;
  assignment = instance.assignment;
  meets = instance.meets;
  params = instance.params;
}

-- an instance of a kind and name is one of some definition of these
pub instance-of-its : {values : List Value} {tests : Tests} {types : List TypeDef}
    {is_type : Bool} {name : List ℕ} {kids : List Value}
    → (instance : IsInstance values tests types is_type name kids)
    → IsInstanceOf values tests instance.definition kids
instance-of-its instance = record {
  assignment = instance.assignment;
  meets = instance.meets;
  params = instance.params;
}

-- where one definition alone is of a kind and name, instances of these are those of it
pub instance-of-named : {types : List TypeDef} {is_type : Bool} {name : List ℕ} {d : TypeDef}
    → IsOnlyDefinition types is_type name d
    → (values : List Value) (tests : Tests) (kids : List Value)
    → IsInstance values tests types is_type name kids ↔ IsInstanceOf values tests d kids
instance-of-named only values tests kids = (
  λ instance. subst (λ e. IsInstanceOf values tests e kids)
      (only.only instance.definition instance.defined) (instance-of-its instance),
  λ instance. instance-named only.defined instance,
)

module _ (values : List Value) (tests : Tests) (is_type : Bool) (name : List ℕ)
    (kids : List Value) where
  -- a definition is of the kind and name, and has such an instance
  pub record Serves (d : TypeDef) : Type 0 where
    pub kind : d.is_type ≡ is_type
    pub named : d.name ≡ name
    pub instance : IsInstanceOf values tests d kids

  -- no definition before a place does
  pub record NotBefore (types : List TypeDef) (i : ℕ) : Type 0 where
    pub tried : (k : ℕ) (e : TypeDef) → k < i → k < length types → Serves (get_or types k e) → ⊥

  -- before the first place there is none
  pub not-none : (types : List TypeDef) → NotBefore types 0
  not-none types = record { tried = λ k e before within serves. absurd (omega arith) }

  -- a definition that doesn't serve leaves none before the next place
  pub not-more : (types : List TypeDef) (i : ℕ) (d : TypeDef) → d ≡ get_or types i d
      → (Serves d → ⊥) → NotBefore types i → NotBefore types (i + 1)
  not-more types i d is never n = record {
    tried = λ k e upto within serves. by k e within serves (cases_lt k i) upto;
  }
    where
      by : (k : ℕ) (e : TypeDef) → k < length types → Serves (get_or types k e)
          → (k < i) ⊎ (i ≤ k) → k < i + 1 → ⊥
      by k e within serves (inl before) upto = n.tried k e before within serves
      by k e within serves (inr from) upto =
          let here : k ≡ i = omega (arith, from, upto) in
          let one : get_or types k e ≡ d = same-default types k e d within
          ∙ ap (λ j. get_or types j d) here ∙ sym is in
          never (subst Serves one serves)

  -- one that does makes an instance
  pub serves-instance : (types : List TypeDef) (i : ℕ) (d : TypeDef) → i < length types
      → d ≡ get_or types i d → Serves d → IsInstance values tests types is_type name kids
  serves-instance types i d within is s = instance-named
      (record { listed = (i, within, sym is); kind = s.kind; named = s.named }) s.instance

  -- where none does, there is no instance
  pub no-instance : (types : List TypeDef) (i : ℕ) → length types ≤ i → NotBefore types i
      → IsInstance values tests types is_type name kids → ⊥
  no-instance types i all n instance =
      let d = instance.definition in
      let listed = instance.defined.listed in
      n.tried listed.0 d (omega (arith, all, listed.1)) listed.1
      (subst Serves (sym listed.2) (record {
        kind = instance.defined.kind;
        named = instance.defined.named;
        instance = instance-of-its instance;
      }))
