-- What the judgement of a dialect's value shows.
use Rattle.std.proofs.Common.{◌≡◌, ◌≢◌, ◌≤◌, inl, inr, ℕ, ◌+◌, ◌∷◌, Bool, true, false, List, map, IfOk}
use Rattle.std.proofs.Common.{refl, sym, ◌∙◌, subst}
use Rattle.std.specs.Prelude.{option_map}
use Rattle.std.specs.declared.result.Result.{Result}
use Rattle.std.specs.declared.option.Option.{Option}
use Rattle.std.specs.declared.option.Option.TheVariants.{Some, None}
use Rattle.attr_value.specs.declared.head.Head.TheVariants as h
use Rattle.attr_value.specs.declared.head.ValueId.{ValueId}
use Rattle.attr_value.specs.Ids.{kids_at}
use Rattle.attr_value.specs.Values.{Value, list_of}
use Rattle.constraint_solver.proofs.Grows.{instance-grows, instance-shrinks}
use Rattle.dialect_defs.specs.Goodness.{IsInstance}
use Rattle.first_fault.specs.declared.fault.Fault.{Fault}
use Rattle.first_fault.specs.Firsts.{IsFirst, earlier_of}
use Rattle.ir_lexer.specs.Spelling.{Text}
use Rattle.value_meaning.specs.declared.code.TheConstants.{NAME_UNKNOWN, PARAMETERS}
use Rattle.value_meaning.specs.declared.judged.Judged.{Judged}
use Rattle.value_meaning.specs.declared.judged.Kids.{Kids}
use Rattle.value_meaning.specs.Faults.{IsFaultOf, IsNamed}
use Rattle.value_meaning.specs.Judging.{Basis, Ground, with_table, IsGood, IsOther, IsPart, Keeps}
use Rattle.value_meaning.specs.Judging.{Judges, JudgesKids}
use Rattle.value_meaning.specs.Spelled.{all_some}
use Rattle.value_meaning.specs.Meaning.{Mark, claim_at, made_of, names}
use Rattle.value_meaning.proofs.Among.{first-right, first-wrong}
use Rattle.value_meaning.proofs.Leaves.{some-same}
use Rattle.value_meaning.proofs.Made.{list_of-kids_of}
use Rattle.value_meaning.proofs.Mentions.{fault_at}
use Rattle.value_meaning.proofs.Nodes.{judged, judges-and}
use Rattle.value_meaning.proofs.Parts.{node-bad}
use Rattle.value_meaning.proofs.Results.{ok-map}

module _ (b : Basis) (table now : List Value) (n : ℕ) (spelled : List (Option Value))
    (ms : List Mark) (k : Kids) (p : IsPart b table now n spelled ms k) (is_type : Bool)
    (name : Text) (place : ℕ) where
  abbrev mark : Mark
  mark = claim_at place (names is_type name spelled)

  abbrev First : Option Fault → Type 0
  First = IsFirst (IsFaultOf table b.tests b.types mark)

  -- the parameters
  abbrev args : List Value
  args = list_of (kids_at now k.ids.items)

  -- no definition has the name
  pub first-unnamed : (IsNamed b.types is_type name → ⊥) → First (Some (fault_at place NAME_UNKNOWN))
  first-unnamed unnamed =
      first-wrong table b.tests b.types mark (fault_at place NAME_UNKNOWN)
      (record { place = refl; breaks = inl (refl, unnamed) })
      (λ code breaks. elim breaks as (λ _. NAME_UNKNOWN ≡ code) [
        | inl x ↦ sym x.0
        | inr x ↦ absurd (unnamed x.1.named)
      ])

  -- some parameter isn't good
  pub first-unasked : IsNamed b.types is_type name → k.all_good ≡ false → First None
  first-unasked named bad =
      first-right table b.tests b.types mark
      (λ code breaks. elim breaks [
        | inl x ↦ x.1 named
        | inr x ↦ p.kids.none bad x.1.parameters
      ])

  module _ (named : IsNamed b.types is_type name) (all : k.all_good ≡ true) where
    -- good values that the parameters spell are these
    args-are : (vs : List Value) → spelled ≡ map Some vs → vs ≡ args
    args-are vs e = some-same vs args (sym e ∙ (p.kids.some all).spell)

    -- the parameters are those of an instance
    pub first-instance : (ids : List ValueId) → ids ≡ k.ids.items
        → IsInstance now b.tests b.types is_type name (list_of (kids_at now ids)) → First None
    first-instance ids same found =
        let instance = subst (λ l. IsInstance now b.tests b.types is_type name
        (list_of (kids_at now l))) same found in
        first-right table b.tests b.types mark
        (λ code breaks. elim breaks [
          | inl x ↦ x.1 named
          | inr x ↦ x.1.wrong (subst (IsInstance table b.tests b.types is_type name)
              (sym (args-are x.1.parameters.values_are x.1.parameters.are))
              (instance-shrinks p.grown p.ready.can.defs instance))
        ])

    -- they are those of none
    pub first-no-instance : (ids : List ValueId) → ids ≡ k.ids.items
        → (IsInstance now b.tests b.types is_type name (list_of (kids_at now ids)) → ⊥)
        → First (Some (fault_at place PARAMETERS))
    first-no-instance ids same missing =
        let none : IsInstance now b.tests b.types is_type name args → ⊥ =
        λ x. missing (subst (λ l. IsInstance now b.tests b.types is_type name
        (list_of (kids_at now l))) (sym same) x) in
        first-wrong table b.tests b.types mark (fault_at place PARAMETERS)
        (record {
          place = refl;
          breaks = inr (
            refl,
            record {
              named = named;
              parameters = record {
                values_are = args;
                are = (p.kids.some all).spell;
                good = (p.kids.some all).good;
              };
              wrong = λ instance. none (instance-grows p.grown p.ready.can.defs instance);
            },
          );
        })
        (λ code breaks. elim breaks as (λ _. PARAMETERS ≡ code) [
          | inl x ↦ absurd (x.1 named)
          | inr x ↦ sym x.0
        ])

  -- a good value of the dialect has parameters of an instance
  pub instance-of-good : IsGood (with_table b table) (made_of (h.Dialect is_type name) args)
      → IsInstance now b.tests b.types is_type name args
  instance-of-good good =
      instance-grows p.grown p.ready.can.defs
      (subst (IsInstance table b.tests b.types is_type name) (list_of-kids_of args)
      good.node.defined)

  -- and such parameters keep to the rules
  pub dialect-keeps : IsInstance now b.tests b.types is_type name args
      → Keeps (with_table b table) (h.Dialect is_type name) args
  dialect-keeps instance = record {
    rule = record { count = tt; types = λ made. absurd (cc); right = tt };
    defined = instance-shrinks p.grown p.ready.can.defs instance;
  }

module _ (b : Basis) (table now : List Value) (n : ℕ) (spelled : List (Option Value))
    (ms : List Mark) (k : Kids) (p : IsPart b table now (n + 1) spelled ms k) (is_type : Bool)
    (name : Text) (place : ℕ) where
  abbrev whole : Option Value
  whole = option_map (made_of (h.Dialect is_type name)) (all_some spelled)

  abbrev Fault-is : Option Fault → Type 0
  Fault-is = IsFirst (IsFaultOf table b.tests b.types (claim_at place (names is_type name spelled)))

  -- one with a fault of its own
  pub dialect-bad : (o : Option Fault) → Fault-is o → (f : Fault) → o ≡ Some f
      → (o ≢ None → k.all_good ≡ true
      → IsInstance now b.tests b.types is_type name (list_of (kids_at now k.ids.items)) → ⊥)
      → Judges (with_table b table) n whole (claim_at place (names is_type name spelled) ∷ ms) now
      (judged None (earlier_of (Some f) k.first))
  dialect-bad o first f is wrong =
      node-bad (with_table b table) n place now (h.Dialect is_type name) (λ kind e. absurd (cc))
      spelled ms k p.kids (claim_at place (names is_type name spelled)) f (subst Fault-is is first)
      (λ all good. wrong (λ e. let never : Some f ≡ None = sym is ∙ e in absurd (cc)) all
      (instance-of-good b table now (n + 1) spelled ms k p is_type name place good))

  -- what is made without one
  pub dialect-made : {E : Type 0} (r : Result Judged E) (new : List Value) (copy : Text)
      → copy ≡ name → (o : Option Fault) → Fault-is o → o ≡ None
      → (k.all_good ≡ true
      → IsInstance now b.tests b.types is_type name (list_of (kids_at now k.ids.items)))
      → 1 ≤ n
      → ((g : Ground) (n : ℕ) (spelled : List (Option Value)) (ms : List Mark) → 1 ≤ n
      → IsOther (h.Dialect is_type copy) → JudgesKids g (n + 1) spelled ms now k
      → (k.all_good ≡ true → Keeps g (h.Dialect is_type copy) (list_of (kids_at now k.ids.items)))
      → IfOk r (Judges g n (option_map (made_of (h.Dialect is_type copy)) (all_some spelled)) ms new))
      → IfOk r (Judges (with_table b table) n whole
      (claim_at place (names is_type name spelled) ∷ ms) new)
  dialect-made r new copy same o first none right least made =
      ok-map r
      (λ j y. judges-and (with_table b table) n new whole
      (claim_at place (names is_type name spelled)) ms None j (subst Fault-is none first)
      (subst (λ t. Judges (with_table b table) n
      (option_map (made_of (h.Dialect is_type t)) (all_some spelled)) ms new j) same y))
      (made (with_table b table) n spelled ms least (λ kind e. absurd (cc)) p.kids
      (λ all. subst (λ t. Keeps (with_table b table) (h.Dialect is_type t)
      (list_of (kids_at now k.ids.items))) (sym same)
      (dialect-keeps b table now (n + 1) spelled ms k p is_type name place (right all))))
