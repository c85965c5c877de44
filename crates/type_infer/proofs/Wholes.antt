-- Values that are found upwards: constants, wholes that are kept, and members of `all_of`.
use Rattle.std.proofs.Common.{◌≡◌, ◌∙◌, ℕ, ◌<◌, Bool, false, List, [], ◌∷◌, length, Some}
use Rattle.std.proofs.Common.{ap, sym, subst, refl, slice_get}
use Rattle.std.specs.List.{Contains}
use Rattle.attr_value.specs.declared.head.Head.TheVariants as h
use Rattle.attr_value.specs.declared.head.ValueId.{ValueId}
use Rattle.attr_value.specs.Ids.{at, kids_at, AreKnown}
use Rattle.attr_value.specs.Values.{Value, more, value}
use Rattle.dialect_defs.specs.declared.body.Constraint.{Constraint}
use Rattle.dialect_defs.specs.declared.body.Constraint.TheVariants.{Is, Parametric, AllOf}
use Rattle.dialect_defs.specs.declared.body.VarId.{VarId}
use Rattle.dialect_defs.specs.declared.definition.TypeDef.{TypeDef}
use Rattle.dialect_defs.specs.Assignments.{Tests, Assignment, Has}
use Rattle.dialect_defs.specs.Goodness.{Good}
use Rattle.constraint_solver.specs.Definitions.{AreSoundDefs}
use Rattle.constraint_solver.specs.Grown.{Extends}
use Rattle.constraint_solver.proofs.Grows.{at-grows, extends-refl, extends-trans, length-grows}
use Rattle.constraint_solver.proofs.Grows.{good-shrinks, sound-defs-grows}
use Rattle.type_infer.specs.Asked.{Slots, AreKnownSlots}
use Rattle.type_infer.specs.Completes.{values_at}
use Rattle.type_infer.specs.Found.{AreGoodIds, AreGoodSlots, Filled, Finds, FoundUp, HaveIds}
use Rattle.type_infer.specs.Found.{IsFound, KeepsAt}
use Rattle.type_infer.specs.Rule.{Follows}
use Rattle.type_infer.proofs.Filling.{filled-found, more-filled, more-none, slots-good-grow}
use Rattle.type_infer.proofs.Finding.{found-same, found-whole, ids-have}
use Rattle.type_infer.proofs.Lists.{values_of}
use Rattle.type_infer.proofs.Slots.{asked-get}

-- ids that were found are known
pub ids-known : (n : ℕ) (found : Slots) (vs : List VarId) (ids : List ValueId)
    → AreKnownSlots n found → HaveIds found vs ids → AreKnown n ids
ids-known n found [] [] known have = tt
ids-known n found [] (id ∷ ids) known have = absurd have
ids-known n found (v ∷ vs) [] known have = absurd have
ids-known n found (v ∷ vs) (id ∷ ids) known have =
    (known v.0 id have.0, ids-known n found vs ids known have.1)

-- and good
pub ids-good : (values : List Value) (tests : Tests) (types : List TypeDef) (found : Slots)
    (vs : List VarId) (ids : List ValueId) → AreGoodSlots values tests types found
    → HaveIds found vs ids → AreGoodIds values tests types ids
ids-good values tests types found [] [] good have = tt
ids-good values tests types found [] (id ∷ ids) good have = absurd have
ids-good values tests types found (v ∷ vs) [] good have = absurd have
ids-good values tests types found (v ∷ vs) (id ∷ ids) good have =
    (good.each v.0 id have.0, ids-good values tests types found vs ids good have.1)

kids-values : (values : List Value) (ids : List ValueId)
    → values_of (values_at values ids) ≡ kids_at values ids
kids-values values [] = refl
kids-values values (id ∷ ids) =
    ap (λ rest. more (at values id.0).head (at values id.0).kids rest)
    (kids-values values ids)

-- known ids stand for the same values
pub values-grew : (old new : List Value) → Extends old new → (ids : List ValueId)
    → AreKnown (length old) ids → values_at new ids ≡ values_at old ids
values-grew old new grew [] known = refl
values-grew old new grew (id ∷ ids) known =
    ap (λ x. x ∷ values_at new ids) (at-grows grew id.0 known.0)
    ∙ ap (λ l. at old id.0 ∷ l) (values-grew old new grew ids known.1)

module _ (tests : Tests) (types : List TypeDef) where
  -- nothing was found, since nothing follows
  pub up-none : (values : List Value) (found : Slots) (v : VarId) (c : Constraint)
      → AreKnownSlots (length values) found → AreGoodSlots values tests types found
      → ((final : List Value) (a : Assignment) → Extends values final
      → Finds final found a → Follows c (IsFound found) → ⊥)
      → FoundUp tests types values values found found false v c
  up-none values found v c known good never = record {
    more = more-none tests types (KeepsAt tests v c) values values found (extends-refl values) known
        good;
    up = λ final a later keeps finds has follows. absurd (never final a later finds follows);
  }

  -- a value of the table was found
  told-found : (values : List Value) (before after : Slots) (changed : Bool) (v : VarId)
      (id : ValueId) (c : Constraint) → AreKnownSlots (length values) before
      → AreGoodSlots values tests types before → id.0 < length values
      → Good values tests types (at values id.0) → v.0 < length before
      → Filled before after changed v id
      → ((final : List Value) (a : Assignment) → Extends values final → KeepsAt tests v c final a
      → Finds final before a → (y : Value) → Has a v y → y ≡ at final id.0)
      → FoundUp tests types values values before after changed v c
  told-found values before after changed v id c known good small right within filled told = record {
    more = more-filled tests types (KeepsAt tests v c) values values before after changed v id
        (extends-refl values) known good small right within filled told;
    up = λ final a later keeps finds has follows.
        filled-found before after changed v id within filled;
  }

  -- a constant was found
  pub value-found : (values : List Value) (before after : Slots) (changed : Bool) (v : VarId)
      (id : ValueId) → AreKnownSlots (length values) before → AreGoodSlots values tests types before
      → id.0 < length values → Good values tests types (at values id.0) → v.0 < length before
      → Filled before after changed v id
      → FoundUp tests types values values before after changed v (Is id)
  value-found values before after changed v id known good small right within filled =
      told-found values before after changed v id (Is id) known good small right within filled
      (λ final a later keeps finds y has. keeps y has)

  -- the value of a member was found of the whole
  pub same-found : (values : List Value) (before after : Slots) (changed : Bool) (v : VarId)
      (id : ValueId) (members : List VarId) (member : VarId) → AreKnownSlots (length values) before
      → AreGoodSlots values tests types before → v.0 < length before
      → Filled before after changed v id → Contains members member
      → slice_get before member.0 ≡ Some (Some id)
      → FoundUp tests types values values before after changed v (AllOf members)
  same-found values before after changed v id members member known good within filled among there =
      told-found values before after changed v id (AllOf members) known good
      (known member.0 id there) (good.each member.0 id there) within filled
      (λ final a later keeps finds y has.
      found-same final before a finds tests v member members (at final id.0) keeps among
      (asked-get final before member.0 id there) y has)

  module _ (old new : List Value) (count : ℕ) (before : Slots) (v : VarId) (is_type : Bool)
      (name : List ℕ) (parts : List VarId) (ids : List ValueId) (grew : Extends old new)
      (sound : AreSoundDefs (length old) count types) (known : AreKnownSlots (length old) before)
      (good : AreGoodSlots old tests types before) (have : HaveIds before parts ids) where
    -- the one value that the whole can have
    whole-only : (final : List Value) (a : Assignment) → Extends new final
        → KeepsAt tests v (Parametric is_type name parts) final a → Finds final before a
        → (y : Value) → Has a v y → y ≡ value (h.Dialect is_type name) (kids_at old ids)
    whole-only final a later keeps finds y has =
        let all = extends-trans grew later in
        found-whole final before a finds tests v is_type name parts (values_at final ids) keeps
        (ids-have final before parts ids have) y has
        ∙ ap (λ l. value (h.Dialect is_type name) (values_of l))
        (values-grew old final all ids (ids-known (length old) before parts ids known have))
        ∙ ap (value (h.Dialect is_type name)) (kids-values old ids)

    -- a good whole was kept, and found if nothing was before
    pub whole-found : (after : Slots) (changed : Bool) (id : ValueId)
        → at new id.0 ≡ value (h.Dialect is_type name) (kids_at old ids) → id.0 < length new
        → Good new tests types (at new id.0) → v.0 < length before
        → Filled before after changed v id
        → FoundUp tests types old new before after changed v (Parametric is_type name parts)
    whole-found after changed id is small right within filled = record {
      more = more-filled tests types (KeepsAt tests v (Parametric is_type name parts)) old new before
          after changed v id grew known (slots-good-grow grew sound tests before known good) small
          right within filled
          (λ final a later keeps finds y has.
          whole-only final a later keeps finds y has ∙ sym is ∙ sym (at-grows later id.0 small));
      up = λ final a later keeps finds has follows.
          filled-found before after changed v id within filled;
    }

    -- the whole isn't good
    pub whole-bad : (Good new tests types (value (h.Dialect is_type name) (kids_at old ids)) → ⊥)
        → FoundUp tests types old new before before false v (Parametric is_type name parts)
    whole-bad bad = record {
      more = more-none tests types (KeepsAt tests v (Parametric is_type name parts)) old new before
          grew known (slots-good-grow grew sound tests before known good);
      up = λ final a later keeps finds has follows.
          let same = whole-only final a later keeps finds has.it has.has in
          absurd (bad (good-shrinks later (sound-defs-grows (length-grows grew) sound)
          (subst (Good final tests types) same has.good)));
    }
