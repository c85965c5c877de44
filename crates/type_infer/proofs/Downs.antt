-- Values that are found downwards: the parts of a whole that is found, and the members.
use Rattle.std.proofs.Common.{◌≡◌, ◌∙◌, ℕ, ◌+◌, ◌<◌, ◌≤◌, Bool, false, List, [], ◌∷◌, length, ◌||◌}
use Rattle.std.proofs.Common.{◌⊎◌, inl, inr, zero, suc, Some, None, ap, sym, subst, refl, slice_get, arith}
use Rattle.std.proofs.lemmas.Bool.{cases_lt}
use Rattle.std.proofs.lemmas.Option.{slice_get_within}
use Rattle.std.specs.List.{AllByRecursion, Contains}
use Rattle.attr_value.specs.declared.head.Head.{Head}
use Rattle.attr_value.specs.declared.head.ValueId.{ValueId}
use Rattle.attr_value.specs.Ids.{at, kids_at, AreKnown}
use Rattle.attr_value.specs.Values.{Value, list_of, value}
use Rattle.dialect_defs.specs.declared.body.Constraint.{Constraint}
use Rattle.dialect_defs.specs.declared.body.Constraint.TheVariants.{Parametric, AllOf}
use Rattle.dialect_defs.specs.declared.body.VarId.{VarId}
use Rattle.dialect_defs.specs.declared.definition.TypeDef.{TypeDef}
use Rattle.dialect_defs.specs.Assignments.{Tests, Assignment, Has, HaveEach, Keeps}
use Rattle.dialect_defs.specs.Goodness.{Good}
use Rattle.constraint_solver.specs.Grown.{Extends}
use Rattle.constraint_solver.proofs.Grows.{at-grows, extends-refl}
use Rattle.type_infer.specs.Asked.{Slots, AreKnownSlots}
use Rattle.type_infer.specs.Completes.{values_at}
use Rattle.type_infer.specs.Determined.{named_in}
use Rattle.type_infer.specs.Found.{AreGoodIds, AreGoodSlots, Filled, Finds, FoundDown, FoundEach}
use Rattle.type_infer.specs.Found.{FoundMore, FoundUnder, HasKept, IsFound}
use Rattle.type_infer.proofs.Filling.{filled-found, more-as, more-filled, more-none}
use Rattle.type_infer.proofs.Filling.{more-then, stays-found}
use Rattle.type_infer.proofs.Finding.{found-kept}
use Rattle.type_infer.proofs.Goodness.{good-kids}
use Rattle.type_infer.proofs.Lists.{each-length, get-contains, length-mapped}
use Rattle.type_infer.proofs.Slots.{asked-get}
use Rattle.type_infer.proofs.Wholes.{values-grew}

pub kids-list : (values : List Value) (ids : List ValueId)
    → list_of (kids_at values ids) ≡ values_at values ids
kids-list values [] = refl
kids-list values (id ∷ ids) = ap (λ l. at values id.0 ∷ l) (kids-list values ids)

pub good-id : (values : List Value) (tests : Tests) (types : List TypeDef) (ids : List ValueId)
    (i : ℕ) (id : ValueId) → AreGoodIds values tests types ids → slice_get ids i ≡ Some id
    → Good values tests types (at values id.0)
good-id values tests types [] i id good is = absurd cc
good-id values tests types (x ∷ ids) zero id good is =
    let same : x ≡ id = cc in
    subst (λ (k : ValueId). Good values tests types (at values k.0)) same good.0
good-id values tests types (x ∷ ids) (suc i) id good is =
    good-id values tests types ids i id good.1 is

kids-good : (values : List Value) (tests : Tests) (types : List TypeDef) (ids : List ValueId)
    → AllByRecursion (Good values tests types) (list_of (kids_at values ids))
    → AreGoodIds values tests types ids
kids-good values tests types [] good = tt
kids-good values tests types (id ∷ ids) good =
    (good.0, kids-good values tests types ids good.1)

-- the kids of a good value of the table are good
pub view-good : (values : List Value) (tests : Tests) (types : List TypeDef) (i : ℕ) (head : Head)
    (ids : List ValueId) → Good values tests types (at values i)
    → at values i ≡ value head (kids_at values ids) → AreGoodIds values tests types ids
view-good values tests types i head ids good is =
    kids-good values tests types ids
    (good-kids values tests types (value head (kids_at values ids))
    (subst (Good values tests types) is good)).each

module _ (tests : Tests) (types : List TypeDef) (values : List Value)
    (A : List Value → Assignment → Type 0) (vars : List VarId) where
  -- of the first none nothing was found
  pub each-none : (found : Slots) → AreKnownSlots (length values) found
      → AreGoodSlots values tests types found
      → FoundEach tests types values A found found false vars 0
  each-none found known good = record {
    more = more-none tests types A values values found (extends-refl values) known good;
    each = λ k v within is. absurd (omega arith);
  }

  -- the value of one more variable was found
  pub each-step : (before between after : Slots) (x y : Bool) (i : ℕ) (v : VarId) (id : ValueId)
      → id.0 < length values → Good values tests types (at values id.0)
      → slice_get vars i ≡ Some v → v.0 < length between
      → ((final : List Value) (a : Assignment) → Extends values final → A final a → (z : Value)
      → Has a v z → z ≡ at final id.0)
      → FoundEach tests types values A before between x vars i → Filled between after y v id
      → FoundEach tests types values A before after (x || y) vars (i + 1)
  each-step before between after x y i v id small right is_v within told first filled = record {
    more = more-then tests types refl first.more next (λ final a later have. have)
        (λ final a later have. have);
    each = λ k w before_next is. by k w before_next is (cases_lt k i);
  }
    where
      next : FoundMore tests types A values values between after y
      next = more-filled tests types A values values between after y v id (extends-refl values)
          first.more.known first.more.good small right within filled
          (λ final a later have finds. told final a later have)

      by : (k : ℕ) (w : VarId) → k < i + 1 → slice_get vars k ≡ Some w → (k < i) ⊎ (i ≤ k)
          → IsFound after w
      by k w before_next is (inl earlier) = stays-found next w (first.each k w earlier is)
      by k w before_next is (inr from) =
          let same : k ≡ i = omega (arith, before_next, from) in
          let here : slice_get vars i ≡ Some w = subst (λ j. slice_get vars j ≡ Some w) same is in
          let one : v ≡ w = cc in
          subst (IsFound after) one (filled-found between after y v id within filled)

  -- those of all were
  pub each-all : (before after : Slots) (x : Bool) (n : ℕ) → length vars ≤ n
      → FoundEach tests types values A before after x vars n → (w : VarId) → Contains vars w
      → IsFound after w
  each-all before after x n all found w among =
      let place = get-contains vars w among in
      let within = slice_get_within vars place.0 w place.1 in
      found.each place.0 w (omega (arith, all, within)) place.1

module _ (tests : Tests) (types : List TypeDef) (values : List Value) (before : Slots)
    (id : ValueId) where
  -- nothing is named
  pub under-none : (c : Constraint) → AreKnownSlots (length values) before
      → AreGoodSlots values tests types before
      → ((final : List Value) (a : Assignment) → Extends values final
      → Keeps final tests a c (at final id.0) → (w : VarId) → Contains (named_in c) w → ⊥)
      → FoundUnder tests types values before before false id c
  under-none c known good none = record {
    more = more-none tests types (λ final a. Keeps final tests a c (at final id.0)) values values
        before (extends-refl values) known good;
    each = λ final a later keeps w among. absurd (none final a later keeps w among);
  }

  module _ (head : Head) (kids : List ValueId) (small : id.0 < length values)
      (known : AreKnown (length values) kids)
      (is : at values id.0 ≡ value head (kids_at values kids)) where
    -- what a whole of these kids has, its parts have
    whole-parts : (is_type : Bool) (name : List ℕ) (parts : List VarId) (final : List Value)
        (a : Assignment) → Extends values final
        → Keeps final tests a (Parametric is_type name parts) (at final id.0)
        → HaveEach a parts (values_at final kids)
    whole-parts is_type name parts final a later keeps =
        let lists : list_of (at final id.0).kids ≡ values_at final kids =
        ap (λ (v : Value). list_of v.kids) (at-grows later id.0 small ∙ is)
        ∙ kids-list values kids ∙ sym (values-grew values final later kids known) in
        subst (HaveEach a parts) lists keeps.1

    -- the parts were found
    pub under-parts : (is_type : Bool) (name : List ℕ) (parts : List VarId) (after : Slots)
        (x : Bool)
        → FoundEach tests types values (λ final a. HaveEach a parts (values_at final kids)) before
        after x parts (length parts)
        → FoundUnder tests types values before after x id (Parametric is_type name parts)
    under-parts is_type name parts after x found = record {
      more = more-as tests types found.more (λ final a later keeps.
          whole-parts is_type name parts final a later keeps);
      each = λ final a later keeps w among.
          each-all tests types values (λ final a. HaveEach a parts (values_at final kids)) parts
          before after x (length parts) (omega arith) found w among;
    }

    -- the same where the parts are lent
    pub under-parts-as : (is_type : Bool) (name : List ℕ) (slice parts : List VarId)
        (after : Slots) (x : Bool) → slice ≡ parts
        → FoundEach tests types values (λ final a. HaveEach a slice (values_at final kids)) before
        after x slice (length slice)
        → FoundUnder tests types values before after x id (Parametric is_type name parts)
    under-parts-as is_type name slice parts after x same found =
        subst (λ (l : List VarId). FoundUnder tests types values before after x id
        (Parametric is_type name l)) same (under-parts is_type name slice after x found)

    -- another number of parts
    pub under-other : (is_type : Bool) (name : List ℕ) (parts : List VarId)
        → AreKnownSlots (length values) before → AreGoodSlots values tests types before
        → (length kids ≡ length parts → ⊥)
        → FoundUnder tests types values before before false id (Parametric is_type name parts)
    under-other is_type name parts slots good other =
        under-none (Parametric is_type name parts) slots good (λ final a later keeps w among.
        other (sym (length-mapped (λ (k : ValueId). at final k.0) kids)
        ∙ sym (each-length a parts (values_at final kids)
        (whole-parts is_type name parts final a later keeps))))

  -- the members were found
  pub under-members : (members : List VarId) (after : Slots) (x : Bool)
      → FoundEach tests types values
      (λ final a. AllByRecursion (λ w. Has a w (at final id.0)) members) before after x members
      (length members)
      → FoundUnder tests types values before after x id (AllOf members)
  under-members members after x found = record {
    more = found.more;
    each = λ final a later keeps w among.
        each-all tests types values
        (λ final a. AllByRecursion (λ w. Has a w (at final id.0)) members) members before after x
        (length members) (omega arith) found w among;
  }

  -- the same where the members are lent
  pub under-members-as : (slice members : List VarId) (after : Slots) (x : Bool)
      → slice ≡ members
      → FoundEach tests types values
      (λ final a. AllByRecursion (λ w. Has a w (at final id.0)) slice) before after x slice
      (length slice)
      → FoundUnder tests types values before after x id (AllOf members)
  under-members-as slice members after x same found =
      subst (λ (l : List VarId). FoundUnder tests types values before after x id (AllOf l)) same
      (under-members slice after x found)

-- what was found under a value that was found of a variable
pub down-found : (tests : Tests) (types : List TypeDef) (values : List Value)
    (before after : Slots) (x : Bool) (whole : VarId) (id : ValueId) (c : Constraint)
    → slice_get before whole.0 ≡ Some (Some id)
    → FoundUnder tests types values before after x id c
    → FoundDown tests types values before after x whole c
down-found tests types values before after x whole id c there under = record {
  more = record {
    grew = under.more.grew;
    size = under.more.size;
    known = under.more.known;
    good = under.more.good;
    kept = under.more.kept;
    same = under.more.same;
    fewer = under.more.fewer;
    no_more = under.more.no_more;
    finds = λ final a later kept finds.
        under.more.finds final a later (keeps final a kept finds) finds;
  };
  down = λ final a later kept finds found w among.
      under.each final a later (keeps final a kept finds) w among;
}
  where
    keeps : (final : List Value) (a : Assignment) → HasKept tests whole c final a
        → Finds final before a → Keeps final tests a c (at final id.0)
    keeps final a kept finds =
        found-kept final before a finds tests whole c (at final id.0) kept
        (asked-get final before whole.0 id there)

-- nothing was found of the whole
pub down-none : (tests : Tests) (types : List TypeDef) (values : List Value) (found : Slots)
    (whole : VarId) (c : Constraint) → AreKnownSlots (length values) found
    → AreGoodSlots values tests types found → slice_get found whole.0 ≡ Some None
    → FoundDown tests types values found found false whole c
down-none tests types values found whole c known good free = record {
  more = more-none tests types (HasKept tests whole c) values values found (extends-refl values)
      known good;
  down = λ final a later kept finds has w among.
      let there = has.1 in absurd cc;
}
