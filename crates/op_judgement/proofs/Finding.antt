-- What is found of trees, one by one.
use Rattle.std.proofs.Common.{◌≡◌, ◌∙◌, ◌<◌, ◌⊎◌, inl, inr, ℕ, List, [], ◌∷◌, ◌++◌, length, map, take, get_or, ◌+◌}
use Rattle.std.proofs.Common.{refl, sym, ap, subst, append-nil, append_assoc}
use Rattle.std.proofs.lemmas.List.{map-append, take_more}
use Rattle.std.proofs.lemmas.List.Elements.{Contains-append_left, Contains-append_right}
use Rattle.std.proofs.lemmas.List.Elements.{Contains-append_cases}
use Rattle.std.specs.List.{AllByRecursion, Contains}
use Rattle.std.specs.declared.option.Option.{Option}
use Rattle.std.specs.declared.option.Option.TheVariants.{Some, None}
use Rattle.attr_value.specs.declared.head.ValueId.{ValueId}
use Rattle.attr_value.specs.Ids.{at, AreKnown}
use Rattle.attr_value.specs.Values.{Value}
use Rattle.constraint_solver.specs.Grown.{Extends}
use Rattle.constraint_solver.proofs.Grows.{at-grows, known-grows}
use Rattle.dialect_registry.specs.Parts.{Among}
use Rattle.dialect_registry.proofs.Walks.{among-none}
use Rattle.first_fault.specs.declared.fault.Fault.{Fault}
use Rattle.first_fault.specs.Firsts.{earlier_of, IsFirst}
use Rattle.first_fault.proofs.Firsts.{earlier_of-both-none, earlier_of-right-none, first-either}
use Rattle.first_fault.proofs.Firsts.{first-same}
use Rattle.generic_syntax.specs.declared.cst.ValueCst.{ValueCst}
use Rattle.generic_syntax.specs.declared.module_cst.RegionCst.{RegionCst, out-RegionCst}
use Rattle.module_faults.specs.OpFaults.{block_types}
use Rattle.module_meaning.specs.WholeModules.{Loaded, IsGood}
use Rattle.module_meaning.proofs.Places.{all-joined}
use Rattle.op_judgement.specs.declared.args.Args.{Args}
use Rattle.op_judgement.specs.Found.{AreArgsFound, AreEach, AreFound, AreValues, IsTreeFault}
use Rattle.op_judgement.specs.Found.{IsValue}
use Rattle.op_judgement.specs.Shown.{block_trees}
use Rattle.op_verifier.specs.Seen.{values_at}
use Rattle.value_meaning.specs.Meaning.{Aliases, value_of}
use Rattle.value_meaning.proofs.Among.{contains-head, contains-one}

-- with one item more, the first fault is the earlier of the first so far and the item's own
pub among-push : {A : Type 0} (P : A → Fault → Type 0) (xs : List A) (x : A) (a b : Option Fault)
    → IsFirst (Among P xs) a → IsFirst (P x) b
    → IsFirst (Among P (xs ++ x ∷ [])) (earlier_of a b)
among-push {A = A} P xs x a b first one =
    first-same (λ f. Among P xs f ⊎ P x f) (Among P (xs ++ x ∷ [])) (earlier_of a b) to back
    (first-either (Among P xs) (P x) a b first one)
  where
    to : (f : Fault) → Among P xs f ⊎ P x f → Among P (xs ++ x ∷ []) f
    to f (inl (y, has, p)) = (y, Contains-append_left xs (x ∷ []) y has, p)
    to f (inr p) = (x, Contains-append_right xs (x ∷ []) x (contains-head x []), p)

    back : (f : Fault) → Among P (xs ++ x ∷ []) f → Among P xs f ⊎ P x f
    back f (y, has, p) = elim (Contains-append_cases xs (x ∷ []) y has) [
      | inl h ↦ inl (y, h, p)
      | inr h ↦ inr (subst (λ (z : A). P z f) (sym (contains-one x y h)) p)
    ]

-- the items as far as the next one
pub take-push : {A : Type 0} (xs : List A) (i : ℕ) (x : A) → i < length xs → x ≡ get_or xs i x
    → take (i + 1) xs ≡ take i xs ++ x ∷ []
take-push xs i x less is =
    take_more xs i x less ∙ ap (λ y. take i xs ++ y ∷ []) (sym is)

-- and what is made of them
pub map-push : {A B : Type 0} (f : A → B) (xs : List A) (i : ℕ) (x : A) → i < length xs
    → x ≡ get_or xs i x → map f (take (i + 1) xs) ≡ map f (take i xs) ++ f x ∷ []
map-push f xs i x less is =
    ap (map f) (take-push xs i x less is) ∙ map-append f (take i xs) (x ∷ [])

-- the arguments of one region more
pub block_trees-push : (rs : List RegionCst) (r : RegionCst)
    → block_trees (rs ++ r ∷ []) ≡ block_trees rs ++ map block_types (out-RegionCst r).blocks
block_trees-push [] r = append-nil (map block_types (out-RegionCst r).blocks)
block_trees-push (x ∷ rs) r =
    ap (λ l. map block_types (out-RegionCst x).blocks ++ l) (block_trees-push rs r)
    ∙ sym (append_assoc (map block_types (out-RegionCst x).blocks) (block_trees rs)
    (map block_types (out-RegionCst r).blocks))

-- ---- ids

-- the values of ids stay
pub values_at-grow : {now new : List Value} → Extends now new → (ids : List ValueId)
    → AreKnown (length now) ids → values_at new ids ≡ values_at now ids
values_at-grow grown [] known = refl
values_at-grow {now} {new} grown (id ∷ ids) known =
    ap (λ v. v ∷ values_at new ids) (at-grows grown id.0 known.0)
    ∙ ap (λ vs. at now id.0 ∷ vs) (values_at-grow grown ids known.1)

-- one more id
pub known-push : (n : ℕ) (ids : List ValueId) (id : ValueId) → AreKnown n ids → id.0 < n
    → AreKnown n (ids ++ id ∷ [])
known-push n [] id known less = (less, tt)
known-push n (x ∷ ids) id known less = (known.0, known-push n ids id known.1 less)

module _ {loaded : Loaded} {al : Aliases} where
  -- no trees have no ids
  pub values-none : (now : List Value) → AreValues loaded al [] now []
  values-none now = record { known = tt; spell = refl; good = tt }

  -- ids stay those of the values
  pub values-grow : {trees : List ValueCst} {now new : List Value} {ids : List ValueId}
      → Extends now new → AreValues loaded al trees now ids → AreValues loaded al trees new ids
  values-grow {trees} {now} {new} {ids} grown x =
      let same = values_at-grow grown ids x.known in
      record {
        known = known-grows grown ids x.known;
        spell = x.spell ∙ ap (map Some) (sym same);
        good = subst (AllByRecursion (IsGood loaded)) (sym same) x.good;
      }

  -- one more
  pub values-push : {trees : List ValueCst} {now new : List Value} {ids : List ValueId}
      {tree : ValueCst} {id : ValueId} → Extends now new → AreValues loaded al trees now ids
      → IsValue loaded al tree new id
      → AreValues loaded al (trees ++ tree ∷ []) new (ids ++ id ∷ [])
  values-push {trees} {now} {new} {ids} {tree} {id} grown before one =
      let x = values-grow grown before in
      let joined : values_at new (ids ++ id ∷ []) ≡ values_at new ids ++ at new id.0 ∷ [] =
      map-append (λ (i : ValueId). at new i.0) ids (id ∷ []) in
      record {
        known = known-push (length new) ids id x.known one.known;
        spell = map-append (value_of al) trees (tree ∷ [])
            ∙ ap (λ l. l ++ value_of al tree ∷ []) x.spell
            ∙ ap (λ v. map Some (values_at new ids) ++ v ∷ []) one.spells
            ∙ sym (ap (map Some) joined
            ∙ map-append Some (values_at new ids) (at new id.0 ∷ []));
        good = subst (AllByRecursion (IsGood loaded)) (sym joined)
            (all-joined (IsGood loaded) (values_at new ids) (at new id.0 ∷ []) x.good
            (one.good, tt));
      }

  -- ---- trees, with their first fault

  pub found-none : (now : List Value) → AreFound loaded al [] now [] None
  found-none now = record {
    first_is = among-none (IsTreeFault loaded al);
    values = λ none. values-none now;
  }

  -- one more without a fault
  pub found-value : {trees : List ValueCst} {now new : List Value} {ids : List ValueId}
      {first : Option Fault} {tree : ValueCst} {id : ValueId} → Extends now new
      → AreFound loaded al trees now ids first → IsValue loaded al tree new id
      → AreFound loaded al (trees ++ tree ∷ []) new (ids ++ id ∷ []) first
  found-value {trees} {now} {new} {ids} {first} {tree} {id} grown x one = record {
    first_is = subst (IsFirst (Among (IsTreeFault loaded al) (trees ++ tree ∷ [])))
        (earlier_of-right-none first)
        (among-push (IsTreeFault loaded al) trees tree first None x.first_is one.right);
    values = λ none. values-push grown (x.values none) one;
  }

  -- one more with a fault
  pub found-fault : {trees : List ValueCst} {now : List Value} {ids : List ValueId}
      {first : Option Fault} (new : List Value) (tree : ValueCst) {f : Fault}
      → AreFound loaded al trees now ids first → IsFirst (IsTreeFault loaded al tree) (Some f)
      → AreFound loaded al (trees ++ tree ∷ []) new ids (earlier_of first (Some f))
  found-fault {trees} {now} {ids} {first} new tree {f} x one = record {
    first_is = among-push (IsTreeFault loaded al) trees tree first (Some f) x.first_is one;
    values = λ none. let both = (earlier_of-both-none first (Some f) none).1 in absurd (cc);
  }

  -- what is found stays so
  pub found-grow : {trees : List ValueCst} {now new : List Value} {ids : List ValueId}
      {first : Option Fault} → Extends now new → AreFound loaded al trees now ids first
      → AreFound loaded al trees new ids first
  found-grow grown x = record {
    first_is = x.first_is;
    values = λ none. values-grow grown (x.values none);
  }

-- ---- the arguments of blocks

module _ (loaded : Loaded) (al : Aliases) where
  -- ids stay those of the arguments' types
  pub each-grow : {now new : List Value} → Extends now new → (blocks : List (List ValueCst))
      (args : List (List ValueId)) → AreEach loaded al blocks now args
      → AreEach loaded al blocks new args
  each-grow grown [] [] each = tt
  each-grow grown (trees ∷ blocks) (ids ∷ args) each =
      (values-grow grown each.0, each-grow grown blocks args each.1)
  each-grow grown [] (ids ∷ args) each = absurd each
  each-grow grown (trees ∷ blocks) [] each = absurd each

  -- one block more
  each-push : {now : List Value} (blocks : List (List ValueCst)) (args : List (List ValueId))
      (trees : List ValueCst) (ids : List ValueId) → AreEach loaded al blocks now args
      → AreValues loaded al trees now ids
      → AreEach loaded al (blocks ++ trees ∷ []) now (args ++ ids ∷ [])
  each-push [] [] trees ids each one = (one, tt)
  each-push (b ∷ blocks) (a ∷ args) trees ids each one =
      (each.0, each-push blocks args trees ids each.1 one)
  each-push [] (a ∷ args) trees ids each one = absurd each
  each-push (b ∷ blocks) [] trees ids each one = absurd each

module _ {loaded : Loaded} {al : Aliases} where
  -- of no block
  pub args-none : (now : List Value) (x : Args) → x.types ≡ [] → x.first ≡ None
      → AreArgsFound loaded al [] now x
  args-none now x types first = record {
    first_is = subst (IsFirst (Among (Among (IsTreeFault loaded al)) [])) (sym first)
        (among-none (Among (IsTreeFault loaded al)));
    values = λ none. subst (AreEach loaded al [] now) (sym types) tt;
  }

  -- of one block more
  pub args-push : {blocks : List (List ValueCst)} {now new : List Value} {x : Args} (y : Args)
      {trees : List ValueCst} {ids : List ValueId} {first : Option Fault} → Extends now new
      → AreArgsFound loaded al blocks now x → AreFound loaded al trees new ids first
      → y.first ≡ earlier_of x.first first → y.types ≡ x.types ++ ids ∷ []
      → AreArgsFound loaded al (blocks ++ trees ∷ []) new y
  args-push {blocks} {now} {new} {x} y {trees} {ids} {first} grown before one is types = record {
    first_is = subst (IsFirst (Among (Among (IsTreeFault loaded al)) (blocks ++ trees ∷ [])))
        (sym is)
        (among-push (Among (IsTreeFault loaded al)) blocks trees x.first first before.first_is
        one.first_is);
    values = λ none.
        let both = earlier_of-both-none x.first first (sym is ∙ none) in
        subst (AreEach loaded al (blocks ++ trees ∷ []) new) (sym types)
        (each-push loaded al blocks x.types trees ids
        (each-grow loaded al grown blocks x.types (before.values both.0)) (one.values both.1));
  }

  -- what is found of blocks stays so
  pub args-grow : {blocks : List (List ValueCst)} {now new : List Value} {x : Args}
      → Extends now new → AreArgsFound loaded al blocks now x → AreArgsFound loaded al blocks new x
  args-grow {blocks} {now} {new} {x} grown found = record {
    first_is = found.first_is;
    values = λ none. each-grow loaded al grown blocks x.types (found.values none);
  }
