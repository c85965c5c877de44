-- The faults of operations that stand in a list, one operation after another.
use Rattle.std.proofs.Common.{◌≡◌, ◌⊎◌, inl, inr, ℕ, Bool, true, false, List, [], ◌∷◌, ◌++◌}
use Rattle.std.proofs.Common.{Bor, refl, sym, ◌∙◌, ap, subst, length, map, arith}
use Rattle.std.specs.Prelude.{if◌then◌else◌}
use Rattle.std.specs.List.{AllByRecursion, AllZip, zip}
use Rattle.std.specs.declared.option.Option.{Option}
use Rattle.std.specs.declared.option.Option.TheVariants.{Some, None}
use Rattle.std.proofs.lemmas.List.Elements.{Contains-append_cases, Contains-append_left}
use Rattle.std.proofs.lemmas.List.Elements.{Contains-push}
use Rattle.std.proofs.lemmas.Slice.Zip.{all_zipped_more}
use Rattle.attr_value.specs.declared.head.ValueId.{ValueId}
use Rattle.attr_value.specs.Ids.{AreKnown, at}
use Rattle.attr_value.specs.Values.{Value}
use Rattle.constraint_solver.proofs.Grows.{at-grows, known-grows}
use Rattle.constraint_solver.specs.Grown.{Extends}
use Rattle.dialect_defs.specs.declared.definition.OpDef.{OpDef}
use Rattle.dialect_defs.specs.Segments.{parts}
use Rattle.elaborate.specs.declared.operations.Found.{Found}
use Rattle.elaborate.specs.Operations.{AreFound, FaultAmong, IsOpFaultAmong, IsValueFaultAmong}
use Rattle.first_fault.specs.declared.fault.Fault.{Fault}
use Rattle.first_fault.specs.Firsts.{IsFirst, comes_before, earlier_of}
use Rattle.first_fault.proofs.Firsts.{first-either, first-same}
use Rattle.generic_syntax.specs.declared.module_cst.FormCst.{out-FormCst}
use Rattle.generic_syntax.specs.declared.module_cst.OpCst.{OpCst, out-OpCst}
use Rattle.module_faults.specs.declared.ids.OpIds.{OpIds}
use Rattle.module_faults.specs.declared.rule.OpRule.{OpRule}
use Rattle.module_faults.specs.declared.standing.Standing.{Standing as Listed}
use Rattle.module_faults.specs.declared.standing.Standing.TheVariants.{Op, Region, Block}
use Rattle.module_faults.specs.Listed.{seen}
use Rattle.module_faults.specs.OpFaults.{BreaksOp, IsKnown, IsOpFault, IsValueFault}
use Rattle.module_faults.specs.OpFaults.{arity, not_last, rank, unknown, unsatisfied}
use Rattle.module_faults.specs.Standings.{Standing, a_block, a_region, an_op, generic_regions, ops_of}
use Rattle.module_meaning.specs.Completes.{HaveDistinctOps, OpCompletes}
use Rattle.module_meaning.specs.Facts.{CustomForms, no_forms}
use Rattle.module_meaning.specs.WholeModules.{Loaded}
use Rattle.op_judgement.specs.Judged.{AreIdsOf, IsJudgement, operation_of}
use Rattle.op_judgement.specs.Shown.{block_counts, successors_in}
use Rattle.op_verifier.specs.Seen.{values_at}
use Rattle.op_judgement.specs.declared.judge.Judgement.TheVariants as judgement
use Rattle.value_meaning.specs.Meaning.{Aliases}
use Rattle.value_meaning.proofs.Among.{contains-one}

-- ---- faults among what stands

module _ (F : OpCst → Bool → Fault → Type 0) where
  -- nothing stands there
  pub first-none : IsFirst (FaultAmong F []) None
  first-none f h = let less = h.stands.1 in absurd (omega arith)

  -- a fault among more is one of those before, or of what is last
  split : (ss : List Standing) (s : Standing) (f : Fault) → FaultAmong F (ss ++ s ∷ []) f
      → FaultAmong F ss f ⊎ ((c : OpCst) × (is_last : Bool) × (s ≡ an_op c is_last) × F c is_last f)
  split ss s f h = elim (Contains-append_cases ss (s ∷ []) (an_op h.op h.is_last) h.stands) [
    | inl before ↦ inl (record { op = h.op; is_last = h.is_last; stands = before; fault = h.fault })
    | inr last ↦
        inr (h.op, h.is_last, contains-one s (an_op h.op h.is_last) last, h.fault)
  ]

  before-more : (ss : List Standing) (s : Standing) (f : Fault) → FaultAmong F ss f
      → FaultAmong F (ss ++ s ∷ []) f
  before-more ss s f h = record {
    op = h.op;
    is_last = h.is_last;
    stands = Contains-append_left ss (s ∷ []) (an_op h.op h.is_last) h.stands;
    fault = h.fault;
  }

  last-more : (ss : List Standing) (c : OpCst) (is_last : Bool) (f : Fault) → F c is_last f
      → FaultAmong F (ss ++ an_op c is_last ∷ []) f
  last-more ss c is_last f h = record {
    op = c;
    is_last = is_last;
    stands = Contains-push ss (an_op c is_last);
    fault = h;
  }

  -- one operation more
  pub first-more : (ss : List Standing) (c : OpCst) (is_last : Bool) (a b : Option Fault)
      → IsFirst (FaultAmong F ss) a → IsFirst (F c is_last) b
      → IsFirst (FaultAmong F (ss ++ an_op c is_last ∷ [])) (earlier_of a b)
  first-more ss c is_last a b x y =
      first-same (λ f. FaultAmong F ss f ⊎ F c is_last f)
      (FaultAmong F (ss ++ an_op c is_last ∷ [])) (earlier_of a b)
      (λ f h. elim h [ inl p ↦ before-more ss (an_op c is_last) f p | inr q ↦ last-more ss c is_last f q ])
      (λ f h. elim (split ss (an_op c is_last) f h) [
        | inl p ↦ inl p
        | inr q ↦ inr (same-op c q.0 is_last q.1 f q.2 q.3)
      ])
      (first-either (FaultAmong F ss) (F c is_last) a b x y)
    where
      same-op : (c d : OpCst) (last after : Bool) (f : Fault) → an_op c last ≡ an_op d after
          → F d after f → F c last f
      same-op c d last after f e h =
          let op : c ≡ d = cc in let l : last ≡ after = cc in
          subst (λ (x : OpCst). F x last f) (sym op) (subst (λ (b : Bool). F d b f) (sym l) h)

  -- or something that is no operation
  pub first-other : (ss : List Standing) (s : Standing) (a : Option Fault)
      → ((c : OpCst) (is_last : Bool) → s ≡ an_op c is_last → ⊥)
      → IsFirst (FaultAmong F ss) a → IsFirst (FaultAmong F (ss ++ s ∷ [])) a
  first-other ss s a other x =
      first-same (FaultAmong F ss) (FaultAmong F (ss ++ s ∷ [])) a (λ f h. before-more ss s f h)
      (λ f h. elim (split ss s f h) [ inl p ↦ p | inr q ↦ absurd (other q.0 q.1 q.2) ]) x

-- what is listed as no operation stands as none
pub seen-other : (s : Listed) → ((op : Bor OpCst) (is_last : Bool) → s ≡ Op op is_last → ⊥)
    → (c : OpCst) (is_last : Bool) → seen s ≡ an_op c is_last → ⊥
seen-other (Op op last) none c is_last e = absurd (none op last refl)
seen-other (Region region nesting) none c is_last e = absurd (cc)
seen-other (Block block) none c is_last e = absurd (cc)

-- ---- the rule that an operation breaks

module _ (loaded : Loaded) (forms : CustomForms) (al : Aliases) (c : OpCst) (is_last : Bool)
    (distinct : HaveDistinctOps loaded.ops) where
  one-def : (d e : OpDef) → IsKnown loaded c d → IsKnown loaded c e → d ≡ e
  one-def d e x y = distinct.same d e x.known y.known (sym x.named ∙ y.named)

  last-or-not : (d e : OpDef) → IsKnown loaded c d → IsKnown loaded c e → d.terminator ≡ true
      → is_last ≡ false → (e.terminator ≡ true → is_last ≡ true) → ⊥
  last-or-not d e x y terminator middle last =
      let same : d ≡ e = one-def d e x y in
      let ends : is_last ≡ true = last (ap (λ (z : OpDef). z.terminator) (sym same) ∙ terminator) in
      let wrong : true ≡ false = sym ends ∙ middle in absurd (cc)

  -- an operation breaks one rule first
  pub breaks-once : (r s : OpRule) → BreaksOp loaded forms al c is_last r
      → BreaksOp loaded forms al c is_last s → r ≡ s
  breaks-once r s (unknown x) (unknown y) = refl
  breaks-once r s (unknown x) (arity d k z) = absurd (x d k)
  breaks-once r s (unknown x) (not_last d k z t m) = absurd (x d k)
  breaks-once r s (unknown x) (unsatisfied d k z t m) = absurd (x d k)
  breaks-once r s (arity d k z) (unknown y) = absurd (y d k)
  breaks-once r s (arity d k z) (arity e l w) = refl
  breaks-once r s (arity d k z) (not_last e l w t m) = absurd (w z)
  breaks-once r s (arity d k z) (unsatisfied e l w t m) = absurd (w z)
  breaks-once r s (not_last d k z t m) (unknown y) = absurd (y d k)
  breaks-once r s (not_last d k z t m) (arity e l w) = absurd (z w)
  breaks-once r s (not_last d k z t m) (not_last e l w u n) = refl
  breaks-once r s (not_last d k z t m) (unsatisfied e l w u n) =
      absurd (last-or-not d e k l t m u)
  breaks-once r s (unsatisfied d k z t m) (unknown y) = absurd (y d k)
  breaks-once r s (unsatisfied d k z t m) (arity e l w) = absurd (z w)
  breaks-once r s (unsatisfied d k z t m) (not_last e l w u n) =
      absurd (last-or-not e d l k u n t)
  breaks-once r s (unsatisfied d k z t m) (unsatisfied e l w u n) = refl

  -- so its fault is the only one
  pub first-rule : (rule : OpRule) (place : ℕ) → place ≡ (out-OpCst c).place
      → BreaksOp loaded forms al c is_last rule
      → IsFirst (IsOpFault loaded forms al c is_last)
      (Some (record { place = place; code = rank rule }))
  first-rule rule place here breaks = (
    record { rule = rule; breaks = breaks; place = here; code = refl },
    λ g h. inr (
      here ∙ sym h.place,
      let same : rank rule ≡ g.code =
          ap rank (breaks-once rule h.rule breaks h.breaks) ∙ sym h.code in omega arith,
    ),
  )

  -- and where it breaks none, it has none
  pub no-rule : ((rule : OpRule) → BreaksOp loaded forms al c is_last rule → ⊥)
      → IsFirst (IsOpFault loaded forms al c is_last) None
  no-rule none f h = none h.rule h.breaks

-- ---- what is found

earlier-none : (a : Option Fault) → earlier_of a None ≡ a
earlier-none None = refl
earlier-none (Some f) = refl

earlier-some : (a : Option Fault) (f : Fault) → earlier_of a (Some f) ≡ None → ⊥
earlier-some None f e = absurd (cc)
earlier-some (Some g) f e = go (comes_before f g) e
  where
    go : (b : Bool) → (if b then Some f else Some g) ≡ None → ⊥
    go true e = absurd (cc)
    go false e = absurd (cc)

module _ (loaded : Loaded) (al : Aliases) where
  ops-push : (ss : List Standing) (c : OpCst) (is_last : Bool)
      → ops_of (ss ++ an_op c is_last ∷ []) ≡ ops_of ss ++ c ∷ []
  ops-push [] c is_last = refl
  ops-push (an_op d l ∷ ss) c is_last = ap (λ cs. d ∷ cs) (ops-push ss c is_last)
  ops-push (a_region n r ∷ ss) c is_last = ops-push ss c is_last
  ops-push (a_block b ∷ ss) c is_last = ops-push ss c is_last

  ops-other : (ss : List Standing) (s : Standing)
      → ((c : OpCst) (is_last : Bool) → s ≡ an_op c is_last → ⊥) → ops_of (ss ++ s ∷ []) ≡ ops_of ss
  ops-other [] (an_op c l) other = absurd (other c l refl)
  ops-other [] (a_region n r) other = refl
  ops-other [] (a_block b) other = refl
  ops-other (an_op d l ∷ ss) s other = ap (λ cs. d ∷ cs) (ops-other ss s other)
  ops-other (a_region n r ∷ ss) s other = ops-other ss s other
  ops-other (a_block b ∷ ss) s other = ops-other ss s other

  module _ (distinct : HaveDistinctOps loaded.ops) (ss : List Standing) (now : List Value)
      (c : OpCst) (is_last : Bool) (old new : Found) (found : AreFound loaded al ss now old) where
    -- a value of one operation more is at fault
    pub found-values : (f : Fault) → new.values ≡ earlier_of old.values (Some f)
        → IsJudgement loaded al c is_last now (judgement.Values f)
        → AreFound loaded al (ss ++ an_op c is_last ∷ []) now new
    found-values f is judged = record {
      values = rw is (first-more (λ op last. IsValueFault loaded no_forms al op) ss c is_last
          old.values (Some f) found.values judged);
      operations = λ none. absurd (earlier-some old.values f (sym is ∙ none));
      ids = λ none _. absurd (earlier-some old.values f (sym is ∙ none));
    }

    -- none is, and so far nothing is known of others
    values-kept : new.values ≡ old.values
        → ((f : Fault) → IsValueFault loaded no_forms al c f → ⊥)
        → IsFirst (IsValueFaultAmong loaded al (ss ++ an_op c is_last ∷ [])) new.values
    values-kept is none =
        rw is (subst (IsFirst (IsValueFaultAmong loaded al (ss ++ an_op c is_last ∷ [])))
        (earlier-none old.values) (first-more (λ op last. IsValueFault loaded no_forms al op) ss c
        is_last old.values None found.values none))

    -- one operation more breaks a rule
    pub found-rule : (rule : OpRule) (place : ℕ) → new.values ≡ old.values
        → new.operations
        ≡ earlier_of old.operations (Some (record { place = place; code = rank rule }))
        → place ≡ (out-OpCst c).place
        → IsJudgement loaded al c is_last now (judgement.Operation rule)
        → AreFound loaded al (ss ++ an_op c is_last ∷ []) now new
    found-rule rule place same is here judged = record {
      values = values-kept same judged.values;
      operations = λ none. rw is (first-more (IsOpFault loaded no_forms al) ss c is_last
          old.operations (Some (record { place = place; code = rank rule }))
          (found.operations (sym same ∙ none))
          (first-rule loaded no_forms al c is_last distinct rule place here judged.breaks));
      ids = λ _ none. absurd (earlier-some old.operations (record { place = place; code = rank rule })
          (sym is ∙ none));
    }

    -- one operation more is right
    pub found-right : (ids : OpIds) → new.values ≡ old.values → new.operations ≡ old.operations
        → new.ids.items ≡ old.ids.items ++ ids ∷ []
        → IsJudgement loaded al c is_last now (judgement.Right ids)
        → AreFound loaded al (ss ++ an_op c is_last ∷ []) now new
    found-right ids same alike pushed judged = record {
      values = values-kept same judged.values;
      operations = λ none.
          rw alike (subst (IsFirst (IsOpFaultAmong loaded al (ss ++ an_op c is_last ∷ [])))
          (earlier-none old.operations) (first-more (IsOpFault loaded no_forms al) ss c is_last
          old.operations None (found.operations (sym same ∙ none))
          (no-rule loaded no_forms al c is_last distinct judged.rules)));
      ids = λ none nothing.
          rw (pushed, ops-push ss c is_last)
          (all_zipped_more (λ x y. AreIdsOf loaded al x now y) (ops_of ss) old.ids.items c ids
          (found.ids (sym same ∙ none) (sym alike ∙ nothing)) judged.ids_of);
    }

  -- something that is no operation stands there too
  pub found-other : (ss : List Standing) (now : List Value) (s : Standing) (found : Found)
      → ((c : OpCst) (is_last : Bool) → s ≡ an_op c is_last → ⊥) → AreFound loaded al ss now found
      → AreFound loaded al (ss ++ s ∷ []) now found
  found-other ss now s found other x = record {
    values = first-other (λ op last. IsValueFault loaded no_forms al op) ss s found.values other
        x.values;
    operations = λ none.
        first-other (IsOpFault loaded no_forms al) ss s found.operations other (x.operations none);
    ids = λ none nothing. rw (ops-other ss s other) (x.ids none nothing);
  }

  -- nothing stands there yet
  pub found-none : (now : List Value) (found : Found) → found.values ≡ None
      → found.operations ≡ None → found.ids.items ≡ [] → AreFound loaded al [] now found
  found-none now found v o i = record {
    values = rw v (first-none (λ op last. IsValueFault loaded no_forms al op));
    operations = λ _. rw o (first-none (IsOpFault loaded no_forms al));
    ids = λ _ _. rw i tt;
  }

-- ---- as the table grows

-- ids that are known have the values that they had
pub values-grow : {old new : List Value} → Extends old new → (ids : List ValueId)
    → AreKnown (length old) ids → values_at new ids ≡ values_at old ids
values-grow grown [] known = refl
values-grow {old} {new} grown (id ∷ ids) known =
    ap (λ v. v ∷ values_at new ids) (at-grows grown id.0 known.0)
    ∙ ap (λ vs. at old id.0 ∷ vs) (values-grow grown ids known.1)

all-values-grow : {old new : List Value} → Extends old new → (args : List (List ValueId))
    → AllByRecursion (AreKnown (length old)) args
    → map (values_at new) args ≡ map (values_at old) args
all-values-grow grown [] known = refl
all-values-grow {old} {new} grown (ids ∷ args) known =
    ap (λ vs. vs ∷ map (values_at new) args) (values-grow grown ids known.0)
    ∙ ap (λ l. values_at old ids ∷ l) (all-values-grow grown args known.1)

all-known-grow : {old new : List Value} → Extends old new → (args : List (List ValueId))
    → AllByRecursion (AreKnown (length old)) args → AllByRecursion (AreKnown (length new)) args
all-known-grow grown [] known = tt
all-known-grow grown (ids ∷ args) known =
    (known-grows grown ids known.0, all-known-grow grown args known.1)

module _ (loaded : Loaded) (al : Aliases) {old new : List Value} (grown : Extends old new) where
  -- the ids of an operation stand for it over a longer table
  pub ids-grow : (c : OpCst) (ids : OpIds) → AreIdsOf loaded al c old ids
      → AreIdsOf loaded al c new ids
  ids-grow c ids x =
      let known = x.known in
      let operands = values-grow grown ids.operands.items known.operands in
      let results = values-grow grown ids.results.items known.results in
      let values = values-grow grown ids.values known.values in
      let args = all-values-grow grown ids.args known.args in
      let same : operation_of new c ids ≡ operation_of old c ids =
      λ i. record {
        operands = operands i;
        results = results i;
        successors = length (successors_in (out-FormCst (out-OpCst c).form));
        attrs = zip ids.keys (values i);
        regions = parts (block_counts (generic_regions c)) (args i);
      } in
      record {
        def = x.def;
        stands = x.stands;
        named = x.named;
        completes = subst (OpCompletes loaded no_forms al c) (sym same) x.completes;
        known = record {
          operands = known-grows grown ids.operands.items known.operands;
          results = known-grows grown ids.results.items known.results;
          values = known-grows grown ids.values known.values;
          args = all-known-grow grown ids.args known.args;
        };
        ascend = x.ascend;
        counts = x.counts;
        good = rw values x.good;
        args = rw args x.args;
        good_args = rw args x.good_args;
      }

  all-ids-grow : (cs : List OpCst) (ids : List OpIds)
      → AllZip (λ c x. AreIdsOf loaded al c old x) cs ids
      → AllZip (λ c x. AreIdsOf loaded al c new x) cs ids
  all-ids-grow [] [] h = tt
  all-ids-grow [] (x ∷ ids) h = absurd h
  all-ids-grow (c ∷ cs) [] h = absurd h
  all-ids-grow (c ∷ cs) (x ∷ ids) h = (ids-grow c x h.0, all-ids-grow cs ids h.1)

  -- so does what is found
  pub found-grows : (ss : List Standing) (found : Found) → AreFound loaded al ss old found
      → AreFound loaded al ss new found
  found-grows ss found x = record {
    values = x.values;
    operations = x.operations;
    ids = λ none nothing. all-ids-grow (ops_of ss) found.ids.items (x.ids none nothing);
  }
