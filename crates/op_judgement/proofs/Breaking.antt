-- The rules on an operation, said of its tree: in generic form by what was found of the form, and in
-- custom form, which tells nothing.
use Rattle.std.proofs.Common.{◌≡◌, ◌∙◌, ℕ, Bool, true, false, List, [], ◌∷◌, ◌++◌, length, map}
use Rattle.std.proofs.Common.{refl, sym, ap, subst, inl, inr, Contains, slice_get}
use Rattle.std.specs.List.{AllByRecursion}
use Rattle.std.specs.declared.option.Option.TheVariants.{Some, None}
use Rattle.attr_value.specs.Values.{Value}
use Rattle.constraint_solver.specs.Grown.{Extends}
use Rattle.dialect_defs.specs.declared.definition.OpDef.{OpDef}
use Rattle.dialect_defs.specs.Operations.{Operation}
use Rattle.dialect_registry.specs.Registered.{IsSound, place_of}
use Rattle.first_fault.specs.declared.fault.Fault.{Fault}
use Rattle.generic_syntax.specs.declared.cst.EntryCst.{EntryCst}
use Rattle.generic_syntax.specs.declared.module_cst.CustomCst.{CustomCst, out-CustomCst}
use Rattle.generic_syntax.specs.declared.module_cst.FormCst.{out-FormCst}
use Rattle.generic_syntax.specs.declared.module_cst.FormCst.TheOpen.{FormCst-F}
use Rattle.generic_syntax.specs.declared.module_cst.GenericCst.{GenericCst, out-GenericCst}
use Rattle.generic_syntax.specs.declared.module_cst.OpCst.{OpCst, out-OpCst}
use Rattle.generic_syntax.specs.declared.module_cst.ResultCst.{ResultCst}
use Rattle.ir_lexer.specs.Spelling.{Text}
use Rattle.module_faults.specs.declared.ids.OpIds.{OpIds}
use Rattle.module_faults.specs.declared.rule.OpRule.{OpRule}
use Rattle.module_faults.specs.declared.rule.OpRule.TheVariants.{Unknown, Arity, NotLast}
use Rattle.module_faults.specs.declared.rule.OpRule.TheVariants.{Unsatisfied}
use Rattle.module_faults.specs.OpFaults.{BreaksOp, unknown, arity, not_last, unsatisfied, IsKnown}
use Rattle.module_faults.specs.OpFaults.{IsKeyFault, IsValueFault, ListsDiffer, told_values}
use Rattle.module_faults.specs.Standings.{regions_in_form}
use Rattle.module_meaning.specs.Completes.{OpCompletes}
use Rattle.module_meaning.specs.Facts.{Fact, FormSeen, dict_in, dict_topic, facts_in, form_facts}
use Rattle.module_meaning.specs.Facts.{form_name, hides_in, name_in, no_forms, tells}
use Rattle.module_meaning.specs.Facts.{all_results, all_uses_are, number_is, types_are}
use Rattle.module_meaning.specs.WholeModules.{Loaded}
use Rattle.op_judgement.specs.declared.parts.Parts.{Parts}
use Rattle.op_judgement.specs.Arity.{GenericListsDiffer}
use Rattle.op_judgement.specs.Grounds.{Basis, loaded_by}
use Rattle.op_judgement.specs.Judged.{AreIdsOf, IsRightOp, IsWrongOp, operation_of}
use Rattle.op_judgement.specs.Parts.{ArePartsOf, IsShownBy}
use Rattle.op_judgement.specs.Rules.{BreaksForm, IsFoundAt, IsRightForm}
use Rattle.op_judgement.specs.Shown.{block_counts, block_trees, successors_in}
use Rattle.op_judgement.proofs.Completing.{completed, completing, each-good, each-spells}
use Rattle.op_judgement.proofs.Completing.{parts-known, value-generic}
use Rattle.op_judgement.proofs.GenericTold.{differ-shown, differ-told}
use Rattle.op_judgement.proofs.Known.{found-known, none-known, only-known}
use Rattle.op_verifier.specs.Seen.{values_at}
use Rattle.op_verifier.specs.Sound.{IsSoundOp}
use Rattle.op_verifier.specs.Views.{listed_regions}
use Rattle.op_verifier.proofs.Walks.{all-get}
use Rattle.value_meaning.specs.Meaning.{Aliases, value_of}
use Rattle.value_meaning.proofs.Among.{contains-nil}

-- what isn't declared a terminator, or is the last, stands where it may
pub may-stand : (t l : Bool) → ((t ≡ true) × (l ≡ false) → ⊥) → t ≡ true → l ≡ true
may-stand t true h e = refl
may-stand t false h e = absurd (h (e, refl))

module _ (b : Basis) {old : List Value} (sound : IsSound (length old) b.count b.registry)
    (al : Aliases) (c : OpCst) (name : Text) (named : form_name c ≡ name) where
  -- the definition that is found is that of the tree's name
  pub known-of : (place : ℕ) (d : OpDef) → place_of b.registry.ops name ≡ Some place
      → slice_get b.registry.ops place ≡ Some d → IsKnown (loaded_by b old) c d
  known-of place d is stands =
      let found = found-known b.registry.ops name place d is stands in
      record { known = found.0; named = named ∙ found.1 }

  -- where none is found, there is none
  pub unknown-of : place_of b.registry.ops name ≡ None → (d : OpDef)
      → IsKnown (loaded_by b old) c d → ⊥
  unknown-of none d x = none-known b.registry.ops name none d x.known (sym named ∙ x.named)

  -- and it is the only one
  pub same-known : (d e : OpDef) → IsKnown (loaded_by b old) c d → IsKnown (loaded_by b old) c e
      → d ≡ e
  same-known d e x y =
      only-known b.registry.ops sound.ops_apart d e x.known y.known (sym x.named ∙ y.named)

-- ---- custom forms

module _ (loaded : Loaded) (al : Aliases) (c : OpCst) (k : CustomCst)
    (form : out-FormCst (out-OpCst c).form ≡ FormCst-F.Custom k) where
  none-told : form_facts no_forms c ≡ []
  none-told = ap (facts_in no_forms) form

  no-cut : (before after : List EntryCst) (e : EntryCst) → [] ≡ before ++ e ∷ after → ⊥
  no-cut [] after e cut = absurd (cc)
  no-cut (x ∷ before) after e cut = absurd (cc)

  -- a custom form has no value at fault
  pub custom-right : (f : Fault) → IsValueFault loaded no_forms al c f → ⊥
  custom-right f (inl x) =
      contains-nil x.tree (subst (λ ts. Contains ts x.tree) (ap told_values none-told) x.told)
  custom-right f (inr (inl key)) =
      let x = subst
      (λ (s : FormSeen). IsKeyFault (hides_in no_forms s).keys (dict_in (facts_in no_forms s)) f)
      form key in
      no-cut x.before x.after x.entry x.cut
  custom-right f (inr (inr x)) =
      contains-nil (number_is x.key x.kind (Some x.item))
      (subst (λ facts. Contains facts (number_is x.key x.kind (Some x.item))) none-told x.told)

  -- no lists that differ
  pub custom-fits : (rs : List ResultCst) → ListsDiffer (form_facts no_forms c) rs → ⊥
  custom-fits rs (inl x) =
      contains-nil (all_uses_are x.uses)
      (subst (λ facts. Contains facts (all_uses_are x.uses)) none-told x.uses_told)
  custom-fits rs (inr x) =
      contains-nil (types_are all_results x.types)
      (subst (λ facts. Contains facts (types_are all_results x.types)) none-told x.told)

  -- and no operation completes it
  pub custom-unsatisfied : (o : Operation) → OpCompletes loaded no_forms al c o → ⊥
  custom-unsatisfied o x =
      let told : tells [] dict_topic ≡ true =
      subst (λ facts. tells facts dict_topic ≡ true) none-told x.shows.covers.dict in
      let no_way : false ≡ true = told in
      cc

-- ---- generic forms

module _ (b : Basis) {old now : List Value} (grown : Extends old now)
    (sound : IsSound (length old) b.count b.registry) (al : Aliases) (c : OpCst) (g : GenericCst)
    (form : out-FormCst (out-OpCst c).form ≡ FormCst-F.Generic g) (is_last : Bool) (ids : Parts)
    (are : ArePartsOf (loaded_by b old) al g now ids) where
  named-so : form_name c ≡ (out-GenericCst g).name
  named-so = ap name_in form

  found-is : (place : ℕ) (d : OpDef) → IsFoundAt b g place d → IsKnown (loaded_by b old) c d
  found-is place d x =
      known-of b sound al c (out-GenericCst g).name named-so place d x.found x.stands

  sound-at : (place : ℕ) (d : OpDef) → IsFoundAt b g place d → IsSoundOp (length old) b.count d
  sound-at place d x = all-get _ b.registry.ops place d sound.ops x.stands

  fits-told : (GenericListsDiffer g (out-OpCst c).results → ⊥)
      → ListsDiffer (form_facts no_forms c) (out-OpCst c).results → ⊥
  fits-told fit differ =
      fit (differ-shown g (out-OpCst c).results
      (subst (λ (s : FormSeen). ListsDiffer (facts_in no_forms s) (out-OpCst c).results) form
      differ))

  -- no value is at fault
  pub generic-right : (f : Fault) → IsValueFault (loaded_by b old) no_forms al c f → ⊥
  generic-right f fault = are.right f (value-generic (loaded_by b old) al c g form f fault)

  -- a rule that the form breaks is broken by the operation
  pub breaks-op : (rule : OpRule)
      → BreaksForm b now (out-OpCst c).results g is_last ids rule
      → BreaksOp (loaded_by b old) no_forms al c is_last rule
  breaks-op Unknown none =
      unknown (unknown-of b sound al c (out-GenericCst g).name named-so none)
  breaks-op Arity (place, d, at, differ) =
      arity d (found-is place d at)
      (subst (λ (s : FormSeen). ListsDiffer (facts_in no_forms s) (out-OpCst c).results) (sym form)
      (differ-told g (out-OpCst c).results differ))
  breaks-op NotLast (place, d, at, fit, terminator, behind) =
      not_last d (found-is place d at) (fits-told fit) terminator behind
  breaks-op Unsatisfied (place, d, at, fit, last, never) =
      unsatisfied d (found-is place d at) (fits-told fit) last
      (λ o x.
      let same : x.def ≡ d =
      same-known b sound al c (out-GenericCst g).name named-so x.def d
      (record { known = x.known; named = x.named }) (found-is place d at) in
      let both = completed b grown al c g form ids are d (sound-at place d at).body o x same in
      never o both.0 both.1)

  -- an operation that breaks none is right
  module _ (place : ℕ) (right : IsRightForm b now (out-OpCst c).results g is_last ids place) where
    abbrev made : OpIds
    made = record {
      def = place;
      operands = ids.operands;
      results = ids.results;
      keys = ids.keys;
      values = ids.values;
      args = ids.args;
    }

    is-shown : IsShownBy now g ids (operation_of now c made)
    is-shown = record {
      operands = refl;
      results = refl;
      successors = ap (λ s. length (successors_in s)) form;
      attrs = λ key. refl;
      regions = ap (λ s. listed_regions now (block_counts (regions_in_form s)) ids.args) form;
    }

    completes : OpCompletes (loaded_by b old) no_forms al c (operation_of now c made)
    completes =
        let known = found-is place right.def right.found in
        completing b grown al c g form ids are right.def (sound-at place right.def right.found).body
        (operation_of now c made) known.known (sym named-so ∙ known.named) right.fit is-shown
        (right.satisfied (operation_of now c made) is-shown)

    no-rule : (rule : OpRule) → BreaksOp (loaded_by b old) no_forms al c is_last rule → ⊥
    no-rule rule (unknown none) = none right.def (found-is place right.def right.found)
    no-rule rule (arity d known differ) =
        right.fit (differ-shown g (out-OpCst c).results
        (subst (λ (s : FormSeen). ListsDiffer (facts_in no_forms s) (out-OpCst c).results) form
        differ))
    no-rule rule (not_last d known fit terminator behind) =
        let same : d ≡ right.def =
        same-known b sound al c (out-GenericCst g).name named-so d right.def known
        (found-is place right.def right.found) in
        let last : is_last ≡ true =
        right.last (subst (λ (e : OpDef). e.terminator ≡ true) same terminator) in
        let no_way : true ≡ false = sym last ∙ behind in
        cc
    no-rule rule (unsatisfied d known fit last never) =
        never (operation_of now c made) completes

    pub right-op : IsRightOp (loaded_by b old) al c is_last now made
    right-op = record {
      values = generic-right;
      rules = no-rule;
      ids_of = record {
        def = right.def;
        stands = right.found.stands;
        named = (found-is place right.def right.found).named;
        completes = completes;
        known = record {
          operands = are.operands.known;
          results = are.results.known;
          values = are.attrs.known;
          args = (parts-known (loaded_by b old) al g now ids are).args;
        };
        ascend = are.attrs.ascend;
        counts = are.attrs.counts;
        good = are.attrs.good;
        args = ap (λ s. map (map (value_of al)) (block_trees (regions_in_form s))) form
            ∙ each-spells (loaded_by b old) al now (block_trees (out-GenericCst g).regions) ids.args
            are.args;
        good_args = each-good (loaded_by b old) al now (block_trees (out-GenericCst g).regions)
            ids.args are.args;
      };
    }
