-- What an operation that completes its tree has no fault in: its lists are as long as they should
-- be. So one that is the last where it should be breaks no rule.
use Rattle.std.proofs.Common.{◌≡◌, Bool, true, false, List, length, refl, sym, ◌∙◌, ap}
use Rattle.std.proofs.Common.{Some, inl, inr, Contains}
use Rattle.std.proofs.lemmas.List.{length-map}
use Rattle.dialect_defs.specs.declared.definition.OpDef.{OpDef}
use Rattle.dialect_defs.specs.Operations.{Operation}
use Rattle.first_fault.specs.declared.fault.Fault.{Fault}
use Rattle.generic_syntax.specs.declared.cst.ValueCst.{ValueCst}
use Rattle.generic_syntax.specs.declared.module_cst.OpCst.{OpCst, out-OpCst}
use Rattle.completion_laws.proofs.Lists.{one-of}
use Rattle.module_faults.specs.declared.rule.OpRule.TheVariants.{NotLast}
use Rattle.module_faults.specs.OpFaults.{ListsDiffer, IsKnown, BreaksOp, unknown, arity, not_last}
use Rattle.module_faults.specs.OpFaults.{unsatisfied, IsOpFault, rank}
use Rattle.module_meaning.specs.Completes.{OpCompletes}
use Rattle.module_meaning.specs.Facts.{CustomForms, Fact, form_facts, all_uses_are}
use Rattle.module_meaning.specs.Facts.{types_are, all_operands, all_results}
use Rattle.module_meaning.specs.Says.{Says, SpellTypes}
use Rattle.module_meaning.specs.WholeModules.{Loaded}
use Rattle.value_meaning.specs.Meaning.{Aliases, value_of}

module _ (loaded : Loaded) (forms : CustomForms) (aliases : Aliases) (c : OpCst) (o : Operation)
    (p : OpCompletes loaded forms aliases c o) where
  abbrev Said : Fact → Type 0
  Said fact = Says aliases p.operand_sizes p.result_sizes o fact

  said-of : (fact : Fact) → Contains (form_facts forms c) fact → Said fact
  said-of fact told = one-of Said (form_facts forms c) fact p.shows.said told

  -- trees that spell types are as many
  spell-many : (trees : List ValueCst) (types : List _) → SpellTypes aliases trees types
      → length trees ≡ length types
  spell-many trees types e =
      sym (length-map trees (value_of aliases)) ∙ (ap length e ∙ length-map types Some)

  -- no list has another length than it should
  pub lists-same : ListsDiffer (form_facts forms c) (out-OpCst c).results → ⊥
  lists-same (inl x) =
      let uses : length x.uses ≡ length o.operands =
      said-of (all_uses_are x.uses) x.uses_told in
      let types : length x.types ≡ length o.operands =
      spell-many x.types o.operands (said-of (types_are all_operands x.types) x.types_told) in
      x.differ (uses ∙ sym types)
  lists-same (inr x) =
      let types : length x.types ≡ length o.results =
      spell-many x.types o.results (said-of (types_are all_results x.types) x.told) in
      x.differ (p.results x.named ∙ sym types)

  -- its definition has the name in its tree
  pub known-as : IsKnown loaded c p.def
  known-as = record { known = p.known; named = p.named }

  -- it breaks no rule where it is the last if it is a terminator
  pub breaks-none : (last : Bool)
      → ((d : OpDef) → IsKnown loaded c d → d.terminator ≡ true → last ≡ true)
      → (f : Fault) → IsOpFault loaded forms aliases c last f → ⊥
  breaks-none last ends f x = by x.breaks
    where
      by : {rule : _} → BreaksOp loaded forms aliases c last rule → ⊥
      by (unknown none) = none p.def known-as
      by (arity d known differ) = lists-same differ
      by (not_last d known same terminator is) =
          let yes : last ≡ true = ends d known terminator in absurd (cc)
      by (unsatisfied d known same right none) = none o p

  -- and where it breaks no rule it is the last if it is a terminator
  pub none-ends : (last : Bool) → ((f : Fault) → IsOpFault loaded forms aliases c last f → ⊥)
      → (d : OpDef) → IsKnown loaded c d → d.terminator ≡ true → last ≡ true
  none-ends true none d known terminator = refl
  none-ends false none d known terminator =
      absurd (none (record { place = (out-OpCst c).place; code = rank NotLast }) (record {
        rule = NotLast;
        breaks = not_last d known lists-same terminator refl;
        place = refl;
        code = refl;
      }))
