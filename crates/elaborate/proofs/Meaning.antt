-- What names mean, from the marks of a tree's notes.
use Rattle.std.proofs.Common.{◌≡◌, List, [], map, sym, ◌∙◌, subst}
use Rattle.std.specs.declared.option.Option.TheVariants.{Some}
use Rattle.elaborate.specs.Names.{HasNoNamesFault, IsMeant}
use Rattle.first_fault.specs.declared.fault.Fault.{Fault}
use Rattle.first_fault.specs.Firsts.{IsFirst}
use Rattle.first_fault.proofs.Firsts.{first-same}
use Rattle.generic_syntax.specs.declared.module_cst.ModuleCst.{ModuleCst}
use Rattle.module_faults.specs.ModuleFaults.{IsNamesFault}
use Rattle.module_names.specs.ModuleNotes.{module_notes}
use Rattle.module_names.specs.Said.{Said}
use Rattle.symbol_scopes.proofs.RegionFaults.{faults-by-regions}
use Rattle.symbol_scopes.proofs.RegionMeanings.{blocks-by-regions, values-by-regions}
use Rattle.symbol_scopes.specs.Faults.{IsNameFault}
use Rattle.symbol_scopes.specs.Meanings.{block_meanings, value_meanings}
use Rattle.symbol_scopes.specs.ScopeMarks.{ScopeMark}
use Rattle.symbol_scopes.specs.Uses.{UseMeanings}

module _ (tree : ModuleCst) (ms : List ScopeMark) (said : Said [] ms (module_notes tree)) where
  -- the marks have no fault where the notes have none
  pub names-right : ((f : Fault) → IsNameFault ms f → ⊥) → HasNoNamesFault tree
  names-right none f wrong =
      none f (subst (λ l. IsNameFault l f) (sym said.is)
      ((faults-by-regions (module_notes tree) f).1 wrong))

  -- what marks mean the notes mean
  pub names-meant : (uses : UseMeanings) → map Some uses.values ≡ value_meanings ms
      → map Some uses.blocks ≡ block_meanings ms → IsMeant tree uses
  names-meant uses values blocks = record {
    values = sym (values ∙ (λ i. value_meanings (said.is i)) ∙ values-by-regions (module_notes tree));
    blocks = sym (blocks ∙ (λ i. block_meanings (said.is i)) ∙ blocks-by-regions (module_notes tree));
  }

  -- the first fault of the marks is that of the notes
  pub names-refused : (f : Fault) → IsFirst (IsNameFault ms) (Some f)
      → IsFirst (IsNamesFault tree) (Some f)
  names-refused f first =
      first-same (IsNameFault ms) (IsNamesFault tree) (Some f)
      (λ g h. (faults-by-regions (module_notes tree) g).0 (subst (λ l. IsNameFault l g) said.is h))
      (λ g w. subst (λ l. IsNameFault l g) (sym said.is)
      ((faults-by-regions (module_notes tree) g).1 w)) first
