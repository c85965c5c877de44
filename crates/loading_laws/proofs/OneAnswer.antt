-- Files leave no choice of what is said of a module: over whatever tables they are loaded, it is
-- refused for the same fault, and means the same.
use Rattle.std.proofs.Common.{◌≡◌, List}
use Rattle.dialect_defs.specs.Assignments.{Tests}
use Rattle.first_fault.specs.declared.fault.Fault.{Fault}
use Rattle.generic_syntax.specs.declared.module_cst.ModuleCst.{ModuleCst}
use Rattle.ir_lexer.specs.Spelling.{Text}
use Rattle.irdl_ops.specs.declared.raw.RawDefs.{RawDefs}
use Rattle.loading_laws.specs.Alike.{IsLoaded}
use Rattle.loading_laws.proofs.LoadedTwice.{loaded-alike, loaded-distinct}
use Rattle.loading_laws.proofs.OneRefusal.{refusal-once}
use Rattle.loading_laws.proofs.SameFaults.{refusal-alike}
use Rattle.loading_laws.proofs.SameModules.{module-alike}
use Rattle.module_faults.specs.ModuleFaults.{IsRefusal}
use Rattle.module_meaning.proofs.OneCompletes.{generic-typing}
use Rattle.module_meaning.proofs.OneModule.{one-completed}
use Rattle.module_meaning.specs.Completes.{Completes, HaveOneTyping}
use Rattle.module_meaning.specs.Facts.{CustomForms, no_forms}
use Rattle.module_meaning.specs.WholeModules.{Loaded, WholeModule}

module _ (files : List RawDefs) (natives : List Text) (tests : Tests) (one two : Loaded)
    (first : IsLoaded files natives tests one) (then : IsLoaded files natives tests two) where
  -- a module is refused for the same fault
  pub refused-once : (forms : CustomForms) (tree : ModuleCst) (f g : Fault)
      → IsRefusal one forms tree f → IsRefusal two forms tree g → f ≡ g
  refused-once forms tree f g refused again =
      let alike = loaded-alike files natives tests one two first then in
      refusal-once two forms tree f g (refusal-alike one two alike forms tree f refused) again

  -- a tree means the same module, where custom forms determine types
  pub meant-once : (forms : CustomForms) → HaveOneTyping two forms → (tree : ModuleCst)
      (m n : WholeModule) → Completes one forms tree m → Completes two forms tree n → m ≡ n
  meant-once forms typing tree m n completes again =
      let alike = loaded-alike files natives tests one two first then in
      one-completed two forms (loaded-distinct files natives tests two then) typing tree m n
      (module-alike one two alike forms tree m completes) again

  -- and where there are none
  pub meant-once-generic : (tree : ModuleCst) (m n : WholeModule) → Completes one no_forms tree m
      → Completes two no_forms tree n → m ≡ n
  meant-once-generic = meant-once no_forms (generic-typing two)
