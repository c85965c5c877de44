-- The store that is built of a right tree, as whole values and names show it, completes the tree.
--
--   judged-fit, judged-uses-fit     the ids and what names mean fit the tree, so that its module
--                            can be built
--   stored-uses              there is an operand for each use
--   stored-built             what is known of the module that is seen
--   stored-nearly, stored-completes     it completes the tree, where uses have their types
--   stored-named             each operation has the place of its tree, and a definition with its
--                            name
--   stored-known             types and attributes are values of the table
use Rattle.std.proofs.Common.{◌≡◌, List, length, map, sym, ◌∙◌, ap, subst}
use Rattle.std.specs.List.{AllZip}
use Rattle.attr_value.specs.declared.head.ValueId.{ValueId}
use Rattle.attr_value.specs.Ids.{at}
use Rattle.attr_value.specs.Values.{Value}
use Rattle.completion_laws.proofs.Building.{built-completes, built-nearly}
use Rattle.completion_laws.proofs.Flat.{At}
use Rattle.completion_laws.specs.Beside.{IsRightSite}
use Rattle.completion_laws.specs.Built.{IsBuilt}
use Rattle.elaborate.proofs.ComposingFaults.{no-operations-fault, no-values-fault}
use Rattle.elaborate.proofs.Seen.{definitions-mapped, operands-mapped, shape-mapped}
use Rattle.elaborate.proofs.Seen.{successors-mapped}
use Rattle.elaborate.proofs.SeenSites.{Shaped, all-known, ids-fit, ids-known, shaped-sites}
use Rattle.elaborate.proofs.SeenSites.{sites-named, sites-right, whole_site}
use Rattle.elaborate.proofs.UseTypes.{uses-beside}
use Rattle.elaborate.specs.Composed.{IsStored}
use Rattle.elaborate.specs.Elaborated.{AreNamed}
use Rattle.elaborate.specs.Judged.{AreJudged}
use Rattle.elaborate.specs.Names.{HasNoNamesFault, IsMeant}
use Rattle.elaborate.specs.Uses.{HasItsUses}
use Rattle.first_fault.specs.declared.fault.Fault.{Fault}
use Rattle.generic_syntax.specs.declared.module_cst.ModuleCst.{ModuleCst}
use Rattle.ir_store.proofs.Sites.{sites-mapped}
use Rattle.ir_store.specs.Modules.{types_in}
use Rattle.ir_store.specs.Numbering.{ops_in}
use Rattle.ir_store.specs.Store.{Module}
use Rattle.module_builder.specs.Built.{successors_at, value_number}
use Rattle.module_builder.specs.Fit.{IdsFit, UsesFit}
use Rattle.module_faults.specs.declared.ids.OpIds.{OpIds}
use Rattle.module_faults.specs.ModuleFaults.{IsUseFault, operands_in}
use Rattle.module_faults.specs.Shape.{HasShape, definitions_in}
use Rattle.module_faults.specs.Standings.{Standing, ops_of, standings}
use Rattle.module_meaning.specs.AliasValues.{no_aliases}
use Rattle.module_meaning.specs.Completes.{Completes, NearlyCompletes, aliases_of}
use Rattle.module_meaning.specs.Facts.{no_forms}
use Rattle.module_meaning.specs.SeenModules.{name_in, seen_module}
use Rattle.module_meaning.specs.WholeModules.{Loaded, WholeModule}
use Rattle.name_laws.proofs.Fitting.{ids-generic, notes-fit}
use Rattle.name_laws.proofs.NewAliases.{new-aliases, right-aliases}
use Rattle.name_laws.proofs.WholeModule.{names-right}
use Rattle.op_verifier.specs.Seen.{HasIds}
use Rattle.symbol_scopes.specs.Uses.{UseMeanings}

module _ (loaded : Loaded) (tree : ModuleCst) (now : List Value) (ids : List OpIds)
    (judged : AreJudged loaded tree now ids) where
  -- the ids fit the tree
  pub judged-fit : AllZip IdsFit (ops_of (standings tree)) ids
  judged-fit = ids-fit loaded (aliases_of tree) now (ops_of (standings tree)) ids judged.each

  -- and so does what names mean
  pub judged-uses-fit : (uses : UseMeanings) → IsMeant tree uses → UsesFit (standings tree) uses
  judged-uses-fit uses meant =
      notes-fit tree (ids-generic (ops_of (standings tree)) ids judged-fit) uses meant.values
      meant.blocks

  module _ (uses : UseMeanings) (store : Module) (stored : IsStored tree ids uses store) where
    abbrev m : WholeModule
    m = seen_module loaded.ops now store

    -- each operation has the place of its tree, and names a definition with its name
    pub stored-named : AreNamed loaded.ops tree store
    stored-named = sites-named loaded (aliases_of tree) now (ops_of (standings tree)) ids
        (ops_in store) judged.each stored.parts stored.places

    -- types and attributes are values of the table
    pub stored-known : HasIds (length now) store
    stored-known = ids-known (length now) ids store
        (all-known loaded (aliases_of tree) now (ops_of (standings tree)) ids judged.each)
        stored.parts

    shape : HasShape tree.ops m
    shape = shape-mapped (name_in loaded.ops) (λ (id : ValueId). at now id.0) tree.ops store
        stored.shape

    operands : operands_in m ≡ map (value_number (definitions_in 0 tree.ops m)) uses.values
    operands =
        operands-mapped (name_in loaded.ops) (λ (id : ValueId). at now id.0) store
        ∙ (stored.operands
        ∙ ap (λ l. map (value_number l) uses.values)
        (sym (definitions-mapped (name_in loaded.ops) (λ (id : ValueId). at now id.0) 0 tree.ops
        store)))

    successors : successors_at (ops_in m) ≡ uses.blocks
    successors =
        successors-mapped (name_in loaded.ops) (λ (id : ValueId). at now id.0) store
        ∙ stored.successors

    sites : ops_in m ≡ map (whole_site loaded (aliases_of tree) now) (ops_in store)
    sites = sites-mapped (name_in loaded.ops) (λ (id : ValueId). at now id.0) store

    -- each operation is right beside its tree
    each : AllZip (IsRightSite loaded (aliases_of tree)) (ops_of (standings tree)) (ops_in m)
    each =
        subst (AllZip (IsRightSite loaded (aliases_of tree)) (ops_of (standings tree))) (sym sites)
        (sites-right loaded (aliases_of tree) now (ops_of (standings tree)) ids (ops_in store)
        judged.each stored.parts
        (subst (AllZip (At Shaped) (ops_of (standings tree))) sites (shaped-sites tree m shape)))

    -- there is an operand for each use that is shown
    pub stored-uses : (ss : List Standing) → ss ≡ standings tree
        → AllZip HasItsUses (ops_of ss) (ops_in store)
    stored-uses ss stands =
        subst (λ l. AllZip HasItsUses (ops_of l) (ops_in store)) (sym stands)
        (uses-beside tree loaded.ops now store shape)

    module _ (none : HasNoNamesFault tree) (meant : IsMeant tree uses) where
      -- what is known of the module
      pub stored-built : IsBuilt loaded tree m
      stored-built = record {
        aliases = right-aliases loaded.values loaded.tests loaded.types no_aliases tree.aliases
            (new-aliases tree none) judged.valued;
        shape = shape;
        named = names-right tree m shape none uses.values uses.blocks meant.values meant.blocks
            operands successors;
        each = each;
        values = no-values-fault loaded tree now ids judged;
        operations = no-operations-fault loaded tree now ids judged;
      }

      -- it completes the tree, but for the types of uses
      pub stored-nearly : NearlyCompletes loaded no_forms tree m
      stored-nearly = built-nearly loaded tree m stored-built

      -- and where no use has another type than its value
      pub stored-completes : ((f : Fault) → IsUseFault tree (types_in m) m f → ⊥)
          → Completes loaded no_forms tree m
      stored-completes typed = built-completes loaded tree m stored-built typed
