-- What is known of the stored module of an accepted tree: it can be printed, and its canonical text
-- is read as it.
use Rattle.std.proofs.Common.{◌<◌, ℕ, List, [], ◌∷◌, length, refl}
use Rattle.std.proofs.lemmas.Option.{slice_get_within}
use Rattle.std.specs.List.{AllByRecursion, AllZip}
use Rattle.attr_value.specs.declared.head.ValueId.{ValueId}
use Rattle.attr_value.specs.Values.{Value}
use Rattle.derived_printer.specs.declared.form.Form.{Form}
use Rattle.derived_printer.specs.declared.form.Form.TheVariants.{Generic}
use Rattle.derived_printer.specs.Printable.{IsPrintable}
use Rattle.dialect_defs.specs.declared.definition.OpDef.{OpDef}
use Rattle.dialect_defs.specs.Assignments.{Tests}
use Rattle.dialect_registry.specs.Registered.{IsSound, Registered}
use Rattle.elaborate.specs.Elaborated.{AreNamed, IsNamedAs, loaded_of}
use Rattle.generic_syntax.specs.declared.module_cst.ModuleCst.{ModuleCst}
use Rattle.generic_syntax.specs.declared.module_cst.OpCst.{OpCst}
use Rattle.ir_store.specs.Numbering.{OpSite, ops_in}
use Rattle.ir_store.specs.Store.{Module, OpName}
use Rattle.module_faults.specs.Standings.{ops_of, standings}
use Rattle.module_meaning.specs.Completes.{Completes}
use Rattle.module_meaning.specs.Facts.{no_forms}
use Rattle.module_meaning.specs.SeenModules.{seen_module}
use Rattle.module_meaning.specs.WholeModules.{Loaded, WholeModule}
use Rattle.module_text.proofs.Completed.{completed-formed}
use Rattle.module_text.proofs.RoundTrip.{text-back}
use Rattle.module_text.specs.WellFormed.{IsStorable, NamesAreSpellable}
use Rattle.op_verifier.specs.Seen.{HasIds}
use Rattle.stored_module.proofs.Names.{names-spellable}
use Rattle.stored_module.proofs.Printable.{proper-printable}
use Rattle.stored_module.specs.Held.{NameDefinitions}
use Rattle.irdl_engine.specs.Modules.{Denotes, IsReadBack, canonical_text}

-- operations that have the names of definitions name definitions
all-defined : (ops : List OpDef) (cs : List OpCst) (sites : List (OpSite OpName ValueId))
    → AllZip (IsNamedAs ops) cs sites
    → AllByRecursion (λ (site : OpSite OpName ValueId). site.head.name.def < length ops) sites
all-defined ops [] [] h = tt
all-defined ops (c ∷ cs) (site ∷ sites) (named, h) = (
  slice_get_within ops site.head.name.def named.definition named.defined,
  all-defined ops cs sites h,
)
all-defined ops [] (site ∷ sites) h = absurd h
all-defined ops (c ∷ cs) [] h = absurd h

-- a module that completes a tree has a canonical text that is read as it, if it can be stored
pub read-back : (loaded : Loaded) → NamesAreSpellable loaded → (tree : ModuleCst) (w : WholeModule)
    → Completes loaded no_forms tree w → IsStorable w → IsReadBack loaded w
read-back loaded names tree w completes storable = record { each = in-form }
  where
    in-form : (form : Form) → Denotes loaded (canonical_text form loaded.ops w) w
    in-form Generic =
        let formed = completed-formed loaded no_forms tree w completes storable in
        let back = text-back loaded w names formed in
        record {
          tree = back.read.tree;
          spelled = record {
            tokens = back.tokens;
            are_tokens = back.are;
            is_module = back.read.read;
          };
          completes = back.read.completes no_forms;
        }

module _ (len count : ℕ) (r : Registered) (sound : IsSound len count r) (values : List Value)
    (tests : Tests) (tree : ModuleCst) where
  -- what is loaded has names that can be spelled
  names-loaded : NamesAreSpellable (loaded_of values tests r)
  names-loaded = names-spellable len count r (loaded_of values tests r) sound refl refl

  -- the module of an accepted tree can be printed
  pub stored-printable : (now : List Value) (m : Module)
      → Completes (loaded_of values tests r) no_forms tree (seen_module r.ops now m)
      → AreNamed r.ops tree m → HasIds (length now) m → IsPrintable r.ops now m
  stored-printable now m completes named ids =
      let defined : NameDefinitions (length r.ops) m =
      record { each = all-defined r.ops (ops_of (standings tree)) (ops_in m) named } in
      proper-printable (loaded_of values tests r) now m names-loaded.types ids defined
      completes.proper

  -- its canonical text is read as it
  pub stored-back : (w : WholeModule) → Completes (loaded_of values tests r) no_forms tree w
      → IsStorable w → IsReadBack (loaded_of values tests r) w
  stored-back w completes storable =
      read-back (loaded_of values tests r) names-loaded tree w completes storable
