-- The canonical text of a module that some bytes denote, whatever they are, denotes it, if the
-- module can be stored: what definition files define is sound, and has names that can be spelled.
use Rattle.std.proofs.Common.{List, length, refl}
use Rattle.derived_printer.specs.declared.form.Form.{Form}
use Rattle.dialect_registry.specs.ConstantFaults.{shapes_of}
use Rattle.dialect_registry.specs.Registered.{IsSound, Registered}
use Rattle.dialect_registry.proofs.SoundOps.{sound-registry}
use Rattle.ir_lexer.specs.Spelling.{Text}
use Rattle.module_meaning.specs.WholeModules.{Loaded, WholeModule}
use Rattle.module_text.specs.WellFormed.{IsStorable, NamesAreSpellable}
use Rattle.stored_module.proofs.Names.{names-spellable}
use Rattle.irdl_engine.specs.Judged.{Predicates}
use Rattle.irdl_engine.specs.Modules.{Denotes, IsLoadedFrom, canonical_text}
use Rattle.irdl_engine.proofs.Storing.{read-back}

module _ (natives : Predicates) (texts : List Text) (loaded : Loaded)
    (l : IsLoadedFrom natives texts loaded) where
  abbrev registered : Registered
  registered = record { ops = loaded.ops; types = loaded.types }

  -- what is loaded is sound
  sound : IsSound (length loaded.values) (length natives.names) registered
  sound = sound-registry l.defs natives.names l.are.have.rules natives.tests (shapes_of l.defs)
      loaded.values (length natives.names) refl registered l.are.have.types_are l.are.ops_are.own
      l.are.ops_are.first l.are.ops_are.each

  names-loaded : NamesAreSpellable loaded
  names-loaded = names-spellable (length loaded.values) (length natives.names) registered loaded
      sound refl refl

  -- the canonical text denotes the module that bytes denote
  pub denoted-again : (form : Form) (src : Text) (m : WholeModule) → Denotes loaded src m
      → IsStorable m → Denotes loaded (canonical_text form loaded.ops m) m
  denoted-again form src m d storable =
      (read-back loaded names-loaded d.tree m d.completes storable).each form
