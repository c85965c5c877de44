-- What calls inside say of the text of a module that isn't accepted, and of module files.
--
--   RefusesTokens src stop       the stop is the refusal of a token, or want of memory
--   RefusesText loaded src stop  it is the refusal of the text, or want of memory
--   IsTextStop loaded src stop   the same, with the line and the column of the refusal
--   DenotedBy natives files names name ops m
--                                files of these names are there and define these operations, and
--                                the module file of this name denotes this module, as its
--                                canonical text does
--   HasModule loaded name m files, HasFault loaded name r files
--                                a module file of this name is there, and its bytes denote the
--                                module, as its canonical text does, or are refused as the refusal
--                                says
--   IsFileStop files loaded name stop     the stop tells why there is no module in the file
--   MayStopModule natives files failed name names a
--                                a tells why a module isn't accepted, or a read fault
--
-- Inside: no public clause rests on this.
use Rattle.std.specs.Prelude.{◌≡◌, ◌⊎◌, ℕ, List, IfSome}
use Rattle.std.specs.declared.result.Result.TheVariants.{Err}
use Rattle.std.specs.declared.option.Option.{Option}
use Rattle.std.specs.declared.option.Option.TheVariants.{Some}
use Rattle.derived_printer.specs.declared.form.Form.{Form}
use Rattle.dialect_defs.specs.declared.definition.OpDef.{OpDef}
use Rattle.elaborate.specs.declared.stop.ModStop.{ModStop}
use Rattle.elaborate.specs.declared.stop.ModStop.TheVariants.{Refused, OutOfMemory}
use Rattle.ir_lexer.specs.Spelling.{Text}
use Rattle.irdl_bytes.specs.Outside.{FileMap}
use Rattle.module_meaning.specs.WholeModules.{Loaded, WholeModule}
use Rattle.irdl_engine.specs.declared.stop.ModuleRefusal.{ModuleRefusal}
use Rattle.irdl_engine.specs.declared.stop.ModuleStop.{ModuleStop}
use Rattle.irdl_engine.specs.declared.stop.ModuleStop.TheVariants.{Definitions, Module}
use Rattle.irdl_engine.specs.declared.stop.ModuleStop.TheVariants as stopped
use Rattle.irdl_engine.specs.declared.stop.Stop.TheVariants as stops
use Rattle.irdl_engine.specs.Answer.{Answer, IsLoadedOf, MayAnswer, module_command, place_at}
use Rattle.irdl_engine.specs.Judged.{Predicates}
use Rattle.irdl_engine.specs.Modules.{Denotes, IsModuleFault, IsReadBack, IsTokenFault}
use Rattle.irdl_engine.specs.Obeyed.{FilesSeen}
use Rattle.irdl_engine.specs.Reading.{IsTextOf}
use Rattle.irdl_engine.specs.Said.{ReadsText}

-- the refusal of a token, or want of memory
abbrev pub RefusesTokens : Text → ModStop → Type 0
RefusesTokens src (Refused fault) = IsTokenFault src fault
RefusesTokens src OutOfMemory = Unit {0}

-- the refusal of the text, or want of memory
abbrev pub RefusesText : Loaded → Text → ModStop → Type 0
RefusesText loaded src (Refused fault) = IsModuleFault loaded src fault
RefusesText loaded src OutOfMemory = Unit {0}

-- the line and the column of a fault
pub record IsFaultAt (loaded : Loaded) (src : Text) (r : ModuleRefusal) : Type 0 where
  pub at : ℕ
  pub refused : IsModuleFault loaded src (record { place = at; code = r.code })
  pub place : r.place ≡ place_at src at

-- the refusal of the text, as it is told, or want of memory
abbrev pub IsTextStop : Loaded → Text → ModuleStop → Type 0
IsTextStop loaded src (Definitions stop) = ⊥
IsTextStop loaded src (Module stop) = stop ≡ stops.OutOfMemory
IsTextStop loaded src (stopped.Fault r) = IsFaultAt loaded src r

-- Definition files of these names are there and define these operations, and a module file of this
-- name is there, whose bytes denote the module. Its canonical text denotes it too.
pub record DenotedBy (natives : Predicates) (files : FileMap) (names : List Text) (name : Text)
    (ops : List OpDef) (m : WholeModule) : Type 0 where
  pub loaded : Loaded
  pub defines : loaded.ops ≡ ops
  pub defined : IsLoadedOf natives files names loaded
  pub text : Text
  pub has : IsTextOf files name text
  pub denotes : Denotes loaded text m
  pub read_back : IsReadBack loaded m

-- a module file of this name is there, whose bytes denote the module, as its canonical text does
pub record HasModule (loaded : Loaded) (name : Text) (m : WholeModule) (files : FileMap)
    : Type 0 where
  pub text : Text
  pub has : IsTextOf files name text
  pub denotes : Denotes loaded text m
  pub read_back : IsReadBack loaded m

-- a module file of this name is there, whose text is refused as the refusal says
pub record HasFault (loaded : Loaded) (name : Text) (r : ModuleRefusal) (files : FileMap)
    : Type 0 where
  pub text : Text
  pub has : IsTextOf files name text
  pub fault : IsFaultAt loaded text r

-- Why there is no module in a module file: it isn't read, or is refused, or memory ran out.
abbrev pub IsFileStop : FilesSeen → Loaded → Text → ModuleStop → Type 0
IsFileStop files loaded name (Definitions stop) = ⊥
IsFileStop files loaded name (Module stop) =
    (stop ≡ stops.OutOfMemory) ⊎ ReadsText files name 0 (Err stop)
IsFileStop files loaded name (stopped.Fault r) = IfSome files.told (HasFault loaded name r)

-- what is to be answered for the module, whether it is only judged or printed in some form
abbrev pub MayStopModule : Predicates → FileMap → Type 0 → Text → List Text → Answer → Type 0
MayStopModule natives files failed name names a = (form : Option Form)
    → MayAnswer natives files failed (Some (module_command form name names)) a
