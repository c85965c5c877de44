-- What is to be answered: the status, and what each stream gets.
--
-- The rules are read in the order in which they are written: words that fit no form get the usage
-- line; then all files are read, in the order of the words, and the first that is missing or too
-- long is told; then the texts are judged together.
--
--   Answer                   a status, with what standard output and standard error get
--   done                     the answer that all is well, with nothing to write
--   usage, usage_line        the answer with the usage line, and that line
--   read_fault name          the answer for a file that isn't there or can't be read
--   input_limit name         the answer for a file that is too long
--   name_line title name     the line of these two: a title and a name
--   refused name place code told
--                            the answer for a refused file
--   place_at src place       the line and the column of a place of a text
--   refused_in names texts file place code told
--                            the answer for a refusal in the file with this number
--   TellsUnread name found a a is the answer for a file that isn't there or is too long
--   TellsFirstUnread files names a
--                            the same of the first such file of these names
--   TellsRefusal natives names texts a
--                            the texts of files of these names are refused, and a is that answer
--   Judged natives names texts a
--                            the texts of files of these names are to be answered by a
--   Checked natives files names a
--                            the files of these names are to be answered by a
--   module_refused name place code
--                            the answer for a refused module
--   printed text             the answer with a text on standard output, up to the limit
--   answered form ops m      the answer where all is well with a module: nothing, or its text
--   Stopped natives files names a
--                            the definition files of these names are answered by a, and no module
--                            is read
--   IsLoadedOf natives files names loaded
--                            the files of these names are there, and define this
--   TellsModuleFault loaded name text a
--                            the text of a module is refused, and a is that answer
--   TellsModule loaded form text a
--                            it denotes a module, and a is the answer for it
--   ReadsModule loaded files name form a
--                            the module file of this name is read and to be answered by a
--   ModuleChecked natives files names name form a
--                            definition files and a module file are to be answered by a
--   module_command form name defs
--                            the command that asks for this
--   Obeys natives files command a
--                            the command over these files is to be answered by a
--   NamedBy command name     the command names this file
--   FaultsAt command a       a is a read fault of a file that the command names
--   MayAnswer natives files failed command a
--                            what is to be answered, or, where reading failed by itself, a read
--                            fault of a file that the command names
--   module_of command        the name of the module file that the command judges, if it does
--   IsDenoted natives files command
--                            the command names definition files and a module file that are there,
--                            within the limit, and what the module file denotes by the others
--   Accepted natives files command
--                            the command names files that are there, within the limit, and
--                            accepted: definition files, or these and a module
use Rattle.std.specs.Prelude.{ℕ, ◌<◌, ◌≡◌, ◌⊎◌, List, [], ◌∷◌, ◌++◌, length, take}
use Rattle.std.specs.Prelude.{codes, decimal, Contains, if◌then◌else◌, nat_le}
use Rattle.std.specs.List.{concat}
use Rattle.std.specs.declared.option.Option.{Option}
use Rattle.std.specs.declared.option.Option.TheVariants.{Some, None}
use Rattle.derived_printer.specs.declared.form.Form.{Form}
use Rattle.dialect_defs.specs.declared.definition.OpDef.{OpDef}
use Rattle.first_fault.specs.declared.fault.Fault.{Fault}
use Rattle.irdl_bytes.specs.Outside.{FileMap}
use Rattle.ir_lexer.specs.declared.lexer.TheConstants.{TEXT_LIMIT}
use Rattle.module_meaning.specs.WholeModules.{Loaded, WholeModule}
use Rattle.irdl_bytes.specs.declared.whole.TheConstants.{FILE_LIMIT}
use Rattle.ir_lexer.specs.Place.{line_at, column_at}
use Rattle.ir_lexer.specs.declared.place.LineCol.{LineCol}
use Rattle.ir_lexer.specs.Spelling.{Text}
use Rattle.text_layout.specs.Refusal.{refusal_line}
use Rattle.dialect_registry.specs.declared.code.DefCode.{DefCode}
use Rattle.irdl_engine.specs.declared.status.Status.{Status}
use Rattle.irdl_engine.specs.declared.status.Status.TheVariants.{Done, DefinitionRefused, Usage}
use Rattle.irdl_engine.specs.declared.status.Status.TheVariants.{ReadFault, InputLimit}
use Rattle.irdl_engine.specs.declared.status.Status.TheVariants.{ModuleRefused, OutputLimit}
use Rattle.dialect_registry.specs.Codes.{code_number, code_name}
use Rattle.irdl_engine.specs.Command.{Command, Check, Verify, Print, files_of}
use Rattle.irdl_engine.specs.InOrder.{IsReached, text_at}
use Rattle.irdl_engine.specs.Judged.{Predicates, AreDefinitions, AreRefusedAt}
use Rattle.irdl_engine.specs.Modules.{IsLoadedFrom, IsModuleFault, Denotes, canonical_text}
use Rattle.irdl_engine.specs.Modules.{module_code_name, module_code_text}
use Rattle.irdl_engine.specs.Reading.{AreTextsOf, IsRead, IsTextOf}

-- a status, with what standard output and standard error get
pub record Answer : Type 0 where
  pub status : Status
  pub out : Text
  pub err : Text

-- all is well
abbrev pub done : Answer
done = record { status = Done; out = []; err = [] }

-- the forms of words, as the usage line has them
abbrev pub usage_line : Text
usage_line = codes "usage: irdl_opt check DEF.. | verify MODULE DEF.. "
    ++ codes "| print generic MODULE DEF.. | print custom MODULE DEF.. | soak N\n"

-- the usage line
abbrev pub usage : Answer
usage = record { status = Usage; out = []; err = concat (usage_line ∷ []) }

-- a title, a name, and the end of the line
abbrev pub name_line : Text → Text → Text
name_line title name = concat (title ∷ name ∷ codes "\n" ∷ [])

-- `read fault: FILE`
abbrev pub read_fault : Text → Answer
read_fault name =
    record { status = ReadFault; out = []; err = name_line (codes "read fault: ") name }

-- `input limit: FILE`
abbrev pub input_limit : Text → Answer
input_limit name =
    record { status = InputLimit; out = []; err = name_line (codes "input limit: ") name }

-- a file of this name is refused at this place, by this rule: `FILE:LINE:COLUMN: error CODE NAME`,
-- and what else is told
abbrev pub refused : Text → LineCol → DefCode → Text → Answer
refused name place code told = record {
  status = DefinitionRefused;
  out = [];
  err = refusal_line name place (decimal (code_number code)) (code_name code) told;
}

-- the line and the column of a place of a text
abbrev pub place_at : Text → ℕ → LineCol
place_at src place = record { line = line_at src place; column = column_at src place }

-- a refusal in the file with this number, which is told by its name
abbrev pub refused_in : List Text → List Text → ℕ → ℕ → DefCode → Text → Answer
refused_in names texts file place code told =
    refused (text_at names file) (place_at (text_at texts file) place) code told

-- a file that isn't there is a read fault, and one that is too long isn't judged
abbrev pub TellsUnread : Text → Option Text → Answer → Type 0
TellsUnread name None a = a ≡ read_fault name
TellsUnread name (Some text) a = (FILE_LIMIT < length text) × (a ≡ input_limit name)

-- The first of these names whose file isn't there or is too long, and the answer for it.
pub record TellsFirstUnread (files : FileMap) (names : List Text) (a : Answer) : Type 0 where
  pub number : ℕ
  pub name : Text
  pub reached : IsReached (IsRead files) names number name
  pub unread : TellsUnread name (files name) a

-- Texts that are refused, and the answer for the refusal.
pub record TellsRefusal (natives : Predicates) (names texts : List Text) (a : Answer) : Type 0 where
  pub file : ℕ
  pub place : ℕ
  pub code : DefCode
  pub told : Text
  pub refused : AreRefusedAt natives texts file place code told
  pub is : a ≡ refused_in names texts file place code told

-- texts are accepted, or refused
abbrev pub Judged : Predicates → List Text → List Text → Answer → Type 0
Judged natives names texts a =
    (AreDefinitions natives texts × (a ≡ done)) ⊎ TellsRefusal natives names texts a

-- a file can't be read, or all are read, and their texts judged
abbrev pub Checked : Predicates → FileMap → List Text → Answer → Type 0
Checked natives files names a = TellsFirstUnread files names a
    ⊎ ((texts : List Text) × AreTextsOf files names texts × Judged natives names texts a)

-- ---- modules

-- a module of this name is refused at this place, by this rule
abbrev pub module_refused : Text → LineCol → ℕ → Answer
module_refused name place code = record {
  status = ModuleRefused;
  out = [];
  err = refusal_line name place (module_code_text code) (module_code_name code) [];
}

-- the line for a text that is too long
abbrev pub output_limit_line : Text
output_limit_line = concat (codes "output limit\n" ∷ [])

-- the text is written; of one that is too long the bytes up to the limit, and a line that says so
abbrev pub printed : Text → Answer
printed text =
    if nat_le (length text) TEXT_LIMIT
    then record { status = Done; out = text; err = [] }
    else record {
      status = OutputLimit;
      out = take TEXT_LIMIT text;
      err = output_limit_line;
    }

-- nothing is written of a module, or its canonical text in a form
abbrev pub answered : Option Form → List OpDef → WholeModule → Answer
answered None ops m = done
answered (Some form) ops m = printed (canonical_text form ops m)

-- definition files that can't be read, or are refused
abbrev pub Stopped : Predicates → FileMap → List Text → Answer → Type 0
Stopped natives files names a = TellsFirstUnread files names a
    ⊎ ((texts : List Text) × AreTextsOf files names texts × TellsRefusal natives names texts a)

-- The definition files of these names are there, and define this.
pub record IsLoadedOf (natives : Predicates) (files : FileMap) (names : List Text)
    (loaded : Loaded) : Type 0 where
  pub texts : List Text
  pub has : AreTextsOf files names texts
  pub loaded_from : IsLoadedFrom natives texts loaded

-- The text of a module is refused, and the answer for the refusal.
pub record TellsModuleFault (loaded : Loaded) (name text : Text) (a : Answer) : Type 0 where
  pub fault : Fault
  pub refused : IsModuleFault loaded text fault
  pub is : a ≡ module_refused name (place_at text fault.place) fault.code

-- The text denotes a module, and the answer for it.
pub record TellsModule (loaded : Loaded) (form : Option Form) (text : Text) (a : Answer)
    : Type 0 where
  pub denoted : WholeModule
  pub denotes : Denotes loaded text denoted
  pub is : a ≡ answered form loaded.ops denoted

-- The module file of this name is there, and its text is answered.
pub record ReadsModule (loaded : Loaded) (files : FileMap) (name : Text) (form : Option Form)
    (a : Answer) : Type 0 where
  pub text : Text
  pub has : IsTextOf files name text
  pub told : TellsModuleFault loaded name text a ⊎ TellsModule loaded form text a

-- first the definition files, and where these are accepted the module file
abbrev pub ModuleChecked : Predicates → FileMap → List Text → Text → Option Form → Answer → Type 0
ModuleChecked natives files names name form a = Stopped natives files names a
    ⊎ ((loaded : Loaded) × IsLoadedOf natives files names loaded
    × (TellsUnread name (files name) a ⊎ ReadsModule loaded files name form a))

-- ---- commands

-- words that are no command get the usage line; `check` judges its files, `verify` and `print` also
-- a module
abbrev pub Obeys : Predicates → FileMap → Option Command → Answer → Type 0
Obeys natives files None a = a ≡ usage
Obeys natives files (Some (Check names)) a = Checked natives files names a
Obeys natives files (Some (Verify name names)) a = ModuleChecked natives files names name None a
Obeys natives files (Some (Print form name names)) a =
    ModuleChecked natives files names name (Some form) a

-- `verify`, or `print` in a form
abbrev pub module_command : Option Form → Text → List Text → Command
module_command None name defs = Verify name defs
module_command (Some form) name defs = Print form name defs

-- the command names this file
abbrev pub NamedBy : Option Command → Text → Type 0
NamedBy None name = ⊥
NamedBy (Some command) name = Contains (files_of command) name

-- a read fault of one of the files that a command names
pub record FaultsAt (command : Option Command) (a : Answer) : Type 0 where
  pub name : Text
  pub named : NamedBy command name
  pub is : a ≡ read_fault name

-- what is to be answered, or a read fault where reading failed by itself
abbrev pub MayAnswer : Predicates → FileMap → Type 0 → Option Command → Answer → Type 0
MayAnswer natives files failed command a =
    Obeys natives files command a ⊎ (failed × FaultsAt command a)

-- The command names definition files that are there, within the limit, and accepted.
pub record AcceptedFiles (natives : Predicates) (files : FileMap) (command : Option Command)
    : Type 0 where
  pub names : List Text
  pub texts : List Text
  pub spells : command ≡ Some (Check names)
  pub has : AreTextsOf files names texts
  pub accepted : AreDefinitions natives texts

-- the name of the module file that the command judges, if it judges one
abbrev pub module_of : Option Command → Option Text
module_of (Some (Verify name defs)) = Some name
module_of (Some (Print form name defs)) = Some name
module_of _ = None

-- The command names definition files that are there and keep all rules, and a module file that is
-- there and denotes a module by what the others define.
pub record IsDenoted (natives : Predicates) (files : FileMap) (command : Option Command)
    : Type 0 where
  pub form : Option Form
  pub name : Text
  pub names : List Text
  pub loaded : Loaded
  pub text : Text
  pub denoted : WholeModule
  pub spells : command ≡ Some (module_command form name names)
  pub defined : IsLoadedOf natives files names loaded
  pub has : IsTextOf files name text
  pub denotes : Denotes loaded text denoted

-- It names such files, and what is to be written of the module is within its limit.
pub record AcceptedModule (natives : Predicates) (files : FileMap) (command : Option Command)
    : Type 0 where
  pub module_is : IsDenoted natives files command
  pub within : (answered module_is.form module_is.loaded.ops module_is.denoted).status ≡ Done

-- the command names files that are there, within their limits, and accepted
abbrev pub Accepted : Predicates → FileMap → Option Command → Type 0
Accepted natives files command =
    AcceptedFiles natives files command ⊎ AcceptedModule natives files command
