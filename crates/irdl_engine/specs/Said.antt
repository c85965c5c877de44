-- What the calls inside say of files and texts: the answer that a stop stands for, and what was
-- read and judged where nothing stopped them.
--
--   bytes_of texts          the bytes of each text that the code holds
--   said names stop         the answer for a stop over files of these names, but for want of memory
--   said_of_module name names stop
--                           the same of a stop over a module file and definition files
--   IsWithin count stop     the file that the stop tells is one of so many
--   IsUnreadable stop       a file couldn't be opened or read
--   IsModuleWithin count stop, IsModuleUnreadable stop
--                           the same of a stop over a module file and definition files
--   AreShort texts          no text is longer than the limit
--   AreWhole told names texts
--                           the texts are those of files of these names, read whole
--   ReadsText files name file r
--                           r is what the reading of the file with this name and number gave
--   MayStop files failed names a
--                           a tells the first file that can't be read, or a read fault
--   MayStopLoading natives files failed names a
--                           a tells why definition files of these names aren't accepted, or a read
--                           fault
--   IsReadingStop files names stop
--                           the stop tells why files of these names weren't read
--   StandsAt src r at       the refusal r stands at this place of the text src
--   IsRefusedToken src file r
--                           the text is refused for a token, as that of the file with this number
--   IsTreeOf src file r     r is the tree that a text spells, or its refusal for a token
--   Shows natives texts r   the texts are refused as the refusal r says
--   IsVerdict natives texts r
--                           r is the judgement of the texts
--
-- Inside: no public clause rests on this.
use Rattle.std.specs.Prelude.{ℕ, ◌≡◌, ◌⊎◌, ◌<◌, ◌≤◌, ⊤, List, [], ◌∷◌, length, map, IsTrue, IfSome, slice_get}
use Rattle.std.specs.declared.alloc.Global.{Global}
use Rattle.std.specs.declared.option.Option.{Option}
use Rattle.std.specs.declared.option.Option.TheVariants.{Some, None}
use Rattle.std.specs.declared.result.Result.{Result}
use Rattle.std.specs.declared.result.Result.TheVariants.{Ok, Err}
use Rattle.std.specs.declared.vec.Vec.{Vec}
use Rattle.irdl_bytes.specs.Outside.{FileMap, Rose, FaultsByItself, Lacks}
use Rattle.irdl_bytes.specs.declared.whole.TheConstants.{FILE_LIMIT}
use Rattle.ir_lexer.specs.Place.{line_at, column_at}
use Rattle.ir_lexer.specs.Spelling.{Text}
use Rattle.irdl_ops.specs.declared.raw.RawDefs.{RawDefs}
use Rattle.irdl_engine.specs.declared.stop.Refusal.{Refusal}
use Rattle.irdl_engine.specs.declared.stop.Stop.{Stop}
use Rattle.irdl_engine.specs.declared.stop.Stop.TheVariants.{Unreadable, TooLong, Refused, OutOfMemory}
use Rattle.irdl_engine.specs.declared.stop.ModuleStop.{ModuleStop}
use Rattle.irdl_engine.specs.declared.stop.ModuleStop.TheVariants.{Definitions, Module, Fault}
use Rattle.irdl_engine.specs.Answer.{Answer, read_fault, input_limit, refused, module_refused}
use Rattle.irdl_engine.specs.Answer.{FaultsAt, Stopped, TellsUnread, TellsFirstUnread}
use Rattle.irdl_engine.specs.Command.{Check}
use Rattle.irdl_engine.specs.InOrder.{text_at}
use Rattle.irdl_engine.specs.Judged.{Predicates, AreDefinitions, AreRefusedAt, SpellsFile, IsTokenRefusal}
use Rattle.irdl_engine.specs.Obeyed.{FilesSeen}
use Rattle.irdl_engine.specs.Reading.{AreTextsOf}

-- the bytes of each text that the code holds
abbrev pub bytes_of : List (Vec ℕ Global) → List Text
bytes_of texts = map (λ text. text.items) texts

-- ---- answers

-- the answer for a stop over files of these names; want of memory has none
abbrev pub said : List Text → Stop → Option Answer
said names (Unreadable file) = Some (read_fault (text_at names file))
said names (TooLong file) = Some (input_limit (text_at names file))
said names (Refused r) = Some (refused (text_at names r.file) r.place r.code r.told.items)
said names OutOfMemory = None

-- the answer for a stop over a module file of this name and definition files of these
abbrev pub said_of_module : Text → List Text → ModuleStop → Option Answer
said_of_module name names (Definitions stop) = said names stop
said_of_module name names (Module stop) = said (name ∷ []) stop
said_of_module name names (Fault r) = Some (module_refused name r.place r.code)

-- the file that the stop tells is one of so many
abbrev pub IsWithin : ℕ → Stop → Type 0
IsWithin count (Unreadable file) = file < count
IsWithin count (TooLong file) = file < count
IsWithin count (Refused r) = r.file < count
IsWithin count OutOfMemory = ⊤

-- a file couldn't be opened or read
abbrev pub IsUnreadable : Stop → Type 0
IsUnreadable (Unreadable file) = ⊤
IsUnreadable _ = ⊥

-- the same of such a stop, where the module file is the one of its names
abbrev pub IsModuleWithin : ℕ → ModuleStop → Type 0
IsModuleWithin count (Definitions stop) = IsWithin count stop
IsModuleWithin count (Module stop) = IsWithin 1 stop
IsModuleWithin count (Fault r) = ⊤

-- a file couldn't be opened or read
abbrev pub IsModuleUnreadable : ModuleStop → Type 0
IsModuleUnreadable (Definitions stop) = IsUnreadable stop
IsModuleUnreadable (Module stop) = IsUnreadable stop
IsModuleUnreadable (Fault r) = ⊥

-- ---- reading

-- no text is longer than the limit
abbrev pub AreShort : List Text → Type 0
AreShort texts = (n : ℕ) (text : Text) → slice_get texts n ≡ Some text → length text ≤ FILE_LIMIT

-- There is a text for each name, and none is longer than the limit. Where the files tell their
-- bytes, the texts are these.
pub record AreWhole (told : Option FileMap) (names texts : List Text) : Type 0 where
  pub count : length texts ≡ length names
  pub short : AreShort texts
  pub right : IfSome told (λ files. AreTextsOf files names texts)

-- What the reading of one file gave. Where the files tell their bytes, a text that was read is the
-- file's, and a file that is too long is longer than the limit. A read fault has its cause, and
-- steady files lack the name then.
abbrev pub ReadsText : FilesSeen → Text → ℕ → Result (Vec ℕ Global) Stop → Type 0
ReadsText files name file (Ok text) =
    (length text.items ≤ FILE_LIMIT) × IfSome files.told (λ m. m name ≡ Some text.items)
ReadsText files name file (Err (Unreadable n)) =
    (n ≡ file) × Rose files.before files.after × (IsTrue files.steady → Lacks files.told name)
ReadsText files name file (Err (TooLong n)) =
    (n ≡ file) × IfSome files.told (λ m. TellsUnread name (m name) (input_limit name))
ReadsText files name file (Err (Refused r)) = ⊥
ReadsText files name file (Err OutOfMemory) = ⊤

-- the first file that can't be read is told, or, where reading failed by itself, a read fault
abbrev pub MayStop : FileMap → Type 0 → List Text → Answer → Type 0
MayStop files failed names a =
    TellsFirstUnread files names a ⊎ (failed × FaultsAt (Some (Check names)) a)

-- Definition files can't be read or are refused, or reading failed by itself.
abbrev pub MayStopLoading : Predicates → FileMap → Type 0 → List Text → Answer → Type 0
MayStopLoading natives files failed names a =
    Stopped natives files names a ⊎ (failed × FaultsAt (Some (Check names)) a)

-- A stop while files of these names were read: it tells one of them, where the files tell their
-- bytes the right one, and a read fault has its cause.
pub record IsReadingStop (files : FilesSeen) (names : List Text) (stop : Stop) : Type 0 where
  pub within : IsWithin (length names) stop
  pub right : IfSome files.told (λ m. IfSome (said names stop)
      (MayStop m (FaultsByItself files.steady files.before files.after) names))
  pub cause : IsUnreadable stop → Rose files.before files.after

-- ---- judging

-- a refusal stands at the line and the column of this place
pub record StandsAt (src : Text) (r : Refusal) (at : ℕ) : Type 0 where
  pub line : r.place.line ≡ line_at src at
  pub column : r.place.column ≡ column_at src at

-- the text is refused for a token, in the file with this number, as the refusal says
pub record IsRefusedToken (src : Text) (file : ℕ) (r : Refusal) : Type 0 where
  pub in_file : r.file ≡ file
  pub at : ℕ
  pub refused : IsTokenRefusal src at r.code
  pub stands : StandsAt src r at
  pub nothing : r.told.items ≡ []

-- the tree that a text spells, or its refusal, as that of the file with this number
abbrev pub IsTreeOf : Text → ℕ → Result RawDefs Stop → Type 0
IsTreeOf src file (Ok defs) = SpellsFile src defs
IsTreeOf src file (Err (Refused r)) = IsRefusedToken src file r
IsTreeOf src file (Err OutOfMemory) = ⊤
IsTreeOf src file (Err _) = ⊥

-- the texts are refused as the refusal says
pub record Shows (natives : Predicates) (texts : List Text) (r : Refusal) : Type 0 where
  pub at : ℕ
  pub refused : AreRefusedAt natives texts r.file at r.code r.told.items
  pub stands : StandsAt (text_at texts r.file) r at

-- nothing stops the judgement exactly where the texts are definition files; else the refusal does,
-- or want of memory
abbrev pub IsVerdict : Predicates → List Text → Result (Unit {0}) Stop → Type 0
IsVerdict natives texts (Ok ok) = AreDefinitions natives texts
IsVerdict natives texts (Err (Refused r)) = Shows natives texts r
IsVerdict natives texts (Err OutOfMemory) = ⊤
IsVerdict natives texts (Err _) = ⊥
