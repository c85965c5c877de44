-- What is found of the entries of an operation's properties and dictionary, which are one list.
--
-- As in `Found`, `loaded` is what is defined, `al` are the values of aliases, and `now` is the
-- table of which ids are.
--
--   entry_trees e              the tree of an entry's value, if it has one, as a list
--   IsEntryFault loaded al e f f is a fault of an entry's value
--   IsRepeat keys e f          f is the fault of an entry whose key is among these
--   IsEntryValue .. e now found    the id of an entry's value, or its first fault
--   IsFaultOfEntries .. es f   a key of these entries, or a value, is at fault
--   key_and_value now p        a key with the value of its id
--   AreSeen .. es now pairs    the pairs are the keys of entries with the ids of their values
--   AreEntered .. es now x     x holds the entries, and their first fault
--
-- Inside: no public clause rests on this.
use Rattle.std.specs.Prelude.{◌≡◌, ◌<◌, ◌⊎◌, ℕ, List, [], length, map}
use Rattle.std.specs.Prelude.{Contains}
use Rattle.std.specs.List.{AllByRecursion}
use Rattle.std.specs.declared.option.Option.{Option}
use Rattle.std.specs.declared.option.Option.TheVariants.{Some, None}
use Rattle.std.specs.declared.result.Result.{Result}
use Rattle.std.specs.declared.result.Result.TheVariants.{Ok, Err}
use Rattle.attr_value.specs.declared.head.ValueId.{ValueId}
use Rattle.attr_value.specs.Ids.{at, AreKnown}
use Rattle.attr_value.specs.Values.{Value}
use Rattle.dialect_registry.specs.Parts.{Among}
use Rattle.first_fault.specs.declared.fault.Fault.{Fault}
use Rattle.first_fault.specs.Firsts.{IsFirst}
use Rattle.generic_syntax.specs.declared.cst.EntryCst.{EntryCst, out-EntryCst}
use Rattle.generic_syntax.specs.declared.cst.ValueCst.{ValueCst}
use Rattle.ir_lexer.specs.Spelling.{Text}
use Rattle.module_faults.specs.OpFaults.{IsKeyFault, if_there}
use Rattle.module_meaning.specs.Says.{keys_in, seen_in}
use Rattle.module_meaning.specs.WholeModules.{Loaded, IsGood}
use Rattle.op_judgement.specs.declared.entries.Entries.{Entries}
use Rattle.op_judgement.specs.Found.{IsTreeFault}
use Rattle.value_meaning.specs.declared.code.TheConstants.{KEY_REPEATED}
use Rattle.value_meaning.specs.Dicts.{keyed}
use Rattle.value_meaning.specs.Keys.{HasSeen}
use Rattle.value_meaning.specs.Meaning.{Aliases, entry_seen}

-- the tree of an entry's value, as a list
abbrev pub entry_trees : EntryCst → List ValueCst
entry_trees e = if_there (out-EntryCst e).value

-- the key of an entry is among these
pub record IsRepeat (keys : List Text) (e : EntryCst) (f : Fault) : Type 0 where
  pub among : Contains keys (out-EntryCst e).key
  pub place : f.place ≡ (out-EntryCst e).place
  pub code : f.code ≡ KEY_REPEATED

-- a key with the value of its id
abbrev pub key_and_value : List Value → Text × ValueId → Text × Value
key_and_value now pair = (pair.0, at now pair.1.0)

module _ (loaded : Loaded) (al : Aliases) where
  -- a fault of an entry's value
  abbrev pub IsEntryFault : EntryCst → Fault → Type 0
  IsEntryFault e = Among (IsTreeFault loaded al) (entry_trees e)

  -- the id is that of the entry's value, which is good and without a fault
  pub record IsRightEntry (e : EntryCst) (now : List Value) (id : ValueId) : Type 0 where
    pub known : id.0 < length now
    pub spells : (entry_seen al e).seen.value ≡ Some (at now id.0)
    pub good : IsGood loaded (at now id.0)
    pub right : (f : Fault) → IsEntryFault e f → ⊥

  -- the id of an entry's value, or its first fault
  abbrev pub IsEntryValue : EntryCst → List Value → Result ValueId Fault → Type 0
  IsEntryValue e now (Ok id) = IsRightEntry e now id
  IsEntryValue e now (Err f) = IsFirst (IsEntryFault e) (Some f)

  -- a key stands before its place, or a value is at fault
  abbrev pub IsFaultOfEntries : List EntryCst → Fault → Type 0
  IsFaultOfEntries es f = IsKeyFault [] es f ⊎ Among IsEntryFault es f

  -- the pairs are the keys of entries with the ids of their values, which are good
  pub record AreSeen (es : List EntryCst) (now : List Value) (pairs : List (Text × ValueId))
      : Type 0 where
    pub known : AreKnown (length now) (map (λ p. p.1) pairs)
    pub seen : seen_in al es ≡ map (λ p. (p.0, Some (at now p.1.0))) pairs
    pub good : AllByRecursion (λ p. IsGood loaded (at now p.1.0)) pairs

  -- the keys that were seen, the first fault, and where there is none the values
  pub record AreEntered (es : List EntryCst) (now : List Value) (x : Entries) : Type 0 where
    pub seen : HasSeen (keys_in es) x.seen
    pub first_is : IsFirst (IsFaultOfEntries es) x.first
    pub values : x.first ≡ None → AreSeen es now (keyed x.pairs.items)
