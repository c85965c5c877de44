-- What a call did for a command, by what the files and the streams tell before it and after it.
--
--   may_print status        with this status a module may have been printed
--   writes_out command status    so may it by this command
--   FilesSeen, files_seen   the files before and after the call
--   SinkSeen, sink_seen     a stream before and after the call
--   Obeyed natives command status files out err
--                           the call did what the command asks for, and gave this status
--
-- `run` says the parts of `Obeyed` as clauses of its own.
use Rattle.std.specs.Prelude.{◌≡◌, ◌≢◌, ◌⊎◌, ℕ, Bool, true, false, ◌&&◌, is_some, IfSome}
use Rattle.std.specs.declared.option.Option.{Option}
use Rattle.std.specs.declared.option.Option.TheVariants.{None}
use Rattle.irdl_bytes.specs.Outside.{FileMap, Rose, FaultsByItself}
use Rattle.ir_lexer.specs.Spelling.{Text}
use Rattle.irdl_engine.specs.declared.status.Status.{Status}
use Rattle.irdl_engine.specs.declared.status.Status.TheVariants.{Done, Usage, ReadFault, WriteFault}
use Rattle.irdl_engine.specs.declared.status.Status.TheVariants.{OutOfMemory, OutputLimit}
use Rattle.irdl_engine.specs.Answer.{usage}
use Rattle.irdl_engine.specs.Command.{Command, printed_by}
use Rattle.irdl_engine.specs.Judged.{Predicates}
use Rattle.irdl_engine.specs.ReadBack.{IsPrinted}
use Rattle.irdl_engine.specs.Writes.{Change, change, GotNothing, Says, MayGive}

-- with these statuses a module may have been printed, whole or in part
abbrev pub may_print : Status → Bool
may_print Done = true
may_print WriteFault = true
may_print OutOfMemory = true
may_print OutputLimit = true
may_print _ = false

-- the command prints a module, and the status is one with which it may have been printed
abbrev pub writes_out : Option Command → Status → Bool
writes_out command status = is_some (printed_by command) && may_print status

-- files before a call and after it
pub record FilesSeen : Type 0 where
  -- the bytes of each name, where told
  pub told : Option FileMap
  -- before the call: nothing but a name that they lack fails
  pub steady : Bool
  -- how often they had failed before the call
  pub before : ℕ
  -- and how often after it
  pub after : ℕ

-- files before a call and after it, by what they tell of their bytes, steadiness and faults
abbrev pub files_seen : {F : Type 0}
    → (F → Option FileMap) → (F → Bool) → (F → ℕ) → F → F → FilesSeen
files_seen told steady faults old new =
    record { told = told old; steady = steady old; before = faults old; after = faults new }

-- a stream before a call and after it
pub record SinkSeen : Type 0 where
  -- its bytes, where told
  pub bytes : Change
  -- how often it had failed before the call
  pub before : ℕ
  -- and how often after it
  pub after : ℕ

-- a stream before a call and after it, by what it tells of its bytes and faults
abbrev pub sink_seen : {S : Type 0} → (S → Option Text) → (S → ℕ) → S → S → SinkSeen
sink_seen written faults old new = record {
  bytes = change (written old) (written new);
  before = faults old;
  after = faults new;
}

-- The call did what the command asks for, which is nothing where the words are no command.
pub record Obeyed (natives : Predicates) (command : Option Command) (status : Status)
    (files : FilesSeen) (out err : SinkSeen) : Type 0 where
  -- an answer that may be planned was given, for files that tell their bytes
  pub planned : IfSome files.told (λ m.
      MayGive natives m (FaultsByItself files.steady files.before files.after) command status
      out.bytes err.bytes)
  -- told or not, the usage line is written exactly for words that are no command
  pub no_command : command ≡ None → Says usage.status usage.err status err.bytes
  pub usage : status ≡ Usage → command ≡ None
  -- a fault is answered only where one was counted in the call
  pub read_fault : status ≡ ReadFault → Rose files.before files.after
  pub write_fault : status ≡ WriteFault → Rose out.before out.after ⊎ Rose err.before err.after
  -- standard output gets nothing and isn't tried, but where a module is printed
  pub silent : writes_out command status ≡ false → GotNothing out.bytes
  pub untouched : writes_out command status ≡ false → out.after ≡ out.before
  -- a module that was printed is read again
  pub reads_back : IfSome files.told (λ m. printed_by command ≢ None → status ≡ Done
      → IsPrinted natives m command out.bytes)
