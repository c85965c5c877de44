-- What a call writes for an answer.
--
--   Change, change    the bytes of a sink before a call and after it, where it tells them
--   Got sink text     the sink got this text
--   GotFront sink text, GotNothing sink
--                     it got a front of this text, and nothing
--   GivesAll a ..     the answer a was given
--   GivesFronts a ..  a write failed, and each sink got a front of what a has for it
--   GivesOut a ..     memory ran out while standard output was written
--   GivesUp ..        memory ran out, and nothing was written
--   GivesPlanned natives files failed command ..
--                     an answer that may be planned was given, whole or in part
--   MayGive natives files failed command ..
--                     the same, or memory ran out
--   Says s t r e      the line t was written to e and the status r is s, or a write failed after a
--                     front of it
use Rattle.std.specs.Prelude.{◌≡◌, ◌≢◌, ◌⊎◌, []}
use Rattle.std.specs.declared.option.Option.{Option}
use Rattle.std.specs.Io.KnownBytes.{Appends, Keeps}
use Rattle.irdl_bytes.specs.Outside.{FileMap, AppendsPrefix}
use Rattle.ir_lexer.specs.Spelling.{Text}
use Rattle.irdl_engine.specs.declared.status.Status.{Status}
use Rattle.irdl_engine.specs.declared.status.Status.TheVariants.{WriteFault, OutOfMemory}
use Rattle.irdl_engine.specs.Answer.{Answer, MayAnswer}
use Rattle.irdl_engine.specs.Command.{Command}
use Rattle.irdl_engine.specs.Judged.{Predicates}

-- the bytes of a sink before a call and after it, where it tells them
pub record Change : Type 0 where
  pub before : Option Text
  pub after : Option Text

-- the bytes of a sink, before and after
abbrev pub change : Option Text → Option Text → Change
change before after = record { before = before; after = after }

-- the sink got this text
abbrev pub Got : Change → Text → Type 0
Got sink text = Appends sink.before sink.after text

-- the sink got a front of this text
abbrev pub GotFront : Change → Text → Type 0
GotFront sink text = AppendsPrefix sink.before sink.after text

-- the sink got nothing
abbrev pub GotNothing : Change → Type 0
GotNothing sink = Keeps sink.before sink.after

-- both sinks got all that the answer has for them, and the status is the answer's
pub record GivesAll (a : Answer) (status : Status) (out err : Change) : Type 0 where
  pub status_is : status ≡ a.status
  pub out_got : Got out a.out
  pub err_got : Got err a.err

-- a write failed of the bytes that the answer has: each sink got a front of what is for it
pub record GivesFronts (a : Answer) (status : Status) (out err : Change) : Type 0 where
  pub status_is : status ≡ WriteFault
  pub has_bytes : (a.out ≢ []) ⊎ (a.err ≢ [])
  pub out_got : GotFront out a.out
  pub err_got : GotFront err a.err

-- memory ran out while standard output was written: it got a front of what is for it
pub record GivesOut (a : Answer) (status : Status) (out err : Change) : Type 0 where
  pub status_is : status ≡ OutOfMemory
  pub out_got : GotFront out a.out
  pub err_kept : GotNothing err

-- memory ran out: the sinks got nothing
pub record GivesUp (status : Status) (out err : Change) : Type 0 where
  pub status_is : status ≡ OutOfMemory
  pub out_kept : GotNothing out
  pub err_kept : GotNothing err

-- an answer that may be planned was given, whole or in part
pub record GivesPlanned (natives : Predicates) (files : FileMap) (failed : Type 0)
    (command : Option Command) (status : Status) (out err : Change) : Type 0 where
  pub answer : Answer
  pub planned : MayAnswer natives files failed command answer
  pub given : GivesAll answer status out err
      ⊎ (GivesFronts answer status out err ⊎ GivesOut answer status out err)

-- an answer that may be planned was given, or memory ran out
abbrev pub MayGive : Predicates → FileMap → Type 0 → Option Command → Status → Change → Change
    → Type 0
MayGive natives files failed command status out err =
    GivesPlanned natives files failed command status out err ⊎ GivesUp status out err

-- the line was written and the planned status answered, or a write failed after a front of it
abbrev pub Says : Status → Text → Status → Change → Type 0
Says planned line status err =
    ((status ≡ planned) × Got err line) ⊎ ((status ≡ WriteFault) × GotFront err line)
