-- Bytes on their way to a sink.
--
-- A sink gets bytes in pieces. So it has the first bytes of the text so far, and the rest is held
-- back. The text has a limit, and the sink gets no byte beyond it.
--
--   Flow                  what went in so far, and what the sink got
--   owed f bytes          what the sink is owed, up to the limit
--   Adds f bytes f'       the bytes went in
--   PrintHasCause f bytes e w n
--                         why an error may come while the bytes go in
--   Stops f bytes e f'    an error came while the bytes went in, and has its cause
--   Drains f bytes result w n
--                         the bytes went in as the last ones, and the sink has all
use Rattle.std.specs.Prelude.{◌≡◌, ◌≢◌, ℕ, ◌+◌, ◌-◌, ◌<◌, ◌≤◌, [], ◌++◌, length, take, Option, Result, Ok, Err}
use Rattle.std.specs.Io.KnownBytes.{Appends}
use Rattle.irdl_bytes.specs.Outside.{Rose, AppendsPrefix}
use Rattle.ir_lexer.specs.declared.lexer.TheConstants.{TEXT_LIMIT}
use Rattle.ir_lexer.specs.Spelling.{Text}
use Rattle.text_layout.specs.declared.error.PrintError.{PrintError}
use Rattle.text_layout.specs.declared.error.PrintError.TheVariants.{WriteFault, OutputLimit, OutOfMemory}

-- what went in so far, and what the sink got of it
pub record Flow : Type 0 where
  -- how many bytes the text so far has
  pub laid : ℕ
  -- its last bytes, which the sink hasn't got
  pub held : Text
  -- the bytes that the sink got, where told
  pub written : Option Text
  -- how often the sink failed
  pub faults : ℕ

-- What the sink is owed when bytes go in: what is held back, and the bytes up to the limit.
abbrev pub owed : Flow → Text → Text
owed old bytes = take (length old.held + (TEXT_LIMIT - old.laid)) (old.held ++ bytes)

-- The bytes went in: the sink got the first of those that it is owed, and the rest is held back.
pub record Adds (old : Flow) (bytes : Text) (new : Flow) : Type 0 where
  pub laid : new.laid ≡ old.laid + length bytes
  pub sent : Text
  pub written : Appends old.written new.written sent
  pub held : sent ++ new.held ≡ old.held ++ bytes
  pub later : old.faults ≤ new.faults

-- Why an error came while bytes went in, by the bytes that the sink then got, and its count. At a
-- fault the count rose, and there was something to write. At the limit, the text passes it, and the
-- sink has the bytes up to there. The sink has always got the first bytes of those that it is owed.
abbrev pub PrintHasCause : Flow → Text → PrintError → Option Text → ℕ → Type 0
PrintHasCause old bytes WriteFault written faults =
    Rose old.faults faults × AppendsPrefix old.written written (owed old bytes)
    × (old.held ++ bytes ≢ [])
PrintHasCause old bytes OutputLimit written faults =
    (TEXT_LIMIT < old.laid + length bytes) × Appends old.written written (owed old bytes)
PrintHasCause old bytes OutOfMemory written faults =
    AppendsPrefix old.written written (owed old bytes)

-- an error came while bytes went in
pub record Stops (old : Flow) (bytes : Text) (e : PrintError) (new : Flow) : Type 0 where
  pub cause : PrintHasCause old bytes e new.written new.faults
  pub later : old.faults ≤ new.faults

-- The bytes went in as the last ones, and the sink has all that it is owed; or an error came, but
-- not for want of memory. The last two are the bytes that the sink got, and its count.
abbrev pub Drains : Flow → Text → Result (Unit {0}) PrintError → Option Text → ℕ → Type 0
Drains old bytes (Ok done) written faults =
    Appends old.written written (old.held ++ bytes)
    × (old.laid + length bytes ≤ TEXT_LIMIT) × (old.faults ≤ faults)
Drains old bytes (Err e) written faults =
    (e ≢ OutOfMemory) × PrintHasCause old bytes e written faults × (old.faults ≤ faults)
