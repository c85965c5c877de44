-- What a layout has done so far, and what it does next.
--
--   Moment                    a layout and its sink at one moment
--   Goes m                    no error was answered so far
--   Lays m marks result m'    the marks went in, or an error came at one of them
--   Repeats m result m'       an error that was answered is answered again
--   Ended m result w n        the last line was ended, and the sink has all
--   Wrote w n text result w' n'
--                             what a sink got of a text as a whole
use Rattle.std.specs.Prelude.{◌≡◌, ◌≢◌, ℕ, ◌<◌, ◌≤◌, List, [], length, take, Option, Some, None, Result, Ok, Err}
use Rattle.std.specs.Io.KnownBytes.{Appends}
use Rattle.irdl_bytes.specs.Outside.{Rose, AppendsPrefix}
use Rattle.ir_lexer.specs.declared.lexer.TheConstants.{TEXT_LIMIT}
use Rattle.ir_lexer.specs.Spelling.{Text}
use Rattle.text_layout.specs.declared.error.PrintError.{PrintError}
use Rattle.text_layout.specs.declared.error.PrintError.TheVariants.{WriteFault, OutputLimit, OutOfMemory}
use Rattle.text_layout.specs.Flow.{Flow, Adds, Stops, Drains}
use Rattle.text_layout.specs.Lines.{Mark, Line, first_line, line_end, line_behind, text_of}

-- a layout and its sink at one moment
pub record Moment : Type 0 where
  -- where the present line stands
  pub line : Line
  -- the error that was answered, if any
  pub stopped : Option PrintError
  -- the text so far, and what the sink got of it
  pub flow : Flow

-- a new layout, over a sink that got these bytes and failed so often
abbrev pub first_moment : Option Text → ℕ → Moment
first_moment written faults = record {
  line = first_line;
  stopped = None;
  flow = record { laid = 0; held = []; written = written; faults = faults };
}

-- no error was answered so far, and the text is within its limit
pub record Goes (m : Moment) : Type 0 where
  pub on : m.stopped ≡ None
  pub within : m.flow.laid ≤ TEXT_LIMIT

-- the marks went in
pub record Laid (old : Moment) (marks : List Mark) (new : Moment) : Type 0 where
  pub goes : Goes new
  pub line : new.line ≡ line_behind old.line marks
  pub adds : Adds old.flow (text_of old.line marks) new.flow

-- an error came at one of the marks
pub record Stopped (old : Moment) (marks : List Mark) (e : PrintError) (new : Moment)
    : Type 0 where
  pub is : new.stopped ≡ Some e
  pub stops : Stops old.flow (text_of old.line marks) e new.flow

-- Where no error was answered before, the marks went in, or an error came at one of them.
abbrev pub Lays : Moment → List Mark → Result (Unit {0}) PrintError → Moment → Type 0
Lays old marks (Ok done) new = Goes old → Laid old marks new
Lays old marks (Err e) new = Goes old → Stopped old marks e new

-- Where an error was answered before, the same one is answered, and nothing changes.
abbrev pub Repeats : Moment → Result (Unit {0}) PrintError → Moment → Type 0
Repeats old result new = (e : PrintError) → old.stopped ≡ Some e → (result ≡ Err e) × (new ≡ old)

-- The last line is ended, and the sink has all that it is owed, or an error came. Where an error
-- was answered before, the same one is answered, and the sink gets nothing. The last two are the
-- bytes that the sink got, and its count.
pub record Ended (old : Moment) (result : Result (Unit {0}) PrintError) (written : Option Text)
    (faults : ℕ) : Type 0 where
  pub ends : Goes old → Drains old.flow (line_end old.line.row) result written faults
  pub again : (e : PrintError) → old.stopped ≡ Some e
      → (result ≡ Err e) × (written ≡ old.flow.written) × (faults ≡ old.flow.faults)

-- What a sink got of a text: all of it, within the limit; or, of a longer text, the bytes up to the
-- limit; or a front of these, where a fault came, and the count rose, or where memory ran out.
-- Where there is nothing to write, no fault comes.
abbrev pub Wrote : Option Text → ℕ → Text → Result (Unit {0}) PrintError → Option Text → ℕ → Type 0
Wrote before count text (Ok done) written faults =
    Appends before written text × (length text ≤ TEXT_LIMIT)
Wrote before count text (Err WriteFault) written faults =
    AppendsPrefix before written (take TEXT_LIMIT text) × Rose count faults × (text ≢ [])
Wrote before count text (Err OutputLimit) written faults =
    Appends before written (take TEXT_LIMIT text) × (TEXT_LIMIT < length text)
Wrote before count text (Err OutOfMemory) written faults =
    AppendsPrefix before written (take TEXT_LIMIT text)
