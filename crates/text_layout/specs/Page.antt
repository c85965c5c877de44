-- What a layout keeps, apart from its sink.
--
--   Page                   where the line stands, and the bytes that are held back
--   moment_of page w n     the moment, with a sink that got these bytes and failed so often
use Rattle.std.specs.Prelude.{ℕ, Option, None, []}
use Rattle.ir_lexer.specs.Spelling.{Text}
use Rattle.text_layout.specs.declared.error.PrintError.{PrintError}
use Rattle.text_layout.specs.Lines.{Line, first_line}
use Rattle.text_layout.specs.Moment.{Moment}

-- what a layout keeps, apart from its sink
pub record Page : Type 0 where
  -- where the present line stands
  pub line : Line
  -- how many bytes the text so far has
  pub laid : ℕ
  -- its last bytes, which the sink hasn't got
  pub held : Text
  -- the error that was answered, if any
  pub stopped : Option PrintError

-- a page on which nothing stands
abbrev pub empty_page : Page
empty_page = record { line = first_line; laid = 0; held = []; stopped = None }

-- the moment of a page, with a sink that got these bytes and failed so often
abbrev pub moment_of : Page → Option Text → ℕ → Moment
moment_of page written faults = record {
  line = page.line;
  stopped = page.stopped;
  flow = record { laid = page.laid; held = page.held; written = written; faults = faults };
}
