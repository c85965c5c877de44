-- What a contract sees of a layout: the sink that it writes to, and the moment.
--
--   sink_of l                 the sink, as a reference
--   moment written faults l   the layout and its sink, by what the sink tells
use Rattle.std.specs.Prelude.{ℕ, Option}
use Rattle.std.specs.Borrow.{MutBor}
use Rattle.ir_lexer.specs.Spelling.{Text}
use Rattle.text_layout.specs.declared.layout.Layout.{Layout}
use Rattle.text_layout.specs.Moment.{Moment}
use Rattle.text_layout.specs.Page.{Page, moment_of}

-- the sink of a layout, as a reference
abbrev pub sink_of : {S : Type 0} → Layout S Page → MutBor S
sink_of l = l.sink

-- a layout and its sink, by what the sink tells of its bytes and faults
abbrev pub moment : {S : Type 0} → (S → Option Text) → (S → ℕ) → Layout S Page → Moment
moment written faults l = moment_of l.page (written l.sink.now) (faults l.sink.now)
