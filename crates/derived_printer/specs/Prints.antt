-- What a call does that lays marks down on a layout.
--
--   Repeated marks e result   what is answered for marks where the error e was answered before
--   Prints written faults old marks result new
--                             the marks went in, or an error came at one of them; the sink is seen
--                             by what it tells
use Rattle.std.specs.Prelude.{◌≡◌, ◌≢◌, ℕ, List, [], Option, Some, None, Result, Ok, Err}
use Rattle.ir_lexer.specs.Spelling.{Text}
use Rattle.text_layout.specs.declared.error.PrintError.{PrintError}
use Rattle.text_layout.specs.declared.layout.Layout.{Layout}
use Rattle.text_layout.specs.Lines.{Mark}
use Rattle.text_layout.specs.Moment.{Lays}
use Rattle.text_layout.specs.OfLayout.{sink_of, moment}
use Rattle.text_layout.specs.Page.{Page}

-- The same error is answered again, and only for no marks at all may nothing be wrong.
abbrev pub Repeated : List Mark → PrintError → Result (Unit {0}) PrintError → Type 0
Repeated marks e (Ok done) = marks ≡ []
Repeated marks e (Err x) = x ≡ e

pub record Prints {S : Type 0} (written : S → Option Text) (faults : S → ℕ) (old : Layout S Page)
    (marks : List Mark) (result : Result (Unit {0}) PrintError) (new : Layout S Page)
    : Type 0 where
  -- where no error was answered before, the marks went in, or an error came at one of them
  pub lays : Lays (moment written faults old) marks result (moment written faults new)
  -- else the same error is answered, and nothing changes
  pub again : (e : PrintError) → (moment written faults old).stopped ≡ Some e
      → Repeated marks e result × (moment written faults new ≡ moment written faults old)
  -- and the sink is left alone
  pub untouched : (moment written faults old).stopped ≢ None
      → (sink_of new).now ≡ (sink_of old).now
  -- the layout writes to the same sink
  pub same_sink : (sink_of new).ghost_name ≡ (sink_of old).ghost_name
