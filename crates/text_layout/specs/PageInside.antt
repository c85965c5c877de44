-- What the fields of a page mean, and what always holds of them.
--
--   page_of p           the page that the fields stand for
--   last_text out       the text that was put in last, where no line feed stands behind it
--   HasRoom out         an output has room for a line feed
--   IsRow ends out      the line's last text spells its class, and its end has room
--   IsPage p            what always holds of the fields
use Rattle.std.specs.Prelude.{◌+◌, ◌-◌, ◌≤◌, length, drop, Option, Some, None, vec_capacity}
use Rattle.ir_lexer.specs.declared.lexer.TheConstants.{TEXT_LIMIT}
use Rattle.ir_lexer.specs.Spelling.{Text, Spells}
use Rattle.text_layout.specs.declared.blank.TheConstants.{INDENT_LIMIT}
use Rattle.text_layout.specs.declared.output.Output.{Output}
use Rattle.text_layout.specs.declared.page.Page.TheInside.{Inside}
use Rattle.text_layout.specs.declared.rules.Ends.{Ends}
use Rattle.text_layout.specs.Lines.{Row}
use Rattle.text_layout.specs.Page.{Page}

-- the classes at the ends of a line, and the text of the last token
abbrev pub row_of : Option Ends → Text → Option Row
row_of None text = None
row_of (Some ends) text = Some (record { first = ends.first; last = ends.last; text = text })

-- the text that was put in last, where no line feed stands behind it
abbrev pub last_text : Output → Text
last_text out = drop (length out.held.items - out.last) out.held.items

-- the page that the fields stand for
abbrev pub page_of : Inside → Page
page_of p = record {
  line = record { indent = p.indent; row = row_of p.ends (last_text p.output); gap = p.gap };
  laid = p.output.laid;
  held = p.output.held.items;
  stopped = p.stopped;
}

-- room for a line feed
abbrev pub HasRoom : Output → Type 0
HasRoom out = length out.held.items + 1 ≤ vec_capacity out.held

-- Where the line has a token, its text spells its class, and there is room for the line's end.
abbrev pub IsRow : Option Ends → Output → Type 0
IsRow None out = Unit {0}
IsRow (Some ends) out =
    Spells ends.last (last_text out) × (length (last_text out) ≤ TEXT_LIMIT) × HasRoom out

-- The indent is within its limit, the text within its own, and the row is as `IsRow` says.
pub record IsPage (p : Inside) : Type 0 where
  pub indent : p.indent ≤ INDENT_LIMIT
  pub within : p.output.laid ≤ TEXT_LIMIT
  pub row : IsRow p.ends p.output
