-- What the source of a slice's tokens means.
--
-- It tells all tokens of the slice, nothing outside can fail, and it reads no file.
--
--   slice_source r    what it means, at a place of a text
--   Tells s src       s stands at the first token of src and tells the others
use Rattle.std.specs.Prelude.{◌≡◌, ℕ, ◌-◌, ◌≤◌, true, false, List, ◌∷◌, length, Some, None}
use Rattle.ir_lexer.specs.declared.lexer.TheConstants.{TEXT_LIMIT}
use Rattle.ir_lexer.specs.Spelling.{Text}
use Rattle.ir_lexer.specs.Tokens.{Token, AreTokens}
use Rattle.ir_lexer.specs.Reading.{Reading}
use Rattle.ir_lexer.specs.Scan.{next_token, tokens_behind}
use Rattle.ir_lexer.specs.Source.{Source}

-- over a text, with the token that comes next from a place on
abbrev pub source_at : Text → ℕ → Source
source_at src from =
    let t = next_token src from in
    record {
      now = t;
      later = Some (tokens_behind src t);
      faults = 0;
      left = length src - t.place;
      origin = None;
      steady = true;
      stopped = false;
    }

-- over the text of a reading, at its place
unfoldable pub slice_source : Reading → Source
slice_source r = source_at r.text r.place

-- It stands at the first token of a text and tells the others, and nothing outside can fail. By
-- `AreTokens`, the text of each of these tokens spells its class.
pub record Tells (s : Source) (src : Text) : Type 0 where
  pub tokens : (ts : List Token) × (s.later ≡ Some ts) × AreTokens src (s.now ∷ ts)
  pub steady : s.steady ≡ true
  pub faults : s.faults ≡ 0
  pub origin : s.origin ≡ None
  pub left : s.left ≤ TEXT_LIMIT
  pub stopped : s.stopped ≡ false
