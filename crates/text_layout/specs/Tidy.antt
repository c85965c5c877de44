-- Lists of marks that may stand one behind the other.
--
-- Where the tokens of two lists keep apart by their classes, those of both together may still run
-- together at the seam: `::` behind `:`, and numbers, dimensions, `?` or `>` behind dimensions or
-- `-`. So a list may stand beside any other where it doesn't begin and end in such a way.
--
--   Tidy marks    each token spells its class, none run together by their classes, and neither at
--                 the front nor at the end may one run together with what stands beside the list
use Rattle.std.specs.Prelude.{◌≡◌, Bool, true, false, List, [], ◌∷◌}
use Rattle.ir_lexer.specs.declared.class.Class.{Class}
use Rattle.ir_lexer.specs.declared.class.Class.TheVariants as c
use Rattle.text_layout.specs.Apart.{AreSpelled, never_clash}
use Rattle.text_layout.specs.Lines.{Mark, token, ask, break_line}

-- a token of the class may stand behind any whose class `ends_alone`
abbrev pub begins_alone : Class → Bool
begins_alone c.ColonColon = false
begins_alone _ = true

-- a token of the class may stand before any whose class `begins_alone`
abbrev pub ends_alone : Class → Bool
ends_alone c.Dims = false
ends_alone c.Minus = false
ends_alone _ = true

-- the first token, if there is one, may stand behind any
abbrev pub first_alone : List Mark → Bool
first_alone [] = true
first_alone (token class text ∷ marks) = begins_alone class
first_alone (ask gap ∷ marks) = first_alone marks
first_alone (break_line indent ∷ marks) = first_alone marks

-- the last token may stand before any; where there is none, it is as said
abbrev pub last_alone : Bool → List Mark → Bool
last_alone last [] = last
last_alone last (token class text ∷ marks) = last_alone (ends_alone class) marks
last_alone last (ask gap ∷ marks) = last_alone last marks
last_alone last (break_line indent ∷ marks) = last_alone last marks

-- Each token spells its class, none run together by their classes, and the first and the last may
-- stand beside others.
pub record Tidy (marks : List Mark) : Type 0 where
  pub spelled : AreSpelled marks
  pub apart : never_clash marks ≡ true
  pub first : first_alone marks ≡ true
  pub last : last_alone true marks ≡ true
