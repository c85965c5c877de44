-- The marks of a value, piece by piece as they are laid down.
--
--   separator class i          the sign before the piece at a place, if it isn't the first
--   from_place class i ps      pieces from a place on, with such signs
--   minus_marks n              the sign of a number
--   enclosed_marks a b kids    what kids gave, between two signs
--   entry_of key v             an entry of a dictionary, by what its value gives
--   CanPrint vs ids            the values of some ids can be spelled
--
-- Inside: no public clause rests on this.
use Rattle.std.specs.Prelude.{ℕ, ◌==◌, List, [], ◌++◌, length, ℤ, pos, negsuc, cond}
use Rattle.attr_value.specs.declared.head.ValueId.{ValueId}
use Rattle.attr_value.specs.Ids.{kids_at, AreKnown}
use Rattle.attr_value.specs.Values.{Value}
use Rattle.ir_lexer.specs.declared.class.Class.{Class}
use Rattle.ir_lexer.specs.declared.class.Class.TheVariants as c
use Rattle.ir_lexer.specs.Spelling.{Text}
use Rattle.derived_printer.specs.Spellable.{AreSpellable}
use Rattle.derived_printer.specs.ValueMarks.{Marks, Kid, a_sign, behind_signs, between_signs, commas, marks_of, value_marks}

-- the sign before the piece at a place
abbrev pub separator : Class → ℕ → Marks
separator class i = cond (i == 0) [] (a_sign class)

-- pieces from a place on, each with the sign before it
abbrev pub from_place : Class → ℕ → List Marks → Marks
from_place class i ps = cond (i == 0) (between_signs class ps) (behind_signs class ps)

-- the `-` of a negative number
abbrev pub minus_marks : ℤ → Marks
minus_marks (pos n) = []
minus_marks (negsuc n) = a_sign c.Minus

-- what kids gave, between two signs
abbrev pub enclosed_marks : Class → Class → List Kid → Marks
enclosed_marks opening closing kids =
    a_sign opening ++ (commas (marks_of kids) ++ a_sign closing)

-- an entry of a dictionary, by what its value gives
abbrev pub entry_of : Text → Value → Text × Kid
entry_of key v = (key, (v.head, value_marks v))

-- the ids are those of values that can be spelled
pub record CanPrint (vs : List Value) (ids : List ValueId) : Type 0 where
  pub known : AreKnown (length vs) ids
  pub spellable : AreSpellable (kids_at vs ids)
