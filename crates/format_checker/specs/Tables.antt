-- What the tables of a judgement know of what was shown.
--
--   flag t number             the number is in the set
--   holds shown thing         the thing was shown
--   Saw showings shown        these were shown, and no others
--   Notes showings old new    these were shown more
--
-- Inside: no public clause rests on this.
use Rattle.std.specs.Prelude.{◌≡◌, ℕ, Bool, false, List, [], ◌++◌, slice_index_or}
use Rattle.format_checker.specs.declared.shown.Flags.{Flags}
use Rattle.format_checker.specs.declared.shown.Shown.{Shown}
use Rattle.format_checker.specs.declared.shown.Thing.{Thing}
use Rattle.format_checker.specs.declared.shown.Thing.TheVariants as thing
use Rattle.format_checker.specs.Shown.{Showing, is_among, repeated_behind}

-- the number is in the set
abbrev pub flag : Flags → ℕ → Bool
flag t number = slice_index_or t.flags.items number false

-- the thing was shown
abbrev pub holds : Shown → Thing → Bool
holds s (thing.Operand i) = flag s.operands i
holds s (thing.Attr i) = flag s.attrs i
holds s (thing.Region i) = flag s.regions i
holds s (thing.Successor i) = flag s.successors i
holds s (thing.OperandTypes i) = flag s.operand_types i
holds s (thing.ResultTypes i) = flag s.result_types i
holds s thing.Dict = s.dict

-- these were shown, and no others
pub record Saw (shown : List Showing) (s : Shown) : Type 0 where
  pub knows : (t : Thing) → holds s t ≡ is_among t shown
  pub first : s.repeated ≡ repeated_behind [] shown

-- these were shown behind those before
pub record Notes (more : List Showing) (old new : Shown) : Type 0 where
  pub sees : (before : List Showing) → Saw before old → Saw (before ++ more) new
