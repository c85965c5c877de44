-- Values that are asked of variables, one after the other. For each variable there is a slot, which
-- has the id of the value that was asked, if one was; `assigned` is the map of these values.
--
--   Slots                              for each variable the id that is asked of it, if one is
--   Rest values old now Q R            what was asked since, and R, is the same as Q
--   Asks values old new Q              what was asked since is Q
--   Refuses values old Q               no map above old has Q
--   Decides values old new taken Q     an answer says whether Q can be had
--   Asked old new taken Q              the same of what is wanted, whose table stays
--
-- Inside: no public clause rests on this.
use Rattle.std.specs.Prelude.{◌≡◌, Bool, false, IsTrue, List, length}
use Rattle.std.specs.declared.option.Option.{Option}
use Rattle.attr_value.specs.declared.head.ValueId.{ValueId}
use Rattle.attr_value.specs.Values.{Value}
use Rattle.constraint_solver.specs.Roots.{assigned}
use Rattle.dialect_defs.specs.Assignments.{Assignment, IsWithin}
use Rattle.op_verifier.specs.declared.wanted.Wanted.{Wanted}

-- for each variable the id of the value that is asked of it, if one is
abbrev pub Slots : Type 0
Slots = List (Option ValueId)

-- A map has what is asked now, and R, exactly where it has what was asked at first, and Q. So R is
-- what is left to ask of Q.
pub record Rest (values : List Value) (old now : Slots) (Q R : Assignment → Type 0) : Type 0 where
  pub size : length now ≡ length old
  pub down : (a : Assignment) → IsWithin (assigned values old) a → Q a
      → IsWithin (assigned values now) a × R a
  pub up : (a : Assignment) → IsWithin (assigned values now) a → R a
      → IsWithin (assigned values old) a × Q a

-- nothing is left to ask of Q
abbrev pub Asks : List Value → Slots → Slots → (Assignment → Type 0) → Type 0
Asks values old new Q = Rest values old new Q (λ a. Unit {0})

-- no map that has what was asked has Q
pub record Refuses (values : List Value) (old : Slots) (Q : Assignment → Type 0) : Type 0 where
  pub none : (a : Assignment) → IsWithin (assigned values old) a → Q a → ⊥

-- where the answer is true, what was asked since is Q; where it is false, no map above old has Q
pub record Decides (values : List Value) (old new : Slots) (taken : Bool)
    (Q : Assignment → Type 0) : Type 0 where
  pub asks : IsTrue taken → Asks values old new Q
  pub refuses : taken ≡ false → Refuses values old Q

-- a call that asks Q keeps the table, and its answer says whether Q can be had
pub record Asked (old new : Wanted) (taken : Bool) (Q : Assignment → Type 0) : Type 0 where
  pub same : new.u.now ≡ old.u.now
  pub decides : Decides old.u.now old.slots.items new.slots.items taken Q
