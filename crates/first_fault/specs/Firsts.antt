-- The first of the faults of a text.
--
-- A text is judged as a list of marks, the things that it says, in order. A rule finds at most one
-- fault of a mark, from the marks before it. Faults may be met in any order: the first of them is
-- the one at the least place, and at one place that of the rule with the lowest number.
--
--   comes_before a b        a is the earlier of two faults
--   earlier_of a b          the fault that comes first, of two that may be missing
--   NoLater f g             f comes first, or is g
--   IsFirst P first         first is the first of the faults of P, or none where P has none
--   Rule M                  what finds the fault of a mark, behind those before it
--   IsFaultBy rule ms f     f is what the rule finds of one of the marks
use Rattle.std.specs.Prelude.{◌≡◌, ◌<◌, ◌≤◌, ◌⊎◌, Bool, ◌&&◌, ◌||◌, ◌==◌, nat_lt, if◌then◌else◌}
use Rattle.std.specs.Prelude.{List, ◌∷◌, ◌++◌}
use Rattle.std.specs.declared.option.Option.{Option}
use Rattle.std.specs.declared.option.Option.TheVariants.{Some, None}
use Rattle.first_fault.specs.declared.fault.Fault.{Fault}

-- ---- two faults

-- the first fault has the lesser place, or the same place and the lesser number
abbrev pub comes_before : Fault → Fault → Bool
comes_before a b = nat_lt a.place b.place || ((a.place == b.place) && nat_lt a.code b.code)

-- the fault that comes first, of two that may be missing
abbrev pub earlier_of : Option Fault → Option Fault → Option Fault
earlier_of None b = b
earlier_of (Some a) None = Some a
earlier_of (Some a) (Some b) = if comes_before b a then Some b else Some a

-- ---- the first of many

-- f comes no later than g: its place is less, or it is the same and the number isn't greater
abbrev pub NoLater : Fault → Fault → Type 0
NoLater f g = (f.place < g.place) ⊎ ((f.place ≡ g.place) × (f.code ≤ g.code))

-- the first of the faults of P, or none where there is no fault
abbrev pub IsFirst : (Fault → Type 0) → Option Fault → Type 0
IsFirst P None = (f : Fault) → P f → ⊥
IsFirst P (Some f) = P f × ((g : Fault) → P g → NoLater f g)

-- ---- the faults of marks

-- the fault of a mark, behind those before it, where it has one
abbrev pub Rule : Type 0 → Type 0
Rule M = List M → M → Option Fault

-- the fault that a rule finds of one of the marks, behind those before it
pub record IsFaultBy {M : Type 0} (rule : Rule M) (ms : List M) (f : Fault) : Type 0 where
  pub before : List M
  pub mark : M
  pub after : List M
  pub cut : ms ≡ before ++ mark ∷ after
  pub is : rule before mark ≡ Some f
