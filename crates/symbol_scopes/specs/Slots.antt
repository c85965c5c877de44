-- What each name means, region by region, as a walk goes over a text.
--
--   AreDistinctNames ns      no name stands twice
--   found_in ds n            the definition with the number n
--   slot_of ds round name    the number of what the name means in these regions, and the least
--                            number of a definition of it in any of them
--   Descend n round          the numbers of these regions fall, from below n
--   AreSlots ns ds round t   the table says what each name means in these regions, and keeps what
--                            it means outside each of them
--
-- Inside: no public clause rests on this.
use Rattle.std.specs.Prelude.{
  ◌≡◌,
  ℕ,
  ◌<◌,
  List,
  [],
  ◌∷◌,
  ◌++◌,
  map,
  length,
  slice_get,
  min,
  bytes_eq,
  false,
  get_or,
  ◌==◌,
  if◌then◌else◌,
  option_map,
}
use Rattle.std.specs.List.{AllByRecursion}
use Rattle.std.specs.declared.option.Option.{Option}
use Rattle.std.specs.declared.option.Option.TheVariants.{Some, None}
use Rattle.symbol_scopes.specs.declared.slots.FoundBinding.{FoundBinding}
use Rattle.symbol_scopes.specs.declared.slots.NameSlot.{NameSlot}
use Rattle.symbol_scopes.specs.declared.slots.NameSlots.{NameSlots}
use Rattle.symbol_scopes.specs.ScopeMarks.{Name, Binding}
use Rattle.symbol_scopes.specs.Meanings.{first_in, found_at, meant}

-- no name stands twice
abbrev pub AreDistinctNames : List Name → Type 0
AreDistinctNames [] = Unit {0}
AreDistinctNames (x ∷ xs) = AllByRecursion (λ y. bytes_eq x y ≡ false) xs × AreDistinctNames xs

-- the number of a definition, or n where there is none
abbrev pub at_or : ℕ → Option FoundBinding → ℕ
at_or n None = n
at_or n (Some f) = f.at

-- the least number of a definition of the name in these regions, or how many definitions there are
abbrev pub least_of : List Binding → List ℕ → Name → ℕ
least_of ds [] name = length ds
least_of ds (r ∷ round) name = min (at_or (length ds) (first_in ds r name)) (least_of ds round name)

-- the number of what a name means in these regions, and the least number of a definition of it
-- there
abbrev pub slot_of : List Binding → List ℕ → Name → NameSlot
slot_of ds round name =
    record { found = at_or (length ds) (meant ds round name); least = least_of ds round name }

-- the definition with the number n, if there are so many
abbrev pub found_in : List Binding → ℕ → Option FoundBinding
found_in ds n = option_map (found_at n) (slice_get ds n)

-- each region's number is less than that of the one inside it, and the first is less than n
abbrev pub Descend : ℕ → List ℕ → Type 0
Descend n [] = Unit {0}
Descend n (r ∷ round) = (r < n) × Descend r round

-- the slots say what each name means in these regions, and what it means outside each of them is
-- kept for each definition in it
pub record AreSlots (ns : List Name) (ds : List Binding) (round : List ℕ) (t : NameSlots)
    : Type 0 where
  pub slots : t.slots.items ≡ map (slot_of ds round) ns
  pub room : length t.saved.items ≡ length ds
  pub saved : (inner rest : List ℕ) (r : ℕ) → round ≡ inner ++ r ∷ rest
      → (d : ℕ) (s : Binding) → slice_get ds d ≡ Some s → s.region ≡ r
      → slice_get t.saved.items d ≡ Some (slot_of ds rest s.name)

-- what a name means outside the region r, by its slot in it and by what is kept
abbrev pub outer_found : Option FoundBinding → NameSlot → List NameSlot → ℕ → NameSlot
outer_found None slot saved r = slot
outer_found (Some f) slot saved r = if f.region == r then get_or saved f.at slot else slot

-- the same, of a slot
abbrev pub outer_of : List Binding → NameSlot → List NameSlot → ℕ → NameSlot
outer_of ds slot saved r = outer_found (found_in ds slot.found) slot saved r

-- a definition, if it is in the region r
abbrev pub in_own : Option FoundBinding → ℕ → Option FoundBinding
in_own None r = None
in_own (Some f) r = if f.region == r then Some f else None
