-- What names mean, by the definitions of the whole text and the regions that are open where a name
-- is used.
--
-- A use of a value name means the first definition of the name in the innermost region round it
-- that defines it, wherever in that region it stands: before the use or behind it. A successor
-- means the first label of its name in its own region alone.
--
--   FoundBinding           a definition that was found: its number, its region, and its own number
--   first_in ds r name     the first definition of the name in the region r
--   meant ds round name    what the name means where these regions are open, the innermost first
--   value_meanings ms      what each use means, in the order of the text: a definition's number and
--                          the number in its pack
--   block_meanings ms      what each successor means: the number of a block in its own region
use Rattle.std.specs.Prelude.{
  ℕ,
  Bool,
  ◌&&◌,
  ◌||◌,
  ◌==◌,
  nat_lt,
  false,
  List,
  [],
  ◌∷◌,
  bytes_eq,
  if◌then◌else◌,
  suc,
}
use Rattle.std.specs.declared.option.Option.{Option}
use Rattle.std.specs.declared.option.Option.TheVariants.{Some, None}
use Rattle.symbol_scopes.specs.declared.slots.FoundBinding.{FoundBinding}
use Rattle.symbol_scopes.specs.declared.call.NameKind.TheVariants.{Values, Labels}
use Rattle.symbol_scopes.specs.ScopeMarks.{Name, ScopeMark, Binding, own, along, top, bindings}
use Rattle.symbol_scopes.specs.ScopeMarks.{uses, leads_to}

-- a definition is of the name, and in the region
abbrev pub is_of : ℕ → Name → Binding → Bool
is_of r name d = (d.region == r) && bytes_eq d.name name

-- the definition with the number i, as it is found
abbrev pub found_at : ℕ → Binding → FoundBinding
found_at i d = record { at = i; region = d.region; number = d.number }

-- the first definition of the name in the region r, where the first of these has the number i
abbrev pub first_from : ℕ → List Binding → ℕ → Name → Option FoundBinding
first_from i [] r name = None
first_from i (d ∷ ds) r name =
    if is_of r name d then Some (found_at i d) else first_from (suc i) ds r name

-- the first definition of the name in the region r
abbrev pub first_in : List Binding → ℕ → Name → Option FoundBinding
first_in ds r name = first_from 0 ds r name

-- the first of two that may be missing that is there
abbrev pub or_else : {A : Type 0} → Option A → Option A → Option A
or_else (Some x) y = Some x
or_else None y = y

-- the first definition in the innermost of these regions that defines the name
abbrev pub meant : List Binding → List ℕ → Name → Option FoundBinding
meant ds [] name = None
meant ds (r ∷ round) name = or_else (first_in ds r name) (meant ds round name)

-- the definition is there, and stands before that with the number i
abbrev pub is_before : Option FoundBinding → ℕ → Bool
is_before None i = false
is_before (Some f) i = nat_lt f.at i

-- one of the regions has a definition of the name before that with the number i
abbrev pub is_defined_before : List Binding → List ℕ → Name → ℕ → Bool
is_defined_before ds [] name i = false
is_defined_before ds (r ∷ round) name i =
    is_before (first_in ds r name) i || is_defined_before ds round name i

-- what a use means: a definition by its number, and the value with this number of its pack
abbrev pub use_of : ℕ → Option FoundBinding → Option (ℕ × ℕ)
use_of n None = None
use_of n (Some f) = Some (f.at, n)

-- what a successor means: the block with the label's number
abbrev pub block_of : Option FoundBinding → Option ℕ
block_of None = None
block_of (Some f) = Some f.number

-- what a mark means that is a use
abbrev pub value_meaning : List Binding → List ℕ → ScopeMark → List (Option (ℕ × ℕ))
value_meaning ds round (uses u) = use_of u.number (meant ds round u.name) ∷ []
value_meaning ds round _ = []

-- what a mark means that is a successor
abbrev pub block_meaning : List Binding → List ℕ → ScopeMark → List (Option ℕ)
block_meaning ls round (leads_to t) = block_of (first_in ls (own round) t.name) ∷ []
block_meaning ls round _ = []

-- what each use means, in the order of the text
abbrev pub value_meanings : List ScopeMark → List (Option (ℕ × ℕ))
value_meanings ms = along (value_meaning (bindings Values ms)) top ms

-- what each successor means, in the order of the text
abbrev pub block_meanings : List ScopeMark → List (Option ℕ)
block_meanings ms = along (block_meaning (bindings Labels ms)) top ms
