-- Definitions in a table, with those of each region chained from the last to the first.
--
--   binding_of ns row       the definition that a row stands for
--   bindings_in ns table    the definitions of a table
--   last_own ds r k         the last of the first k definitions that is in the region r
--   IsListed ns ds n table  the table has these definitions, of n regions
--
-- Inside: no public clause rests on this.
use Rattle.std.specs.Prelude.{
  ◌≡◌,
  ℕ,
  ◌<◌,
  suc,
  zero,
  Bool,
  false,
  ◌==◌,
  List,
  map,
  length,
  slice_get,
  if◌then◌else◌,
}
use Rattle.std.specs.declared.option.Option.{Option}
use Rattle.std.specs.declared.option.Option.TheVariants.{Some, None}
use Rattle.symbol_scopes.specs.declared.rows.BindingRow.{BindingRow}
use Rattle.symbol_scopes.specs.declared.rows.Listed.{Listed}
use Rattle.symbol_scopes.specs.ScopeMarks.{Name, Binding}
use Rattle.symbol_scopes.specs.Calls.{numbered_name}

-- the definition that a row stands for
abbrev pub binding_of : List Name → BindingRow → Binding
binding_of ns row =
    record { name = numbered_name ns row.name; region = row.region; number = row.number }

-- the definitions of a table
abbrev pub bindings_in : List Name → Listed → List Binding
bindings_in ns l = map (binding_of ns) l.rows.items

-- a definition is there, and in the region r
abbrev pub is_in_region : ℕ → Option Binding → Bool
is_in_region r None = false
is_in_region r (Some d) = d.region == r

-- the last of the first k definitions that is in the region
abbrev pub last_own : List Binding → ℕ → ℕ → Option ℕ
last_own ds r zero = None
last_own ds r (suc k) = if is_in_region r (slice_get ds k) then Some k else last_own ds r k

-- the table of these definitions, of so many regions
pub record IsListed (ns : List Name) (ds : List Binding) (regions : ℕ) (l : Listed) : Type 0 where
  pub bindings : bindings_in ns l ≡ ds
  pub named : (d : ℕ) (row : BindingRow) → slice_get l.rows.items d ≡ Some row
      → row.name < length ns
  pub next : (d : ℕ) (row : BindingRow) → slice_get l.rows.items d ≡ Some row
      → row.next ≡ last_own ds row.region d
  pub heads : (r : ℕ) → r < regions
      → slice_get l.heads.items r ≡ Some (last_own ds r (length ds))
  pub count : length l.heads.items ≡ regions
  pub known : (d : ℕ) (row : BindingRow) → slice_get l.rows.items d ≡ Some row
      → row.region < regions
