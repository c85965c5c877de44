-- What a search for an assignment is given, and what it gives.
--
-- Values are known by ids of a table of values, which is `values` throughout.
--
--   HasRoots values roots a     each root's variable has the root's value
--   AreRoots len body roots     the roots name variables of the body, and values of a table of len
--   assigned values ids         the values of variables, where their ids are given
--   AreKnownIds len ids         each id that is given is that of a value of a table of len
use Rattle.std.specs.Prelude.{◌≡◌, ℕ, ◌<◌, List, map, length, slice_index_or}
use Rattle.std.specs.List.{AllByRecursion}
use Rattle.std.specs.Option.{option_map}
use Rattle.std.specs.declared.option.Option.{Option}
use Rattle.std.specs.declared.option.Option.TheVariants.{Some, None}
use Rattle.attr_value.specs.declared.head.ValueId.{ValueId}
use Rattle.attr_value.specs.Ids.{at}
use Rattle.attr_value.specs.Values.{Value}
use Rattle.dialect_defs.specs.declared.body.Body.{Body}
use Rattle.dialect_defs.specs.declared.body.VarId.{VarId}
use Rattle.dialect_defs.specs.Assignments.{Assignment, Has}

-- each root's variable has the value of the root's id
abbrev pub HasRoots : List Value → List (VarId × ValueId) → Assignment → Type 0
HasRoots values roots a = AllByRecursion (λ root. Has a root.0 (at values root.1.0)) roots

-- the roots name variables of the body, and values of a table of so many
pub record AreRoots (len : ℕ) (body : Body) (roots : List (VarId × ValueId)) : Type 0 where
  pub vars : AllByRecursion (λ root. root.0.0 < length body.vars) roots
  pub ids : AllByRecursion (λ root. root.1.0 < len) roots

-- the values that the ids at variables stand for
abbrev pub assigned : List Value → List (Option ValueId) → Assignment
assigned values ids = map (option_map (λ id. at values id.0)) ids

-- each id that a variable has is that of a value of a table of so many
abbrev pub AreKnownIds : ℕ → List (Option ValueId) → Type 0
AreKnownIds len ids = (v : ℕ) (id : ValueId) → slice_index_or ids v None ≡ Some id → id.0 < len
