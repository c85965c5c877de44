-- The limits of a definition.
--
--   IsExtra limit places f   there is one more than the limit, and f stands at its place
--   variables statements     the places of the variables of a body, in order
use Rattle.std.specs.Prelude.{◌≡◌, ℕ, List, [], ◌∷◌, slice_get}
use Rattle.std.specs.List.{flat_map}
use Rattle.std.specs.declared.option.Option.TheVariants.{Some}
use Rattle.first_fault.specs.declared.fault.Fault.{Fault}
use Rattle.irdl_ops.specs.declared.raw.RawStatement.{RawStatement}
use Rattle.irdl_ops.specs.declared.raw.StatementKind.{StatementKind}
use Rattle.irdl_ops.specs.declared.raw.StatementKind.TheVariants.{Constraint}
use Rattle.dialect_registry.specs.declared.code.DefCode.TheVariants.{VarLimit}
use Rattle.dialect_registry.specs.Codes.{refusal}

-- the one behind so many stands at this place, and is one too many
abbrev pub IsExtra : ℕ → List ℕ → Fault → Type 0
IsExtra limit places f =
    (place : ℕ) × (slice_get places limit ≡ Some place) × (f ≡ refusal place VarLimit)

-- the place of the variable that a statement defines
abbrev pub variable_of : StatementKind → List ℕ
variable_of (Constraint name expr) = name.place ∷ []
variable_of _ = []

-- the places of the variables of a body
abbrev pub variables : List RawStatement → List ℕ
variables statements = flat_map (λ s. variable_of s.kind) statements
