-- What a registry has.
--
--   Registered            operations, and types and attributes, each in order
--   place_of ops name     the place of the first operation of this full name
--   ArePlaced ops ids     each name has the place of its first operation
--   HasFullName name      the name of a dialect, a dot, and a name of its own
--   AreApart ops          no two operations have the same name
--   IsSound len count r   what calls that judge values and operations ask of definitions
use Rattle.std.specs.Prelude.{◌≡◌, ℕ, true, List, bytes_eq, position, slice_get}
use Rattle.std.specs.List.{AllByRecursion}
use Rattle.std.specs.declared.option.Option.{Option}
use Rattle.std.specs.declared.option.Option.TheVariants.{Some}
use Rattle.constraint_solver.specs.Definitions.{AreSoundDefs}
use Rattle.dialect_defs.specs.declared.definition.OpDef.{OpDef}
use Rattle.dialect_defs.specs.declared.definition.TypeDef.{TypeDef}
use Rattle.ir_lexer.specs.Spelling.{Text}
use Rattle.op_verifier.specs.Sound.{AreSoundOps}
use Rattle.value_meaning.specs.Distinct.{HaveDistinctNames}
use Rattle.dialect_registry.specs.NameShapes.{is_bare_id, is_dialect_name}
use Rattle.dialect_registry.specs.Resolved.{full_name}

-- operations, and types and attributes, each in order
pub record Registered : Type 0 where
  pub ops : List OpDef
  pub types : List TypeDef

-- the place of the first operation of this full name
abbrev pub place_of : List OpDef → Text → Option ℕ
place_of ops name = position (λ op. bytes_eq op.name name) ops

-- each name has the place of its first operation
abbrev pub ArePlaced : List OpDef → (Text → Option ℕ) → Type 0
ArePlaced ops ids = (name : Text) → ids name ≡ place_of ops name

-- the name of a dialect, which is a bare id without `$` and `.`, then a dot and a bare id
pub record HasFullName (name : Text) : Type 0 where
  pub dialect : Text
  pub own : Text
  pub is : name ≡ full_name dialect own
  pub dialect_shape : is_dialect_name dialect ≡ true
  pub own_shape : is_bare_id own ≡ true

-- no two operations have the same name
pub record AreApart (ops : List OpDef) : Type 0 where
  pub same : (i j : ℕ) (a b : OpDef) → slice_get ops i ≡ Some a → slice_get ops j ≡ Some b
      → a.name ≡ b.name → i ≡ j

-- Each definition is sound over a table of `len` values and `count` predicates, its name is a full
-- one, and no other of its sort has it.
pub record IsSound (len count : ℕ) (r : Registered) : Type 0 where
  pub types : AreSoundDefs len count r.types
  pub ops : AreSoundOps len count r.ops
  pub type_names : AllByRecursion (λ d. HasFullName d.name) r.types
  pub op_names : AllByRecursion (λ op. HasFullName op.name) r.ops
  pub types_apart : HaveDistinctNames r.types
  pub ops_apart : AreApart r.ops
