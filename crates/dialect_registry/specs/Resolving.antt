-- What the resolution of definitions knows while it goes on.
--
--   named_seen cs             the constraints that these borrowed ones are
--   constraints_of n          those of a body's names
--   region_seen r             what a borrowed region says
--   region_at n name          what the region of this name says
--   Names statements n        n is what the names of these statements stand for
--   HasOne P xs               it is so of one of some things
--   IsBad .. e, HaveBad .. cs, IsBadDef .. d, IsBadDialect .. d, IsBadFile .. f
--                             a constant among these means no value
--   Resolves .. ds r          the definitions ds are resolved to those of r
--
-- Inside: no public clause rests on this.
use Rattle.std.specs.Prelude.{◌≡◌, List, [], map, Contains, option_map}
use Rattle.std.specs.declared.option.Option.{Option}
use Rattle.attr_value.specs.Values.{Value}
use Rattle.dialect_defs.specs.declared.definition.TypeDef.{TypeDef}
use Rattle.dialect_defs.specs.Assignments.{Tests}
use Rattle.ir_lexer.specs.Spelling.{Text}
use Rattle.irdl_ops.specs.declared.raw.RawDef.{RawDef}
use Rattle.irdl_ops.specs.declared.raw.RawDefs.{RawDefs}
use Rattle.irdl_ops.specs.declared.raw.RawDialect.{RawDialect}
use Rattle.irdl_ops.specs.declared.raw.RawExpr.{RawExpr}
use Rattle.irdl_ops.specs.declared.raw.RawExpr.TheVariants.{Is}
use Rattle.irdl_ops.specs.declared.raw.RawStatement.{RawStatement}
use Rattle.dialect_registry.specs.declared.resolve.definition.Resolved.{Resolved}
use Rattle.dialect_registry.specs.declared.resolve.names.BodyNames.{BodyNames}
use Rattle.dialect_registry.specs.declared.resolve.names.NamedExpr.{NamedExpr}
use Rattle.dialect_registry.specs.declared.resolve.names.Region.{Region}
use Rattle.dialect_registry.specs.Resolved.{Named, RegionSays, constraints_in, region_named}
use Rattle.dialect_registry.specs.Resolved.{Located, AreEach, IsType, IsOp, types_among, ops_among}
use Rattle.dialect_registry.specs.Resolved.{IsMeaningless}
use Rattle.dialect_registry.specs.Scopes.{value_at}
use Rattle.dialect_registry.specs.Targets.{World}

-- ---- the names of a body

-- a borrowed constraint and its name
abbrev pub one_seen : NamedExpr → Named
one_seen c = record { name = c.name.now; expr = c.expr.now }

-- the constraints that these borrowed ones are
abbrev pub named_seen : List NamedExpr → List Named
named_seen cs = map one_seen cs

-- those of a body's names
abbrev pub constraints_of : BodyNames → List Named
constraints_of n = named_seen n.constraints.items

-- what a borrowed region says
abbrev pub region_seen : Region → RegionSays
region_seen r = record { args = r.args.now; size = r.size }

-- what the region of this name says
abbrev pub region_at : BodyNames → Text → Option RegionSays
region_at n name = option_map region_seen (value_at n.regions name)

-- n is what the names of these statements stand for
pub record Names (statements : List RawStatement) (n : BodyNames) : Type 0 where
  pub constraints : constraints_of n ≡ constraints_in statements
  pub regions : (name : Text) → region_at n name ≡ region_named statements name

-- ---- constants that mean nothing

-- it is so of one of some things
abbrev pub HasOne : {A : Type 0} → (A → Type 0) → List A → Type 0
HasOne {A} P xs = (x : A) × Contains xs x × P x

module _ (tests : Tests) (shapes : List TypeDef) where
  -- a constraint is a constant that means nothing
  abbrev pub IsBad : RawExpr → Type 0
  IsBad (Is cst) = IsMeaningless [] tests shapes cst
  IsBad _ = ⊥

  -- one of these constraints is
  abbrev pub HaveBad : List Named → Type 0
  HaveBad cs = HasOne (λ c. IsBad c.expr) cs

  -- one of a definition is
  abbrev pub IsBadDef : RawDef → Type 0
  IsBadDef def = HaveBad (constraints_in def.statements)

  -- one of a dialect is
  abbrev pub IsBadDialect : RawDialect → Type 0
  IsBadDialect dialect = HasOne IsBadDef dialect.defs

  -- one of a file is
  abbrev pub IsBadFile : RawDefs → Type 0
  IsBadFile file = HasOne IsBadDialect file.dialects

-- ---- definitions

-- the definitions are resolved to these
pub record Resolves (w : World) (tests : Tests) (shapes : List TypeDef) (values : List Value)
    (ds : List Located) (r : Resolved) : Type 0 where
  pub types : AreEach (IsType w tests shapes values) (types_among ds) r.types.items
  pub ops : AreEach (IsOp w tests shapes values) (ops_among ds) r.ops.items
