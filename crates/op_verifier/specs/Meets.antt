-- When the operations of a module meet the definitions that they name.
--
--   MeetsNamed .. types site      an operation meets the definition that it names in a list, where
--                                 its operands have these types
--   NamesDef count site           it names one of so many definitions
--   IsJudgeable count len m site  besides, its operands are values of the module, and its
--                                 attributes have values of a table of len
--   CanJudge count len m          each operation of the module is such, and the types of the module
--                                 are in the table too
--   MeetsStored .. m site               it meets its definition with the types of its operands
--   AllMeet .. m                  each operation of the module does
--   IsFirstFault .. m id at       the operation of this id is the first that doesn't, and stands
--                                 at this place
--   SameFront, SameFronts         the same of one region's blocks, and of some regions
--   HasFronts o p                 two operations differ at most in the blocks behind the first ones
use Rattle.std.specs.Prelude.{◌≡◌, ℕ, ◌<◌, List, [], ◌∷◌, length, slice_get}
use Rattle.std.specs.List.{AllByRecursion}
use Rattle.std.specs.declared.option.Option.TheVariants.{Some}
use Rattle.attr_value.specs.declared.head.ValueId.{ValueId}
use Rattle.attr_value.specs.Ids.{AreKnown}
use Rattle.attr_value.specs.Values.{Value}
use Rattle.dialect_defs.specs.declared.definition.OpDef.{OpDef}
use Rattle.dialect_defs.specs.Assignments.{Tests}
use Rattle.dialect_defs.specs.Operations.{Operation, MeetsDefinition}
use Rattle.ir_store.specs.Modules.{types_in}
use Rattle.ir_store.specs.Named.{op_at}
use Rattle.ir_store.specs.Numbering.{ops_in}
use Rattle.ir_store.specs.Store.{Module}
use Rattle.ir_store.specs.declared.rows.OpId.{OpId}
use Rattle.op_verifier.specs.Seen.{Site, operation_seen, operand_types}

-- The definition is that at the place in the list which the operation names.
pub record MeetsNamed (values : List Value) (tests : Tests) (defs : List OpDef)
    (types : List ValueId) (site : Site) : Type 0 where
  pub definition : OpDef
  pub named : slice_get defs site.head.name.def ≡ Some definition
  pub meets : MeetsDefinition values tests definition (operation_seen values types site)

-- the operation names one of so many definitions
abbrev pub NamesDef : ℕ → Site → Type 0
NamesDef count site = site.head.name.def < count

-- It names one of so many definitions, its operands are values of the module, and its attributes
-- have values of a table of so many.
pub record IsJudgeable (count len : ℕ) (m : Module) (site : Site) : Type 0 where
  pub def : NamesDef count site
  pub operands : AllByRecursion (λ n. n < length (types_in m)) site.head.operands
  pub values : AreKnown len site.head.values

-- each operation of the module is such, and its types are in the table
pub record CanJudge (count len : ℕ) (m : Module) : Type 0 where
  pub types : AreKnown len (types_in m)
  pub ops : AllByRecursion (IsJudgeable count len m) (ops_in m)

-- the operation meets the definition that it names, with the types that its operands have
abbrev pub MeetsStored : List Value → Tests → List OpDef → Module → Site → Type 0
MeetsStored values tests defs m site = MeetsNamed values tests defs (operand_types m site) site

-- each operation of the module does
abbrev pub AllMeet : List Value → Tests → List OpDef → Module → Type 0
AllMeet values tests defs m = (id : OpId) (site : Site) → op_at m id ≡ Some site
    → MeetsStored values tests defs m site

-- It stands in the module, at this place of its text, and all before it meet.
pub record IsFirstFault (values : List Value) (tests : Tests) (defs : List OpDef) (m : Module)
    (id : OpId) (at : ℕ) : Type 0 where
  pub site : Site
  pub stands : op_at m id ≡ Some site
  pub place : at ≡ site.head.name.place
  pub fails : MeetsStored values tests defs m site → ⊥
  pub before : (other : OpId) (x : Site) → other.0 < id.0 → op_at m other ≡ Some x
      → MeetsStored values tests defs m x

-- as many blocks, and the same arguments of the first
abbrev pub SameFront : List (List Value) → List (List Value) → Type 0
SameFront [] [] = Unit {0}
SameFront (args ∷ blocks) (others ∷ more) = (args ≡ others) × (length blocks ≡ length more)
SameFront [] (others ∷ more) = ⊥
SameFront (args ∷ blocks) [] = ⊥

-- there are as many regions, and those at one place have the same front
abbrev pub SameFronts : List (List (List Value)) → List (List (List Value)) → Type 0
SameFronts [] [] = Unit {0}
SameFronts (blocks ∷ regions) (more ∷ others) = SameFront blocks more × SameFronts regions others
SameFronts [] (more ∷ others) = ⊥
SameFronts (blocks ∷ regions) [] = ⊥

-- All but regions is the same, and of each region the number of blocks and the first one's
-- arguments.
pub record HasFronts (o p : Operation) : Type 0 where
  pub operands : o.operands ≡ p.operands
  pub results : o.results ≡ p.results
  pub successors : o.successors ≡ p.successors
  pub attrs : o.attrs ≡ p.attrs
  pub regions : SameFronts o.regions p.regions
