-- When a claim of a tree is wrong, and what the faults of a tree are.
--
-- A mention that nests too deep is a fault of the mention alone: whether parameters and dimensions
-- are right is asked wherever the parts have good values, and of no other parts.
--
--   Means .. c v         the tree c spells the value v, and v is good
--   HasGood .. o         o is a good value
--   IsNamed types ..     a definition has this kind and name
--   Breaks .. claim      the claim breaks the rule of this number
--   IsFaultOf .. m f     f is the fault of the mark m
--   IsFaultAmong .. ms   the faults of some marks
--   IsFault .. n c f     f is a fault of the tree c, which stands at nesting n
use Rattle.std.specs.Prelude.{◌≡◌, ◌<◌, ◌⊎◌, ℕ, ◌+◌, ◌-◌, Bool, false, List, map, Contains}
use Rattle.std.specs.List.{AllByRecursion}
use Rattle.std.specs.declared.option.Option.{Option}
use Rattle.std.specs.declared.option.Option.TheVariants.{Some, None}
use Rattle.attr_value.specs.declared.head.TheConstants.{DEPTH_LIMIT}
use Rattle.attr_value.specs.Heads.{IsType}
use Rattle.attr_value.specs.Values.{Value, depth}
use Rattle.dialect_defs.specs.declared.definition.TypeDef.{TypeDef}
use Rattle.dialect_defs.specs.Assignments.{Tests}
use Rattle.dialect_defs.specs.Goodness.{IsDefinedAs, IsInstance, Good}
use Rattle.first_fault.specs.declared.fault.Fault.{Fault}
use Rattle.generic_syntax.specs.declared.cst.ValueCst.{ValueCst}
use Rattle.ir_lexer.specs.Spelling.{Text}
use Rattle.value_meaning.specs.declared.code.TheConstants.{SYNTAX, NESTING, ALIAS_UNKNOWN}
use Rattle.value_meaning.specs.declared.code.TheConstants.{KEY_REPEATED, NAME_UNKNOWN, PARAMETERS}
use Rattle.value_meaning.specs.declared.code.TheConstants.{INT_RANGE}
use Rattle.value_meaning.specs.Meaning.{Aliases, Claim, Mark, value_of, marks}
use Rattle.value_meaning.specs.Meaning as claim
use Rattle.value_meaning.specs.Meaning.{stands, mentions, spells, counts, holds, measures, keys}
use Rattle.value_meaning.specs.Meaning.{names}
use Rattle.value_meaning.specs.Spelled.{number_head, dense_item, dim_of, all_some}

-- a definition has this kind and full name
pub record IsNamed (types : List TypeDef) (is_type : Bool) (name : Text) : Type 0 where
  pub definition : TypeDef
  pub defined : IsDefinedAs types is_type name definition

module _ (values : List Value) (tests : Tests) (types : List TypeDef) where
  -- o is a good value
  pub record HasGood (o : Option Value) : Type 0 where
    pub value : Value
    pub is : o ≡ Some value
    pub good : Good values tests types value

  -- each of these is a good value
  pub record HaveGood (os : List (Option Value)) : Type 0 where
    pub values_are : List Value
    pub are : os ≡ map Some values_are
    pub good : AllByRecursion (Good values tests types) values_are

  -- Parameters are those of no instance, though the name is defined and they are good.
  pub record HasWrongParameters (is_type : Bool) (name : Text) (args : List (Option Value))
      : Type 0 where
    pub named : IsNamed types is_type name
    pub parameters : HaveGood args
    pub wrong : IsInstance values tests types is_type name parameters.values_are → ⊥

  -- These are good, but not all of them are types.
  pub record AreNoTypes (kids : List (Option Value)) : Type 0 where
    pub kids_good : HaveGood kids
    pub wrong : AllByRecursion IsType kids_good.values_are → ⊥

  -- The claim breaks the rule of this number:
  --   a form isn't one of texts; or an attribute stands where a type is asked
  --   a value stands at nesting 65 or more
  --   an alias isn't there; or its value nests deeper than there is room for
  --   a number, or an item, may not be written at its type
  --   a dimension isn't right, though the element type is good
  --   a key stands before it
  --   a name isn't defined; or parameters are wrong
  abbrev pub Breaks : Claim → ℕ → Type 0
  Breaks (stands n) code = (code ≡ NESTING) × (DEPTH_LIMIT < n)
  Breaks (mentions n None) code = code ≡ ALIAS_UNKNOWN
  Breaks (mentions n (Some v)) code = (code ≡ NESTING) × (DEPTH_LIMIT < n - 1 + depth v)
  Breaks (spells b) code = (code ≡ SYNTAX) × (b ≡ false)
  Breaks (claim.types kids) code = (code ≡ SYNTAX) × AreNoTypes kids
  Breaks (counts negative digits type) code =
      (code ≡ INT_RANGE) × (number_head negative digits type ≡ None)
  Breaks (holds width item) code = (code ≡ INT_RANGE) × (dense_item width item ≡ None)
  Breaks (measures kind dims element) code =
      (code ≡ PARAMETERS) × HasGood element × (all_some (map (dim_of kind) dims) ≡ None)
  Breaks (keys before key) code = (code ≡ KEY_REPEATED) × Contains before key
  Breaks (names is_type name args) code =
      ((code ≡ NAME_UNKNOWN) × ¬ IsNamed types is_type name)
      ⊎ ((code ≡ PARAMETERS) × HasWrongParameters is_type name args)

  -- the fault of a mark, at its place
  pub record IsFaultOf (m : Mark) (f : Fault) : Type 0 where
    pub place : f.place ≡ m.place
    pub breaks : Breaks m.claim f.code

  -- the fault of one of these marks
  pub record IsFaultAmong (ms : List Mark) (f : Fault) : Type 0 where
    pub mark : Mark
    pub among : Contains ms mark
    pub is : IsFaultOf mark f

  module _ (aliases : Aliases) where
    -- a fault of a tree that stands at nesting n
    abbrev pub IsFault : ℕ → ValueCst → Fault → Type 0
    IsFault n c = IsFaultAmong (marks aliases n c)

    -- the tree spells this value, which is good
    pub record Means (c : ValueCst) (v : Value) : Type 0 where
      pub spells : value_of aliases c ≡ Some v
      pub good : Good values tests types v
