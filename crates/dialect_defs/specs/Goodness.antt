-- Which values are good: they keep to the rules of their heads and to their dialects' definitions.
--
--   depth_limit                         how deep a value may nest
--   IsDefinedAs types is_type name d    d is a definition of this kind and name
--   vars_of entries                     the variables of some entries
--   IsInstance .. kids                  some assignment of a definition gives its parameters the
--                                       kids
--   IsDefined .. head kids              it is so of each head that is a dialect's
--   IsGoodNode .. head kids             a value of this head and these kids keeps to its own rules
--   AreGoodNodes .. kids                all values of a list do, and all in them
--   Good values tests types v           v and all values in it do, and v nests at most 64 deep
use Rattle.std.specs.Prelude.{◌≡◌, ℕ, ◌≤◌, Bool, List, map, Contains}
use Rattle.attr_value.specs.declared.head.TheConstants.{DEPTH_LIMIT}
use Rattle.attr_value.specs.declared.head.Head.{Head}
use Rattle.attr_value.specs.declared.head.Head.TheVariants as h
use Rattle.attr_value.specs.Heads.{OwnRule}
use Rattle.attr_value.specs.Values.{Value, Values, none, more, list_of, depth}
use Rattle.dialect_defs.specs.declared.body.VarId.{VarId}
use Rattle.dialect_defs.specs.declared.definition.TypeDef.{TypeDef}
use Rattle.dialect_defs.specs.declared.entry.Entry.{Entry}
use Rattle.dialect_defs.specs.Assignments.{Tests, Assignment, HaveEach, MeetsBody}

-- a definition of this kind and full name
pub record IsDefinedAs (types : List TypeDef) (is_type : Bool) (name : List ℕ) (d : TypeDef)
    : Type 0 where
  pub listed : Contains types d
  pub kind : d.is_type ≡ is_type
  pub named : d.name ≡ name

-- the variables of some entries
abbrev pub vars_of : List Entry → List VarId
vars_of entries = map (λ entry. entry.var) entries

-- some assignment that meets a definition's body gives the parameters these values
pub record IsInstance (values : List Value) (tests : Tests) (types : List TypeDef)
    (is_type : Bool) (name : List ℕ) (kids : List Value) : Type 0 where
  pub definition : TypeDef
  pub defined : IsDefinedAs types is_type name definition
  pub assignment : Assignment
  pub meets : MeetsBody values tests definition.body assignment
  pub params : HaveEach assignment (vars_of definition.params) kids

-- the head of a dialect's value is an instance of a definition; other heads need none
abbrev pub IsDefined : List Value → Tests → List TypeDef → Head → List Value → Type 0
IsDefined values tests types (h.Dialect is_type name) kids =
    IsInstance values tests types is_type name kids
IsDefined values tests types _ kids = Unit {0}

-- a value of this head and these kids keeps to its own rules
pub record IsGoodNode (values : List Value) (tests : Tests) (types : List TypeDef)
    (head : Head) (kids : List Value) : Type 0 where
  pub rule : OwnRule head kids
  pub defined : IsDefined values tests types head kids

-- each value of a list, and each that stands in one, keeps to its own rules
abbrev pub AreGoodNodes : List Value → Tests → List TypeDef → Values → Type 0
AreGoodNodes values tests types none = Unit {0}
AreGoodNodes values tests types (more head kids rest) =
    IsGoodNode values tests types head (list_of kids)
    × AreGoodNodes values tests types kids × AreGoodNodes values tests types rest

-- a value that keeps to all rules
pub record Good (values : List Value) (tests : Tests) (types : List TypeDef) (v : Value)
    : Type 0 where
  pub shallow : depth v ≤ DEPTH_LIMIT
  pub node : IsGoodNode values tests types v.head (list_of v.kids)
  pub kids : AreGoodNodes values tests types v.kids
