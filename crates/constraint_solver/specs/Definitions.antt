-- What `good_head` and `is_instance` are given, and when a value is an instance of one definition.
--
--   HasSoundBody len count d                  a body is sound, and the parameters are in it
--   IsUnconstrained d                         any values are parameters of a definition, as many as
--                                             it has
--   IsSoundDef len count d                    one or the other
--   AreSoundDefs len count types              it is so of each definition
--   HasGoodKids values tests types v          the kids of a value are good
--   IsInstanceOf values tests d kids          some assignment of this definition gives its
--                                             parameters the kids
--   IsOnlyDefinition types is_type name d     the list has no definition of the kind and name but d
use Rattle.std.specs.Prelude.{◌≡◌, ◌⊎◌, ℕ, Bool, List, length, slice_get}
use Rattle.std.specs.List.{AllByRecursion}
use Rattle.std.specs.declared.option.Option.TheVariants.{Some}
use Rattle.attr_value.specs.Values.{Value, list_of}
use Rattle.dialect_defs.specs.declared.body.Constraint.{Constraint}
use Rattle.dialect_defs.specs.declared.body.Constraint.TheVariants.{Any}
use Rattle.dialect_defs.specs.declared.definition.TypeDef.{TypeDef}
use Rattle.dialect_defs.specs.declared.entry.Entry.{Entry}
use Rattle.dialect_defs.specs.Assignments.{Tests, Assignment, HaveEach, MeetsBody}
use Rattle.dialect_defs.specs.Bodies.{AreBelow, IsSoundBody}
use Rattle.dialect_defs.specs.Goodness.{Good, IsDefinedAs, vars_of}

-- the body of a definition is sound, and the parameters are values of variables of it
pub record HasSoundBody (len count : ℕ) (d : TypeDef) : Type 0 where
  pub body : IsSoundBody len count d.body
  pub params : AreBelow (length d.body.vars) (vars_of d.params)

-- The body of a definition has as many variables as there are parameters, each parameter is the
-- variable of its own number, from 0, and no variable keeps to anything.
pub record IsUnconstrained (d : TypeDef) : Type 0 where
  pub many : length d.body.vars ≡ length d.params
  pub own : (i : ℕ) (param : Entry) → slice_get d.params i ≡ Some param → param.var.0 ≡ i
  pub free : (v : ℕ) (c : Constraint) → slice_get d.body.vars v ≡ Some c → c ≡ Any

-- a definition that instances can be asked of: its body is sound, or keeps to nothing and may be
-- of any length
pub record IsSoundDef (len count : ℕ) (d : TypeDef) : Type 0 where
  pub either : HasSoundBody len count d ⊎ IsUnconstrained d

-- each definition of a list is sound
pub record AreSoundDefs (len count : ℕ) (types : List TypeDef) : Type 0 where
  pub each : AllByRecursion (IsSoundDef len count) types

-- each kid of a value is good
pub record HasGoodKids (values : List Value) (tests : Tests) (types : List TypeDef) (v : Value)
    : Type 0 where
  pub each : AllByRecursion (Good values tests types) (list_of v.kids)

-- some assignment that meets the definition's body gives the parameters these values
pub record IsInstanceOf (values : List Value) (tests : Tests) (d : TypeDef) (kids : List Value)
    : Type 0 where
  pub assignment : Assignment
  pub meets : MeetsBody values tests d.body assignment
  pub params : HaveEach assignment (vars_of d.params) kids

-- d is a definition of this kind and full name, and each of the list that has these is d
pub record IsOnlyDefinition (types : List TypeDef) (is_type : Bool) (name : List ℕ)
    (d : TypeDef) : Type 0 where
  pub defined : IsDefinedAs types is_type name d
  pub only : (e : TypeDef) → IsDefinedAs types is_type name e → e ≡ d
