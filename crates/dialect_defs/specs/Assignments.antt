-- Which assignments of values to variables meet a body of constraints.
--
-- An assignment is a finite map from some variables of the body to values. Each variable that has
-- a value keeps to its own constraint; one that has none asks nothing. Constants are ids of a
-- table of values, which is `values` throughout, and predicates are numbers in a list of tests.
--
--   Tests                               what predicates say of values, by their numbers
--   Passes tests i x                    the predicate of the number i is true of the value x
--   Assignment                          a finite map from variables to values
--   Has a v x                           the variable v has the value x
--   HaveEach a vs xs                    the variables have these values, one by one
--   IsWithin a b                        each value of the map a is a value of the map b
--   IsOfRef base x                      the value x is of the kind that a definition names
--   Keeps values tests a c x            a variable of the constraint c may have the value x
--   MeetsBody values tests body a       each variable that has a value keeps to its constraint
use Rattle.std.specs.Prelude.{◌≡◌, ℕ, Bool, false, IsTrue, List, [], ◌∷◌, length, Contains}
use Rattle.std.specs.Prelude.{slice_get, slice_index_or}
use Rattle.std.specs.List.{AllByRecursion}
use Rattle.std.specs.declared.option.Option.{Option}
use Rattle.std.specs.declared.option.Option.TheVariants.{Some}
use Rattle.attr_value.specs.declared.head.Head.TheVariants as h
use Rattle.attr_value.specs.Bases.{IsOfBase}
use Rattle.attr_value.specs.Ids.{at}
use Rattle.attr_value.specs.Values.{Value, list_of}
use Rattle.dialect_defs.specs.declared.body.BaseRef.{BaseRef}
use Rattle.dialect_defs.specs.declared.body.BaseRef.TheVariants.{Builtin, Defined}
use Rattle.dialect_defs.specs.declared.body.Body.{Body}
use Rattle.dialect_defs.specs.declared.body.Constraint.{Constraint}
use Rattle.dialect_defs.specs.declared.body.Constraint.TheVariants.{Is, Any, Base, Parametric}
use Rattle.dialect_defs.specs.declared.body.Constraint.TheVariants.{AnyOf, AllOf, Native}
use Rattle.dialect_defs.specs.declared.body.VarId.{VarId}

-- what each predicate says of a value, by its number
abbrev pub Tests : Type 0
Tests = List (Value → Bool)

-- the predicate of this number is true of the value
abbrev pub Passes : Tests → ℕ → Value → Type 0
Passes tests i x = IsTrue (slice_index_or tests i (λ other. false) x)

-- the value of each variable, where it has one
abbrev pub Assignment : Type 0
Assignment = List (Option Value)

-- a variable has a value
abbrev pub Has : Assignment → VarId → Value → Type 0
Has a v x = slice_get a v.0 ≡ Some (Some x)

-- each value of the first map is a value of the second
abbrev pub IsWithin : Assignment → Assignment → Type 0
IsWithin a b = (v : VarId) (x : Value) → Has a v x → Has b v x

-- there are as many variables as values, and each has the one at its place
abbrev pub HaveEach : Assignment → List VarId → List Value → Type 0
HaveEach a [] [] = Unit {0}
HaveEach a (v ∷ vs) (x ∷ xs) = Has a v x × HaveEach a vs xs
HaveEach a [] (x ∷ xs) = ⊥
HaveEach a (v ∷ vs) [] = ⊥

-- a value is of the kind that a definition names
abbrev pub IsOfRef : BaseRef → Value → Type 0
IsOfRef (Builtin base) x = IsOfBase x.head base
IsOfRef (Defined is_type name) x = x.head ≡ h.Dialect is_type name

-- A variable of this constraint may have the value x. `any_of` wants one of its members to have
-- it, `all_of` each of them, and the parts of a parametric have the parameters.
abbrev pub Keeps : List Value → Tests → Assignment → Constraint → Value → Type 0
Keeps values tests a (Is id) x = x ≡ at values id.0
Keeps values tests a Any x = Unit {0}
Keeps values tests a (Base base) x = IsOfRef base x
Keeps values tests a (Parametric is_type name parts) x =
    (x.head ≡ h.Dialect is_type name) × HaveEach a parts (list_of x.kids)
Keeps values tests a (AnyOf members) x = (v : VarId) × Contains members v × Has a v x
Keeps values tests a (AllOf members) x = AllByRecursion (λ v. Has a v x) members
Keeps values tests a (Native i) x = Passes tests i x

-- the map is of the body's variables, and each that has a value keeps to its constraint
pub record MeetsBody (values : List Value) (tests : Tests) (body : Body) (a : Assignment)
    : Type 0 where
  pub size : length a ≡ length body.vars
  pub each : (v : VarId) (c : Constraint) (x : Value) → slice_get body.vars v.0 ≡ Some c
      → Has a v x → Keeps values tests a c x
