-- What is found of the trees of values that the tree of an operation has.
--
-- Throughout, `loaded` is what is defined, `al` are the values of aliases, and `now` is the table
-- of which ids are.
--
--   basis_of property env     the predicates, definitions and aliases of these surroundings
--   IsTreeFault loaded al tree f     f is a fault of the tree
--   IsValue .. tree now id           the tree has no fault, and the id is that of its good value
--   IsFound .. tree now found        so it is, or the first fault is found
--   AreValues .. trees now ids       the ids are those of the good values that the trees spell
--   AreFound .. trees now ids first  first is the first fault of all; where none has one, the ids
--                                    are those of their values
--   AreEach .. blocks now args       so it is of lists of trees, each with the ids at its place
--   AreArgsFound .. blocks now args  the same of the arguments of blocks
--
-- Inside: no public clause rests on this.
use Rattle.std.specs.Prelude.{◌≡◌, ◌<◌, ℕ, Bool, List, [], ◌∷◌, length, map}
use Rattle.std.specs.List.{AllByRecursion}
use Rattle.std.specs.declared.option.Option.{Option}
use Rattle.std.specs.declared.option.Option.TheVariants.{Some, None}
use Rattle.std.specs.declared.result.Result.{Result}
use Rattle.std.specs.declared.result.Result.TheVariants.{Ok, Err}
use Rattle.attr_value.specs.declared.head.ValueId.{ValueId}
use Rattle.attr_value.specs.Ids.{at, AreKnown}
use Rattle.attr_value.specs.Values.{Value}
use Rattle.dialect_registry.specs.Parts.{Among}
use Rattle.first_fault.specs.declared.fault.Fault.{Fault}
use Rattle.first_fault.specs.Firsts.{IsFirst}
use Rattle.generic_syntax.specs.declared.cst.ValueCst.{ValueCst}
use Rattle.module_meaning.specs.WholeModules.{Loaded, IsGood}
use Rattle.native_predicate.specs.Lists.{tests, count}
use Rattle.op_judgement.specs.declared.args.Args.{Args}
use Rattle.op_judgement.specs.declared.env.Env.{Env}
use Rattle.op_judgement.specs.Grounds.{Basis, basis}
use Rattle.op_verifier.specs.Seen.{values_at}
use Rattle.value_meaning.specs.Faults.{IsFault}
use Rattle.value_meaning.specs.Meaning.{Aliases, value_of}

module _ {I : Type 0} {Self : I → Type 0} where
  -- the predicates, of which a trait's ghost member says the meanings, definitions and aliases
  abbrev pub basis_of : ((i : I) × Self i → Value → Bool) → Env I Self → Basis
  basis_of property env =
      basis (tests property env.natives.now) (count env.natives.now) env.registry.now
      env.aliases.now

-- a fault of a tree that stands by itself
abbrev pub IsTreeFault : Loaded → Aliases → ValueCst → Fault → Type 0
IsTreeFault loaded al tree = IsFault loaded.values loaded.tests loaded.types al 1 tree

module _ (loaded : Loaded) (al : Aliases) where
  -- ---- one tree

  -- the tree has no fault, and the id is that of the good value that it spells
  pub record IsValue (tree : ValueCst) (now : List Value) (id : ValueId) : Type 0 where
    pub known : id.0 < length now
    pub spells : value_of al tree ≡ Some (at now id.0)
    pub good : IsGood loaded (at now id.0)
    pub right : (f : Fault) → IsTreeFault loaded al tree f → ⊥

  -- the id of its value, or its first fault
  abbrev pub IsFound : ValueCst → List Value → Result ValueId Fault → Type 0
  IsFound tree now (Ok id) = IsValue tree now id
  IsFound tree now (Err f) = IsFirst (IsTreeFault loaded al tree) (Some f)

  -- ---- some trees

  -- the ids are those of the good values that the trees spell
  pub record AreValues (trees : List ValueCst) (now : List Value) (ids : List ValueId)
      : Type 0 where
    pub known : AreKnown (length now) ids
    pub spell : map (value_of al) trees ≡ map Some (values_at now ids)
    pub good : AllByRecursion (IsGood loaded) (values_at now ids)

  -- the first fault, and where there is none the ids
  pub record AreFound (trees : List ValueCst) (now : List Value) (ids : List ValueId)
      (first : Option Fault) : Type 0 where
    pub first_is : IsFirst (Among (IsTreeFault loaded al) trees) first
    pub values : first ≡ None → AreValues trees now ids

  -- ---- the arguments of blocks

  -- the ids at each place are those of the trees there
  abbrev pub AreEach : List (List ValueCst) → List Value → List (List ValueId) → Type 0
  AreEach [] now [] = Unit {0}
  AreEach (trees ∷ blocks) now (ids ∷ args) = AreValues trees now ids × AreEach blocks now args
  AreEach [] now (ids ∷ args) = ⊥
  AreEach (trees ∷ blocks) now [] = ⊥

  -- the first fault of all, and where there is none the ids
  pub record AreArgsFound (blocks : List (List ValueCst)) (now : List Value) (args : Args)
      : Type 0 where
    pub first_is : IsFirst (Among (Among (IsTreeFault loaded al)) blocks) args.first
    pub values : args.first ≡ None → AreEach blocks now args.types
