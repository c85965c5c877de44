-- What the judgement of a tree shows of it, and what it goes by.
--
--   Ground                 what a tree is judged by: a table of values, in which ids of definitions
--                          and aliases are looked up, predicates, definitions, and aliases
--   Basis, with_table b table  the same apart from the table, and with it
--   values_at table ids    the values of aliases, by the ids that stand for them
--   CanJudge len b         definitions and aliases name values of a table of so many
--   IsReady b table        and aliases have good values
--   ByEach b now ..        it is so by each table that is ready
--   Judges g n v ms .. j   j is the good value and the first fault of a tree that spells v and has
--                          the marks ms, at nesting n
--   IsJudged g n s new j   it is so of a tree of which s is seen
--   AreJudged ..           k is that of some trees
--   JudgesKids ..          the same of kids, whose values are good together or not at all
--   IsOnly k j             j is that of the only one of some trees
--
-- Inside: no public clause rests on this.
use Rattle.std.specs.Prelude.{◌≡◌, ◌<◌, ◌≤◌, ℕ, ◌+◌, min, Bool, true, false}
use Rattle.std.specs.Prelude.{List, [], ◌∷◌, map, length}
use Rattle.std.specs.Prelude.{IfSome, IfNone, option_map}
use Rattle.std.specs.List.{AllByRecursion, flat_map}
use Rattle.std.specs.declared.option.Option.{Option}
use Rattle.std.specs.declared.option.Option.TheVariants.{Some, None}
use Rattle.attr_value.specs.declared.head.Head.{Head}
use Rattle.attr_value.specs.declared.head.Head.TheVariants as h
use Rattle.attr_value.specs.declared.head.ValueId.{ValueId}
use Rattle.attr_value.specs.declared.kind.IntKind.{IntKind}
use Rattle.attr_value.specs.declared.head.TheConstants.{DEPTH_LIMIT}
use Rattle.attr_value.specs.Heads.{IsType, OwnRule, is_made_of_types}
use Rattle.attr_value.specs.Ids.{at, kids_at, AreKnown}
use Rattle.attr_value.specs.Values.{Value, depth, list_of}
use Rattle.constraint_solver.specs.Definitions.{AreSoundDefs}
use Rattle.constraint_solver.specs.Grown.{Extends}
use Rattle.generic_syntax.specs.declared.parse.TheConstants.{TOO_DEEP}
use Rattle.ir_lexer.specs.Spelling.{Text}
use Rattle.dialect_defs.specs.declared.definition.TypeDef.{TypeDef}
use Rattle.dialect_defs.specs.Assignments.{Tests}
use Rattle.dialect_defs.specs.Goodness.{Good, IsDefined}
use Rattle.first_fault.specs.Firsts.{IsFirst}
use Rattle.value_meaning.specs.declared.judged.Judged.{Judged}
use Rattle.value_meaning.specs.declared.judged.Kids.{Kids}
use Rattle.value_meaning.specs.AliasTable.{AliasIds}
use Rattle.value_meaning.specs.Faults.{HasGood, HaveGood, IsFaultAmong}
use Rattle.value_meaning.specs.Meaning.{Aliases, Mark, Seen}

-- what a tree is judged by, apart from its aliases
pub record Ground : Type 0 where
  pub table : List Value
  pub tests : Tests
  pub types : List TypeDef

-- a value is good by this ground
abbrev pub IsGood : Ground → Value → Type 0
IsGood g = Good g.table g.tests g.types

-- a value nests no deeper than there is room for at a nesting
abbrev pub Fits : ℕ → Value → Type 0
Fits n v = depth v + n ≤ DEPTH_LIMIT + 1

-- a value that is good and for which there is room
pub record IsRight (g : Ground) (n : ℕ) (v : Value) : Type 0 where
  pub good : IsGood g v
  pub fits : Fits n v

-- the id is that of the good value that is spelled
pub record IsIdOf (g : Ground) (spelled : Option Value) (new : List Value) (id : ValueId)
    : Type 0 where
  pub known : id.0 < length new
  pub spells : spelled ≡ Some (at new id.0)
  pub good : IsGood g (at new id.0)

-- where there is no fault, what is spelled is right
pub record HasRight (g : Ground) (n : ℕ) (spelled : Option Value) : Type 0 where
  pub value : Value
  pub spells : spelled ≡ Some value
  pub right : IsRight g n value

-- what is spelled is no integer type, or a good one
abbrev pub IsNoBadInteger : Ground → Option Value → Type 0
IsNoBadInteger g spelled =
    (v : Value) (kind : IntKind) → spelled ≡ Some v → v.head ≡ h.Int kind → IsGood g v

-- j is the good value and the first fault
pub record Judges (g : Ground) (n : ℕ) (spelled : Option Value) (ms : List Mark)
    (new : List Value) (j : Judged) : Type 0 where
  pub some : IfSome j.value (IsIdOf g spelled new)
  pub none : IfNone j.value (HasGood g.table g.tests g.types spelled → ⊥)
  pub first : IsFirst (IsFaultAmong g.table g.tests g.types ms) j.first
  pub right : j.first ≡ None → n ≤ DEPTH_LIMIT → HasRight g n spelled
  pub integer : IsNoBadInteger g spelled

-- j is that of a tree of which this is seen, which stands at nesting n: without a fault it is right
pub record IsJudged (g : Ground) (n : ℕ) (s : Seen) (new : List Value) (j : Judged) : Type 0 where
  pub judges : Judges g n s.value (s.marks n) new j
  pub right : j.first ≡ None → HasRight g n s.value

-- ty is that of the type behind a number, of which type is seen, where one stands there
abbrev pub IsTypeJudged : Ground → ℕ → Option Seen → List Value → Option Judged → Type 0
IsTypeJudged g n None new None = Unit {0}
IsTypeJudged g n (Some type) new (Some ty) = IsJudged g n type new ty
IsTypeJudged g n None new (Some ty) = ⊥
IsTypeJudged g n (Some type) new None = ⊥

-- the ids are those of the good values that are spelled
pub record AreIdsOf (g : Ground) (spelled : List (Option Value)) (new : List Value)
    (ids : List ValueId) : Type 0 where
  pub known : AreKnown (length new) ids
  pub spell : spelled ≡ map Some (list_of (kids_at new ids))
  pub good : AllByRecursion (IsGood g) (list_of (kids_at new ids))

-- where there is no fault, all that is spelled is right
pub record HaveRight (g : Ground) (n : ℕ) (spelled : List (Option Value)) : Type 0 where
  pub values_are : List Value
  pub spell : spelled ≡ map Some values_are
  pub right : AllByRecursion (IsRight g n) values_are

-- k holds the good values, where all are good, and the first fault
pub record JudgesKids (g : Ground) (n : ℕ) (spelled : List (Option Value)) (ms : List Mark)
    (new : List Value) (k : Kids) : Type 0 where
  pub some : k.all_good ≡ true → AreIdsOf g spelled new k.ids.items
  pub none : k.all_good ≡ false → HaveGood g.table g.tests g.types spelled → ⊥
  pub first : IsFirst (IsFaultAmong g.table g.tests g.types ms) k.first
  pub right : k.first ≡ None → HaveRight g n spelled

-- k is that of trees of which this is seen, which stand at nesting n
abbrev pub AreJudged : Ground → ℕ → List Seen → List Value → Kids → Type 0
AreJudged g n ss new k =
    JudgesKids g n (map (λ s. s.value) ss) (flat_map (λ s. s.marks n) ss) new k

-- j is that of the only one of some trees
abbrev pub IsOnly : Kids → Judged → Type 0
IsOnly k j = (g : Ground) (n : ℕ) (s : Seen) (new : List Value) → AreJudged g n (s ∷ []) new k
    → IsNoBadInteger g s.value → IsJudged g n s new j

-- ---- heads

-- values with this head are no integer types
abbrev pub IsOther : Head → Type 0
IsOther head = (kind : IntKind) → head ≡ h.Int kind → ⊥

-- a value of this head and these kids keeps to its head's rule and to dialects' definitions
pub record Keeps (g : Ground) (head : Head) (kids : List Value) : Type 0 where
  pub rule : OwnRule head kids
  pub defined : IsDefined g.table g.tests g.types head kids

-- values with this head and so many kids are made of types, and keep to their rules where these are
pub record IsOfTypes (g : Ground) (head : Head) (count : ℕ) : Type 0 where
  pub made : is_made_of_types head ≡ true
  pub keeps : (kids : List Value) → length kids ≡ count → AllByRecursion IsType kids
      → Keeps g head kids

-- ---- what trees are judged by

-- predicates and how many there are, definitions, and aliases
pub record Basis : Type 0 where
  pub tests : Tests
  pub count : ℕ
  pub types : List TypeDef
  pub ids : AliasIds

-- of these
abbrev pub basis : Tests → ℕ → List TypeDef → AliasIds → Basis
basis tests count types ids = record { tests = tests; count = count; types = types; ids = ids }

-- with a table of values, in which ids are looked up
abbrev pub with_table : Basis → List Value → Ground
with_table b table = record { table = table; tests = b.tests; types = b.types }

-- the values of aliases, by their ids
abbrev pub values_at : List Value → AliasIds → Aliases
values_at table ids is_type name = option_map (λ id. at table id.0) (ids is_type name)

-- definitions and aliases name values of a table of so many, and predicates that are there
pub record CanJudge (len : ℕ) (b : Basis) : Type 0 where
  pub defs : AreSoundDefs len b.count b.types
  pub known : (is_type : Bool) (name : Text) (id : ValueId) → b.ids is_type name ≡ Some id
      → id.0 < len

-- and aliases have good values
pub record IsReady (b : Basis) (table : List Value) : Type 0 where
  pub can : CanJudge (length table) b
  pub good : (is_type : Bool) (name : Text) (id : ValueId) → b.ids is_type name ≡ Some id
      → IsGood (with_table b table) (at table id.0)

-- nesting, as it is counted: no further than where it is too deep
abbrev pub counted : ℕ → ℕ
counted n = min n TOO_DEEP

-- It is so by each table that is ready and of which the present one is a longer one, at each
-- nesting that is counted so.
abbrev pub ByEach : Basis → List Value → ℕ → (Ground → ℕ → Aliases → Type 0) → Type 0
ByEach b now nesting P = (table : List Value) (n : ℕ) → IsReady b table → Extends table now
    → 1 ≤ n → nesting ≡ counted n → P (with_table b table) n (values_at table b.ids)

-- k is that of trees that spell these and have these marks, by a table that is ready and of which
-- the present one is a longer one
pub record IsPart (b : Basis) (table now : List Value) (n : ℕ) (spelled : List (Option Value))
    (ms : List Mark) (k : Kids) : Type 0 where
  pub ready : IsReady b table
  pub grown : Extends table now
  pub kids : JudgesKids (with_table b table) n spelled ms now k
