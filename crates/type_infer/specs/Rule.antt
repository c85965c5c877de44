-- The test of the rule that hidden types can be found: what its steps say.
--
--   HasOrderedBody d            the body is of at most 64 variables, each of which names earlier
--                               ones alone, and all that the definition names are in it
--   ShowsBy operands results i  the type of an entry is shown, by a list for each side
--   IsBefore i j                one entry stands before another: operands before results
--   IsFirstUntold d shows i     the first entry whose type can't be found
--   Follows c known             the value of a variable of c follows from those of others
--   IsClosed d forced known     nothing more is determined
use Rattle.std.specs.Prelude.{◌≡◌, ◌⊎◌, ℕ, ◌<◌, ◌≤◌, Bool, true, false, List, length, slice_get, slice_index_or, Contains}
use Rattle.std.specs.List.{AllByRecursion}
use Rattle.std.specs.declared.option.Option.TheVariants.{Some}
use Rattle.dialect_defs.specs.declared.body.Constraint.{Constraint}
use Rattle.dialect_defs.specs.declared.body.Constraint.TheVariants.{Is, Parametric}
use Rattle.dialect_defs.specs.declared.body.Constraint.TheVariants.{AllOf}
use Rattle.dialect_defs.specs.declared.body.VarId.{VarId}
use Rattle.dialect_defs.specs.declared.definition.OpDef.{OpDef}
use Rattle.dialect_defs.specs.declared.entry.Arity.TheVariants.{Single}
use Rattle.dialect_defs.specs.declared.entry.AttrEntry.{AttrEntry}
use Rattle.dialect_defs.specs.declared.entry.Entry.{Entry}
use Rattle.dialect_defs.specs.Bodies.{AreBelow}
use Rattle.dialect_defs.specs.declared.body.TheConstants.{VARIABLE_LIMIT}
use Rattle.type_infer.specs.declared.entries.EntryRef.{EntryRef}
use Rattle.type_infer.specs.declared.entries.EntryRef.TheVariants as ref
use Rattle.type_infer.specs.Determined.{IsOf, named_in, IsUntold}
use Rattle.type_infer.specs.Marks.{In, left}

-- what the test asks of a definition
pub record HasOrderedBody (d : OpDef) : Type 0 where
  pub few : length d.body.vars ≤ VARIABLE_LIMIT
  pub named : (v : VarId) (c : Constraint) → IsOf d v c → AreBelow v.0 (named_in c)
  pub operands : AllByRecursion (λ (e : Entry). e.var.0 < length d.body.vars) d.operands
  pub results : AllByRecursion (λ (e : Entry). e.var.0 < length d.body.vars) d.results
  pub attrs : AllByRecursion (λ (e : AttrEntry). e.var.0 < length d.body.vars) d.attrs

-- the type of an entry is shown, where there is a list for each side
abbrev pub ShowsBy : List Bool → List Bool → EntryRef → Type 0
ShowsBy operands results (ref.Operand k) = slice_get operands k ≡ Some true
ShowsBy operands results (ref.Result k) = slice_get results k ≡ Some true

-- operands stand before results, and each in their order
abbrev pub IsBefore : EntryRef → EntryRef → Type 0
IsBefore (ref.Operand j) (ref.Operand k) = j < k
IsBefore (ref.Operand j) (ref.Result k) = Unit {0}
IsBefore (ref.Result j) (ref.Operand k) = ⊥
IsBefore (ref.Result j) (ref.Result k) = j < k

-- the type of this entry is hidden and can't be found, and it is the first such entry
pub record IsFirstUntold (d : OpDef) (shows : EntryRef → Type 0) (i : EntryRef) : Type 0 where
  pub untold : IsUntold d shows i
  pub first : (j : EntryRef) → IsBefore j i → IsUntold d shows j → ⊥

-- the value of a variable of this constraint follows from the values of variables of a set
abbrev pub Follows : Constraint → (VarId → Type 0) → Type 0
Follows (Is id) known = Unit {0}
Follows (Parametric is_type name parts) known = AllByRecursion known parts
Follows (AllOf members) known = (v : VarId) × Contains members v × known v
Follows _ known = ⊥

-- nothing more follows, upwards or downwards
pub record IsClosed (d : OpDef) (forced known : VarId → Type 0) : Type 0 where
  pub up : (v : VarId) (c : Constraint) → IsOf d v c → Follows c known → known v
  pub down : (v whole : VarId) (c : Constraint) → IsOf d whole c → forced whole → known whole
      → Contains (named_in c) v → known v

-- a variable of a single entry, of the first n
pub record IsSingle (entries : List Entry) (n : ℕ) (v : VarId) : Type 0 where
  pub place : ℕ
  pub before : place < n
  pub entry : Entry
  pub stands : slice_get entries place ≡ Some entry
  pub single : entry.arity ≡ Single
  pub is : v ≡ entry.var

-- a variable of a single entry whose type is shown, of the first n
pub record IsShownSingle (entries : List Entry) (shows : List Bool) (n : ℕ) (v : VarId)
    : Type 0 where
  pub place : ℕ
  pub before : place < n
  pub entry : Entry
  pub stands : slice_get entries place ≡ Some entry
  pub single : entry.arity ≡ Single
  pub shown : slice_get shows place ≡ Some true
  pub is : v ≡ entry.var

-- a variable of a required attribute, of the first n
pub record IsRequired (entries : List AttrEntry) (n : ℕ) (v : VarId) : Type 0 where
  pub place : ℕ
  pub before : place < n
  pub entry : AttrEntry
  pub stands : slice_get entries place ≡ Some entry
  pub required : entry.optional ≡ false
  pub is : v ≡ entry.var

-- an entry whose type is hidden, and whose variable isn't in the set
pub record IsOpenAt (entries : List Entry) (shows known : List Bool) (k : ℕ) : Type 0 where
  pub entry : Entry
  pub stands : slice_get entries k ≡ Some entry
  pub hidden : slice_get shows k ≡ Some false
  pub unknown : slice_index_or known entry.var.0 false ≡ false

-- the first such entry
pub record IsFirstOpen (entries : List Entry) (shows known : List Bool) (k : ℕ) : Type 0 where
  pub here : IsOpenAt entries shows known k
  pub first : (j : ℕ) → j < k → IsOpenAt entries shows known j → ⊥

-- what follows at one variable was added
pub record MarkedAt (old new : List Bool) (changed : Bool) (forced : List Bool) (v : VarId)
    (c : Constraint) : Type 0 where
  pub size : length new ≡ length old
  pub kept : (w : VarId) → In old w → In new w
  pub up : Follows c (In old) → In new v
  pub down : (w : VarId) → In forced v → In old v → Contains (named_in c) w → In new w
  pub only : (w : VarId) → In new w → In old w ⊎ (Follows c (In old) × (w ≡ v))
      ⊎ (In forced v × (In old v ⊎ Follows c (In old)) × Contains (named_in c) w)
  pub same : changed ≡ false → new ≡ old
  pub fewer : changed ≡ true → left new < left old
  pub no_more : left new ≤ left old
