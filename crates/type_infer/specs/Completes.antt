-- Which types complete what is shown of an operation.
--
-- For each entry of operands and of results there is the list of its types. Those that are shown
-- are given as ids of a table of values, which is `values` throughout.
--
--   IsGoodType ..               a good value that is a type
--   StandFor .. shown n xs      xs are the types of an entry of n values: the shown ones, or n good
--                               types where they are hidden
--   CompletesBy .. a            these types stand for all entries, and the assignment a meets the
--                               body and has them and what else is shown
--   Completes .. xs ys          they do by some assignment
use Rattle.std.specs.Prelude.{◌≡◌, ℕ, List, length, map, slice_get, IfSome}
use Rattle.std.specs.List.{AllByRecursion}
use Rattle.std.specs.Option.{option_map}
use Rattle.std.specs.declared.option.Option.{Option}
use Rattle.std.specs.declared.option.Option.TheVariants.{Some, None}
use Rattle.attr_value.specs.declared.head.ValueId.{ValueId}
use Rattle.attr_value.specs.Heads.{IsType}
use Rattle.attr_value.specs.Ids.{at}
use Rattle.attr_value.specs.Values.{Value}
use Rattle.dialect_defs.specs.declared.definition.OpDef.{OpDef}
use Rattle.dialect_defs.specs.declared.definition.TypeDef.{TypeDef}
use Rattle.dialect_defs.specs.declared.entry.AttrEntry.{AttrEntry}
use Rattle.dialect_defs.specs.declared.entry.RegionEntry.{RegionEntry}
use Rattle.dialect_defs.specs.Assignments.{Tests, Assignment, HaveEach, MeetsBody}
use Rattle.dialect_defs.specs.Goodness.{Good}
use Rattle.dialect_defs.specs.Operations.{AttrHas, EntriesHave}
use Rattle.dialect_defs.specs.Segments.{FitEach}
use Rattle.type_infer.specs.declared.entries.EntryRef.{EntryRef}
use Rattle.type_infer.specs.declared.entries.EntryRef.TheVariants as ref
use Rattle.type_infer.specs.declared.entries.Shown.{Shown}

-- the values of these ids
abbrev pub values_at : List Value → List ValueId → List Value
values_at values ids = map (λ (id : ValueId). at values id.0) ids

-- a good value that is a type
pub record IsGoodType (values : List Value) (tests : Tests) (types : List TypeDef) (v : Value)
    : Type 0 where
  pub good : Good values tests types v
  pub is_type : IsType v

-- the types of an entry of n values
abbrev pub StandFor : List Value → Tests → List TypeDef → Option (List ValueId) → ℕ → List Value
    → Type 0
StandFor values tests types (Some ids) n xs = xs ≡ values_at values ids
StandFor values tests types None n xs =
    (length xs ≡ n) × AllByRecursion (IsGoodType values tests types) xs

-- the same for each entry, where shown and counts are lists for the entries
abbrev pub EachStandFor : List Value → Tests → List TypeDef → List (Option (List ValueId))
    → List ℕ → List (List Value) → Type 0
EachStandFor values tests types shown counts lists =
    (k : ℕ) (ids : Option (List ValueId)) (n : ℕ) (xs : List Value) → slice_get shown k ≡ Some ids
    → slice_get counts k ≡ Some n → slice_get lists k ≡ Some xs
    → StandFor values tests types ids n xs

-- how many results an entry stands for: one, where its type is hidden
abbrev pub result_count : Option (List ValueId) → ℕ
result_count (Some ids) = length ids
result_count None = 1

-- each attribute that is there has its variable's value, and one that is missing is optional
abbrev pub AttrsHave : List Value → Assignment → List AttrEntry → List (Option ValueId) → Type 0
AttrsHave values a entries attrs =
    (k : ℕ) (entry : AttrEntry) (attr : Option ValueId) → slice_get entries k ≡ Some entry
    → slice_get attrs k ≡ Some attr
    → AttrHas a entry (option_map (λ (id : ValueId). at values id.0) attr)

-- declared arguments have their variables' values
abbrev pub ArgsHave : List Value → Assignment → List RegionEntry → List (List ValueId) → Type 0
ArgsHave values a entries args =
    (k : ℕ) (entry : RegionEntry) (ids : List ValueId) → slice_get entries k ≡ Some entry
    → slice_get args k ≡ Some ids → IfSome entry.args (λ vars. HaveEach a vars (values_at values ids))

-- What is shown fits the definition: there are lists of the right lengths, each count and each
-- shown list fits its entry, and each shown list is as long as its count.
pub record IsShownOf (d : OpDef) (shown : Shown) : Type 0 where
  pub operand_counts : FitEach d.operands shown.operand_counts
  pub operand_types : length shown.operand_types ≡ length d.operands
  pub operand_lists : (k : ℕ) (ids : List ValueId) (n : ℕ)
      → slice_get shown.operand_types k ≡ Some (Some ids)
      → slice_get shown.operand_counts k ≡ Some n → length ids ≡ n
  pub result_counts : FitEach d.results (map result_count shown.result_types)
  pub attrs : length shown.attrs ≡ length d.attrs
  pub args : length shown.region_args ≡ length d.regions

-- the type of an entry is shown
abbrev pub Tells : Shown → EntryRef → Type 0
Tells shown (ref.Operand k) = (ids : List ValueId) × (slice_get shown.operand_types k ≡ Some (Some ids))
Tells shown (ref.Result k) = (ids : List ValueId) × (slice_get shown.result_types k ≡ Some (Some ids))

-- these types of operands and results stand with what is shown, by this assignment
pub record CompletesBy (values : List Value) (tests : Tests) (types : List TypeDef) (d : OpDef)
    (shown : Shown) (operands results : List (List Value)) (a : Assignment) : Type 0 where
  pub operand_types :
      EachStandFor values tests types shown.operand_types shown.operand_counts operands
  pub result_types :
      EachStandFor values tests types shown.result_types (map result_count shown.result_types)
      results
  pub body : MeetsBody values tests d.body a
  pub operands_have : EntriesHave a d.operands operands
  pub results_have : EntriesHave a d.results results
  pub attrs_have : AttrsHave values a d.attrs shown.attrs
  pub args_have : ArgsHave values a d.regions shown.region_args

-- these types of operands and results stand with what is shown
pub record Completes (values : List Value) (tests : Tests) (types : List TypeDef) (d : OpDef)
    (shown : Shown) (operands results : List (List Value)) : Type 0 where
  pub assignment : Assignment
  pub by : CompletesBy values tests types d shown operands results assignment
