-- When an operation meets its definition.
--
-- An operation is taken with the types of its operands, and of its regions with the arguments of
-- their blocks alone.
--
--   Operation                       an operation as its definition sees it
--   Attrs, attr_at attrs key        attributes by their keys, and what stands with a key
--   operand_sizes_key, result_sizes_key      the keys of the sizes of segments
--   sizes_of_head, given_sizes      the sizes that a head, or an attribute, gives
--   EntriesHave, AttrHas, ArgsHave, RegionHas, RegionsHave
--                                   the parts of an operation have the values of their variables
--   MeetsBy .. sizes assignment     it meets its definition by these sizes and this assignment
--   MeetsDefinition .. d o          it does by some sizes and some assignment
use Rattle.std.specs.Prelude.{◌≡◌, ℕ, true, List, [], ◌∷◌, length, IfSome, ℤ}
use Rattle.std.specs.Prelude.{bytes_eq, codes, ◌==◌, if◌then◌else◌}
use Rattle.std.specs.List.{AllByRecursion}
use Rattle.std.specs.declared.option.Option.{Option}
use Rattle.std.specs.declared.option.Option.TheVariants.{Some, None}
use Rattle.attr_value.specs.declared.head.Head.{Head}
use Rattle.attr_value.specs.declared.head.Head.TheVariants as h
use Rattle.attr_value.specs.Values.{Value}
use Rattle.dialect_defs.specs.declared.body.VarId.{VarId}
use Rattle.dialect_defs.specs.declared.definition.OpDef.{OpDef}
use Rattle.dialect_defs.specs.declared.entry.AttrEntry.{AttrEntry}
use Rattle.dialect_defs.specs.declared.entry.Entry.{Entry}
use Rattle.dialect_defs.specs.declared.entry.RegionEntry.{RegionEntry}
use Rattle.dialect_defs.specs.Assignments.{Tests, Assignment, Has, HaveEach, MeetsBody}
use Rattle.dialect_defs.specs.Segments.{Segments, parts}

-- attributes by their keys
abbrev pub Attrs : Type 0
Attrs = List (List ℕ × Value)

-- The types of the operands and results, how many successors there are, the attributes, and for
-- each block of each region the types of its arguments.
pub record Operation : Type 0 where
  pub operands : List Value
  pub results : List Value
  pub successors : ℕ
  pub attrs : Attrs
  pub regions : List (List (List Value))

-- what stands with the first key that is this one
abbrev pub attr_at : {X : Type 0} → List (List ℕ × X) → List ℕ → Option X
attr_at [] key = None
attr_at (attr ∷ attrs) key = if bytes_eq attr.0 key then Some attr.1 else attr_at attrs key

-- the keys of the attributes that give the sizes of segments
abbrev pub operand_sizes_key : List ℕ
operand_sizes_key = codes "operandSegmentSizes"

-- the key of the attribute that gives the sizes of the results' segments
abbrev pub result_sizes_key : List ℕ
result_sizes_key = codes "resultSegmentSizes"

-- the numbers of a head, where it is that of a dense array of 32 bits
abbrev pub sizes_of_head : Head → Option (List ℤ)
sizes_of_head (h.Dense width items) = if width == 32 then Some items else None
sizes_of_head _ = None

-- the sizes that an attribute gives
abbrev pub given_sizes : Option Value → Option (List ℤ)
given_sizes None = None
given_sizes (Some v) = sizes_of_head v.head

-- the values of each segment are that of its entry's variable
abbrev pub EntriesHave : Assignment → List Entry → List (List Value) → Type 0
EntriesHave a [] [] = Unit {0}
EntriesHave a (entry ∷ entries) (xs ∷ segments) =
    AllByRecursion (Has a entry.var) xs × EntriesHave a entries segments
EntriesHave a [] (xs ∷ segments) = ⊥
EntriesHave a (entry ∷ entries) [] = ⊥

-- an attribute that is there is its variable's value, and one that is missing is optional
abbrev pub AttrHas : Assignment → AttrEntry → Option Value → Type 0
AttrHas a entry (Some x) = Has a entry.var x
AttrHas a entry None = entry.optional ≡ true

-- Declared arguments are those of the first block, with their variables' values. Where there is no
-- block, none are declared.
abbrev pub ArgsHave : Assignment → Option (List VarId) → List (List Value) → Type 0
ArgsHave a None blocks = Unit {0}
ArgsHave a (Some vars) [] = vars ≡ []
ArgsHave a (Some vars) (args ∷ blocks) = HaveEach a vars args

-- a region has the declared number of blocks, and the declared arguments
pub record RegionHas (a : Assignment) (entry : RegionEntry) (blocks : List (List Value))
    : Type 0 where
  pub size : IfSome entry.size (λ n. length blocks ≡ n)
  pub args : ArgsHave a entry.args blocks

-- there are as many regions as entries, each as the entry at its place says
abbrev pub RegionsHave : Assignment → List RegionEntry → List (List (List Value)) → Type 0
RegionsHave a [] [] = Unit {0}
RegionsHave a (entry ∷ entries) (blocks ∷ regions) =
    RegionHas a entry blocks × RegionsHave a entries regions
RegionsHave a [] (blocks ∷ regions) = ⊥
RegionsHave a (entry ∷ entries) [] = ⊥

-- the operation meets the definition by these sizes and this assignment
pub record MeetsBy (values : List Value) (tests : Tests) (d : OpDef) (o : Operation)
    (operand_sizes result_sizes : List ℕ) (a : Assignment) : Type 0 where
  pub operand_segments : Segments d.operands (length o.operands)
      (given_sizes (attr_at o.attrs operand_sizes_key)) operand_sizes
  pub result_segments : Segments d.results (length o.results)
      (given_sizes (attr_at o.attrs result_sizes_key)) result_sizes
  pub body : MeetsBody values tests d.body a
  pub operands : EntriesHave a d.operands (parts operand_sizes o.operands)
  pub results : EntriesHave a d.results (parts result_sizes o.results)
  pub attrs : AllByRecursion (λ entry. AttrHas a entry (attr_at o.attrs entry.name)) d.attrs
  pub successors : o.successors ≡ length d.successors
  pub regions : RegionsHave a d.regions o.regions

-- the operation meets the definition
pub record MeetsDefinition (values : List Value) (tests : Tests) (d : OpDef) (o : Operation)
    : Type 0 where
  pub operand_sizes : List ℕ
  pub result_sizes : List ℕ
  pub assignment : Assignment
  pub meets : MeetsBy values tests d o operand_sizes result_sizes assignment
