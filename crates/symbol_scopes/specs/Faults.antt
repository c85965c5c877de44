-- What is wrong with the names of a text.
--
-- A mark has at most one fault by each of three rules, which find it from the definitions of the
-- whole text, the regions that are open at the mark, and the marks before it:
--
--   5  an alias is mentioned that isn't defined earlier
--   6  an alias is defined that is defined earlier, as one of the same sort
--   7  a value name is used that no region round it defines
--   8  a value name is defined that is defined earlier in its region or in one round it
--   9  a use has a number past the size of the pack that its name means; a pack has a wrong size
--  10  a successor is no label of its region
--  11  a label is defined that is defined earlier in its region
--  12  a successor is the entry block of its region
--
--   value_fault, block_fault, alias_fault
--                        the fault of a mark among value names, labels, aliases and sizes of packs
--   values_rule ms, blocks_rule ms
--                        the same, as rules of the marks of the text ms
--   IsNameFault ms f     f is a fault of the text
use Rattle.std.specs.Prelude.{
  ℕ,
  ◌⊎◌,
  Bool,
  not,
  ◌&&◌,
  nat_lt,
  false,
  ◌==◌,
  List,
  length,
  bytes_eq,
  if◌then◌else◌,
  true,
}
use Rattle.std.specs.List.{list_any}
use Rattle.std.specs.declared.option.Option.{Option}
use Rattle.std.specs.declared.option.Option.TheVariants.{Some, None}
use Rattle.first_fault.specs.declared.fault.Fault.{Fault}
use Rattle.first_fault.specs.Firsts.{Rule, IsFaultBy}
use Rattle.symbol_scopes.specs.declared.slots.FoundBinding.{FoundBinding}
use Rattle.symbol_scopes.specs.declared.call.NameKind.TheVariants.{Values, Labels}
use Rattle.symbol_scopes.specs.ScopeMarks.{
  Name,
  ScopeMark,
  Binding,
  Use,
  Successor,
  own,
  standing,
  bindings,
}
use Rattle.symbol_scopes.specs.ScopeMarks.{
  defines,
  uses,
  labels,
  leads_to,
  bad_pack,
  defines_alias,
  mentions_alias,
}
use Rattle.symbol_scopes.specs.Meanings.{first_in, meant, is_before, is_defined_before}

-- the fault at this place, by the rule of this number
abbrev pub fault : ℕ → ℕ → Fault
fault place code = record { place = place; code = code }

-- that fault, where the rule is broken
abbrev pub fault_if : Bool → ℕ → ℕ → Option Fault
fault_if broken place code = if broken then Some (fault place code) else None

-- the fault of a use, by what its name means: nothing, or a pack that has no value of the number
abbrev pub use_fault : Use → Option FoundBinding → Option Fault
use_fault u None = Some (fault u.place 7)
use_fault u (Some f) =
    fault_if (nat_lt 0 f.number && not (nat_lt u.number f.number)) u.number_place 9

-- the fault of a successor, by what its name means: nothing, or the entry block
abbrev pub target_fault : Successor → Option FoundBinding → Option Fault
target_fault t None = Some (fault t.place 10)
target_fault t (Some f) = fault_if (f.number == 0) t.place 12

-- the fault of a mark among value names: ds are the definitions of the text, round the regions that
-- are open, and i how many definitions stand before
abbrev pub value_fault : List Binding → List ℕ → ℕ → ScopeMark → Option Fault
value_fault ds round i (defines d) = fault_if (is_defined_before ds round d.name i) d.place 8
value_fault ds round i (uses u) = use_fault u (meant ds round u.name)
value_fault ds round i _ = None

-- the fault of a mark among labels: ls are the labels of the text, and i how many stand before
abbrev pub block_fault : List Binding → List ℕ → ℕ → ScopeMark → Option Fault
block_fault ls round i (labels l) =
    fault_if (is_before (first_in ls (own round) l.name) i) l.place 11
block_fault ls round i (leads_to t) = target_fault t (first_in ls (own round) t.name)
block_fault ls round i _ = None

-- both are aliases of types, or both of attributes
abbrev pub same_kind : Bool → Bool → Bool
same_kind true b = b
same_kind false b = not b

-- a mark defines this alias
abbrev pub defines_it : Bool → Name → ScopeMark → Bool
defines_it is_type name (defines_alias b) =
    same_kind b.is_type is_type && bytes_eq b.name name
defines_it is_type name _ = false

-- one of these marks defines the alias
abbrev pub is_alias_known : List ScopeMark → Bool → Name → Bool
is_alias_known before is_type name = list_any (defines_it is_type name) before

-- the fault of a mark among aliases, and the wrong size of a pack
abbrev pub alias_fault : List ScopeMark → ScopeMark → Option Fault
alias_fault before (bad_pack place) = Some (fault place 9)
alias_fault before (defines_alias a) = fault_if (is_alias_known before a.is_type a.name) a.place 6
alias_fault before (mentions_alias a) =
    fault_if (not (is_alias_known before a.is_type a.name)) a.place 5
alias_fault before _ = None

-- the rules on value names, in a text of these marks
abbrev pub values_rule : List ScopeMark → Rule ScopeMark
values_rule ms before m =
    value_fault (bindings Values ms) (standing before).round (length (bindings Values before)) m

-- the rules on labels, in a text of these marks
abbrev pub blocks_rule : List ScopeMark → Rule ScopeMark
blocks_rule ms before m =
    block_fault (bindings Labels ms) (standing before).round (length (bindings Labels before)) m

-- a fault of the names of a text: of its value names, of its labels, or of its aliases and packs
abbrev pub IsNameFault : List ScopeMark → Fault → Type 0
IsNameFault ms f =
    (IsFaultBy (values_rule ms) ms f ⊎ IsFaultBy (blocks_rule ms) ms f) ⊎ IsFaultBy alias_fault ms f
