-- Which definitions operations can be judged by.
--
--   EntriesAreBelow n entries     operands or results name the first n variables
--   AttrsAreBelow, RegionsAreBelow      attributes do, and regions
--   NamesAreBelow n d             the definition d names the first n variables alone
--   IsSoundOp len count d         d is over a table of len values and count predicates, and names
--                                 variables of its body alone
--   AreSoundOps len count defs    each definition of a list is
use Rattle.std.specs.Prelude.{ℕ, ◌<◌, ◌≤◌, List, length, IfSome}
use Rattle.std.specs.List.{AllByRecursion}
use Rattle.dialect_defs.specs.declared.definition.OpDef.{OpDef}
use Rattle.dialect_defs.specs.declared.entry.TheConstants.{ENTRY_LIMIT}
use Rattle.dialect_defs.specs.declared.entry.AttrEntry.{AttrEntry}
use Rattle.dialect_defs.specs.declared.entry.Entry.{Entry}
use Rattle.dialect_defs.specs.declared.entry.RegionEntry.{RegionEntry}
use Rattle.dialect_defs.specs.Bodies.{IsSoundBody, AreBelow}

-- each entry names one of the first n variables
abbrev pub EntriesAreBelow : ℕ → List Entry → Type 0
EntriesAreBelow n entries = AllByRecursion (λ entry. entry.var.0 < n) entries

-- each attribute names one of the first n variables
abbrev pub AttrsAreBelow : ℕ → List AttrEntry → Type 0
AttrsAreBelow n entries = AllByRecursion (λ entry. entry.var.0 < n) entries

-- the declared arguments of each region are some of the first n variables
abbrev pub RegionsAreBelow : ℕ → List RegionEntry → Type 0
RegionsAreBelow n entries = AllByRecursion (λ entry. IfSome entry.args (AreBelow n)) entries

-- each variable that the definition names is one of the first n, and neither its operands nor its
-- results have more entries than the limit
pub record NamesAreBelow (n : ℕ) (d : OpDef) : Type 0 where
  pub operands : EntriesAreBelow n d.operands
  pub results : EntriesAreBelow n d.results
  pub attrs : AttrsAreBelow n d.attrs
  pub regions : RegionsAreBelow n d.regions
  pub few_operands : length d.operands ≤ ENTRY_LIMIT
  pub few_results : length d.results ≤ ENTRY_LIMIT

-- its body is sound, and each variable that it names is one of the body
pub record IsSoundOp (len count : ℕ) (d : OpDef) : Type 0 where
  pub body : IsSoundBody len count d.body
  pub names : NamesAreBelow (length d.body.vars) d

-- each definition of a list is sound
abbrev pub AreSoundOps : ℕ → ℕ → List OpDef → Type 0
AreSoundOps len count defs = AllByRecursion (IsSoundOp len count) defs
