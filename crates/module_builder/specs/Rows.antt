-- Rows: operations with operands and successors by numbers, in the order in which they stand.
--
--   IsRow c ids row         a row has the parts and the place of an operation, and as many operands
--                           and successors as its tree shows
--   AreRows cs is rows      each row is that of its operation
--   RowFits c row           a row fits the tree of its operation, so that it can be added
--   operands_of rows, successors_of_rows      those of all rows, one row after the other
--
-- Inside: no public clause rests on this.
use Rattle.std.specs.Prelude.{◌≡◌, ℕ, List, [], ◌∷◌, ◌++◌, length}
use Rattle.std.specs.List.{AllZip}
use Rattle.generic_syntax.specs.declared.module_cst.FormCst.{out-FormCst}
use Rattle.generic_syntax.specs.declared.module_cst.OpCst.{OpCst, out-OpCst}
use Rattle.ir_store.specs.Named.{AttrsAreRight}
use Rattle.ir_store.specs.Store.{head_of}
use Rattle.module_builder.specs.declared.row.Row.{Row}
use Rattle.module_builder.specs.Fit.{uses_in, successors_in, blocks_under, ArgsFit}
use Rattle.module_faults.specs.declared.ids.OpIds.{OpIds}
use Rattle.module_faults.specs.Shape.{FormFits, NamesFit}
use Rattle.module_faults.specs.Standings.{generic_regions}

-- a row has the parts and the place of an operation, and as many operands and successors as its
-- tree shows
pub record IsRow (c : OpCst) (ids : OpIds) (r : Row) : Type 0 where
  pub def : r.row.def ≡ ids.def
  pub place : r.row.place ≡ (out-OpCst c).place
  pub results : r.row.results.items ≡ ids.results.items
  pub keys : r.row.keys ≡ ids.keys
  pub values : r.row.values ≡ ids.values
  pub args : r.args ≡ ids.args
  pub operands : length r.row.operands.items ≡ length (uses_in (out-FormCst (out-OpCst c).form))
  pub successors : length r.row.successors.items
      ≡ length (successors_in (out-FormCst (out-OpCst c).form))

-- each row is that of its operation
abbrev pub AreRows : List OpCst → List OpIds → List Row → Type 0
AreRows [] [] [] = Unit {0}
AreRows (c ∷ cs) (ids ∷ is) (r ∷ rs) = IsRow c ids r × AreRows cs is rs
AreRows _ _ _ = ⊥

-- a row fits the tree of its operation
pub record RowFits (c : OpCst) (r : Row) : Type 0 where
  pub form : FormFits (out-FormCst (out-OpCst c).form) (head_of r.row)
  pub names : NamesFit (out-OpCst c).results (head_of r.row)
  pub args : AllZip ArgsFit (blocks_under (generic_regions c)) r.args
  pub attrs : AttrsAreRight (head_of r.row)

-- the operands of rows, one row after the other
abbrev pub operands_of : List Row → List ℕ
operands_of [] = []
operands_of (r ∷ rs) = r.row.operands.items ++ operands_of rs

-- their successors
abbrev pub successors_of_rows : List Row → List ℕ
successors_of_rows [] = []
successors_of_rows (r ∷ rs) = r.row.successors.items ++ successors_of_rows rs
