-- Rows in the making.
--
--   MeanBelow n uses                each use means a value of one of n definitions
--   Made old new cs uses firsts     rows of these operations were made
--   CanMake now cs uses firsts      rows of these operations can be made
--   AllMade cs ids rows uses firsts       the rows are those of these operations
--
-- Inside: no public clause rests on this.
use Rattle.std.specs.Prelude.{◌≡◌, ◌<◌, ◌≤◌, ℕ, ◌+◌, List, ◌++◌, length, map, drop}
use Rattle.std.specs.List.{All}
use Rattle.std.specs.Vec.Iter.{into_iter_items}
use Rattle.generic_syntax.specs.declared.module_cst.OpCst.{OpCst}
use Rattle.module_builder.specs.declared.make.Making.{Making}
use Rattle.module_builder.specs.declared.row.Row.{Row}
use Rattle.module_builder.specs.Built.{value_number}
use Rattle.module_builder.specs.Fit.{uses_of, successors_of}
use Rattle.module_builder.specs.Rows.{AreRows, operands_of, successors_of_rows}
use Rattle.module_faults.specs.declared.ids.OpIds.{OpIds}
use Rattle.symbol_scopes.specs.Uses.{UseMeanings}

-- each use means a value of one of so many definitions
pub record MeanBelow (n : ℕ) (uses : UseMeanings) : Type 0 where
  pub all : All (λ (p : ℕ × ℕ). p.0 < n) uses.values

-- Rows of these operations were made, of ids that were taken, and have the operands and successors
-- that come next.
pub record Made (old new : Making) (cs : List OpCst) (meant : UseMeanings) (firsts : List ℕ)
    : Type 0 where
  pub taken : List OpIds
  pub made : List Row
  pub ids : into_iter_items old.ids ≡ taken ++ into_iter_items new.ids
  pub rows : new.rows.items ≡ old.rows.items ++ made
  pub are : AreRows cs taken made
  pub operands : operands_of made ++ map (value_number firsts) (drop new.uses meant.values)
      ≡ map (value_number firsts) (drop old.uses meant.values)
  pub uses : new.uses ≡ old.uses + length (uses_of cs)
  pub leads : successors_of_rows made ++ drop new.successors meant.blocks
      ≡ drop old.successors meant.blocks
  pub successors : new.successors ≡ old.successors + length (successors_of cs)

-- There are ids, and meanings of uses and successors, of these operations, and each use means a
-- value of a definition.
pub record CanMake (now : Making) (cs : List OpCst) (meant : UseMeanings) (firsts : List ℕ)
    : Type 0 where
  pub ids : length cs ≤ length (into_iter_items now.ids)
  pub uses : now.uses + length (uses_of cs) ≤ length meant.values
  pub successors : now.successors + length (successors_of cs) ≤ length meant.blocks
  pub defined : MeanBelow (length firsts) meant

-- The rows are those of these operations, and have the operands and successors that are meant.
pub record AllMade (cs : List OpCst) (ids : List OpIds) (rows : List Row) (meant : UseMeanings)
    (firsts : List ℕ) : Type 0 where
  pub are : AreRows cs ids rows
  pub operands : operands_of rows ≡ map (value_number firsts) meant.values
  pub leads : successors_of_rows rows ≡ meant.blocks
