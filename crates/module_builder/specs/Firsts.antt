-- The number of the first value of each definition of a name, over a flat list of what stands.
--
--   firsts_of n ss counts   where values have numbers from n on, and operations so many results
--   result_count ids        how many results an operation has
--   Numbered old new ss counts      the values of what stands there were numbered
--
-- Inside: no public clause rests on this.
use Rattle.std.specs.Prelude.{◌≡◌, ℕ, ◌+◌, List, [], ◌∷◌, ◌++◌, length, drop}
use Rattle.std.specs.List.{range_with_len}
use Rattle.generic_syntax.specs.declared.module_cst.BlockCst.{out-BlockCst}
use Rattle.generic_syntax.specs.declared.module_cst.OpCst.{out-OpCst}
use Rattle.module_builder.specs.declared.firsts.Numbering.{Numbering}
use Rattle.module_faults.specs.declared.ids.OpIds.{OpIds}
use Rattle.module_faults.specs.Shape.{result_firsts}
use Rattle.module_faults.specs.Standings.{Standing, an_op, a_region, a_block, ops_of}

abbrev pub firsts_of : ℕ → List Standing → List ℕ → List ℕ
firsts_of n [] counts = []
firsts_of n (an_op c last ∷ ss) [] = []
firsts_of n (an_op c last ∷ ss) (k ∷ counts) =
    result_firsts n (out-OpCst c).results ++ firsts_of (n + k) ss counts
firsts_of n (a_region m r ∷ ss) counts = firsts_of n ss counts
firsts_of n (a_block b ∷ ss) counts =
    range_with_len n (length (out-BlockCst b).args)
    ++ firsts_of (n + length (out-BlockCst b).args) ss counts

-- how many results an operation has
abbrev pub result_count : OpIds → ℕ
result_count ids = length ids.results.items

-- The values of what stands there were numbered: whatever stands behind it, the numbers so far and
-- those to come are the same together.
pub record Numbered (old new : Numbering) (ss : List Standing) (counts : List ℕ) : Type 0 where
  pub firsts : (more : List Standing)
      → new.firsts.items ++ firsts_of new.next more (drop new.ops counts)
      ≡ old.firsts.items ++ firsts_of old.next (ss ++ more) (drop old.ops counts)
  pub ops : new.ops ≡ old.ops + length (ops_of ss)
