-- What has to fit a tree so that its module can be built: the parts of its operations in ids, and
-- what its names mean.
--
--   uses_of cs, successors_of cs      the uses and the successors that operations show
--   definition_count ss     how many names are defined: of results, and of arguments of blocks
--   blocks_under rs         the blocks of regions, one region after the other
--   ArgsFit b types         there is a type for each argument of a block
--   NamesStandFor rs n      the names of results, if there are any, stand for n values
--   IdsFit c ids            the parts fit the operation's tree, in generic form
--   UsesFit ss uses         there is a meaning for each use and successor of what stands
use Rattle.std.specs.Prelude.{◌≡◌, ◌≢◌, ◌<◌, ℕ, ◌+◌, List, [], ◌∷◌, ◌++◌, length, map, sum}
use Rattle.std.specs.List.{AllZip, All}
use Rattle.attr_value.specs.declared.head.ValueId.{ValueId}
use Rattle.attr_value.specs.Heads.{Ascend}
use Rattle.generic_syntax.specs.declared.cst.NameCst.{NameCst}
use Rattle.generic_syntax.specs.declared.module_cst.BlockCst.{BlockCst, out-BlockCst}
use Rattle.generic_syntax.specs.declared.module_cst.FormCst.{out-FormCst}
use Rattle.generic_syntax.specs.declared.module_cst.FormCst.TheOpen.{FormCst-F}
use Rattle.generic_syntax.specs.declared.module_cst.GenericCst.{out-GenericCst}
use Rattle.generic_syntax.specs.declared.module_cst.OpCst.{OpCst, out-OpCst}
use Rattle.generic_syntax.specs.declared.module_cst.RegionCst.{RegionCst, out-RegionCst}
use Rattle.generic_syntax.specs.declared.module_cst.ResultCst.{ResultCst}
use Rattle.generic_syntax.specs.declared.module_cst.UseCst.{UseCst}
use Rattle.module_faults.specs.declared.ids.OpIds.{OpIds}
use Rattle.module_faults.specs.Standings.{Standing, an_op, a_region, a_block, generic_regions}
use Rattle.module_faults.specs.Standings.{ops_of}
use Rattle.module_meaning.specs.Facts.{FormSeen}
use Rattle.module_meaning.specs.Names.{pack_size}
use Rattle.symbol_scopes.specs.Uses.{UseMeanings}

-- ---- what operations show

-- the uses of the generic form; a custom one is taken to show none
abbrev pub uses_in : FormSeen → List UseCst
uses_in (FormCst-F.Generic g) = (out-GenericCst g).operands
uses_in (FormCst-F.Custom k) = []

-- those of operations, one after the other
abbrev pub uses_of : List OpCst → List UseCst
uses_of [] = []
uses_of (c ∷ cs) = uses_in (out-FormCst (out-OpCst c).form) ++ uses_of cs

-- the successors of the generic form
abbrev pub successors_in : FormSeen → List NameCst
successors_in (FormCst-F.Generic g) = (out-GenericCst g).successors
successors_in (FormCst-F.Custom k) = []

-- those of operations, one after the other
abbrev pub successors_of : List OpCst → List NameCst
successors_of [] = []
successors_of (c ∷ cs) = successors_in (out-FormCst (out-OpCst c).form) ++ successors_of cs

-- how many names are defined: those of results, and those of arguments of blocks
abbrev pub definition_count : List Standing → ℕ
definition_count [] = 0
definition_count (an_op c last ∷ ss) = length (out-OpCst c).results + definition_count ss
definition_count (a_region n r ∷ ss) = definition_count ss
definition_count (a_block b ∷ ss) = length (out-BlockCst b).args + definition_count ss

-- the blocks of regions, one region after the other, without what stands in them
abbrev pub blocks_under : List RegionCst → List BlockCst
blocks_under [] = []
blocks_under (r ∷ rs) = (out-RegionCst r).blocks ++ blocks_under rs

-- ---- what fits

-- a type for each argument of a block
abbrev pub ArgsFit : BlockCst → List ValueId → Type 0
ArgsFit b types = length (out-BlockCst b).args ≡ length types

-- the names of results, if there are any, stand for as many values as there are
abbrev pub NamesStandFor : List ResultCst → ℕ → Type 0
NamesStandFor results n =
    results ≢ [] → sum (map (λ (r : ResultCst). pack_size r.pack) results) ≡ n

-- the form is generic, and shows as many types of results
abbrev pub ShowsResults : FormSeen → ℕ → Type 0
ShowsResults (FormCst-F.Generic g) n = length (out-GenericCst g).outputs ≡ n
ShowsResults (FormCst-F.Custom k) n = ⊥

-- The parts of an operation fit its tree, which is in generic form: a type for each result that is
-- shown and that a name stands for, the types of the arguments of each block of its regions, and
-- keys that strictly ascend, each with a value.
pub record IdsFit (c : OpCst) (ids : OpIds) : Type 0 where
  pub shown : ShowsResults (out-FormCst (out-OpCst c).form) (length ids.results.items)
  pub names : NamesStandFor (out-OpCst c).results (length ids.results.items)
  pub args : AllZip ArgsFit (blocks_under (generic_regions c)) ids.args
  pub ascend : Ascend ids.keys
  pub counts : length ids.values ≡ length ids.keys

-- There is a meaning for each use and for each successor of what stands, and each use means a value
-- of one of the definitions.
pub record UsesFit (ss : List Standing) (uses : UseMeanings) : Type 0 where
  pub values : length uses.values ≡ length (uses_of (ops_of ss))
  pub blocks : length uses.blocks ≡ length (successors_of (ops_of ss))
  pub defined : All (λ (p : ℕ × ℕ). p.0 < definition_count ss) uses.values
