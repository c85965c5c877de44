-- What is known of a module that was built for a tree without faults.
--
--   IsBuilt loaded tree m     the module has the shape of the tree, names mean its values and
--                             blocks, and each operation is right; no value and no operation of
--                             the tree has a fault
use Rattle.std.specs.List.{AllZip}
use Rattle.generic_syntax.specs.declared.module_cst.ModuleCst.{ModuleCst}
use Rattle.ir_store.specs.Numbering.{ops_in}
use Rattle.completion_laws.specs.Beside.{IsRightSite}
use Rattle.completion_laws.specs.Named.{OpsNamed}
use Rattle.module_faults.specs.ModuleFaults.{NoValuesFault, NoOperationsFault}
use Rattle.module_faults.specs.Shape.{HasShape}
use Rattle.module_faults.specs.Standings.{standings, ops_of}
use Rattle.module_meaning.specs.AliasValues.{no_aliases, AreAliases}
use Rattle.module_meaning.specs.Completes.{aliases_of, top_level}
use Rattle.module_meaning.specs.Facts.{no_forms}
use Rattle.module_meaning.specs.WholeModules.{Loaded, WholeModule}

-- The aliases are right. The module has the shape of the tree, names mean its values and blocks,
-- and each operation is right beside its tree, one by one in the order of the text. No value and no
-- operation of the tree has a fault.
pub record IsBuilt (loaded : Loaded) (tree : ModuleCst) (m : WholeModule) : Type 0 where
  pub aliases : AreAliases loaded.values loaded.tests loaded.types no_aliases tree.aliases
  pub shape : HasShape tree.ops m
  pub named : OpsNamed (top_level tree.ops m) 0 tree.ops m
  pub each : AllZip (IsRightSite loaded (aliases_of tree)) (ops_of (standings tree)) (ops_in m)
  pub values : NoValuesFault loaded no_forms tree
  pub operations : NoOperationsFault loaded no_forms tree
