-- Which module a tree means: the module completes the tree.
--
-- An operation completes its tree where it is what the tree shows and meets its definition,
-- whatever its uses and successors mean and whatever stands in its regions: where no operation
-- does, the tree asks for what no operation has. A module completes a tree where it is proper and
-- each of its operations completes the tree at its place, with names that mean its values and
-- blocks. By recursion over the module, with the tree beside it, of which one level is looked at a
-- time; values are numbered in the order of the module, whatever the order in the text.
--
--   OpCompletes .. c o         the operation o completes the tree c
--   IsUnsatisfied .. c         no operation does
--   IsPack r                   the name of a result stands for a right number of values
--   OpSays .. env c head o Region      it does in a module, where names mean what env says
--   AreTypes types ts ns       operands with these numbers have the types ts in the module
--   AsMany ts ns               they have any types
--   OpsSay Typed .. n cs os    operations complete trees, as do those in their regions; Typed says
--                              which types operands may have
--   RegionSays, BlocksSay      the same of a region by its number, and of its blocks
--   ModuleSays .. cs m         a module completes the trees of its operations
--   NearlySays .. cs m         the same, but the types of uses needn't be those of their values
--   Completes .. tree m        a module completes the tree of a file, with its aliases
--   NearlyCompletes .. tree m  the same, but for the types of uses
use Rattle.std.specs.Prelude.{◌≡◌, ◌≢◌, ◌<◌, ℕ, zero, suc, ◌+◌, List, [], ◌∷◌, ◌++◌, length, map}
use Rattle.std.specs.Prelude.{sum, slice_get, bytes_eq, Contains}
use Rattle.std.specs.List.{AllByRecursion, IsDistinct}
use Rattle.std.specs.declared.option.Option.TheVariants.{Some}
use Rattle.attr_value.specs.Values.{Value}
use Rattle.dialect_defs.specs.declared.definition.OpDef.{OpDef}
use Rattle.dialect_defs.specs.Assignments.{Assignment}
use Rattle.dialect_defs.specs.Operations.{Operation, MeetsBy}
use Rattle.generic_syntax.specs.declared.module_cst.BlockCst.{BlockCst, out-BlockCst}
use Rattle.generic_syntax.specs.declared.module_cst.ModuleCst.{ModuleCst}
use Rattle.generic_syntax.specs.declared.module_cst.OpCst.{OpCst, out-OpCst}
use Rattle.generic_syntax.specs.declared.module_cst.RegionCst.{RegionCst, out-RegionCst}
use Rattle.generic_syntax.specs.declared.module_cst.ResultCst.{ResultCst}
use Rattle.ir_lexer.specs.Spelling.{Text}
use Rattle.ir_store.specs.Modules.{Regions, Blocks, no_ops, then_op, no_regions, region}
use Rattle.ir_store.specs.Modules.{no_blocks, block, types_in, types_in_regions, types_in_blocks}
use Rattle.module_meaning.specs.AliasValues.{no_aliases, values_under, AreAliases}
use Rattle.module_meaning.specs.Facts.{CustomForms, form_name, form_facts, form_hides}
use Rattle.module_meaning.specs.Names.{Env, AreNew, Names, nowhere, inside, behind, pack_size}
use Rattle.module_meaning.specs.Names.{result_scope, argument_scope, label_scope, names_in}
use Rattle.module_meaning.specs.Names.{result_names, argument_names, op_names}
use Rattle.module_meaning.specs.Says.{Shows}
use Rattle.module_meaning.specs.WholeModules.{WholeHead, WholeModule, Loaded, IsGoodType, Proper}
use Rattle.module_meaning.specs.WholeModules.{operation_with}
use Rattle.symbol_scopes.specs.Regions.{RegionScope}
use Rattle.value_meaning.specs.Meaning.{Aliases}

-- the values of these numbers have these types in a module whose values have the types `types`
abbrev pub AreTypes : List Value → List Value → List ℕ → Type 0
AreTypes types ts ns = map (slice_get types) ns ≡ map Some ts

-- any types, one for each
abbrev pub AsMany : List Value → List ℕ → Type 0
AsMany ts ns = length ts ≡ length ns

-- ---- names

-- the names that operations define themselves, where the first value has the number n
abbrev pub own_scope : ℕ → List OpCst → WholeModule → RegionScope
own_scope n [] _ = []
own_scope n (c ∷ cs) no_ops = []
own_scope n (c ∷ cs) (then_op head regions os) =
    result_scope n (out-OpCst c).results
    ++ own_scope (n + length head.results + length (types_in_regions regions)) cs os

-- the names that blocks define, with their arguments
abbrev pub block_scope : ℕ → List BlockCst → Blocks Text Value → RegionScope
block_scope n [] _ = []
block_scope n (b ∷ bs) no_blocks = []
block_scope n (b ∷ bs) (block args os rest) =
    argument_scope n (out-BlockCst b).args
    ++ (own_scope (n + length args) (out-BlockCst b).ops os
    ++ block_scope (n + length args + length (types_in os)) bs rest)

-- what names mean at top level: the module's own values, and no block
abbrev pub top_level : List OpCst → WholeModule → Env
top_level cs m = inside nowhere (own_scope 0 cs m) []

-- the values of the aliases of a file
abbrev pub aliases_of : ModuleCst → Aliases
aliases_of tree = values_under no_aliases tree.aliases

-- the name of a result stands for one value or more, and no more than the limit
abbrev pub IsPack : ResultCst → Type 0
IsPack r = 0 < pack_size r.pack

module _ (loaded : Loaded) (forms : CustomForms) (aliases : Aliases) where
  -- ---- one operation

  -- The operation is that of a definition with the tree's name. It is cut into segments by which
  -- it is what the tree shows and meets the definition. Names of results, if there are any, stand
  -- for all of them. Types are good, those of arguments and those that the form hides too.
  pub record OpCompletes (c : OpCst) (o : Operation) : Type 0 where
    pub def : OpDef
    pub operand_sizes : List ℕ
    pub result_sizes : List ℕ
    pub assignment : Assignment
    pub known : Contains loaded.ops def
    pub named : form_name c ≡ def.name
    pub shows : Shows aliases def (form_hides forms c) (form_facts forms c) o operand_sizes
        result_sizes
    pub results : (out-OpCst c).results ≢ []
        → sum (map (λ (r : ResultCst). pack_size r.pack) (out-OpCst c).results) ≡ length o.results
    pub operand_types : AllByRecursion (IsGoodType loaded) o.operands
    pub result_types : AllByRecursion (IsGoodType loaded) o.results
    pub argument_types : AllByRecursion (AllByRecursion (AllByRecursion (IsGoodType loaded)))
        o.regions
    pub meets : MeetsBy loaded.values loaded.tests def o operand_sizes result_sizes assignment

  -- no operation completes the tree, whatever its uses and successors mean
  abbrev pub IsUnsatisfied : OpCst → Type 0
  IsUnsatisfied c = (o : Operation) → OpCompletes c o → ⊥

  -- The operation completes its tree, and has this head in a module, where names mean what env
  -- says. `Region i r` says that the i-th region completes the tree r.
  pub record OpSays (env : Env) (c : OpCst) (head : WholeHead) (o : Operation)
      (Region : ℕ → RegionCst → Type 0) : Type 0 where
    pub completes : OpCompletes c o
    pub named : completes.def.name ≡ head.name
    pub names : AllByRecursion
        (Names env completes.operand_sizes head.operands head.successors Region)
        (form_facts forms c)
    pub packs : AllByRecursion IsPack (out-OpCst c).results

  -- ---- a module

  module _ (Typed : List Value → List ℕ → Type 0) where
    abbrev mutual
      -- The operations complete the trees one by one, where the first value has the number n. The
      -- names that each defines are new.
      pub OpsSay : Env → ℕ → List OpCst → WholeModule → Type 0
      OpsSay env n [] no_ops = Unit {0}
      OpsSay env n (c ∷ cs) (then_op head regions os) =
          AreNew env.before (result_names (out-OpCst c).results)
          × ((ts : List Value) × Typed ts head.operands
          × OpSays env c head (operation_with ts head regions) (λ i r.
          RegionSays (behind env (result_names (out-OpCst c).results))
          (n + length head.results) i r regions))
          × OpsSay (behind env (result_names (out-OpCst c).results))
          (n + length head.results + length (types_in_regions regions)) cs os
      OpsSay env n [] (then_op _ _ _) = ⊥
      OpsSay env n (c ∷ cs) no_ops = ⊥

      -- The i-th region completes the tree. Its names mean what it defines itself, then what is
      -- round it; its labels are its own alone, and differ.
      pub RegionSays : Env → ℕ → ℕ → RegionCst → Regions Text Value → Type 0
      RegionSays env n i r no_regions = ⊥
      RegionSays env n zero r (region blocks rs) =
          IsDistinct bytes_eq (names_in (label_scope 0 (out-RegionCst r).blocks))
          × BlocksSay (inside env (block_scope n (out-RegionCst r).blocks blocks)
          (label_scope 0 (out-RegionCst r).blocks)) n (out-RegionCst r).blocks blocks
      RegionSays env n (suc i) r (region blocks rs) =
          RegionSays env (n + length (types_in_blocks blocks)) i r rs

      -- The blocks of a region complete the trees. The names of each block's arguments are new,
      -- and its operations and arguments are defined before those of the next.
      pub BlocksSay : Env → ℕ → List BlockCst → Blocks Text Value → Type 0
      BlocksSay env n [] no_blocks = Unit {0}
      BlocksSay env n (b ∷ bs) (block args os rest) =
          AreNew env.before (argument_names (out-BlockCst b).args)
          × OpsSay (behind env (argument_names (out-BlockCst b).args)) (n + length args)
          (out-BlockCst b).ops os
          × BlocksSay (behind (behind env (argument_names (out-BlockCst b).args))
          (op_names (out-BlockCst b).ops)) (n + length args + length (types_in os)) bs rest
      BlocksSay env n [] (block _ _ _) = ⊥
      BlocksSay env n (b ∷ bs) no_blocks = ⊥

  -- the operations complete the trees, and operands have the types of the values that they name
  abbrev pub ModuleSays : List OpCst → WholeModule → Type 0
  ModuleSays cs m = OpsSay (AreTypes (types_in m)) (top_level cs m) 0 cs m

  -- the same, but the types of operands may be any
  abbrev pub NearlySays : List OpCst → WholeModule → Type 0
  NearlySays cs m = OpsSay AsMany (top_level cs m) 0 cs m

module _ (loaded : Loaded) (forms : CustomForms) where
  -- The aliases are right, the module is proper, and its operations complete their trees.
  pub record Completes (tree : ModuleCst) (m : WholeModule) : Type 0 where
    pub aliases : AreAliases loaded.values loaded.tests loaded.types no_aliases tree.aliases
    pub proper : Proper loaded m
    pub says : ModuleSays loaded forms (aliases_of tree) tree.ops m

  -- The same, but the types of uses needn't be those of their values.
  pub record NearlyCompletes (tree : ModuleCst) (m : WholeModule) : Type 0 where
    pub aliases : AreAliases loaded.values loaded.tests loaded.types no_aliases tree.aliases
    pub proper : Proper loaded m
    pub says : NearlySays loaded forms (aliases_of tree) tree.ops m

-- No two definitions of operations have the same name.
pub record HaveDistinctOps (ops : List OpDef) : Type 0 where
  pub same : (d e : OpDef) → Contains ops d → Contains ops e → d.name ≡ e.name → d ≡ e

-- The tree of an operation, with its custom form, determines the types of operands and results.
pub record HaveOneTyping (loaded : Loaded) (forms : CustomForms) : Type 0 where
  pub operands : (aliases : Aliases) (c : OpCst) (o p : Operation)
      → OpCompletes loaded forms aliases c o → OpCompletes loaded forms aliases c p
      → o.operands ≡ p.operands
  pub results : (aliases : Aliases) (c : OpCst) (o p : Operation)
      → OpCompletes loaded forms aliases c o → OpCompletes loaded forms aliases c p
      → o.results ≡ p.results
