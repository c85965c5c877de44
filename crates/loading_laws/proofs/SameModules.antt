-- What loadings that are alike say of modules: the same are proper, and complete the same trees.
use Rattle.std.proofs.Common.{◌∙◌, ◌+◌, ℕ, Bool, List, ◌++◌, length, sym}
use Rattle.attr_value.specs.Values.{Value}
use Rattle.generic_syntax.specs.declared.module_cst.ModuleCst.{ModuleCst}
use Rattle.generic_syntax.specs.declared.module_cst.OpCst.{OpCst}
use Rattle.ir_lexer.specs.Spelling.{Text}
use Rattle.ir_store.specs.Modules.{Regions, Blocks, no_ops, then_op, no_regions, region}
use Rattle.ir_store.specs.Modules.{no_blocks, block, block_args, types_in}
use Rattle.loading_laws.specs.Alike.{AreAlike}
use Rattle.loading_laws.proofs.SameOperations.{partner, says-alike}
use Rattle.loading_laws.proofs.SameValues.{aliases-alike, alike-back, all-good, all-good-types}
use Rattle.module_meaning.proofs.AnyTypes.{ops-wider}
use Rattle.module_meaning.specs.AliasValues.{no_aliases}
use Rattle.module_meaning.specs.Completes.{AreTypes, AsMany, Completes, NearlyCompletes}
use Rattle.module_meaning.specs.Completes.{OpsSay, aliases_of, top_level}
use Rattle.module_meaning.specs.Facts.{CustomForms}
use Rattle.module_meaning.specs.WholeModules.{WholeHead, WholeModule, Loaded, EachOp}
use Rattle.module_meaning.specs.WholeModules.{EachInRegions, EachInBlocks, IsProperOp, Proper}
use Rattle.module_meaning.specs.WholeModules.{block_numbers, own_numbers, is_end}
use Rattle.value_meaning.specs.Meaning.{Aliases}

-- what follows from a property of an operation where it stands holds of each
module _ (P Q : List ℕ → ℕ → WholeHead → Regions Text Value → Bool → Type 0)
    (weaker : (visible : List ℕ) (blocks : ℕ) (head : WholeHead) (rs : Regions Text Value)
    (last : Bool) → P visible blocks head rs last → Q visible blocks head rs last) where
  mutual
    each-op-weaker : (visible : List ℕ) (blocks n : ℕ) (os : WholeModule)
        → EachOp P visible blocks n os → EachOp Q visible blocks n os
    each-op-weaker visible blocks n no_ops each = tt
    each-op-weaker visible blocks n (then_op head rs os) (here, inside, more) = (
      weaker visible blocks head rs (is_end os) here,
      each-region-weaker visible (n + length head.results) rs inside,
      each-op-weaker visible blocks _ os more,
    )

    each-region-weaker : (visible : List ℕ) (n : ℕ) (rs : Regions Text Value)
        → EachInRegions P visible n rs → EachInRegions Q visible n rs
    each-region-weaker visible n no_regions each = tt
    each-region-weaker visible n (region bs rs) (here, more) = (
      each-block-weaker (block_numbers n bs ++ visible) (length (block_args bs)) n bs here,
      each-region-weaker visible _ rs more,
    )

    each-block-weaker : (visible : List ℕ) (blocks n : ℕ) (bs : Blocks Text Value)
        → EachInBlocks P visible blocks n bs → EachInBlocks Q visible blocks n bs
    each-block-weaker visible blocks n no_blocks each = tt
    each-block-weaker visible blocks n (block args os bs) (here, more) = (
      each-op-weaker visible blocks (n + length args) os here,
      each-block-weaker visible blocks _ bs more,
    )

module _ (one two : Loaded) (alike : AreAlike one two) where
  -- an operation is proper where it stands
  proper-op-alike : (visible : List ℕ) (blocks : ℕ) (head : WholeHead) (rs : Regions Text Value)
      (last : Bool) → IsProperOp one visible blocks head rs last
      → IsProperOp two visible blocks head rs last
  proper-op-alike visible blocks head rs last p = record {
    in_scope = p.in_scope;
    targets = p.targets;
    attrs = p.attrs;
    values = all-good one two alike head.values p.values;
    terminator = λ d known named ends.
        let found = partner two one (alike-back one two alike) d known in
        let like = found.2 in
        p.terminator found.0 found.1 (sym like.name ∙ named) (sym like.terminator ∙ ends);
  }

  -- proper modules are proper
  pub proper-alike : (m : WholeModule) → Proper one m → Proper two m
  proper-alike m p = record {
    each = each-op-weaker (IsProperOp one) (IsProperOp two) proper-op-alike (own_numbers 0 m) 0 0 m
        p.each;
    types = all-good-types one two alike (types_in m) p.types;
    nested = p.nested;
  }

  module _ (forms : CustomForms) where
    -- operations complete trees
    ops-say-alike : (aliases : Aliases) (Typed : List Value → List ℕ → Type 0) (cs : List OpCst)
        (m : WholeModule) → OpsSay one forms aliases Typed (top_level cs m) 0 cs m
        → OpsSay two forms aliases Typed (top_level cs m) 0 cs m
    ops-say-alike aliases Typed cs m says =
        ops-wider one two forms aliases (says-alike one two alike forms aliases) Typed Typed
        (λ ts ns typed. typed) (top_level cs m) 0 cs m says

    -- a module completes a tree, but for the types of uses
    pub nearly-alike : (tree : ModuleCst) (m : WholeModule) → NearlyCompletes one forms tree m
        → NearlyCompletes two forms tree m
    nearly-alike tree m p = record {
      aliases = aliases-alike one two alike no_aliases tree.aliases p.aliases;
      proper = proper-alike m p.proper;
      says = ops-say-alike (aliases_of tree) AsMany tree.ops m p.says;
    }

    -- a module completes a tree
    pub module-alike : (tree : ModuleCst) (m : WholeModule) → Completes one forms tree m
        → Completes two forms tree m
    module-alike tree m p = record {
      aliases = aliases-alike one two alike no_aliases tree.aliases p.aliases;
      proper = proper-alike m p.proper;
      says = ops-say-alike (aliases_of tree) (AreTypes (types_in m)) tree.ops m p.says;
    }
