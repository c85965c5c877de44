-- What completes a tree is well-formed: each operation meets the definition by which it completes
-- its own tree, and the types of its operands are those of the values that it names.
use Rattle.std.proofs.Common.{◌≡◌, ℕ, zero, suc, ◌+◌, ◌<◌, true, List, [], ◌∷◌, ◌++◌, length, map}
use Rattle.std.proofs.Common.{refl, sym, ◌∙◌, ap, subst, Some, slice_get, arith}
use Rattle.attr_value.specs.Ids.{at}
use Rattle.attr_value.specs.Values.{Value}
use Rattle.dialect_defs.specs.Operations.{MeetsDefinition}
use Rattle.generic_syntax.specs.declared.module_cst.BlockCst.{BlockCst, out-BlockCst}
use Rattle.generic_syntax.specs.declared.module_cst.ModuleCst.{ModuleCst}
use Rattle.generic_syntax.specs.declared.module_cst.OpCst.{OpCst, out-OpCst}
use Rattle.generic_syntax.specs.declared.module_cst.RegionCst.{RegionCst, out-RegionCst}
use Rattle.ir_lexer.specs.Spelling.{Text}
use Rattle.ir_store.specs.Modules.{Regions, Blocks, no_ops, then_op, no_regions, region, no_blocks}
use Rattle.ir_store.specs.Modules.{block, types_in, types_in_regions, types_in_blocks, region_args}
use Rattle.ir_store.specs.Modules.{block_args}
use Rattle.module_meaning.specs.Completes.{AreTypes, OpSays, OpsSay, RegionSays, BlocksSay}
use Rattle.module_meaning.specs.Completes.{Completes, aliases_of, top_level, block_scope}
use Rattle.module_meaning.specs.Facts.{CustomForms, Fact, region_is, region_topic, is_of}
use Rattle.module_meaning.specs.Facts.{form_facts}
use Rattle.module_meaning.specs.Names.{Env, Names, behind, inside, result_names, argument_names}
use Rattle.module_meaning.specs.Names.{op_names, label_scope}
use Rattle.module_meaning.specs.WholeModules.{WholeHead, WholeModule, Loaded, EachOp, EachInRegions}
use Rattle.module_meaning.specs.WholeModules.{EachInBlocks, operation_with, own_numbers, is_end}
use Rattle.module_meaning.specs.WholeModules.{block_numbers}
use Rattle.module_meaning.proofs.Places.{some-same}
use Rattle.module_meaning.proofs.Told.{told-of}
use Rattle.module_text.specs.WellFormed.{MeetsSome, IsStorable, IsWellFormed}
use Rattle.value_meaning.specs.Meaning.{Aliases}

-- ---- types of operands

-- the value at a place
at-place : (xs : List Value) (i : ℕ) (t : Value) → slice_get xs i ≡ Some t → t ≡ at xs i
at-place [] i t e = absurd (cc)
at-place (x ∷ xs) zero t e = sym (some-same x t e)
at-place (x ∷ xs) (suc i) t e = at-place xs i t e

-- types of operands are those of the values that they name
types-are : (types ts : List Value) (ns : List ℕ) → AreTypes types ts ns → ts ≡ map (at types) ns
types-are types [] [] h = refl
types-are types [] (n ∷ ns) h = absurd (cc)
types-are types (t ∷ ts) [] h = absurd (cc)
types-are types (t ∷ ts) (n ∷ ns) h =
    let first : slice_get types n ≡ Some t = cc in
    let rest : map (slice_get types) ns ≡ map Some ts = cc in
    ap (λ x. x ∷ ts) (at-place types n t first)
    ∙ ap (λ l. at types n ∷ l) (types-are types ts ns rest)

module _ (loaded : Loaded) (forms : CustomForms) (aliases : Aliases) (types : List Value) where
  abbrev Region : Env → ℕ → ℕ → RegionCst → Regions Text Value → Type 0
  Region env n i r rs = RegionSays loaded forms aliases (AreTypes types) env n i r rs

  -- an operation meets the definition by which it completes its tree
  op-meets : (visible : List ℕ) (blocks : ℕ) (env : Env) (c : OpCst) (ts : List Value)
      (head : WholeHead) (rs : Regions Text Value) (last : _) (P : ℕ → RegionCst → Type 0)
      → AreTypes types ts head.operands
      → OpSays loaded forms aliases env c head (operation_with ts head rs) P
      → MeetsSome loaded types visible blocks head rs last
  op-meets visible blocks env c ts head rs last P typed p = record {
    def = p.completes.def;
    known = p.completes.known;
    named = p.named;
    meets = subst (λ (l : List Value). MeetsDefinition loaded.values loaded.tests p.completes.def
        (operation_with l head rs)) (types-are types ts head.operands typed) (record {
          operand_sizes = p.completes.operand_sizes;
          result_sizes = p.completes.result_sizes;
          assignment = p.completes.assignment;
          meets = p.completes.meets;
        });
  }

  -- the tree of a region by its number
  record TreeOf (env : Env) (n : ℕ) (rs : Regions Text Value) (i : ℕ) : Type 0 where
    tree : RegionCst
    says : Region env n i tree rs

  module _ (env inner : Env) (n : ℕ) (c : OpCst) (ts : List Value) (head : WholeHead)
      (rs : Regions Text Value)
      (p : OpSays loaded forms aliases env c head (operation_with ts head rs)
      (λ i r. Region inner n i r rs)) where
    abbrev Named : Fact → Type 0
    Named fact = Names env p.completes.operand_sizes head.operands head.successors
        (λ i r. Region inner n i r rs) fact

    tree-of : (i : ℕ) (fact : Fact) → is_of (region_topic i) fact ≡ true → Named fact
        → TreeOf inner n rs i
    tree-of i (region_is j r) is x =
        let here : j ≡ i = grind (arith, is) in
        record { tree = r; says = subst (λ (k : ℕ). Region inner n k r rs) here x }
    tree-of i _ is x = absurd (cc)

    region-tree : (i : ℕ) → i < length (region_args rs) → TreeOf inner n rs i
    region-tree i within =
        let (fact, is, h) = told-of (region_topic i) (form_facts forms c) Named
        (p.completes.shows.covers.regions i within) p.names in
        tree-of i fact is h

  mutual
    ops-meet : (visible : List ℕ) (blocks : ℕ) (env : Env) (n : ℕ) (cs : List OpCst)
        (os : WholeModule) → OpsSay loaded forms aliases (AreTypes types) env n cs os
        → EachOp (MeetsSome loaded types) visible blocks n os
    ops-meet visible blocks env n [] no_ops p = tt
    ops-meet visible blocks env n [] (then_op head rs os) p = absurd p
    ops-meet visible blocks env n (c ∷ cs) no_ops p = absurd p
    ops-meet visible blocks env n (c ∷ cs) (then_op head rs os) (new, (ts, typed, p), more) = (
      op-meets visible blocks env c ts head rs (is_end os) _ typed p,
      regions-meet visible (behind env (result_names (out-OpCst c).results))
          (n + length head.results) rs
          (region-tree env (behind env (result_names (out-OpCst c).results))
          (n + length head.results) c ts head rs p),
      ops-meet visible blocks (behind env (result_names (out-OpCst c).results))
          (n + length head.results + length (types_in_regions rs)) cs os more,
    )

    regions-meet : (visible : List ℕ) (env : Env) (n : ℕ) (rs : Regions Text Value)
        → ((i : ℕ) → i < length (region_args rs) → TreeOf env n rs i)
        → EachInRegions (MeetsSome loaded types) visible n rs
    regions-meet visible env n no_regions told = tt
    regions-meet visible env n (region bs rs) told =
        let here = told 0 (omega arith) in (
          blocks-meet (block_numbers n bs ++ visible) (length (block_args bs))
              (inside env (block_scope n (out-RegionCst here.tree).blocks bs)
              (label_scope 0 (out-RegionCst here.tree).blocks)) n
              (out-RegionCst here.tree).blocks bs here.says.1,
          regions-meet visible env (n + length (types_in_blocks bs)) rs
              (λ i within. (let there = told (suc i) (omega arith) in
              record { tree = there.tree; says = there.says })),
        )

    blocks-meet : (visible : List ℕ) (count : ℕ) (env : Env) (n : ℕ) (cs : List BlockCst)
        (bs : Blocks Text Value) → BlocksSay loaded forms aliases (AreTypes types) env n cs bs
        → EachInBlocks (MeetsSome loaded types) visible count n bs
    blocks-meet visible count env n [] no_blocks p = tt
    blocks-meet visible count env n [] (block args os bs) p = absurd p
    blocks-meet visible count env n (c ∷ cs) no_blocks p = absurd p
    blocks-meet visible count env n (c ∷ cs) (block args os bs) (new, p, more) = (
      ops-meet visible count (behind env (argument_names (out-BlockCst c).args)) (n + length args)
          (out-BlockCst c).ops os p,
      blocks-meet visible count (behind (behind env (argument_names (out-BlockCst c).args))
          (op_names (out-BlockCst c).ops)) (n + length args + length (types_in os)) cs bs more,
    )

-- What completes a tree is well-formed, where a program can hold it.
pub completed-formed : (loaded : Loaded) (forms : CustomForms) (tree : ModuleCst) (m : WholeModule)
    → Completes loaded forms tree m → IsStorable m → IsWellFormed loaded m
completed-formed loaded forms tree m h storable = record {
  proper = h.proper;
  meet = ops-meet loaded forms (aliases_of tree) (types_in m) (own_numbers 0 m) 0
      (top_level tree.ops m) 0 tree.ops m h.says;
  storable = storable;
}
