-- Two modules that complete the same trees are the same apart from the numbers of operands and
-- successors, whatever names mean and whatever types uses have.
--
-- By recursion over both: of an operation, name, results and attributes are those of one tree; a
-- region of both is told by one tree, which then stands beside it in both.
use Rattle.std.proofs.Common.{◌≡◌, ℕ, suc, ◌+◌, ◌<◌, true, List, [], ◌∷◌, length}
use Rattle.std.proofs.Common.{sym, ◌∙◌, subst, arith}
use Rattle.std.specs.List.{AllByRecursion}
use Rattle.attr_value.specs.Values.{Value}
use Rattle.dialect_defs.specs.Operations.{Operation}
use Rattle.generic_syntax.specs.declared.module_cst.BlockCst.{BlockCst, out-BlockCst}
use Rattle.generic_syntax.specs.declared.module_cst.OpCst.{OpCst, out-OpCst}
use Rattle.generic_syntax.specs.declared.module_cst.RegionCst.{RegionCst, out-RegionCst}
use Rattle.ir_lexer.specs.Spelling.{Text}
use Rattle.ir_store.specs.Modules.{Regions, Blocks, no_ops, then_op, no_regions, region}
use Rattle.ir_store.specs.Modules.{no_blocks, block, types_in_blocks}
use Rattle.ir_store.specs.Modules.{block_args, region_args}
use Rattle.ir_store.specs.Named.{AttrsAreRight}
use Rattle.module_meaning.proofs.Attributes.{attrs-exact}
use Rattle.module_meaning.proofs.OneCompletes.{same-parts}
use Rattle.module_meaning.proofs.SameModules.{SameHead, SameOps, SameRegions, SameBlocks}
use Rattle.module_meaning.proofs.SameModules.{RightOps, RightRegions, RightBlocks}
use Rattle.module_meaning.proofs.Told.{both-hold, told-of}
use Rattle.module_meaning.specs.Completes.{OpSays, OpsSay, RegionSays, BlocksSay}
use Rattle.module_meaning.specs.Completes.{HaveDistinctOps, HaveOneTyping, block_scope}
use Rattle.module_meaning.specs.Facts.{CustomForms, Fact, region_is, region_topic, is_of, tells}
use Rattle.module_meaning.specs.Names.{Env, Names, inside, behind, label_scope}
use Rattle.module_meaning.specs.Names.{result_names, argument_names, op_names}
use Rattle.module_meaning.specs.WholeModules.{WholeHead, WholeModule, Loaded, operation_with}
use Rattle.value_meaning.specs.Meaning.{Aliases}

-- a tree of the i-th region of which two things are said
pub record BothOf (P Q : ℕ → RegionCst → Type 0) (i : ℕ) : Type 0 where
  pub tree : RegionCst
  pub first : P i tree
  pub second : Q i tree

-- a region that is told has one tree in both
pub told-region : (env env2 : Env) (ins ins2 operands operands2 ss ss2 : List ℕ)
    (P Q : ℕ → RegionCst → Type 0) (facts : List Fact) (i : ℕ)
    → tells facts (region_topic i) ≡ true
    → AllByRecursion (Names env ins operands ss P) facts
    → AllByRecursion (Names env2 ins2 operands2 ss2 Q) facts → BothOf P Q i
told-region env env2 ins ins2 operands operands2 ss ss2 P Q facts i e a b =
    let (fact, is, ab) = told-of (region_topic i) facts
    (λ f. Names env ins operands ss P f × Names env2 ins2 operands2 ss2 Q f) e
    (both-hold (Names env ins operands ss P) (Names env2 ins2 operands2 ss2 Q) facts a b) in
    of fact is ab
  where
    of : (fact : Fact) → is_of (region_topic i) fact ≡ true
        → Names env ins operands ss P fact × Names env2 ins2 operands2 ss2 Q fact → BothOf P Q i
    of (region_is j r) is (x, y) =
        let at : j ≡ i = grind (arith, is) in
        record {
          tree = r;
          first = subst (λ (k : ℕ). P k r) at x;
          second = subst (λ (k : ℕ). Q k r) at y;
        }
    of _ is xy = absurd (cc)

module _ (loaded : Loaded) (forms : CustomForms) (aliases : Aliases)
    (distinct : HaveDistinctOps loaded.ops) (typing : HaveOneTyping loaded forms) where
  abbrev Says : Env → OpCst → WholeHead → Operation → (ℕ → RegionCst → Type 0) → Type 0
  Says env c head o P = OpSays loaded forms aliases env c head o P

  -- an operation of each module that completes one tree
  same-head : (env env2 : Env) (c : OpCst) (ts ts2 : List Value) (head head2 : WholeHead)
      (rs rs2 : Regions Text Value) (P Q : ℕ → RegionCst → Type 0)
      → Says env c head (operation_with ts head rs) P
      → Says env2 c head2 (operation_with ts2 head2 rs2) Q
      → AttrsAreRight head → AttrsAreRight head2 → SameHead head head2
  same-head env env2 c ts ts2 head head2 rs rs2 P Q p q a b =
      let parts = same-parts loaded forms aliases distinct c (operation_with ts head rs)
      (operation_with ts2 head2 rs2) p.completes q.completes in
      let attrs = attrs-exact head head2 a b parts.attrs in
      record {
        name = sym p.named
            ∙ (sym p.completes.named ∙ (q.completes.named ∙ q.named));
        results = typing.results aliases c (operation_with ts head rs)
            (operation_with ts2 head2 rs2) p.completes q.completes;
        keys = attrs.0;
        values = attrs.1;
      }

  module _ (Typed Others : List Value → List ℕ → Type 0) where
    abbrev Say : Env → ℕ → List OpCst → WholeModule → Type 0
    Say env n cs os = OpsSay loaded forms aliases Typed env n cs os

    abbrev Say2 : Env → ℕ → List OpCst → WholeModule → Type 0
    Say2 env n cs os = OpsSay loaded forms aliases Others env n cs os

    abbrev Region : Env → ℕ → Regions Text Value → ℕ → RegionCst → Type 0
    Region env n rs i r = RegionSays loaded forms aliases Typed env n i r rs

    abbrev Region2 : Env → ℕ → Regions Text Value → ℕ → RegionCst → Type 0
    Region2 env n rs i r = RegionSays loaded forms aliases Others env n i r rs

    mutual
      -- operations that complete the same trees
      pub same-ops : (env env2 : Env) (n n2 : ℕ) (cs : List OpCst) (os os2 : WholeModule)
          → Say env n cs os → Say2 env2 n2 cs os2 → RightOps os → RightOps os2 → SameOps os os2
      same-ops env env2 n n2 [] no_ops no_ops p q a b = tt
      same-ops env env2 n n2 (c ∷ cs) no_ops os2 p q a b = absurd p
      same-ops env env2 n n2 [] no_ops (then_op head2 rs2 os2) p q a b = absurd q
      same-ops env env2 n n2 [] (then_op head rs os) os2 p q a b = absurd p
      same-ops env env2 n n2 (c ∷ cs) (then_op head rs os) no_ops p q a b = absurd q
      same-ops env env2 n n2 (c ∷ cs) (then_op head rs os) (then_op head2 rs2 os2)
          (new, (ts, typed, p), more) (new2, (ts2, typed2, q), more2) (a, inner, later)
          (b, inner2, later2) =
          let names = result_names (out-OpCst c).results in
          let parts = same-parts loaded forms aliases distinct c (operation_with ts head rs)
          (operation_with ts2 head2 rs2) p.completes q.completes in (
            same-head env env2 c ts ts2 head head2 rs rs2
                (Region (behind env names) (n + length head.results) rs)
                (Region2 (behind env2 names) (n2 + length head2.results) rs2) p q a b,
            same-regions (behind env names) (behind env2 names) (n + length head.results)
                (n2 + length head2.results) rs rs2
                (λ i within. told-region env env2 p.completes.operand_sizes
                q.completes.operand_sizes head.operands head2.operands head.successors
                head2.successors (Region (behind env names) (n + length head.results) rs)
                (Region2 (behind env2 names) (n2 + length head2.results) rs2) _ i
                (p.completes.shows.covers.regions i within) p.names q.names)
                parts.regions inner inner2,
            same-ops (behind env names) (behind env2 names) _ _ cs os os2 more more2 later later2,
          )

      -- regions of which each has one tree in both
      pub same-regions : (env env2 : Env) (n n2 : ℕ) (rs rs2 : Regions Text Value)
          → ((i : ℕ) → i < length (region_args rs)
          → BothOf (Region env n rs) (Region2 env2 n2 rs2) i)
          → region_args rs ≡ region_args rs2 → RightRegions rs → RightRegions rs2
          → SameRegions rs rs2
      same-regions env env2 n n2 no_regions no_regions told e a b = tt
      same-regions env env2 n n2 no_regions (region bs2 rs2) told e a b = absurd (cc)
      same-regions env env2 n n2 (region bs rs) no_regions told e a b = absurd (cc)
      same-regions env env2 n n2 (region bs rs) (region bs2 rs2) told e (a, later) (b, later2) =
          let here = told 0 (omega arith) in
          let cs = (out-RegionCst here.tree).blocks in
          let first : block_args bs ≡ block_args bs2 = cc in
          let rest : region_args rs ≡ region_args rs2 = cc in (
            same-blocks (inside env (block_scope n cs bs) (label_scope 0 cs))
                (inside env2 (block_scope n2 cs bs2) (label_scope 0 cs)) n n2 cs bs bs2
                here.first.1 here.second.1 first a b,
            same-regions env env2 (n + length (types_in_blocks bs))
                (n2 + length (types_in_blocks bs2)) rs rs2
                (λ i within. (let there = told (suc i) (omega arith) in
                record { tree = there.tree; first = there.first; second = there.second }))
                rest later later2,
          )

      -- blocks that complete the same trees
      pub same-blocks : (env env2 : Env) (n n2 : ℕ) (cs : List BlockCst)
          (bs bs2 : Blocks Text Value)
          → BlocksSay loaded forms aliases Typed env n cs bs
          → BlocksSay loaded forms aliases Others env2 n2 cs bs2
          → block_args bs ≡ block_args bs2 → RightBlocks bs → RightBlocks bs2 → SameBlocks bs bs2
      same-blocks env env2 n n2 cs no_blocks no_blocks p q e a b = tt
      same-blocks env env2 n n2 cs no_blocks (block xs2 os2 bs2) p q e a b = absurd (cc)
      same-blocks env env2 n n2 cs (block xs os bs) no_blocks p q e a b = absurd (cc)
      same-blocks env env2 n n2 [] (block xs os bs) (block xs2 os2 bs2) p q e a b = absurd p
      same-blocks env env2 n n2 (c ∷ cs) (block xs os bs) (block xs2 os2 bs2) (new, p, more)
          (new2, q, more2) e (a, later) (b, later2) =
          let first : xs ≡ xs2 = cc in
          let rest : block_args bs ≡ block_args bs2 = cc in
          let names = argument_names (out-BlockCst c).args in (
            first,
            same-ops (behind env names) (behind env2 names) (n + length xs) (n2 + length xs2)
                (out-BlockCst c).ops os os2 p q a b,
            same-blocks (behind (behind env names) (op_names (out-BlockCst c).ops))
                (behind (behind env2 names) (op_names (out-BlockCst c).ops)) _ _ cs bs bs2 more
                more2 rest later later2,
          )
