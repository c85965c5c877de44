-- Operations complete trees where names are right and each operation completes its tree; and where
-- they complete trees, each completes its own.
use Rattle.std.proofs.Common.{◌≡◌, ℕ, zero, suc, ◌+◌, List, [], ◌∷◌, length, refl, subst, arith}
use Rattle.std.proofs.Common.{Some, slice_get, Bool}
use Rattle.attr_value.specs.Values.{Value}
use Rattle.generic_syntax.specs.declared.module_cst.BlockCst.{BlockCst, out-BlockCst}
use Rattle.generic_syntax.specs.declared.module_cst.FormCst.{out-FormCst}
use Rattle.generic_syntax.specs.declared.module_cst.OpCst.{OpCst, out-OpCst}
use Rattle.generic_syntax.specs.declared.module_cst.RegionCst.{RegionCst, out-RegionCst}
use Rattle.ir_lexer.specs.Spelling.{Text}
use Rattle.ir_store.specs.Modules.{Regions, Blocks, no_ops, then_op, no_regions, region}
use Rattle.ir_store.specs.Modules.{no_blocks, block, types_in_blocks}
use Rattle.ir_store.specs.Modules.{region_args}
use Rattle.completion_laws.specs.Beside.{OpsBeside, RegionsBeside, BlocksBeside, Completing}
use Rattle.completion_laws.specs.Named.{OpNamed, OpsNamed, RegionsNamed, BlocksNamed}
use Rattle.completion_laws.proofs.Forms.{form-shows, regions-many, form-names, names-inside}
use Rattle.module_faults.specs.Standings.{generic_regions}
use Rattle.module_meaning.proofs.Places.{some-same}
use Rattle.module_meaning.specs.Completes.{OpSays, OpsSay, RegionSays, BlocksSay}
use Rattle.module_meaning.specs.Facts.{no_forms}
use Rattle.module_meaning.specs.Names.{Env, behind, result_names}
use Rattle.module_meaning.specs.WholeModules.{WholeHead, WholeModule, Loaded, operation_with}
use Rattle.value_meaning.specs.Meaning.{Aliases}

module _ (loaded : Loaded) (aliases : Aliases) (Typed : List Value → List ℕ → Type 0) where
  abbrev pub Done : OpCst → WholeHead → Regions Text Value → Bool → Type 0
  Done c head regions last = Completing loaded aliases Typed c head regions

  abbrev Say : Env → ℕ → List OpCst → WholeModule → Type 0
  Say env n cs os = OpsSay loaded no_forms aliases Typed env n cs os

  abbrev SayRegion : Env → ℕ → Regions Text Value → ℕ → RegionCst → Type 0
  SayRegion env n rs i r = RegionSays loaded no_forms aliases Typed env n i r rs

  abbrev SayBlocks : Env → ℕ → List BlockCst → Blocks Text Value → Type 0
  SayBlocks env n cs bs = BlocksSay loaded no_forms aliases Typed env n cs bs

  -- ---- from names and operations

  -- one operation
  op-says : (env : Env) (c : OpCst) (head : WholeHead) (rs : Regions Text Value)
      (Region : ℕ → RegionCst → Type 0) → OpNamed env c head
      → (done : Completing loaded aliases Typed c head rs)
      → ((i : ℕ) (r : RegionCst) → slice_get (generic_regions c) i ≡ Some r → Region i r)
      → OpSays loaded no_forms aliases env c head (operation_with done.types head rs) Region
  op-says env c head rs Region named done below = record {
    completes = done.completes;
    named = done.named;
    names = form-names env done.completes.operand_sizes head Region
        (out-FormCst (out-OpCst c).form) named.form below;
    packs = named.packs;
  }

  mutual
    pub named-says : (env : Env) (n : ℕ) (cs : List OpCst) (os : WholeModule)
        → OpsNamed env n cs os → OpsBeside Done cs os → Say env n cs os
    named-says env n [] no_ops p q = tt
    named-says env n [] (then_op head rs os) p q = absurd p
    named-says env n (c ∷ cs) no_ops p q = absurd p
    named-says env n (c ∷ cs) (then_op head rs os) (named, inner, more) (done, below, later) =
        let env2 = behind env (result_names (out-OpCst c).results) in (
          named.new,
          (
            done.types,
            done.typed,
            op-says env c head rs (SayRegion env2 (n + length head.results) rs) named done
                (λ i r is. region-says env2 (n + length head.results) (generic_regions c) rs inner
                below i r is),
          ),
          named-says env2 _ cs os more later,
        )

    region-says : (env : Env) (n : ℕ) (cs : List RegionCst) (rs : Regions Text Value)
        → RegionsNamed env n cs rs → RegionsBeside Done cs rs → (i : ℕ) (r : RegionCst)
        → slice_get cs i ≡ Some r → SayRegion env n rs i r
    region-says env n [] no_regions p q i r is = absurd (cc)
    region-says env n [] (region bs rs) p q i r is = absurd p
    region-says env n (c ∷ cs) no_regions p q i r is = absurd p
    region-says env n (c ∷ cs) (region bs rs) (labels, p, more) (q, later) zero r is =
        subst (SayRegion env n (region bs rs) zero) (some-same c r is)
        (labels, named-blocks _ n (out-RegionCst c).blocks bs p q)
    region-says env n (c ∷ cs) (region bs rs) (labels, p, more) (q, later) (suc i) r is =
        region-says env (n + length (types_in_blocks bs)) cs rs more later i r is

    named-blocks : (env : Env) (n : ℕ) (cs : List BlockCst) (bs : Blocks Text Value)
        → BlocksNamed env n cs bs → BlocksBeside Done cs bs → SayBlocks env n cs bs
    named-blocks env n [] no_blocks p q = tt
    named-blocks env n [] (block xs os bs) p q = absurd p
    named-blocks env n (c ∷ cs) no_blocks p q = absurd p
    named-blocks env n (c ∷ cs) (block xs os bs) (new, p, more) (q, later) = (
      new,
      named-says _ _ (out-BlockCst c).ops os p q,
      named-blocks _ _ cs bs more later,
    )

  -- ---- and back

  mutual
    pub says-ops : (env : Env) (n : ℕ) (cs : List OpCst) (os : WholeModule) → Say env n cs os
        → OpsBeside Done cs os
    says-ops env n [] no_ops p = tt
    says-ops env n [] (then_op head rs os) p = absurd p
    says-ops env n (c ∷ cs) no_ops p = absurd p
    says-ops env n (c ∷ cs) (then_op head rs os) (new, (ts, typed, p), more) =
        let env2 = behind env (result_names (out-OpCst c).results) in
        let o = operation_with ts head rs in
        let shows = form-shows aliases p.completes.def (operation_with ts head rs)
        p.completes.operand_sizes p.completes.result_sizes (out-FormCst (out-OpCst c).form)
        p.completes.shows in (
          record { types = ts; typed = typed; completes = p.completes; named = p.named },
          says-regions env2 (n + length head.results) (generic_regions c) rs
              (regions-many aliases (out-FormCst (out-OpCst c).form) (operation_with ts head rs)
              shows)
              (names-inside env p.completes.operand_sizes head
              (SayRegion env2 (n + length head.results) rs) aliases (operation_with ts head rs)
              (out-FormCst (out-OpCst c).form) shows refl p.names),
          says-ops env2 _ cs os more,
        )

    says-regions : (env : Env) (n : ℕ) (cs : List RegionCst) (rs : Regions Text Value)
        → length cs ≡ length (region_args rs)
        → ((i : ℕ) (r : RegionCst) → slice_get cs i ≡ Some r → SayRegion env n rs i r)
        → RegionsBeside Done cs rs
    says-regions env n [] no_regions e told = tt
    says-regions env n [] (region bs rs) e told = absurd (omega arith)
    says-regions env n (c ∷ cs) no_regions e told = absurd (omega arith)
    says-regions env n (c ∷ cs) (region bs rs) e told =
        let here = told 0 c refl in (
          says-blocks _ n (out-RegionCst c).blocks bs here.1,
          says-regions env (n + length (types_in_blocks bs)) cs rs (omega arith)
              (λ i r is. told (suc i) r is),
        )

    says-blocks : (env : Env) (n : ℕ) (cs : List BlockCst) (bs : Blocks Text Value)
        → SayBlocks env n cs bs → BlocksBeside Done cs bs
    says-blocks env n [] no_blocks p = tt
    says-blocks env n [] (block xs os bs) p = absurd p
    says-blocks env n (c ∷ cs) no_blocks p = absurd p
    says-blocks env n (c ∷ cs) (block xs os bs) (new, p, more) =
        (says-ops _ _ (out-BlockCst c).ops os p, says-blocks _ _ cs bs more)
