-- What completes trees with some types of uses does so where more types are allowed. The same goes
-- for definitions by which each operation says as much.
use Rattle.std.proofs.Common.{ℕ, zero, suc, ◌+◌, List, [], ◌∷◌, length}
use Rattle.std.specs.List.{AllByRecursion}
use Rattle.attr_value.specs.Values.{Value}
use Rattle.dialect_defs.specs.Operations.{Operation}
use Rattle.generic_syntax.specs.declared.module_cst.BlockCst.{BlockCst, out-BlockCst}
use Rattle.generic_syntax.specs.declared.module_cst.OpCst.{OpCst, out-OpCst}
use Rattle.generic_syntax.specs.declared.module_cst.RegionCst.{RegionCst, out-RegionCst}
use Rattle.ir_lexer.specs.Spelling.{Text}
use Rattle.ir_store.specs.Modules.{Regions, Blocks, no_ops, then_op, no_regions, region}
use Rattle.ir_store.specs.Modules.{no_blocks, block}
use Rattle.module_meaning.specs.Completes.{OpSays, OpsSay, RegionSays, BlocksSay}
use Rattle.module_meaning.specs.Facts.{CustomForms, Fact, uses_are, all_uses_are, types_are}
use Rattle.module_meaning.specs.Facts.{attr_is, unit_is, string_is, number_is, region_is}
use Rattle.module_meaning.specs.Facts.{successor_is}
use Rattle.module_meaning.specs.Facts.{dict_is, form_facts}
use Rattle.module_meaning.specs.Names.{Env, Names, behind}
use Rattle.module_meaning.specs.Names.{result_names}
use Rattle.module_meaning.specs.WholeModules.{WholeHead, WholeModule, Loaded, operation_with}
use Rattle.value_meaning.specs.Meaning.{Aliases}

-- what facts say of names, where more is said of regions
module _ (env : Env) (sizes xs ss : List ℕ) (P Q : ℕ → RegionCst → Type 0)
    (more : (i : ℕ) (r : RegionCst) → P i r → Q i r) where
  name-wider : (fact : Fact) → Names env sizes xs ss P fact → Names env sizes xs ss Q fact
  name-wider (uses_are i us) h = h
  name-wider (all_uses_are us) h = h
  name-wider (types_are x ts) h = tt
  name-wider (attr_is k v) h = tt
  name-wider (unit_is k) h = tt
  name-wider (string_is k n) h = tt
  name-wider (number_is k kind n) h = tt
  name-wider (region_is i r) h = more i r h
  name-wider (successor_is i s) h = h
  name-wider (dict_is es) h = tt

  names-wider : (facts : List Fact) → AllByRecursion (Names env sizes xs ss P) facts
      → AllByRecursion (Names env sizes xs ss Q) facts
  names-wider [] h = tt
  names-wider (f ∷ facts) (p, h) = (name-wider f p, names-wider facts h)

-- an operation that says more of its regions
says-wider : (loaded : Loaded) (forms : CustomForms) (aliases : Aliases) (env : Env) (c : OpCst)
    (head : WholeHead) (o : Operation) (P Q : ℕ → RegionCst → Type 0)
    → ((i : ℕ) (r : RegionCst) → P i r → Q i r)
    → OpSays loaded forms aliases env c head o P → OpSays loaded forms aliases env c head o Q
says-wider loaded forms aliases env c head o P Q more p = record {
  completes = p.completes;
  named = p.named;
  names = names-wider env p.completes.operand_sizes head.operands head.successors P Q more
      (form_facts forms c) p.names;
  packs = p.packs;
}

module _ (loaded other : Loaded) (forms : CustomForms) (aliases : Aliases)
    (says : (env : Env) (c : OpCst) (head : WholeHead) (o : Operation)
    (P : ℕ → RegionCst → Type 0) → OpSays loaded forms aliases env c head o P
    → OpSays other forms aliases env c head o P)
    (Typed Others : List Value → List ℕ → Type 0)
    (wider : (ts : List Value) (ns : List ℕ) → Typed ts ns → Others ts ns) where
  mutual
    pub ops-wider : (env : Env) (n : ℕ) (cs : List OpCst) (os : WholeModule)
        → OpsSay loaded forms aliases Typed env n cs os
        → OpsSay other forms aliases Others env n cs os
    ops-wider env n [] no_ops p = tt
    ops-wider env n [] (then_op head rs os) p = absurd p
    ops-wider env n (c ∷ cs) no_ops p = absurd p
    ops-wider env n (c ∷ cs) (then_op head rs os) (new, (ts, typed, p), more) =
        let inner = behind env (result_names (out-OpCst c).results) in (
          new,
          (
            ts,
            wider ts head.operands typed,
            says-wider other forms aliases env c head (operation_with ts head rs) _ _
                (λ i r h. region-wider inner (n + length head.results) i r rs h)
                (says env c head (operation_with ts head rs) _ p),
          ),
          ops-wider inner _ cs os more,
        )

    region-wider : (env : Env) (n i : ℕ) (r : RegionCst) (rs : Regions Text Value)
        → RegionSays loaded forms aliases Typed env n i r rs
        → RegionSays other forms aliases Others env n i r rs
    region-wider env n i r no_regions p = absurd p
    region-wider env n zero r (region bs rs) (labels, p) =
        (labels, blocks-wider _ n (out-RegionCst r).blocks bs p)
    region-wider env n (suc i) r (region bs rs) p = region-wider env _ i r rs p

    blocks-wider : (env : Env) (n : ℕ) (cs : List BlockCst) (bs : Blocks Text Value)
        → BlocksSay loaded forms aliases Typed env n cs bs
        → BlocksSay other forms aliases Others env n cs bs
    blocks-wider env n [] no_blocks p = tt
    blocks-wider env n [] (block xs os bs) p = absurd p
    blocks-wider env n (c ∷ cs) no_blocks p = absurd p
    blocks-wider env n (c ∷ cs) (block xs os bs) (new, p, more) =
        (new, ops-wider _ _ (out-BlockCst c).ops os p, blocks-wider _ _ cs bs more)
