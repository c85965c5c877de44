-- Regions: what the tree of a region says of its blocks, and what names mean in it.
use Rattle.std.proofs.Common.{◌≡◌, ℕ, suc, ◌+◌, ◌<◌, ◌≤◌, ◌^◌, Bool, true, false, List, [], ◌∷◌}
use Rattle.std.proofs.Common.{◌++◌, length, map, cond, sym, ◌∙◌, ap, subst, Option, Some, None, inl}
use Rattle.std.proofs.Common.{inr, arith, bytes_eq, Contains}
use Rattle.std.proofs.lemmas.List.Elements.{Contains-append_cases}
use Rattle.std.specs.List.{AllByRecursion, AllZip, IsDistinct}
use Rattle.attr_value.specs.Values.{Value}
use Rattle.derived_printer.specs.ModuleMarks.{has_label, numbered}
use Rattle.generic_syntax.specs.declared.cst.NameCst.{NameCst}
use Rattle.generic_syntax.specs.declared.module_cst.ArgCst.{ArgCst}
use Rattle.generic_syntax.specs.declared.module_cst.BlockCst.{BlockCst, out-BlockCst}
use Rattle.generic_syntax.specs.declared.module_cst.OpCst.{OpCst}
use Rattle.generic_syntax.specs.declared.module_cst.BlockCst.{roll-BlockCst, out-roll-BlockCst}
use Rattle.generic_syntax.specs.declared.module_cst.RegionCst.{out-RegionCst}
use Rattle.generic_syntax.specs.declared.module_cst.RegionCst.{out-roll-RegionCst}
use Rattle.generic_syntax.specs.Modules.{region_at, unlabelled, labelled}
use Rattle.ir_lexer.specs.Spelling.{Text}
use Rattle.ir_store.specs.Modules.{Blocks, then_op, no_blocks, block, block_args}
use Rattle.ir_store.specs.Modules.{Regions, types_in, types_in_blocks}
use Rattle.module_meaning.specs.AliasValues.{no_aliases}
use Rattle.module_meaning.specs.Completes.{AreTypes, BlocksSay, block_scope}
use Rattle.module_meaning.specs.Facts.{CustomForms}
use Rattle.module_meaning.specs.Names.{Env, inside, label_scope, names_in, label_of}
use Rattle.module_meaning.specs.WholeModules.{WholeHead, WholeModule, Loaded, block_numbers}
use Rattle.module_text.proofs.Lists.{of-all, blocks-below}
use Rattle.module_text.proofs.Numbers.{value_key, block_key, values-differ, blocks-differ}
use Rattle.module_text.proofs.OneOperation.{Sees, RegionHas}
use Rattle.module_text.proofs.Parts.{IsTarget, IsArgument}
use Rattle.module_text.proofs.Scopes.{Below, labels_from, seen-inside, label-found, labels-distinct}
use Rattle.module_text.proofs.Trees.{BlockHas, BlocksHave, OpsHave, behind_values, values_scope}
use Rattle.module_text.proofs.Trees.{behind_block, more-blocks}
use Rattle.symbol_scopes.specs.Regions.{RegionScope, found}
use Rattle.value_meaning.specs.Meaning.{value_of}

-- the labels of so many blocks, from a number on
abbrev pub block_labels : ℕ → ℕ → RegionScope
block_labels k m = labels_from block_key k m

-- the label of a block
abbrev pub one_label : ℕ → RegionScope
one_label k = record { name = block_key k; at = k; number = k } ∷ []

-- the labels of a region: the first block has none where it has no arguments and some operation
abbrev pub region_labels : Blocks Text Value → RegionScope
region_labels no_blocks = []
region_labels (block args os bs) =
    cond (has_label 0 args os) (block_labels 0 (suc (length (block_args bs))))
    (block_labels 1 (length (block_args bs)))

-- labels of blocks that are counted differ, and each is found
few-differ : (n m : ℕ) → n < 2 ^ 64 → m < 2 ^ 64 → block_key n ≡ block_key m → n ≡ m
few-differ n m a b e = blocks-differ n m a b e

region-distinct : (bs : Blocks Text Value) → length (block_args bs) ≤ 2 ^ 64
    → IsDistinct bytes_eq (names_in (region_labels bs))
unfolding IsDistinct
region-distinct no_blocks few = tt
region-distinct (block args os bs) few = go (has_label 0 args os)
  where
    go : (b : Bool)
        → IsDistinct bytes_eq (names_in (cond b (block_labels 0 (suc (length (block_args bs))))
        (block_labels 1 (length (block_args bs)))))
    go true =
        labels-distinct block_key (2 ^ 64) few-differ (suc (length (block_args bs))) 0
        (omega (arith, few))
    go false =
        labels-distinct block_key (2 ^ 64) few-differ (length (block_args bs)) 1
        (omega (arith, few))

-- each block but the first is found by its label
region-found : (bs : Blocks Text Value) → length (block_args bs) ≤ 2 ^ 64 → (b : ℕ) → 0 < b
    → b < length (block_args bs) → found (region_labels bs) (block_key b) ≡ Some (b, b)
region-found no_blocks few b p l = absurd (omega (arith, l))
region-found (block args os bs) few b p l = go (has_label 0 args os)
  where
    go : (q : Bool)
        → found (cond q (block_labels 0 (suc (length (block_args bs))))
        (block_labels 1 (length (block_args bs)))) (block_key b) ≡ Some (b, b)
    go true =
        label-found block_key (2 ^ 64) few-differ (suc (length (block_args bs))) 0 b
        (omega (arith, few)) (omega arith) (omega (arith, l))
    go false =
        label-found block_key (2 ^ 64) few-differ (length (block_args bs)) 1 b
        (omega (arith, few)) (omega (arith, p)) (omega (arith, l))

-- what names mean in a region, by its numbers
abbrev pub region_env : Env → ℕ → Blocks Text Value → Env
region_env env n bs = inside env (values_scope (block_numbers n bs)) (region_labels bs)

module _ (loaded : Loaded) (forms : CustomForms) (types : List Value) where
  -- in a region names mean its values and those round it
  pub sees-inside : length types ≤ 2 ^ 64 → (env : Env) (visible : List ℕ) (blocks n : ℕ)
      (bs : Blocks Text Value) → n + length (types_in_blocks bs) ≤ length types
      → length (block_args bs) ≤ 2 ^ 64 → Sees loaded forms types env visible blocks
      → Sees loaded forms types (region_env env n bs) (block_numbers n bs ++ visible)
      (length (block_args bs))
  sees-inside few env visible blocks n bs room short sees = record {
    values = λ i has. seen-inside value_key (length types)
        (λ i j a b e. values-differ i j (omega arith) (omega arith) e) env.scopes
        (block_numbers n bs) visible own sees.values i (low i has) has;
    low = low;
    labels = region-found bs short;
    few = short;
  }
    where
      own : AllByRecursion (λ k. k < length types) (block_numbers n bs)
      own = blocks-below n (length types) bs room

      low : (i : ℕ) → Contains (block_numbers n bs ++ visible) i → i < length types
      low i has = elim (Contains-append_cases (block_numbers n bs) visible i has) [
        | inl a ↦ of-all (λ k. k < length types) (block_numbers n bs) i own a
        | inr b ↦ sees.low i b
      ]

  -- the tree of a region whose blocks complete its trees
  pub region-has : (env : Env) (n : ℕ) (bs : Blocks Text Value) → length (block_args bs) ≤ 2 ^ 64
      → (place : ℕ) (trees : List BlockCst)
      → BlocksHave loaded forms types (region_env env n bs) n 0 (region_labels bs) bs trees
      → RegionHas loaded forms types env (region_at place trees) (n, bs)
  unfolding region_at
  region-has env n bs few place trees h = record {
    says = subst Is (sym is) (
      subst (λ (s : RegionScope). IsDistinct bytes_eq (names_in s)) (sym h.labelled)
          (region-distinct bs few),
      subst (λ (s : RegionScope). Say (inside env s (label_scope 0 trees)) trees) (sym h.scope)
          (subst (λ (s : RegionScope). Say (inside env (values_scope (block_numbers n bs)) s) trees)
          (sym h.labelled) h.says),
    );
    args = ap spelled is ∙ h.spelled;
  }
    where
      Say : Env → List BlockCst → Type 0
      Say e cs = BlocksSay loaded forms no_aliases (AreTypes types) e n cs bs

      Is : List BlockCst → Type 0
      Is cs =
          IsDistinct bytes_eq (names_in (label_scope 0 cs))
          × Say (inside env (block_scope n cs bs) (label_scope 0 cs)) cs

      spelled : List BlockCst → List (List (Option Value))
      spelled cs =
          map (λ b. map (λ (x : ArgCst). value_of no_aliases x.ty) (out-BlockCst b).args) cs

      is : (out-RegionCst (region_at place trees)).blocks ≡ trees
      is = ap (λ s. s.blocks) (out-roll-RegionCst (record { place = place; blocks = trees }))

  -- ---- blocks

  -- a block with these arguments and operations
  block-has : (env : Env) (n k : ℕ) (args : List Value) (os : WholeModule) (label : Option NameCst)
      (xs : List ArgCst) (cs : List OpCst) → AllZip IsArgument xs (numbered n args)
      → OpsHave loaded forms types (behind_values env n (length args)) (n + length args) os
      cs
      → BlockHas loaded forms types env n k (label_of k label) args os
      (roll-BlockCst (record { label = label; args = xs; ops = cs }))
  block-has env n k args os label xs cs h p =
      let is = out-roll-BlockCst (record { label = label; args = xs; ops = cs }) in
      record {
        arguments = subst (λ (l : List ArgCst). AllZip IsArgument l (numbered n args))
            (sym (ap (λ s. s.args) is)) h;
        inside = subst (λ (l : List OpCst). OpsHave loaded forms types
            (behind_values env n (length args)) (n + length args) os l)
            (sym (ap (λ s. s.ops) is)) p;
        labelled = ap (λ s. label_of k s.label) is;
      }

  -- a block with its label
  pub labelled-has : (env : Env) (n k : ℕ) (args : List Value) (os : WholeModule) (name : NameCst)
      (x : List ArgCst × List OpCst) → IsTarget name k → AllZip IsArgument x.0 (numbered n args)
      → OpsHave loaded forms types (behind_values env n (length args)) (n + length args) os
      x.1 → BlockHas loaded forms types env n k (one_label k) args os (labelled name x)
  unfolding labelled
  labelled-has env n k args os name x named h p =
      subst (λ (w : Text). BlockHas loaded forms types env n k
      (record { name = w; at = k; number = k } ∷ []) args os (labelled name x)) named
      (block-has env n k args os (Some name) x.0 x.1 h p)

  -- operations without a label are the first block
  pub first-unlabelled : length types ≤ 2 ^ 64 → (env : Env) (n : ℕ) (head : WholeHead)
      (rs : Regions Text Value) (os : WholeModule) (rest : Blocks Text Value)
      → n + 0 ≤ length types → Below value_key n env.before → (cs : List OpCst)
      (trees : List BlockCst)
      → OpsHave loaded forms types (behind_values env n 0) (n + 0) (then_op head rs os) cs
      → BlocksHave loaded forms types (behind_block env n [] (then_op head rs os))
      (n + 0 + length (types_in (then_op head rs os))) 1
      (block_labels 1 (length (block_args rest))) rest trees
      → BlocksHave loaded forms types env n 0 (block_labels 1 (length (block_args rest)))
      (block [] (then_op head rs os) rest) (unlabelled cs ++ trees)
  unfolding unlabelled
  first-unlabelled few env n head rs os rest room before [] trees p q = absurd p.says
  first-unlabelled few env n head rs os rest room before (c ∷ cs) trees p q =
      more-blocks loaded forms types few env n 0 [] (block_labels 1 (length (block_args rest))) []
      (then_op head rs os) rest _ trees room before
      (block-has env n 0 [] (then_op head rs os) None [] (c ∷ cs) tt p) q
