-- A module with other names and values has the same shape, definitions, operands and successors;
-- and the arguments of the blocks of regions, one region after another, cut by the trees' regions,
-- are those of each region.
--
--   shape-mapped             it has the shape of its trees
--   definitions-mapped       its definitions have the same numbers
--   operands-mapped, successors-mapped      so have its operands and successors
--   all-args-mapped          the arguments of its blocks
--   args-cut                 those of each region
use Rattle.std.proofs.Common.{◌≡◌, ℕ, suc, ◌+◌, List, [], ◌∷◌, ◌++◌, length, map, refl, sym, ◌∙◌}
use Rattle.std.proofs.Common.{ap, take, drop}
use Rattle.std.proofs.lemmas.List.{length-map, map-append}
use Rattle.std.proofs.Math.Seq.{take-append_seam, drop-append_seam}
use Rattle.std.specs.List.{range_with_len}
use Rattle.dialect_defs.specs.Segments.{parts}
use Rattle.generic_syntax.specs.declared.module_cst.BlockCst.{BlockCst, out-BlockCst}
use Rattle.generic_syntax.specs.declared.module_cst.FormCst.{out-FormCst}
use Rattle.generic_syntax.specs.declared.module_cst.FormCst.TheOpen.{FormCst-F}
use Rattle.generic_syntax.specs.declared.module_cst.OpCst.{OpCst, out-OpCst}
use Rattle.generic_syntax.specs.declared.module_cst.RegionCst.{RegionCst, out-RegionCst}
use Rattle.generic_syntax.specs.declared.module_cst.ResultCst.{ResultCst}
use Rattle.ir_store.specs.Modules.{OpHead, Ops, Regions, Blocks, no_ops, then_op, no_regions}
use Rattle.ir_store.specs.Modules.{region, no_blocks, block, block_args, region_args}
use Rattle.ir_store.specs.Modules.{types_in, types_in_regions, types_in_blocks}
use Rattle.ir_store.specs.Modules.{mapped, mapped_head, mapped_regions, mapped_blocks}
use Rattle.ir_store.specs.Numbering.{OpSite, ops_in}
use Rattle.ir_store.proofs.Sites.{mapped_site, sites-mapped, types-mapped, types-mapped_regions}
use Rattle.ir_store.proofs.Sites.{types-mapped_blocks}
use Rattle.module_builder.specs.Built.{all_args, successors_at}
use Rattle.module_faults.specs.ModuleFaults.{operands_at}
use Rattle.module_faults.specs.Shape.{FormFits, NamesFit, HasShape, RegionsHaveShape}
use Rattle.module_faults.specs.Shape.{BlocksHaveShape, definitions_in, definitions_in_regions}
use Rattle.module_faults.specs.Shape.{definitions_in_blocks, result_firsts}
use Rattle.module_faults.specs.Standings.{generic_regions}
use Rattle.module_meaning.specs.Facts.{FormSeen}
use Rattle.op_judgement.specs.Shown.{block_counts}

module _ {N V M W : Type 0} (f : N → M) (g : V → W) where
  -- ---- shape

  form-mapped : (v : FormSeen) (h : OpHead N V) → FormFits v h → FormFits v (mapped_head f g h)
  form-mapped (FormCst-F.Generic x) h (uses, leads, results) =
      (uses, leads, results ∙ sym (length-map h.results g))
  form-mapped (FormCst-F.Custom k) h fits = absurd fits

  names-mapped : (rs : List ResultCst) (h : OpHead N V) → NamesFit rs h
      → NamesFit rs (mapped_head f g h)
  names-mapped rs h fits = λ some. fits some ∙ sym (length-map h.results g)

  mutual
    -- the shape of the trees is that of the module with other names and values
    pub shape-mapped : (cs : List OpCst) (os : Ops N V) → HasShape cs os
        → HasShape cs (mapped f g os)
    shape-mapped [] no_ops s = tt
    shape-mapped [] (then_op h rs os) s = absurd s
    shape-mapped (c ∷ cs) no_ops s = absurd s
    shape-mapped (c ∷ cs) (then_op h rs os) (fits, names, inner, more) = (
      form-mapped (out-FormCst (out-OpCst c).form) h fits,
      names-mapped (out-OpCst c).results h names,
      shape-mapped-regions (generic_regions c) rs inner,
      shape-mapped cs os more,
    )

    shape-mapped-regions : (cs : List RegionCst) (rs : Regions N V) → RegionsHaveShape cs rs
        → RegionsHaveShape cs (mapped_regions f g rs)
    shape-mapped-regions [] no_regions s = tt
    shape-mapped-regions [] (region bs rs) s = absurd s
    shape-mapped-regions (c ∷ cs) no_regions s = absurd s
    shape-mapped-regions (c ∷ cs) (region bs rs) (s, more) =
        (shape-mapped-blocks (out-RegionCst c).blocks bs s, shape-mapped-regions cs rs more)

    shape-mapped-blocks : (cs : List BlockCst) (bs : Blocks N V) → BlocksHaveShape cs bs
        → BlocksHaveShape cs (mapped_blocks f g bs)
    shape-mapped-blocks [] no_blocks s = tt
    shape-mapped-blocks [] (block args os bs) s = absurd s
    shape-mapped-blocks (c ∷ cs) no_blocks s = absurd s
    shape-mapped-blocks (c ∷ cs) (block args os bs) (long, s, more) = (
      long ∙ sym (length-map args g),
      shape-mapped (out-BlockCst c).ops os s,
      shape-mapped-blocks cs bs more,
    )

  -- ---- definitions

  mutual
    -- names define values of the same numbers
    pub definitions-mapped : (n : ℕ) (cs : List OpCst) (os : Ops N V)
        → definitions_in n cs (mapped f g os) ≡ definitions_in n cs os
    definitions-mapped n [] os = refl
    definitions-mapped n (c ∷ cs) no_ops = refl
    definitions-mapped n (c ∷ cs) (then_op h rs os) =
        let firsts = result_firsts n (out-OpCst c).results in
        let rs' = mapped_regions f g rs in
        let os' = mapped f g os in
        let own = n + length h.results in
        let many : length (map g h.results) ≡ length h.results = length-map h.results g in
        let inside : length (types_in_regions rs') ≡ length (types_in_regions rs) =
        ap length (types-mapped_regions f g rs) ∙ length-map (types_in_regions rs) g in
        ap (λ k. firsts ++ (definitions_in_regions (n + k) (generic_regions c) rs'
        ++ definitions_in (n + k + length (types_in_regions rs')) cs os')) many
        ∙ (ap (λ k. firsts ++ (definitions_in_regions own (generic_regions c) rs'
        ++ definitions_in (own + k) cs os')) inside
        ∙ (ap (λ l. firsts ++ (l ++ definitions_in (own + length (types_in_regions rs)) cs os'))
        (definitions-mapped-regions own (generic_regions c) rs)
        ∙ ap (λ l. firsts ++ (definitions_in_regions own (generic_regions c) rs ++ l))
        (definitions-mapped (own + length (types_in_regions rs)) cs os)))

    definitions-mapped-regions : (n : ℕ) (cs : List RegionCst) (rs : Regions N V)
        → definitions_in_regions n cs (mapped_regions f g rs) ≡ definitions_in_regions n cs rs
    definitions-mapped-regions n [] rs = refl
    definitions-mapped-regions n (c ∷ cs) no_regions = refl
    definitions-mapped-regions n (c ∷ cs) (region bs rs) =
        let rs' = mapped_regions f g rs in
        let bs' = mapped_blocks f g bs in
        let inside : length (types_in_blocks bs') ≡ length (types_in_blocks bs) =
        ap length (types-mapped_blocks f g bs) ∙ length-map (types_in_blocks bs) g in
        ap (λ k. definitions_in_blocks n (out-RegionCst c).blocks bs'
        ++ definitions_in_regions (n + k) cs rs') inside
        ∙ (ap (λ l. l ++ definitions_in_regions (n + length (types_in_blocks bs)) cs rs')
        (definitions-mapped-blocks n (out-RegionCst c).blocks bs)
        ∙ ap (λ l. definitions_in_blocks n (out-RegionCst c).blocks bs ++ l)
        (definitions-mapped-regions (n + length (types_in_blocks bs)) cs rs))

    definitions-mapped-blocks : (n : ℕ) (cs : List BlockCst) (bs : Blocks N V)
        → definitions_in_blocks n cs (mapped_blocks f g bs) ≡ definitions_in_blocks n cs bs
    definitions-mapped-blocks n [] bs = refl
    definitions-mapped-blocks n (c ∷ cs) no_blocks = refl
    definitions-mapped-blocks n (c ∷ cs) (block args os bs) =
        let os' = mapped f g os in
        let bs' = mapped_blocks f g bs in
        let own = n + length args in
        let many : length (map g args) ≡ length args = length-map args g in
        let inside : length (types_in os') ≡ length (types_in os) =
        ap length (types-mapped f g os) ∙ length-map (types_in os) g in
        ap (λ k. range_with_len n k ++ (definitions_in (n + k) (out-BlockCst c).ops os'
        ++ definitions_in_blocks (n + k + length (types_in os')) cs bs')) many
        ∙ (ap (λ k. range_with_len n (length args) ++ (definitions_in own (out-BlockCst c).ops os'
        ++ definitions_in_blocks (own + k) cs bs')) inside
        ∙ (ap (λ l. range_with_len n (length args) ++ (l
        ++ definitions_in_blocks (own + length (types_in os)) cs bs'))
        (definitions-mapped own (out-BlockCst c).ops os)
        ∙ ap (λ l. range_with_len n (length args)
        ++ (definitions_in own (out-BlockCst c).ops os ++ l))
        (definitions-mapped-blocks (own + length (types_in os)) cs bs)))

  -- ---- operands and successors

  operands-sites : (xs : List (OpSite N V))
      → operands_at (map (mapped_site f g) xs) ≡ operands_at xs
  operands-sites [] = refl
  operands-sites (x ∷ xs) = ap (λ l. x.head.operands ++ l) (operands-sites xs)

  successors-sites : (xs : List (OpSite N V))
      → successors_at (map (mapped_site f g) xs) ≡ successors_at xs
  successors-sites [] = refl
  successors-sites (x ∷ xs) = ap (λ l. x.head.successors ++ l) (successors-sites xs)

  -- operands have the same numbers
  pub operands-mapped : (m : Ops N V) → operands_at (ops_in (mapped f g m)) ≡ operands_at (ops_in m)
  operands-mapped m = ap operands_at (sites-mapped f g m) ∙ operands-sites (ops_in m)

  -- so have successors
  pub successors-mapped : (m : Ops N V)
      → successors_at (ops_in (mapped f g m)) ≡ successors_at (ops_in m)
  successors-mapped m = ap successors_at (sites-mapped f g m) ∙ successors-sites (ops_in m)

  -- ---- arguments of blocks

  block-args-mapped : (bs : Blocks N V)
      → block_args (mapped_blocks f g bs) ≡ map (map g) (block_args bs)
  block-args-mapped no_blocks = refl
  block-args-mapped (block args os bs) = ap (λ l. map g args ∷ l) (block-args-mapped bs)

  -- blocks have arguments of the other types
  pub all-args-mapped : (rs : Regions N V)
      → all_args (mapped_regions f g rs) ≡ map (map g) (all_args rs)
  all-args-mapped no_regions = refl
  all-args-mapped (region bs rs) =
      ap (λ l. l ++ all_args (mapped_regions f g rs)) (block-args-mapped bs)
      ∙ (ap (λ l. map (map g) (block_args bs) ++ l) (all-args-mapped rs)
      ∙ sym (map-append (map g) (block_args bs) (all_args rs)))

module _ {N V : Type 0} where
  -- as many blocks as trees
  blocks-many : (cs : List BlockCst) (bs : Blocks N V) → BlocksHaveShape cs bs
      → length cs ≡ length (block_args bs)
  blocks-many [] no_blocks s = refl
  blocks-many [] (block args os bs) s = absurd s
  blocks-many (c ∷ cs) no_blocks s = absurd s
  blocks-many (c ∷ cs) (block args os bs) (long, s, more) = ap suc (blocks-many cs bs more)

  -- the arguments of the blocks of each region, where regions have the shape of trees
  pub args-cut : (cs : List RegionCst) (rs : Regions N V) → RegionsHaveShape cs rs
      → region_args rs ≡ parts (block_counts cs) (all_args rs)
  args-cut [] no_regions s = refl
  args-cut [] (region bs rs) s = absurd s
  args-cut (c ∷ cs) no_regions s = absurd s
  args-cut (c ∷ cs) (region bs rs) (s, more) =
      let n = length (out-RegionCst c).blocks in
      let long : n ≡ length (block_args bs) = blocks-many (out-RegionCst c).blocks bs s in
      let first : take n (block_args bs ++ all_args rs) ≡ block_args bs =
      ap (λ k. take k (block_args bs ++ all_args rs)) long
      ∙ take-append_seam (block_args bs) (all_args rs) in
      let others : drop n (block_args bs ++ all_args rs) ≡ all_args rs =
      ap (λ k. drop k (block_args bs ++ all_args rs)) long
      ∙ drop-append_seam (block_args bs) (all_args rs) in
      ap (λ l. block_args bs ∷ l) (args-cut cs rs more)
      ∙ (ap (λ l. block_args bs ∷ parts (block_counts cs) l) (sym others)
      ∙ ap (λ l. l ∷ parts (block_counts cs) (drop n (block_args bs ++ all_args rs))) (sym first))
