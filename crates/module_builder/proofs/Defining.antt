-- The first values of definitions over a flat list are those of a module of the trees' shape.
--
--   counts_of shown      how many results each operation has
--   firsts-in-ops        the first values of the definitions in operations, and those behind them
--   firsts-long          there are as many as definitions
use Rattle.std.proofs.Common.{◌≡◌, ℕ, suc, ◌+◌, List, [], ◌∷◌, ◌++◌, length, map, refl, ap, sym}
use Rattle.std.proofs.Common.{◌∙◌, append_assoc, length-append, arith}
use Rattle.std.proofs.lemmas.List.{map-append}
use Rattle.std.proofs.lemmas.List.FromFn.{length-range_with_len}
use Rattle.std.specs.List.{range_with_len}
use Rattle.attr_value.specs.declared.head.ValueId.{ValueId}
use Rattle.generic_syntax.specs.declared.module_cst.BlockCst.{BlockCst, out-BlockCst}
use Rattle.generic_syntax.specs.declared.module_cst.OpCst.{OpCst, out-OpCst}
use Rattle.generic_syntax.specs.declared.module_cst.RegionCst.{RegionCst, out-RegionCst}
use Rattle.generic_syntax.specs.declared.module_cst.ResultCst.{ResultCst}
use Rattle.ir_store.specs.Modules.{Regions, Blocks, no_ops, then_op, no_regions, region}
use Rattle.ir_store.specs.Modules.{no_blocks, block, types_in, types_in_regions, types_in_blocks}
use Rattle.ir_store.specs.Store.{OpName, Module}
use Rattle.module_builder.specs.Filled.{Shown, shown_in, shown_in_regions, shown_in_blocks}
use Rattle.module_builder.specs.Firsts.{firsts_of}
use Rattle.module_builder.specs.Fit.{definition_count}
use Rattle.module_faults.specs.Shape.{HasShape, RegionsHaveShape, BlocksHaveShape}
use Rattle.module_faults.specs.Shape.{result_firsts, definitions_in, definitions_in_regions}
use Rattle.module_faults.specs.Shape.{definitions_in_blocks}
use Rattle.module_faults.specs.Standings.{Standing, an_op, a_region, a_block, deeper, ops_of}
use Rattle.module_faults.specs.Standings.{generic_regions}
use Rattle.module_faults.specs.Standings.{ops_standings}
use Rattle.module_faults.specs.Standings.{regions_standings, blocks_standings}
use Rattle.module_faults.proofs.Opening.{op-opens, region-opens, block-opens}
use Rattle.module_meaning.specs.Names.{pack_size}

-- how many results each operation has
abbrev pub counts_of : List Shown → List ℕ
counts_of = map (λ (s : Shown). length s.head.results)

-- two lists of things that stand, and others; two lists of counts, and others
two : {A : Type 0} (a b c : List A) → (a ++ b) ++ c ≡ a ++ (b ++ c)
two a b c = append_assoc a b c

counts-two : (a b : List Shown) (more : List ℕ)
    → counts_of (a ++ b) ++ more ≡ counts_of a ++ (counts_of b ++ more)
counts-two a b more =
    ap (λ l. l ++ more) (map-append (λ (s : Shown). length s.head.results) a b)
    ∙ append_assoc (counts_of a) (counts_of b) more

mutual
  pub firsts-in-ops : (os : Module) (cs : List OpCst) (n k : ℕ) (rest : List Standing)
      (more : List ℕ) → HasShape cs os
      → firsts_of n (ops_standings k cs ++ rest) (counts_of (shown_in os) ++ more)
      ≡ definitions_in n cs os ++ firsts_of (n + length (types_in os)) rest more
  firsts-in-ops no_ops [] n k rest more p = ap (λ m. firsts_of m rest more) (omega arith)
  firsts-in-ops no_ops (c ∷ cs) n k rest more p = absurd p
  firsts-in-ops (then_op h rs os) [] n k rest more p = absurd p
  firsts-in-ops (then_op h rs os) (c ∷ cs) n k rest more p =
      let r = length h.results in
      let t = length (types_in_regions rs) in
      let own = result_firsts n (out-OpCst c).results in
      let inside = definitions_in_regions (n + r) (generic_regions c) rs in
      let behind = definitions_in (n + r + t) cs os in
      let end : n + r + t + length (types_in os)
      ≡ n + length (h.results ++ types_in_regions rs ++ types_in os)
      = let a = length-append (h.results ++ types_in_regions rs) (types_in os) in
      let b = length-append h.results (types_in_regions rs) in omega arith in
      ap (λ l. own ++ firsts_of (n + r) l (counts_of (shown_in_regions rs ++ shown_in os) ++ more))
      (ap (λ l. (l ++ ops_standings k cs) ++ rest) (op-opens k c)
      ∙ two (regions_standings k (generic_regions c)) (ops_standings k cs) rest)
      ∙ ap (λ l. own ++ firsts_of (n + r) (regions_standings k (generic_regions c)
      ++ (ops_standings k cs ++ rest)) l) (counts-two (shown_in_regions rs) (shown_in os) more)
      ∙ ap (λ l. own ++ l) (firsts-in-regions rs (generic_regions c) (n + r) k
      (ops_standings k cs ++ rest) (counts_of (shown_in os) ++ more) p.2)
      ∙ ap (λ l. own ++ (inside ++ l)) (firsts-in-ops os cs (n + r + t) k rest more p.3)
      ∙ ap (λ m. own ++ (inside ++ (behind ++ firsts_of m rest more))) end
      ∙ ap (λ l. own ++ l) (sym (append_assoc inside behind
      (firsts_of (n + length (types_in (then_op h rs os))) rest more)))
      ∙ sym (append_assoc own (inside ++ behind)
      (firsts_of (n + length (types_in (then_op h rs os))) rest more))

  firsts-in-regions : (os : Regions OpName ValueId) (xs : List RegionCst) (n k : ℕ)
      (rest : List Standing) (more : List ℕ) → RegionsHaveShape xs os
      → firsts_of n (regions_standings k xs ++ rest) (counts_of (shown_in_regions os) ++ more)
      ≡ definitions_in_regions n xs os ++ firsts_of (n + length (types_in_regions os)) rest more
  firsts-in-regions no_regions [] n k rest more p = ap (λ m. firsts_of m rest more) (omega arith)
  firsts-in-regions no_regions (x ∷ xs) n k rest more p = absurd p
  firsts-in-regions (region bs os) [] n k rest more p = absurd p
  firsts-in-regions (region bs os) (x ∷ xs) n k rest more p =
      let t = length (types_in_blocks bs) in
      let blocks = (out-RegionCst x).blocks in
      let inside = definitions_in_blocks n blocks bs in
      let behind = definitions_in_regions (n + t) xs os in
      let end : n + t + length (types_in_regions os)
      ≡ n + length (types_in_blocks bs ++ types_in_regions os)
      = let a = length-append (types_in_blocks bs) (types_in_regions os) in omega arith in
      ap (λ l. firsts_of n l (counts_of (shown_in_blocks bs ++ shown_in_regions os) ++ more))
      (ap (λ l. (l ++ regions_standings k xs) ++ rest) (region-opens k x)
      ∙ ap (λ l. a_region (deeper k) x ∷ l)
      (two (blocks_standings (deeper k) blocks) (regions_standings k xs) rest))
      ∙ ap (λ l. firsts_of n (blocks_standings (deeper k) blocks
      ++ (regions_standings k xs ++ rest)) l)
      (counts-two (shown_in_blocks bs) (shown_in_regions os) more)
      ∙ firsts-in-blocks bs blocks n (deeper k) (regions_standings k xs ++ rest)
      (counts_of (shown_in_regions os) ++ more) p.0
      ∙ ap (λ l. inside ++ l) (firsts-in-regions os xs (n + t) k rest more p.1)
      ∙ ap (λ m. inside ++ (behind ++ firsts_of m rest more)) end
      ∙ sym (append_assoc inside behind
      (firsts_of (n + length (types_in_regions (region bs os))) rest more))

  firsts-in-blocks : (os : Blocks OpName ValueId) (xs : List BlockCst) (n k : ℕ)
      (rest : List Standing) (more : List ℕ) → BlocksHaveShape xs os
      → firsts_of n (blocks_standings k xs ++ rest) (counts_of (shown_in_blocks os) ++ more)
      ≡ definitions_in_blocks n xs os ++ firsts_of (n + length (types_in_blocks os)) rest more
  firsts-in-blocks no_blocks [] n k rest more p = ap (λ m. firsts_of m rest more) (omega arith)
  firsts-in-blocks no_blocks (x ∷ xs) n k rest more p = absurd p
  firsts-in-blocks (block args bs os) [] n k rest more p = absurd p
  firsts-in-blocks (block args bs os) (x ∷ xs) n k rest more p =
      let a = length args in
      let t = length (types_in bs) in
      let ops = (out-BlockCst x).ops in
      let own = range_with_len n a in
      let inside = definitions_in (n + a) ops bs in
      let behind = definitions_in_blocks (n + a + t) xs os in
      let end : n + a + t + length (types_in_blocks os)
      ≡ n + length (args ++ types_in bs ++ types_in_blocks os)
      = let b = length-append (args ++ types_in bs) (types_in_blocks os) in
      let c = length-append args (types_in bs) in omega arith in
      ap (λ l. firsts_of n l (counts_of (shown_in bs ++ shown_in_blocks os) ++ more))
      (ap (λ l. (l ++ blocks_standings k xs) ++ rest) (block-opens k x)
      ∙ ap (λ l. a_block x ∷ l) (two (ops_standings k ops) (blocks_standings k xs) rest))
      ∙ ap (λ m. range_with_len n m ++ firsts_of (n + m) (ops_standings k ops
      ++ (blocks_standings k xs ++ rest)) (counts_of (shown_in bs ++ shown_in_blocks os) ++ more))
      p.0
      ∙ ap (λ l. own ++ firsts_of (n + a) (ops_standings k ops
      ++ (blocks_standings k xs ++ rest)) l)
      (counts-two (shown_in bs) (shown_in_blocks os) more)
      ∙ ap (λ l. own ++ l) (firsts-in-ops bs ops (n + a) k (blocks_standings k xs ++ rest)
      (counts_of (shown_in_blocks os) ++ more) p.1)
      ∙ ap (λ l. own ++ (inside ++ l)) (firsts-in-blocks os xs (n + a + t) k rest more p.2)
      ∙ ap (λ m. own ++ (inside ++ (behind ++ firsts_of m rest more))) end
      ∙ ap (λ l. own ++ l) (sym (append_assoc inside behind
      (firsts_of (n + length (types_in_blocks (block args bs os))) rest more)))
      ∙ sym (append_assoc own (inside ++ behind)
      (firsts_of (n + length (types_in_blocks (block args bs os))) rest more))

-- ---- how many there are

results-long : (n : ℕ) (rs : List ResultCst) → length (result_firsts n rs) ≡ length rs
results-long n [] = refl
results-long n (r ∷ rs) = ap suc (results-long (n + pack_size r.pack) rs)

pub firsts-long : (n : ℕ) (ss : List Standing) (ks : List ℕ) → length ks ≡ length (ops_of ss)
    → length (firsts_of n ss ks) ≡ definition_count ss
firsts-long n [] ks e = refl
firsts-long n (an_op c last ∷ ss) [] e =
    absurd (let h : 0 ≡ suc (length (ops_of ss)) = e in omega arith)
firsts-long n (an_op c last ∷ ss) (k ∷ ks) e =
    let rest = firsts-long (n + k) ss ks
    (let h : suc (length ks) ≡ suc (length (ops_of ss)) = e in omega arith) in
    let own = results-long n (out-OpCst c).results in
    let both = length-append (result_firsts n (out-OpCst c).results) (firsts_of (n + k) ss ks) in
    omega arith
firsts-long n (a_region m r ∷ ss) ks e = firsts-long n ss ks e
firsts-long n (a_block b ∷ ss) ks e =
    let a = length (out-BlockCst b).args in
    let rest = firsts-long (n + a) ss ks e in
    let own = length-range_with_len n a in
    let both = length-append (range_with_len n a) (firsts_of (n + a) ss ks) in
    omega arith
