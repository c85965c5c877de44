-- Lists of what stands in a tree, in the making: what is listed, and behind it what stands in what
-- is left, are the whole.
--
--   ListedOps, ListedRegions, ListedBlocks     of so many operations, regions or blocks all is
--                                              listed
--   ops-more, regions-more, blocks-more       the next one is listed, and then what stands in it
use Rattle.std.proofs.Common.{◌≡◌, ℕ, suc, ◌+◌, ◌<◌, ◌≤◌, Bool, List, [], ◌∷◌, ◌++◌, length, drop}
use Rattle.std.proofs.Common.{get_or, ap, sym, ◌∙◌, append_assoc, arith}
use Rattle.std.proofs.Common.{drop-cons, add-one, nat_eq, ◌-◌, eq-eqb, length-drop}
use Rattle.std.proofs.lemmas.Bool.{ne_eqb}
use Rattle.generic_syntax.specs.declared.module_cst.BlockCst.{BlockCst, out-BlockCst}
use Rattle.generic_syntax.specs.declared.module_cst.OpCst.{OpCst}
use Rattle.generic_syntax.specs.declared.module_cst.RegionCst.{RegionCst, out-RegionCst}
use Rattle.module_faults.specs.Standings.{Standing, an_op, a_region, a_block, deeper}
use Rattle.module_faults.specs.Standings.{is_last_before, generic_regions, ops_standings}
use Rattle.module_faults.specs.Standings.{regions_standings, blocks_standings, op_inside}
use Rattle.module_faults.proofs.Opening.{op-opens, region-opens, block-opens}

-- the items from this one on
from-here : {A : Type 0} (xs : List A) (i : ℕ) (x : A) → i < length xs → x ≡ get_or xs i x
    → drop i xs ≡ x ∷ drop (i + 1) xs
from-here xs i x less is = drop-cons xs i x less ∙ ap (λ y. y ∷ drop (suc i) xs) (sym is)
    ∙ ap (λ k. x ∷ drop k xs) (sym (add-one i))

-- one part, what stands in it, and what is left
behind : {A : Type 0} (a b c d rest : List A) (x : A) (inside : List A) → c ≡ b ++ x ∷ []
    → d ≡ c ++ inside → b ++ (x ∷ (inside ++ rest)) ≡ a → d ++ rest ≡ a
behind a b c d rest x inside pushed listed whole =
    ap (λ l. l ++ rest) (listed ∙ ap (λ l. l ++ inside) pushed)
    ∙ append_assoc (b ++ x ∷ []) inside rest
    ∙ append_assoc b (x ∷ []) (inside ++ rest)
    ∙ whole

-- ---- operations

-- all is listed of the first i operations, behind what was listed before
pub record ListedOps (begun now : List Standing) (n : ℕ) (ops : List OpCst) (i : ℕ) : Type 0 where
  pub rest : now ++ ops_standings n (drop i ops) ≡ begun ++ ops_standings n ops

pub ops-more : (a b c d : List Standing) (n : ℕ) (ops : List OpCst) (i : ℕ) (op : OpCst)
    (last : Bool) → i < length ops → op ≡ get_or ops i op
    → last ≡ is_last_before (drop (i + 1) ops) → ListedOps a b n ops i → c ≡ b ++ an_op op last ∷ []
    → d ≡ c ++ regions_standings n (generic_regions op) → ListedOps a d n ops (i + 1)
ops-more a b c d n ops i op last less is lasts before pushed listed = record {
  rest = behind (a ++ ops_standings n ops) b c d (ops_standings n (drop (i + 1) ops))
      (an_op op last) (op_inside n op) pushed (listed ∙ ap (λ l. c ++ l) (sym (op-opens n op)))
      (ap (λ t. b ++ (an_op op t ∷ (op_inside n op ++ ops_standings n (drop (i + 1) ops)))) lasts
      ∙ ap (λ l. b ++ ops_standings n l) (sym (from-here ops i op less is))
      ∙ before.rest);
}

-- ---- regions

-- all is listed of the first i regions
pub record ListedRegions (begun now : List Standing) (n : ℕ) (rs : List RegionCst) (i : ℕ) : Type 0
  where
    pub rest : now ++ regions_standings n (drop i rs) ≡ begun ++ regions_standings n rs

pub regions-more : (a b c d : List Standing) (n : ℕ) (rs : List RegionCst) (i : ℕ) (r : RegionCst)
    → i < length rs → r ≡ get_or rs i r
    → ListedRegions a b n rs i → c ≡ b ++ a_region (deeper n) r ∷ []
    → d ≡ c ++ blocks_standings (deeper n) (out-RegionCst r).blocks → ListedRegions a d n rs (i + 1)
regions-more a b c d n rs i r less is before pushed listed = record {
  rest = behind (a ++ regions_standings n rs) b c d (regions_standings n (drop (i + 1) rs))
      (a_region (deeper n) r) (blocks_standings (deeper n) (out-RegionCst r).blocks) pushed listed
      (ap (λ l. b ++ (l ++ regions_standings n (drop (i + 1) rs))) (sym (region-opens n r))
      ∙ ap (λ l. b ++ regions_standings n l) (sym (from-here rs i r less is))
      ∙ before.rest);
}

-- ---- blocks

-- all is listed of the first i blocks
pub record ListedBlocks (begun now : List Standing) (n : ℕ) (bs : List BlockCst) (i : ℕ) : Type 0
  where
    pub rest : now ++ blocks_standings n (drop i bs) ≡ begun ++ blocks_standings n bs

pub blocks-more : (a b c d : List Standing) (n : ℕ) (bs : List BlockCst) (i : ℕ) (x : BlockCst)
    → i < length bs → x ≡ get_or bs i x
    → ListedBlocks a b n bs i → c ≡ b ++ a_block x ∷ []
    → d ≡ c ++ ops_standings n (out-BlockCst x).ops → ListedBlocks a d n bs (i + 1)
blocks-more a b c d n bs i x less is before pushed listed = record {
  rest = behind (a ++ blocks_standings n bs) b c d (blocks_standings n (drop (i + 1) bs))
      (a_block x) (ops_standings n (out-BlockCst x).ops) pushed listed
      (ap (λ l. b ++ (l ++ blocks_standings n (drop (i + 1) bs))) (sym (block-opens n x))
      ∙ ap (λ l. b ++ blocks_standings n l) (sym (from-here bs i x less is))
      ∙ before.rest);
}

-- the items behind some of them are none where these are all
last-by : {A : Type 0} (rest : List A) (i n : ℕ) → i ≤ n → length rest ≡ n - i
    → nat_eq i n ≡ is_last_before rest
last-by [] i n most none = eq-eqb i n (omega arith)
last-by (x ∷ rest) i n most some = ne_eqb i n (λ same. absurd (let h : i ≡ n = same in omega arith))

-- an item is the last one where its number says so
pub last-of : {A : Type 0} (xs : List A) (i : ℕ) → i < length xs
    → nat_eq (i + 1) (length xs) ≡ is_last_before (drop (i + 1) xs)
last-of xs i less =
    last-by (drop (i + 1) xs) (i + 1) (length xs) (omega arith) (length-drop (i + 1) xs)
