-- The operands and successors of a module in order: by recursion, and as those of the flat list of
-- its operations.
--
--   operands_of, successors_of    those of operations; of regions and blocks
--   both-ops                      they are those of the flat list
use Rattle.std.proofs.Common.{◌≡◌, ℕ, List, [], ◌∷◌, ◌++◌}
use Rattle.std.proofs.Common.{refl, sym, ◌∙◌, ap, append_assoc}
use Rattle.ir_store.specs.Modules.{Ops, Regions, Blocks, no_ops, then_op, no_regions, region}
use Rattle.ir_store.specs.Modules.{no_blocks, block}
use Rattle.ir_store.specs.Numbering.{Numbers, Part, parts, parts_of_regions, parts_of_blocks}
use Rattle.ir_store.specs.Numbering.{op_sites, ops_in, past_op, past_region, past_block, behind}
use Rattle.ir_store.specs.Numbering.{behind_regions, behind_blocks, first_numbers, OpSite}
use Rattle.ir_store.specs.Numbering as part
use Rattle.module_faults.specs.ModuleFaults.{operands_at}
use Rattle.module_builder.specs.Built.{successors_at}

-- ---- the operands and successors of a module, by recursion

module _ {N V : Type 0} where
  abbrev mutual
    pub operands_of : Ops N V → List ℕ
    operands_of no_ops = []
    operands_of (then_op head rs os) = head.operands ++ (region_operands rs ++ operands_of os)

    pub region_operands : Regions N V → List ℕ
    region_operands no_regions = []
    region_operands (region bs rs) = block_operands bs ++ region_operands rs

    pub block_operands : Blocks N V → List ℕ
    block_operands no_blocks = []
    block_operands (block args os bs) = operands_of os ++ block_operands bs

  abbrev mutual
    pub successors_of : Ops N V → List ℕ
    successors_of no_ops = []
    successors_of (then_op head rs os) =
        head.successors ++ (region_successors rs ++ successors_of os)

    pub region_successors : Regions N V → List ℕ
    region_successors no_regions = []
    region_successors (region bs rs) = block_successors bs ++ region_successors rs

    pub block_successors : Blocks N V → List ℕ
    block_successors no_blocks = []
    block_successors (block args os bs) = successors_of os ++ block_successors bs

-- ---- the same as of the flat list

module _ {N V : Type 0} where
  sites-joined : (xs ys : List (Part N V)) → op_sites (xs ++ ys) ≡ op_sites xs ++ op_sites ys
  sites-joined [] ys = refl
  sites-joined (part.an_op x ∷ xs) ys = ap (λ w. x ∷ w) (sites-joined xs ys)
  sites-joined (part.a_region x ∷ xs) ys = sites-joined xs ys
  sites-joined (part.a_block x ∷ xs) ys = sites-joined xs ys

  operands-joined : (xs ys : List (OpSite N V))
      → operands_at (xs ++ ys) ≡ operands_at xs ++ operands_at ys
  operands-joined [] ys = refl
  operands-joined (x ∷ xs) ys =
      ap (λ w. x.head.operands ++ w) (operands-joined xs ys)
      ∙ sym (append_assoc x.head.operands (operands_at xs) (operands_at ys))

  successors-joined : (xs ys : List (OpSite N V))
      → successors_at (xs ++ ys) ≡ successors_at xs ++ successors_at ys
  successors-joined [] ys = refl
  successors-joined (x ∷ xs) ys =
      ap (λ w. x.head.successors ++ w) (successors-joined xs ys)
      ∙ sym (append_assoc x.head.successors (successors_at xs) (successors_at ys))

  -- both of parts that are put together
  pub record Both (ps : List (Part N V)) (xs ys : List ℕ) : Type 0 where
    pub operands : operands_at (op_sites ps) ≡ xs
    pub successors : successors_at (op_sites ps) ≡ ys

  both-joined : (ps qs : List (Part N V)) (a b c d : List ℕ) → Both ps a b → Both qs c d
      → Both (ps ++ qs) (a ++ c) (b ++ d)
  both-joined ps qs a b c d p q = record {
    operands = ap operands_at (sites-joined ps qs)
        ∙ (operands-joined (op_sites ps) (op_sites qs)
        ∙ (ap (λ w. w ++ operands_at (op_sites qs)) p.operands ∙ ap (λ w. a ++ w) q.operands));
    successors = ap successors_at (sites-joined ps qs)
        ∙ (successors-joined (op_sites ps) (op_sites qs)
        ∙ (ap (λ w. w ++ successors_at (op_sites qs)) p.successors
        ∙ ap (λ w. b ++ w) q.successors));
  }

  mutual
    pub both-ops : (c : Numbers) (os : Ops N V)
        → Both (parts c os) (operands_of os) (successors_of os)
    both-ops c no_ops = record { operands = refl; successors = refl }
    both-ops c (then_op head rs os) =
        let inner = both-joined (parts_of_regions (past_op c head) rs)
        (parts (behind_regions (past_op c head) rs) os) (region_operands rs) (region_successors rs)
        (operands_of os) (successors_of os) (both-regions (past_op c head) rs)
        (both-ops (behind_regions (past_op c head) rs) os) in
        record {
          operands = ap (λ w. head.operands ++ w) inner.operands;
          successors = ap (λ w. head.successors ++ w) inner.successors;
        }

    both-regions : (c : Numbers) (rs : Regions N V)
        → Both (parts_of_regions c rs) (region_operands rs) (region_successors rs)
    both-regions c no_regions = record { operands = refl; successors = refl }
    both-regions c (region bs rs) =
        let inner = both-joined (parts_of_blocks (past_region c) bs)
        (parts_of_regions (behind_blocks (past_region c) bs) rs) (block_operands bs)
        (block_successors bs) (region_operands rs) (region_successors rs)
        (both-blocks (past_region c) bs)
        (both-regions (behind_blocks (past_region c) bs) rs) in
        record { operands = inner.operands; successors = inner.successors }

    both-blocks : (c : Numbers) (bs : Blocks N V)
        → Both (parts_of_blocks c bs) (block_operands bs) (block_successors bs)
    both-blocks c no_blocks = record { operands = refl; successors = refl }
    both-blocks c (block args os bs) =
        let inner = both-joined (parts (past_block c args) os)
        (parts_of_blocks (behind (past_block c args) os) bs) (operands_of os) (successors_of os)
        (block_operands bs) (block_successors bs) (both-ops (past_block c args) os)
        (both-blocks (behind (past_block c args) os) bs) in
        record { operands = inner.operands; successors = inner.successors }
