-- A module as a list that gives it back, so that a module can be what contracts see.
--
--   name_code, id_code, head_code      the codes of names, ids and operations without regions
--   Attrs, HeadParts                   the parts of such an operation
--   Word, word_code                    a constructor, and its code
--   written_ops, written_regions, written_blocks      the constructors of a tree
--   Heap                               the trees of each kind that were read
--   first_op, first_region, first_block, others       the last of a kind, and those before
--   taken, decoded                     what is read of one constructor more, and of a list
--   read-ops, read-regions, read-blocks, read-module  a tree is read as itself
--   module_code     the code of a module: each constructor in order, before its parts
--
-- Inside: no public clause rests on this.
use Rattle.std.specs.Prelude.{◌≡◌, ◌⊎◌, ℕ, zero, suc, List, [], ◌∷◌, ◌++◌, refl}
use Rattle.std.proofs.Common.{inl, inr, ap, sym, ◌∙◌, append_assoc, append-nil}
use Rattle.std.specs.Coded.{Coded, code_by, coded×, coded⊎, coded_ℕ, coded_list}
use Rattle.attr_value.specs.declared.head.ValueId.{ValueId}
use Rattle.ir_store.specs.Modules.{Regions, Blocks}
use Rattle.ir_store.specs.Modules.{no_ops, then_op, no_regions, region, no_blocks, block}
use Rattle.ir_store.specs.Store.{OpName, StoredHead, Module}

-- ---- heads

-- a name is stored as its two numbers
abbrev pub name_code : Coded OpName
name_code = code_by (ℕ × ℕ) (coded× coded_ℕ coded_ℕ) (λ n. (n.def, n.place))
    (λ p. record { def = p.0; place = p.1 }) (λ _. refl)

-- an id is stored as its number
abbrev pub id_code : Coded ValueId
id_code = code_by ℕ coded_ℕ (λ v. v.0) (λ n. record { 0 = n }) (λ _. refl)

-- the keys and the values of attributes
abbrev pub Attrs : Type 0
Attrs = List (List ℕ) × List ValueId

-- the parts of an operation without its regions
abbrev pub HeadParts : Type 0
HeadParts = OpName × (List ℕ × (List ValueId × (List ℕ × Attrs)))

-- an operation without its regions is stored as its parts
abbrev pub head_code : Coded StoredHead
head_code = code_by HeadParts
    (coded× name_code (coded× (coded_list coded_ℕ) (coded× (coded_list id_code)
    (coded× (coded_list coded_ℕ) (coded× (coded_list (coded_list coded_ℕ)) (coded_list id_code))))))
    (λ h. (h.name, (h.operands, (h.results, (h.successors, (h.keys, h.values))))))
    (λ p. record {
      name = p.0;
      operands = p.1.0;
      results = p.1.1.0;
      successors = p.1.1.1.0;
      keys = p.1.1.1.1.0;
      values = p.1.1.1.1.1;
    })
    (λ _. refl)

-- ---- trees

-- a constructor: an operation, a block by the types of its arguments, or one of the others by a
-- number
abbrev pub Word : Type 0
Word = StoredHead ⊎ (List ValueId ⊎ ℕ)

-- a constructor is stored as what it is of the three
abbrev pub word_code : Coded Word
word_code = coded⊎ head_code (coded⊎ (coded_list id_code) coded_ℕ)

abbrev mutual
  -- the constructors of operations
  pub written_ops : Module → List Word
  written_ops no_ops = inr (inr 0) ∷ []
  written_ops (then_op head rs os) = inl head ∷ (written_regions rs ++ written_ops os)

  -- the constructors of regions
  pub written_regions : Regions OpName ValueId → List Word
  written_regions no_regions = inr (inr 1) ∷ []
  written_regions (region bs rs) = inr (inr 2) ∷ (written_blocks bs ++ written_regions rs)

  -- the constructors of blocks
  pub written_blocks : Blocks OpName ValueId → List Word
  written_blocks no_blocks = inr (inr 3) ∷ []
  written_blocks (block args os bs) = inr (inl args) ∷ (written_ops os ++ written_blocks bs)

-- what was read so far, from the end: trees of each kind, the last one first
pub record Heap : Type 0 where
  pub ops : List Module
  pub regions : List (Regions OpName ValueId)
  pub blocks : List (Blocks OpName ValueId)

-- the last operations that were read
abbrev pub first_op : List Module → Module
first_op [] = no_ops
first_op (m ∷ ms) = m

-- the last regions that were read
abbrev pub first_region : List (Regions OpName ValueId) → Regions OpName ValueId
first_region [] = no_regions
first_region (m ∷ ms) = m

-- the last blocks that were read
abbrev pub first_block : List (Blocks OpName ValueId) → Blocks OpName ValueId
first_block [] = no_blocks
first_block (m ∷ ms) = m

-- what was read before
abbrev pub others : {X : Type 0} → List X → List X
others [] = []
others (x ∷ xs) = xs

-- a constructor takes its parts
abbrev pub taken : Word → Heap → Heap
taken (inl head) h = record {
  ops = then_op head (first_region h.regions) (first_op h.ops) ∷ others h.ops;
  regions = others h.regions;
  blocks = h.blocks;
}
taken (inr (inl args)) h = record {
  ops = others h.ops;
  regions = h.regions;
  blocks = block args (first_op h.ops) (first_block h.blocks) ∷ others h.blocks;
}
taken (inr (inr zero)) h = record h { ops = no_ops ∷ h.ops }
taken (inr (inr (suc zero))) h = record h { regions = no_regions ∷ h.regions }
taken (inr (inr (suc (suc zero)))) h = record {
  ops = h.ops;
  regions = region (first_block h.blocks) (first_region h.regions) ∷ others h.regions;
  blocks = others h.blocks;
}
taken (inr (inr (suc (suc (suc _))))) h = record h { blocks = no_blocks ∷ h.blocks }

-- what is read of a list of constructors
abbrev pub decoded : List Word → Heap
decoded [] = record { ops = []; regions = []; blocks = [] }
decoded (w ∷ ws) = taken w (decoded ws)

mutual
  -- the constructors of operations are read as these operations
  pub read-ops : (os : Module) (ws : List Word)
      → decoded (written_ops os ++ ws) ≡ record (decoded ws) { ops = os ∷ (decoded ws).ops }
  read-ops no_ops ws = refl
  read-ops (then_op head rs os) ws =
      ap (λ l. taken (inl head) (decoded l)) (append_assoc (written_regions rs) (written_ops os) ws)
      ∙ ap (taken (inl head)) (read-regions rs (written_ops os ++ ws))
      ∙ ap (λ h. taken (inl head) (record h { regions = rs ∷ h.regions })) (read-ops os ws)

  -- those of regions as these regions
  pub read-regions : (rs : Regions OpName ValueId) (ws : List Word)
      → decoded (written_regions rs ++ ws) ≡ record (decoded ws) { regions = rs ∷ (decoded ws).regions }
  read-regions no_regions ws = refl
  read-regions (region bs rs) ws =
      ap (λ l. taken (inr (inr 2)) (decoded l))
      (append_assoc (written_blocks bs) (written_regions rs) ws)
      ∙ ap (taken (inr (inr 2))) (read-blocks bs (written_regions rs ++ ws))
      ∙ ap (λ h. taken (inr (inr 2)) (record h { blocks = bs ∷ h.blocks })) (read-regions rs ws)

  -- those of blocks as these blocks
  pub read-blocks : (bs : Blocks OpName ValueId) (ws : List Word)
      → decoded (written_blocks bs ++ ws) ≡ record (decoded ws) { blocks = bs ∷ (decoded ws).blocks }
  read-blocks no_blocks ws = refl
  read-blocks (block args os bs) ws =
      ap (λ l. taken (inr (inl args)) (decoded l))
      (append_assoc (written_ops os) (written_blocks bs) ws)
      ∙ ap (taken (inr (inl args))) (read-ops os (written_blocks bs ++ ws))
      ∙ ap (λ h. taken (inr (inl args)) (record h { ops = os ∷ h.ops })) (read-blocks bs ws)

-- the constructors of a module give it back
pub read-module : (m : Module) → first_op (decoded (written_ops m)).ops ≡ m
read-module m =
    ap (λ l. first_op (decoded l).ops) (sym (append-nil (written_ops m)))
    ∙ ap (λ h. first_op h.ops) (read-ops m [])

-- a module as its constructors
abbrev pub module_code : Coded Module
module_code = code_by (List Word) (coded_list word_code) written_ops
    (λ ws. first_op (decoded ws).ops) read-module
