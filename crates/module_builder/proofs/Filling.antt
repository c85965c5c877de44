-- A walk over trees that adds to a store: one tree is added, and then others.
--
--   zip-none, zip-first           lists that go together place by place
--   ops-none, regions-none, blocks-none     nothing is added at the beginning
--   ops-then, regions-then, blocks-then     some trees are added, and then others
--   op-filled, region-filled, block-filled  one tree is added: a part, and then what stands in it
--   op-next, region-next, block-next        what the next tree asks of rows and types
use Rattle.std.proofs.Common.{◌≡◌, ℕ, ◌+◌, ◌<◌, List, [], ◌∷◌, ◌++◌, length, map, take, drop}
use Rattle.std.proofs.Common.{get_or, refl, ap, sym, ◌∙◌, subst, append_assoc, append-nil, arith}
use Rattle.std.proofs.Common.{Option, Some, suc, drop-cons, add-one}
use Rattle.std.proofs.lemmas.List.{take-append-drop, take_more}
use Rattle.std.specs.List.{AllZip}
use Rattle.attr_value.specs.declared.head.ValueId.{ValueId}
use Rattle.generic_syntax.specs.declared.module_cst.BlockCst.{BlockCst, out-BlockCst}
use Rattle.generic_syntax.specs.declared.module_cst.CustomCst.{CustomCst}
use Rattle.generic_syntax.specs.declared.module_cst.FormCst.{FormCst, out-FormCst}
use Rattle.generic_syntax.specs.declared.module_cst.FormCst.{out-roll-FormCst}
use Rattle.generic_syntax.specs.declared.module_cst.FormCst.TheOpen.{FormCst-F}
use Rattle.generic_syntax.specs.declared.module_cst.FormCst.TheVariants as form
use Rattle.generic_syntax.specs.declared.module_cst.OpCst.{OpCst}
use Rattle.generic_syntax.specs.declared.module_cst.RegionCst.{RegionCst, out-RegionCst}
use Rattle.ir_store.specs.declared.rows.OpId.{OpId}
use Rattle.ir_store.specs.declared.rows.RegionId.{RegionId}
use Rattle.ir_store.specs.declared.rows.BlockId.{BlockId}
use Rattle.ir_store.specs.Growth.{in_block, in_op, in_region, IsOpen, Opens, to_block, to_op}
use Rattle.ir_store.specs.Growth.{to_region, added, one_op, one_region, one_block}
use Rattle.ir_store.specs.Modules.{no_ops, then_op, no_regions, region, no_blocks, block}
use Rattle.ir_store.specs.Modules.{joined_ops, joined_regions, joined_blocks, block_args}
use Rattle.ir_store.specs.Numbering.{ops_in, regions_in, blocks_in}
use Rattle.ir_store.specs.Store.{Module, head_of}
use Rattle.ir_store.proofs.Building.{built-op, built-region, built-block, joined-op}
use Rattle.ir_store.proofs.Building.{joined-region, joined-block, nothing-op, nothing-region}
use Rattle.ir_store.proofs.Building.{nothing-block}
use Rattle.module_builder.specs.declared.row.Row.{Row}
use Rattle.module_builder.specs.Built.{all_args}
use Rattle.module_builder.specs.Filled.{shown_of, shown_in, shown_in_regions}
use Rattle.module_builder.specs.Filled.{shown_in_blocks, Await, AwaitArgs, OpsFilled}
use Rattle.module_builder.specs.Filled.{RegionsFilled, BlocksFilled}
use Rattle.module_builder.specs.Fit.{ArgsFit, blocks_under}
use Rattle.module_builder.specs.Rows.{RowFits}
use Rattle.module_builder.proofs.Joining.{shape-ops, shape-regions, shape-blocks, shown-ops}
use Rattle.module_builder.proofs.Joining.{shown-regions, shown-blocks, args-regions, args-blocks}
use Rattle.module_builder.proofs.Trees.{in_ops, in_regions, in_blocks, op-stands, region-stands}
use Rattle.module_builder.proofs.Trees.{block-stands, ops-joined, regions-joined, blocks-joined}
use Rattle.module_builder.proofs.Trees.{under-joined}
use Rattle.module_faults.specs.Standings.{deeper, generic_regions, ops_standings, regions_in_form}
use Rattle.module_faults.specs.Standings.{regions_standings, blocks_standings}

-- ---- lists that go together place by place

pub zip-none : {A B : Type 0} (R : A → B → Type 0) (ys : List B) → AllZip R [] ys → ys ≡ []
zip-none R [] p = refl
zip-none R (y ∷ ys) p = absurd p

pub zip-first : {A B : Type 0} (R : A → B → Type 0) (x : A) (xs : List A) (ys : List B)
    → AllZip R (x ∷ xs) ys → 0 < length ys
zip-first R x xs [] p = absurd p
zip-first R x xs (y ∷ ys) p = omega arith

-- behind some of what is added there is something else
behind : {A : Type 0} (a b c : List A) (mid end whole : List A) → c ≡ a ++ b → b ++ end ≡ mid
    → a ++ mid ≡ whole → c ++ end ≡ whole
behind a b c mid end whole joined second first =
    ap (λ l. l ++ end) joined ∙ append_assoc a b end ∙ ap (λ l. a ++ l) second ∙ first

-- what goes with trees and others behind them goes with both
regrouped : {A B : Type 0} (R : A → B → Type 0) (a b c more : List A) (ys : List B) → c ≡ a ++ b
    → AllZip R (c ++ more) ys → AllZip R (a ++ (b ++ more)) ys
regrouped R a b c more ys joined fit =
    subst (λ l. AllZip R l ys) (ap (λ l. l ++ more) joined ∙ append_assoc a b more) fit

-- the items so far, and those from this one on
cut : {A : Type 0} (xs : List A) (i : ℕ) (x : A) → i < length xs → x ≡ get_or xs i x
    → xs ≡ take i xs ++ (x ∷ drop (i + 1) xs)
cut xs i x less is = sym (take-append-drop i xs) ∙ ap (λ l. take i xs ++ l) (drop-cons xs i x less
    ∙ ap (λ y. y ∷ drop (suc i) xs) (sym is) ∙ ap (λ k. x ∷ drop k xs) (sym (add-one i)))

-- one item more
taken : {A : Type 0} (xs : List A) (i : ℕ) (x : A) → i < length xs → x ≡ get_or xs i x
    → take i xs ++ x ∷ [] ≡ take (i + 1) xs
taken xs i x less is =
    sym (take_more xs i x less ∙ ap (λ y. take i xs ++ y ∷ []) (sym is))

-- ---- operations

pub ops-none : (m : Module) (b : Option BlockId) (rows : List Row) → IsOpen m (in_block b)
    → OpsFilled m m b [] rows rows
ops-none m b rows here = record {
  ops = no_ops;
  is = sym (nothing-op m b here);
  shape = tt;
  shown = refl;
  leaves = λ n more fit. fit;
}

pub ops-then : (m mid end : Module) (b : Option BlockId) (xs ys : List OpCst)
    (rows some left : List Row) → IsOpen m (in_block b) → OpsFilled m mid b xs rows some
    → OpsFilled mid end b ys some left → OpsFilled m end b (xs ++ ys) rows left
ops-then m mid end b xs ys rows some left here p q = record {
  ops = joined_ops p.ops q.ops;
  is = joined-op m mid end b p.ops q.ops here p.is q.is;
  shape = shape-ops p.ops q.ops xs ys p.shape q.shape;
  shown = behind (shown_in p.ops) (shown_in q.ops) (shown_in (joined_ops p.ops q.ops))
      (map shown_of some) (map shown_of left) (map shown_of rows) (shown-ops p.ops q.ops) q.shown
      p.shown;
  leaves = λ n more fit. q.leaves n more (p.leaves n (in_ops n ys ++ more)
      (regrouped RowFits (in_ops n xs) (in_ops n ys) (in_ops n (xs ++ ys)) more rows
      (ops-joined n xs ys) fit));
}

-- so many operations are added, and then the next one
pub ops-more : (m mid end : Module) (b : Option BlockId) (cs : List OpCst) (i : ℕ) (c : OpCst)
    (rows some left : List Row) → i < length cs → c ≡ get_or cs i c → IsOpen m (in_block b)
    → OpsFilled m mid b (take i cs) rows some → OpsFilled mid end b (c ∷ []) some left
    → OpsFilled m end b (take (i + 1) cs) rows left
ops-more m mid end b cs i c rows some left less is here p q =
    subst (λ l. OpsFilled m end b l rows left) (taken cs i c less is)
    (ops-then m mid end b (take i cs) (c ∷ []) rows some left here p q)

-- an operation, and then its regions, for which all types of arguments are taken
pub op-filled : (m mid end : Module) (b : Option BlockId) (c : OpCst) (row : Row)
    (types : List (List ValueId)) (rows left : List Row) (id : OpId) → IsOpen m (in_block b)
    → RowFits c row → mid ≡ added m (to_block b (one_op (head_of row.row)))
    → id.0 ≡ length (ops_in m) → Opens m mid (in_block b) (in_op id)
    → RegionsFilled mid end id (generic_regions c) row.args types rows left
    → OpsFilled m end b (c ∷ []) (row ∷ rows) left
op-filled m mid end b c row types rows left id here fits made count opens r =
    let none : types ≡ [] = zip-none ArgsFit types (r.leaves_args [] (subst (λ l. AllZip ArgsFit l
    row.args) (sym (append-nil (blocks_under (generic_regions c)))) fits.args)) in
    let args : all_args r.regions ≡ row.args = sym (append-nil (all_args r.regions))
    ∙ ap (λ l. all_args r.regions ++ l) (sym none) ∙ r.types in
    let inside : (shown_in_regions r.regions ++ []) ++ map shown_of left ≡ map shown_of rows
    = ap (λ l. l ++ map shown_of left) (append-nil (shown_in_regions r.regions)) ∙ r.shown in
    record {
      ops = then_op (head_of row.row) r.regions no_ops;
      is = built-op m mid end b (head_of row.row) r.regions id here made count opens r.is;
      shape = (fits.form, fits.names, r.shape, tt);
      shown = ap (λ a. record { head = head_of row.row; args = a }
          ∷ ((shown_in_regions r.regions ++ []) ++ map shown_of left)) args
          ∙ ap (λ l. shown_of row ∷ l) inside;
      leaves = λ n more fit. r.leaves n more (subst (λ l. AllZip RowFits (l ++ more) rows)
          (append-nil (in_regions n (generic_regions c)))
          (subst (λ l. AllZip RowFits (l ++ more) (row ∷ rows)) (op-stands n c []) fit).1);
    }

-- what the next operation asks: a row that fits it, and rows of those in its regions
pub record NextOp (c : OpCst) (rows : List Row) : Type 0 where
  pub round : ℕ
  pub more : List OpCst
  pub fit : AllZip RowFits (c ∷ (in_regions round (generic_regions c) ++ more)) rows

pub op-next : (m now : Module) (b : Option BlockId) (cs : List OpCst) (i : ℕ) (c : OpCst)
    (rows left : List Row) → i < length cs → c ≡ get_or cs i c
    → Await (λ n. ops_standings n cs) rows → OpsFilled m now b (take i cs) rows left
    → NextOp c left
op-next m now b cs i c rows left less is awaits filled =
    let n = awaits.round in
    record {
      round = n;
      more = in_ops n (drop (i + 1) cs) ++ awaits.more;
      fit = subst (λ l. AllZip RowFits l left)
          (ap (λ l. l ++ awaits.more) (op-stands n c (drop (i + 1) cs))
          ∙ ap (λ l. c ∷ l) (append_assoc (in_regions n (generic_regions c))
          (in_ops n (drop (i + 1) cs)) awaits.more))
          (filled.leaves n (in_ops n (c ∷ drop (i + 1) cs) ++ awaits.more)
          (regrouped RowFits (in_ops n (take i cs)) (in_ops n (c ∷ drop (i + 1) cs)) (in_ops n cs)
          awaits.more rows (ap (in_ops n) (cut cs i c less is)
          ∙ ops-joined n (take i cs) (c ∷ drop (i + 1) cs)) awaits.fit));
    }

pub row-there : (c : OpCst) (rows : List Row) → NextOp c rows → 0 < length rows
row-there c rows next =
    zip-first RowFits c (in_regions next.round (generic_regions c) ++ next.more) rows next.fit

-- the row that comes next fits, and the others are those of its regions and of what is behind
pub op-row : (c : OpCst) (rows left : List Row) (row : Row) → NextOp c rows → rows ≡ row ∷ left
    → RowFits c row
op-row c rows left row next is = (subst (λ l. AllZip RowFits (c ∷ (in_regions next.round
    (generic_regions c) ++ next.more)) l) is next.fit).0

pub op-awaits : (c : OpCst) (rows left : List Row) (row : Row) → NextOp c rows → rows ≡ row ∷ left
    → Await (λ n. regions_standings n (generic_regions c)) left
op-awaits c rows left row next is = record {
  round = next.round;
  more = next.more;
  fit = (subst (λ l. AllZip RowFits (c ∷ (in_regions next.round
      (generic_regions c) ++ next.more)) l) is next.fit).1;
}

-- ---- regions

pub regions-none : (m : Module) (o : OpId) (args : List (List ValueId)) (rows : List Row)
    → IsOpen m (in_op o) → RegionsFilled m m o [] args args rows rows
regions-none m o args rows here = record {
  regions = no_regions;
  is = sym (nothing-region m o here);
  shape = tt;
  types = refl;
  leaves_args = λ more fit. fit;
  shown = refl;
  leaves = λ n more fit. fit;
}

pub regions-then : (m mid end : Module) (o : OpId) (xs ys : List RegionCst)
    (args few none : List (List ValueId)) (rows some left : List Row) → IsOpen m (in_op o)
    → RegionsFilled m mid o xs args few rows some → RegionsFilled mid end o ys few none some left
    → RegionsFilled m end o (xs ++ ys) args none rows left
regions-then m mid end o xs ys args few none rows some left here p q = record {
  regions = joined_regions p.regions q.regions;
  is = joined-region m mid end o p.regions q.regions here p.is q.is;
  shape = shape-regions p.regions q.regions xs ys p.shape q.shape;
  types = behind (all_args p.regions) (all_args q.regions)
      (all_args (joined_regions p.regions q.regions)) few none args
      (args-regions p.regions q.regions) q.types p.types;
  leaves_args = λ more fit. q.leaves_args more (p.leaves_args (blocks_under ys ++ more)
      (regrouped ArgsFit (blocks_under xs) (blocks_under ys) (blocks_under (xs ++ ys)) more args
      (under-joined xs ys) fit));
  shown = behind (shown_in_regions p.regions) (shown_in_regions q.regions)
      (shown_in_regions (joined_regions p.regions q.regions)) (map shown_of some)
      (map shown_of left) (map shown_of rows) (shown-regions p.regions q.regions) q.shown p.shown;
  leaves = λ n more fit. q.leaves n more (p.leaves n (in_regions n ys ++ more)
      (regrouped RowFits (in_regions n xs) (in_regions n ys) (in_regions n (xs ++ ys)) more rows
      (regions-joined n xs ys) fit));
}

-- so many regions are added, and then the next one
pub regions-more : (m mid end : Module) (o : OpId) (xs : List RegionCst) (i : ℕ) (x : RegionCst)
    (args few none : List (List ValueId)) (rows some left : List Row) → i < length xs
    → x ≡ get_or xs i x → IsOpen m (in_op o) → RegionsFilled m mid o (take i xs) args few rows some
    → RegionsFilled mid end o (x ∷ []) few none some left
    → RegionsFilled m end o (take (i + 1) xs) args none rows left
regions-more m mid end o xs i x args few none rows some left less is here p q =
    subst (λ l. RegionsFilled m end o l args none rows left) (taken xs i x less is)
    (regions-then m mid end o (take i xs) (x ∷ []) args few none rows some left here p q)

-- a region, and then its blocks
pub region-filled : (m mid end : Module) (o : OpId) (x : RegionCst)
    (args none : List (List ValueId)) (rows left : List Row) (id : RegionId) → IsOpen m (in_op o)
    → mid ≡ added m (to_op o one_region) → id.0 ≡ length (regions_in m)
    → Opens m mid (in_op o) (in_region id)
    → BlocksFilled mid end id (out-RegionCst x).blocks args none rows left
    → RegionsFilled m end o (x ∷ []) args none rows left
region-filled m mid end o x args none rows left id here made count opens r = record {
  regions = region r.blocks no_regions;
  is = built-region m mid end o r.blocks id here made count opens r.is;
  shape = (r.shape, tt);
  types = ap (λ l. l ++ none) (append-nil (block_args r.blocks)) ∙ r.types;
  leaves_args = λ more fit. r.leaves_args more (subst (λ l. AllZip ArgsFit (l ++ more) args)
      (append-nil (out-RegionCst x).blocks) fit);
  shown = ap (λ l. l ++ map shown_of left) (append-nil (shown_in_blocks r.blocks)) ∙ r.shown;
  leaves = λ n more fit. r.leaves (deeper n) more (subst (λ l. AllZip RowFits (l ++ more) rows)
      (region-stands n x [] ∙ append-nil (in_blocks (deeper n) (out-RegionCst x).blocks)) fit);
}

-- what the next region asks of rows, and of types
pub region-awaits : (m now : Module) (o : OpId) (xs : List RegionCst) (i : ℕ) (x : RegionCst)
    (args few : List (List ValueId)) (rows left : List Row) → i < length xs → x ≡ get_or xs i x
    → Await (λ n. regions_standings n xs) rows
    → RegionsFilled m now o (take i xs) args few rows left
    → Await (λ n. blocks_standings n (out-RegionCst x).blocks) left
region-awaits m now o xs i x args few rows left less is awaits filled =
    let n = awaits.round in
    record {
      round = deeper n;
      more = in_regions n (drop (i + 1) xs) ++ awaits.more;
      fit = subst (λ l. AllZip RowFits l left)
          (ap (λ l. l ++ awaits.more) (region-stands n x (drop (i + 1) xs))
          ∙ append_assoc (in_blocks (deeper n) (out-RegionCst x).blocks)
          (in_regions n (drop (i + 1) xs)) awaits.more)
          (filled.leaves n (in_regions n (x ∷ drop (i + 1) xs) ++ awaits.more)
          (regrouped RowFits (in_regions n (take i xs)) (in_regions n (x ∷ drop (i + 1) xs))
          (in_regions n xs) awaits.more rows (ap (in_regions n) (cut xs i x less is)
          ∙ regions-joined n (take i xs) (x ∷ drop (i + 1) xs)) awaits.fit));
    }

pub region-awaits-args : (m now : Module) (o : OpId) (xs : List RegionCst) (i : ℕ) (x : RegionCst)
    (args few : List (List ValueId)) (rows left : List Row) → i < length xs → x ≡ get_or xs i x
    → AwaitArgs (blocks_under xs) args → RegionsFilled m now o (take i xs) args few rows left
    → AwaitArgs (out-RegionCst x).blocks few
region-awaits-args m now o xs i x args few rows left less is awaits filled = record {
  more = blocks_under (drop (i + 1) xs) ++ awaits.more;
  fit = subst (λ l. AllZip ArgsFit l few)
      (append_assoc (out-RegionCst x).blocks (blocks_under (drop (i + 1) xs)) awaits.more)
      (filled.leaves_args (blocks_under (x ∷ drop (i + 1) xs) ++ awaits.more)
      (regrouped ArgsFit (blocks_under (take i xs)) (blocks_under (x ∷ drop (i + 1) xs))
      (blocks_under xs) awaits.more args (ap blocks_under (cut xs i x less is)
      ∙ under-joined (take i xs) (x ∷ drop (i + 1) xs)) awaits.fit));
}

-- ---- blocks

pub blocks-none : (m : Module) (r : RegionId) (args : List (List ValueId)) (rows : List Row)
    → IsOpen m (in_region r) → BlocksFilled m m r [] args args rows rows
blocks-none m r args rows here = record {
  blocks = no_blocks;
  is = sym (nothing-block m r here);
  shape = tt;
  types = refl;
  leaves_args = λ more fit. fit;
  shown = refl;
  leaves = λ n more fit. fit;
}

pub blocks-then : (m mid end : Module) (r : RegionId) (xs ys : List BlockCst)
    (args few none : List (List ValueId)) (rows some left : List Row) → IsOpen m (in_region r)
    → BlocksFilled m mid r xs args few rows some → BlocksFilled mid end r ys few none some left
    → BlocksFilled m end r (xs ++ ys) args none rows left
blocks-then m mid end r xs ys args few none rows some left here p q = record {
  blocks = joined_blocks p.blocks q.blocks;
  is = joined-block m mid end r p.blocks q.blocks here p.is q.is;
  shape = shape-blocks p.blocks q.blocks xs ys p.shape q.shape;
  types = behind (block_args p.blocks) (block_args q.blocks)
      (block_args (joined_blocks p.blocks q.blocks)) few none args
      (args-blocks p.blocks q.blocks) q.types p.types;
  leaves_args = λ more fit. q.leaves_args more (p.leaves_args (ys ++ more)
      (regrouped ArgsFit xs ys (xs ++ ys) more args refl fit));
  shown = behind (shown_in_blocks p.blocks) (shown_in_blocks q.blocks)
      (shown_in_blocks (joined_blocks p.blocks q.blocks)) (map shown_of some)
      (map shown_of left) (map shown_of rows) (shown-blocks p.blocks q.blocks) q.shown p.shown;
  leaves = λ n more fit. q.leaves n more (p.leaves n (in_blocks n ys ++ more)
      (regrouped RowFits (in_blocks n xs) (in_blocks n ys) (in_blocks n (xs ++ ys)) more rows
      (blocks-joined n xs ys) fit));
}

-- so many blocks are added, and then the next one
pub blocks-more : (m mid end : Module) (r : RegionId) (xs : List BlockCst) (i : ℕ) (x : BlockCst)
    (args few none : List (List ValueId)) (rows some left : List Row) → i < length xs
    → x ≡ get_or xs i x → IsOpen m (in_region r)
    → BlocksFilled m mid r (take i xs) args few rows some
    → BlocksFilled mid end r (x ∷ []) few none some left
    → BlocksFilled m end r (take (i + 1) xs) args none rows left
blocks-more m mid end r xs i x args few none rows some left less is here p q =
    subst (λ l. BlocksFilled m end r l args none rows left) (taken xs i x less is)
    (blocks-then m mid end r (take i xs) (x ∷ []) args few none rows some left here p q)

-- a block with types for its arguments, and then its operations
pub block-filled : (m mid end : Module) (r : RegionId) (x : BlockCst) (types : List ValueId)
    (none : List (List ValueId)) (rows left : List Row) (id : BlockId) → IsOpen m (in_region r)
    → ArgsFit x types → mid ≡ added m (to_region r (one_block types))
    → id.0 ≡ length (blocks_in m) → Opens m mid (in_region r) (in_block (Some id))
    → OpsFilled mid end (Some id) (out-BlockCst x).ops rows left
    → BlocksFilled m end r (x ∷ []) (types ∷ none) none rows left
block-filled m mid end r x types none rows left id here fits made count opens p = record {
  blocks = block types p.ops no_blocks;
  is = built-block m mid end r types p.ops id here made count opens p.is;
  shape = (fits, p.shape, tt);
  types = refl;
  leaves_args = λ more fit. fit.1;
  shown = ap (λ l. l ++ map shown_of left) (append-nil (shown_in p.ops)) ∙ p.shown;
  leaves = λ n more fit. p.leaves n more (subst (λ l. AllZip RowFits (l ++ more) rows)
      (block-stands n x [] ∙ append-nil (in_ops n (out-BlockCst x).ops)) fit);
}

-- what the next block asks of rows, and of types
pub block-awaits : (m now : Module) (r : RegionId) (xs : List BlockCst) (i : ℕ) (x : BlockCst)
    (args few : List (List ValueId)) (rows left : List Row) → i < length xs → x ≡ get_or xs i x
    → Await (λ n. blocks_standings n xs) rows → BlocksFilled m now r (take i xs) args few rows left
    → Await (λ n. ops_standings n (out-BlockCst x).ops) left
block-awaits m now r xs i x args few rows left less is awaits filled =
    let n = awaits.round in
    record {
      round = n;
      more = in_blocks n (drop (i + 1) xs) ++ awaits.more;
      fit = subst (λ l. AllZip RowFits l left)
          (ap (λ l. l ++ awaits.more) (block-stands n x (drop (i + 1) xs))
          ∙ append_assoc (in_ops n (out-BlockCst x).ops) (in_blocks n (drop (i + 1) xs))
          awaits.more)
          (filled.leaves n (in_blocks n (x ∷ drop (i + 1) xs) ++ awaits.more)
          (regrouped RowFits (in_blocks n (take i xs)) (in_blocks n (x ∷ drop (i + 1) xs))
          (in_blocks n xs) awaits.more rows (ap (in_blocks n) (cut xs i x less is)
          ∙ blocks-joined n (take i xs) (x ∷ drop (i + 1) xs)) awaits.fit));
    }

-- types for the arguments of the next block, and of those behind it
pub record NextArgs (x : BlockCst) (args : List (List ValueId)) : Type 0 where
  pub more : List BlockCst
  pub fit : AllZip ArgsFit (x ∷ more) args

pub block-next-args : (m now : Module) (r : RegionId) (xs : List BlockCst) (i : ℕ) (x : BlockCst)
    (args few : List (List ValueId)) (rows left : List Row) → i < length xs → x ≡ get_or xs i x
    → AwaitArgs xs args → BlocksFilled m now r (take i xs) args few rows left → NextArgs x few
block-next-args m now r xs i x args few rows left less is awaits filled = record {
  more = drop (i + 1) xs ++ awaits.more;
  fit = filled.leaves_args (x ∷ (drop (i + 1) xs ++ awaits.more))
      (regrouped ArgsFit (take i xs) (x ∷ drop (i + 1) xs) xs awaits.more args
      (cut xs i x less is) awaits.fit);
}

pub args-there : (x : BlockCst) (args : List (List ValueId)) → NextArgs x args → 0 < length args
args-there x args next = zip-first ArgsFit x next.more args next.fit

-- all types of arguments of an operation are those of its blocks
pub all-awaited : (bs : List BlockCst) (args : List (List ValueId)) → AllZip ArgsFit bs args
    → AwaitArgs bs args
all-awaited bs args fit = record {
  more = [];
  fit = subst (λ l. AllZip ArgsFit l args) (sym (append-nil bs)) fit;
}

-- in a custom form there is no region
pub custom-regions : (f : FormCst) (k : CustomCst) → f ≡ form.Custom k
    → [] ≡ regions_in_form (out-FormCst f)
custom-regions f k e = sym (ap regions_in_form (ap out-FormCst (e ∙ sym (form.rolls-Custom k))
    ∙ out-roll-FormCst (FormCst-F.Custom k)))

pub args-fit : (x : BlockCst) (args few : List (List ValueId)) (types : List ValueId)
    → NextArgs x args → args ≡ types ∷ few → ArgsFit x types
args-fit x args few types next is =
    (subst (λ l. AllZip ArgsFit (x ∷ next.more) l) is next.fit).0
