-- A whole module: what is written of it is read as operations that complete their trees.
--
-- By recursion over operations and blocks, the regions of an operation being known; and then by how
-- many regions stand one in the other.
use Rattle.std.proofs.Common.{◌≡◌, ℕ, zero, suc, ◌+◌, ◌<◌, ◌≤◌, ◌^◌, false, List, [], ◌∷◌, ◌++◌}
use Rattle.std.proofs.Common.{length, map, refl, sym, ◌∙◌, ap, subst, arith, append_assoc}
use Rattle.std.proofs.lemmas.List.Elements.{All-contains, All-from_recursion}
use Rattle.std.specs.List.{AllByRecursion, AllZip, range_with_len}
use Rattle.attr_value.specs.Values.{Value}
use Rattle.derived_printer.specs.ModuleMarks.{View, view_of, generic_marks, count_from}
use Rattle.derived_printer.specs.ModuleMarks.{ops_marks, regions_marks, blocks_marks}
use Rattle.derived_printer.specs.ModuleMarks.{braced_marks, label_marks, arguments_marks}
use Rattle.derived_printer.specs.ModuleMarks.{block_name}
use Rattle.derived_printer.specs.Spellable.{AreBytes}
use Rattle.derived_printer.specs.ValueMarks.{Marks, a_sign, commas, in_parens, unless_empty}
use Rattle.derived_printer.proofs.Signs.{given-sign, given-before, given-behind, given-some}
use Rattle.dialect_defs.specs.declared.definition.OpDef.{OpDef}
use Rattle.generic_syntax.specs.declared.module_cst.FormCst.{out-FormCst}
use Rattle.generic_syntax.specs.declared.module_cst.FormCst.{out-roll-FormCst}
use Rattle.generic_syntax.specs.declared.module_cst.FormCst.TheOpen.{FormCst-F}
use Rattle.generic_syntax.specs.declared.module_cst.FormCst.TheVariants as form
use Rattle.generic_syntax.specs.declared.module_cst.GenericCst.{GenericCst, out-GenericCst}
use Rattle.generic_syntax.specs.declared.module_cst.OpCst.{OpCst, out-roll-OpCst}
use Rattle.generic_syntax.specs.declared.module_cst.RegionCst.{RegionCst}
use Rattle.generic_syntax.specs.declared.module_cst.ResultCst.{ResultCst}
use Rattle.generic_syntax.specs.ModuleForms.{a_region, inner_region}
use Rattle.generic_syntax.specs.Modules as modules
use Rattle.generic_syntax.specs.Modules.{unlabelled, labelled}
use Rattle.generic_syntax.specs.Operations as op
use Rattle.generic_syntax.specs.Operations.{Customs, Formed, op_of, ops}
use Rattle.grammar.specs.Rules.{many}
use Rattle.ir_lexer.specs.declared.class.Class.TheVariants as c
use Rattle.ir_lexer.specs.Spelling.{Text}
use Rattle.ir_store.specs.Modules.{Regions, Blocks, no_ops, then_op, no_regions, region, no_blocks}
use Rattle.ir_store.specs.Modules.{block, types_in, types_in_regions, types_in_blocks, block_args}
use Rattle.module_meaning.specs.Facts.{CustomForms}
use Rattle.module_meaning.specs.Names.{Env}
use Rattle.module_meaning.specs.WholeModules.{WholeHead, WholeModule, Loaded, own_numbers, is_end}
use Rattle.module_meaning.specs.WholeModules.{block_numbers, depth_of_blocks}
use Rattle.module_text.proofs.Choices.{none-given, more-given}
use Rattle.module_text.proofs.Generic.{HasParts, generic-given}
use Rattle.module_text.proofs.Lists.{own-below}
use Rattle.module_text.proofs.Nesting.{inside}
use Rattle.module_text.proofs.Numbers.{value_key, Named, counted, range-below}
use Rattle.module_text.proofs.OneOperation.{Sees, sees-behind, sites, RegionHas, RegionsHave}
use Rattle.module_text.proofs.OneOperation.{all-low, operands-right}
use Rattle.module_text.proofs.Parts.{Given, IsResult, AreNamed, pair-given}
use Rattle.module_text.proofs.Parts.{results-given, label-given, arguments-given}
use Rattle.module_text.proofs.Ready as ready
use Rattle.module_text.proofs.Ready.{TypeIsRight, OpIsReady, OpsReady, RegionsReady, BlocksReady}
use Rattle.module_text.proofs.Regions.{block_labels, one_label, region_labels, region_env}
use Rattle.module_text.proofs.Regions.{sees-inside, region-has, labelled-has, first-unlabelled}
use Rattle.module_text.proofs.Scopes.{Below, below-more, below-behind}
use Rattle.module_text.proofs.Trees.{OpHas, OpsHave, BlockHas, BlocksHave, behind_values}
use Rattle.module_text.proofs.Trees.{behind_block, no-more-ops, more-ops, no-more-blocks}
use Rattle.module_text.proofs.Trees.{more-blocks}
use Rattle.module_text.proofs.Values.{dict-kid}
use Rattle.module_text.specs.WellFormed.{NamesAreSpellable}
use Rattle.symbol_scopes.specs.Regions.{RegionScope}
use Rattle.text_layout.specs.Gives.{GivesKid}
use Rattle.text_layout.proofs.Gives.{gives-ret, gives-both, gives-left, gives-right, gives-placed}
use Rattle.text_layout.proofs.Gives.{gives-kid, gives-break, gives-same, gives-no-more}
use Rattle.text_layout.proofs.Gives.{gives-more}

-- ---- numbers

under : (a b : ℕ) (ns : List ℕ) → a ≤ b → AllByRecursion (λ i. i < a) ns
    → AllByRecursion (λ i. i < b) ns
under a b [] l h = tt
under a b (i ∷ ns) l (p, h) = (omega arith, under a b ns l h)

-- numbers that are counted have names
count-named : (n k : ℕ) → n + k ≤ 2 ^ 64 → AreNamed (count_from n k)
count-named n k l = subst AreNamed (sym (counted n k)) (range-below n k (2 ^ 64) l)

four : (a b x y : Marks) → a ++ (b ++ (x ++ y)) ≡ (a ++ (b ++ x)) ++ y
four a b x y =
    ap (λ (w : Marks). a ++ w) (sym (append_assoc b x y)) ∙ sym (append_assoc a (b ++ x) y)

-- a form that is generic
out-generic : (g : GenericCst) → out-FormCst (form.Generic g) ≡ FormCst-F.Generic g
out-generic g =
    ap out-FormCst (sym (form.rolls-Generic g)) ∙ out-roll-FormCst (FormCst-F.Generic g)

module _ (cs : Customs) (loaded : Loaded) (forms : CustomForms)
    (spellable : NamesAreSpellable loaded) (types : List Value)
    (right : AllByRecursion (TypeIsRight loaded) types) (few : length types ≤ 2 ^ 64) where
  -- ---- names of before

  abbrev Before : ℕ → Env → Type 0
  Before n env = Below value_key n env.before

  before-values : (env : Env) (n k m : ℕ) → n + k ≤ m → Before n env
      → Before m (behind_values env n k)
  before-values env n k m l h =
      below-behind value_key m (range_with_len n k) env.before (range-below n k m l)
      (below-more value_key n m env.before (omega arith) h)

  before-block : (env : Env) (n m : ℕ) (args : List Value) (os : WholeModule)
      → n + length args + length (types_in os) ≤ m → Before n env
      → Before m (behind_block env n args os)
  before-block env n m args os l h =
      below-behind value_key m (own_numbers (n + length args) os)
      (behind_values env n (length args)).before
      (own-below (n + length args) m os l) (before-values env n (length args) m (omega arith) h)

  -- ---- regions of an operation

  abbrev site_marks : ℕ → ℕ × Blocks Text Value → Marks
  site_marks indent x = braced_marks indent (blocks_marks generic_marks types indent x.0 0 x.1)

  sites-marks : (indent n : ℕ) (rs : Regions Text Value)
      → regions_marks generic_marks types indent n rs ≡ map (site_marks indent) (sites n rs)
  sites-marks indent n no_regions = refl
  sites-marks indent n (region bs rs) =
      ap (λ l. site_marks indent (n, bs) ∷ l)
      (sites-marks indent (n + length (types_in_blocks bs)) rs)

  -- a region is given, where regions may nest k deep
  abbrev SiteGiven : ℕ → ℕ → Env → ℕ × Blocks Text Value → Type 0
  SiteGiven k indent env x =
      GivesKid (inside cs k) a_region (site_marks indent x)
      (λ r. RegionHas loaded forms types env r x)

  -- all regions that nest at most k deep are given
  abbrev RegionsGiven : ℕ → Type 0
  RegionsGiven k =
      (indent : ℕ) (env : Env) (visible : List ℕ) (blocks n : ℕ) (rs : Regions Text Value)
      → RegionsReady loaded types k visible n rs → Before n env
      → Sees loaded forms types env visible blocks
      → AllByRecursion (SiteGiven k indent env) (sites n rs)

  abbrev ListGiven : ℕ → Env → List Marks → List (ℕ × Blocks Text Value) → Type 0
  ListGiven k env ms xs =
      Given cs k op.regions (unless_empty ms (in_parens (commas ms)))
      (λ trees. AllZip (RegionHas loaded forms types env) trees xs)

  each-site : (k indent : ℕ) (env : Env) (xs : List (ℕ × Blocks Text Value))
      → AllByRecursion (SiteGiven k indent env) xs
      → AllByRecursion (λ x. Given cs k inner_region (site_marks indent x)
      (λ r. RegionHas loaded forms types env r x)) xs
  each-site k indent env [] h = tt
  each-site k indent env (x ∷ xs) (p, h) =
      (gives-kid p (λ r q. q), each-site k indent env xs h)

  sites-given : (k indent : ℕ) (env : Env) (xs : List (ℕ × Blocks Text Value))
      → AllByRecursion (SiteGiven k indent env) xs
      → ListGiven k env (map (site_marks indent) xs) xs
  sites-given k indent env [] h = gives-right (gives-ret [] tt)
  sites-given k indent env (x ∷ xs) (p, h) = gives-left (given-before (given-sign refl)
      (given-behind
      (given-some (inside cs k) false inner_region (site_marks indent)
      (RegionHas loaded forms types env) x xs (gives-kid p (λ r q. q))
      (each-site k indent env xs h))
      (given-sign refl)))

  -- ---- one operation

  -- the form has the parts of what is shown
  record FormHas (v : View) (Regions : List RegionCst → Type 0) (f : Formed) : Type 0 where
    form : GenericCst
    is : out-FormCst f.1 ≡ FormCst-F.Generic form
    parts : HasParts v Regions (out-GenericCst form)

  op-has : (env : Env) (n : ℕ) (head : WholeHead) (rs : Regions Text Value) (marks : List Marks)
      (names : List ResultCst) (f : Formed)
      → AllZip IsResult names (count_from n (length head.results))
      → FormHas (view_of types head marks)
      (RegionsHave loaded forms types (behind_values env n (length head.results))
      (n + length head.results) rs) f
      → OpHas loaded forms types env n head rs marks (op_of names f)
  unfolding op_of
  op-has env n head rs marks names f h p =
      let is = out-roll-OpCst (record { place = f.0; results = names; form = f.1 }) in
      record {
        named = subst (λ (l : List ResultCst). AllZip IsResult l
            (range_with_len n (length head.results))) (sym (ap (λ s. s.results) is))
            (subst (AllZip IsResult names) (counted n (length head.results)) h);
        form = p.form;
        form_is = ap (λ s. out-FormCst s.form) is ∙ p.is;
        parts = p.parts;
      }

  name-bytes : (visible : List ℕ) (blocks : ℕ) (head : WholeHead) (rs : Regions Text Value)
      (last : _) → OpIsReady loaded types visible blocks head rs last → AreBytes head.name
  name-bytes visible blocks head rs last r =
      subst AreBytes r.meets.named
      (All-contains (λ (d : OpDef). AreBytes d.name) loaded.ops r.meets.def
      (All-from_recursion (λ (d : OpDef). AreBytes d.name) loaded.ops spellable.ops)
      r.meets.known)

  module _ (k : ℕ) (regions : RegionsGiven k) where
    module _ (indent : ℕ) (env : Env) (visible : List ℕ) (blocks n : ℕ) (head : WholeHead)
        (rs : Regions Text Value) (os : WholeModule)
        (r : OpsReady loaded types k visible blocks n (then_op head rs os))
        (before : Before n env) (sees : Sees loaded forms types env visible blocks) where
      abbrev inner : Env
      inner = behind_values env n (length head.results)

      abbrev shown : List Marks
      shown = regions_marks generic_marks types indent (n + length head.results) rs

      op-is-ready : OpIsReady loaded types visible blocks head rs (is_end os)
      op-is-ready = ready.op-ready loaded types k visible blocks n head rs os r

      results : AllByRecursion (TypeIsRight loaded) head.results
      results = ready.results-right loaded types k visible blocks n head rs os r

      room : n + length head.results ≤ length types
      room = ready.results-room loaded types k visible blocks n head rs os r

      low : AllByRecursion (λ i. i < length types) head.operands
      low =
          all-low loaded forms types env visible blocks sees head.operands
          op-is-ready.proper.in_scope.operands

      its-regions : ListGiven k inner shown (sites (n + length head.results) rs)
      its-regions =
          subst (λ (ms : List Marks). ListGiven k inner ms (sites (n + length head.results) rs))
          (sym (sites-marks indent (n + length head.results) rs))
          (sites-given k indent inner (sites (n + length head.results) rs)
          (regions indent inner visible blocks (n + length head.results) rs
          (ready.regions-ready loaded types k visible blocks n head rs os r)
          (before-values env n (length head.results) (n + length head.results) (omega arith) before)
          (sees-behind loaded forms types env _ visible blocks sees)))

      form-given : Given cs k op.generic_form (generic_marks (view_of types head shown))
          (FormHas (view_of types head shown)
          (RegionsHave loaded forms types inner (n + length head.results) rs))
      form-given = gives-placed
          (generic-given cs k loaded spellable (view_of types head shown)
          (RegionsHave loaded forms types inner (n + length head.results) rs)
          (name-bytes visible blocks head rs (is_end os) op-is-ready)
          (under (length types) (2 ^ 64) head.operands few low)
          (under blocks (2 ^ 64) head.successors sees.few
          op-is-ready.proper.in_scope.successors) its-regions
          (dict-kid loaded spellable cs k head.keys head.values op-is-ready.texts.keys
          op-is-ready.proper.values op-is-ready.texts.values)
          (operands-right loaded forms types right head.operands low) results)
          (λ place g p. record { form = g; is = out-generic g; parts = p })

    -- operations
    ops-given : (indent : ℕ) (env : Env) (visible : List ℕ) (blocks n : ℕ) (os : WholeModule)
        → OpsReady loaded types k visible blocks n os → Before n env
        → Sees loaded forms types env visible blocks
        → Given cs k (ops cs) (ops_marks generic_marks types indent n os)
        (OpsHave loaded forms types env n os)
    ops-given indent env visible blocks n no_ops r before sees =
        none-given cs k cs.anywhere cs.last (no-more-ops loaded forms types env n)
    ops-given indent env visible blocks n (then_op head rs os) r before sees =
        gives-break (more-given cs k cs.anywhere cs.last
        (results-given cs k n (length head.results)
        (count-named n (length head.results)
        (omega (arith, room indent env visible blocks n head rs os r before sees, few))))
        (form-given indent env visible blocks n head rs os r before sees)
        (ops-given indent (behind_values env n (length head.results)) visible
        blocks (n + length head.results + length (types_in_regions rs)) os
        (ready.rest-ready loaded types k visible blocks n head rs os r)
        (before-values env n (length head.results)
        (n + length head.results + length (types_in_regions rs)) (omega arith) before)
        (sees-behind loaded forms types env _ visible blocks sees))
        (λ names f shown p q more. more-ops loaded forms types right few env visible blocks n head
        rs os (is_end os) _ (op_of names f) shown
        (ready.op-ready loaded types k visible blocks n head rs os r) sees
        (ready.results-right loaded types k visible blocks n head rs os r)
        (ready.arguments-right loaded types k visible blocks n head rs os r)
        (ready.results-room loaded types k visible blocks n head rs os r) before
        (op-has env n head rs _ names f p q) more))

    -- ---- blocks

    module _ (indent : ℕ) (env : Env) (visible : List ℕ) (count n : ℕ) (args : List Value)
        (os : WholeModule) (bs : Blocks Text Value)
        (r : BlocksReady loaded types k visible count n (block args os bs)) (before : Before n env)
        (sees : Sees loaded forms types env visible count) where
      -- the operations of a block
      inner-given : Given cs k (ops cs)
          (ops_marks generic_marks types (indent + 2) (n + length args) os)
          (OpsHave loaded forms types (behind_values env n (length args)) (n + length args)
          os)
      inner-given =
          ops-given (indent + 2) (behind_values env n (length args)) visible count
          (n + length args) os (ready.inner-ready loaded types k visible count n args os bs r)
          (before-values env n (length args) (n + length args) (omega arith) before)
          (sees-behind loaded forms types env _ visible count sees)

      args-room : n + length args ≤ length types
      args-room = ready.args-room loaded types k visible count n args os bs r

      -- a block with its label
      block-given : (j : ℕ) → Named j → Given cs k (modules.block cs)
          (label_marks indent n j args
          ++ ops_marks generic_marks types (indent + 2) (n + length args) os)
          (BlockHas loaded forms types env n j (one_label j) args os)
      block-given j small = gives-break (gives-same
          (four (block_name j) (arguments_marks n args) (a_sign c.Colon)
          (ops_marks generic_marks types (indent + 2) (n + length args) os))
          (gives-both (label-given cs k j small)
          (pair-given
          (arguments-given cs k loaded spellable n args
          (count-named n (length args) (omega (arith, args-room, few)))
          (ready.args-right loaded types k visible count n args os bs r))
          (given-before (given-sign refl) inner-given))
          (λ name x p q. labelled-has loaded forms types env n j args os name x p q.0 q.1)))

      -- the same, and blocks behind it
      next-given : (j : ℕ) → Named j → (ms : Marks) (labels : RegionScope)
          → Given cs k (many (modules.block cs)) ms
          (BlocksHave loaded forms types (behind_block env n args os)
          (n + length args + length (types_in os)) (suc j) labels bs)
          → Given cs k (many (modules.block cs))
          ((label_marks indent n j args
          ++ ops_marks generic_marks types (indent + 2) (n + length args) os) ++ ms)
          (BlocksHave loaded forms types env n j (one_label j ++ labels) (block args os bs))
      next-given j small ms labels more =
          gives-more {ms = label_marks indent n j args
          ++ ops_marks generic_marks types (indent + 2) (n + length args) os} {ns = ms}
          (block-given j small) more
          (λ b trees p q. more-blocks loaded forms types few env n j (one_label j) labels args os bs
          b trees args-room before p q)

      behind-before : Before (n + length args + length (types_in os))
          (behind_block env n args os)
      behind-before =
          before-block env n (n + length args + length (types_in os)) args os (omega arith) before

      behind-sees : Sees loaded forms types (behind_block env n args os) visible count
      behind-sees =
          sees-behind loaded forms types (behind_values env n (length args)) _ visible count
          (sees-behind loaded forms types env _ visible count sees)

    -- blocks behind the first of a region
    blocks-given : (indent : ℕ) (env : Env) (visible : List ℕ) (count n j : ℕ)
        (bs : Blocks Text Value) → BlocksReady loaded types k visible count n bs → Before n env
        → Sees loaded forms types env visible count → suc j + length (block_args bs) ≤ 2 ^ 64
        → Given cs k (many (modules.block cs))
        (blocks_marks generic_marks types indent n (suc j) bs)
        (BlocksHave loaded forms types env n (suc j)
        (block_labels (suc j) (length (block_args bs))) bs)
    blocks-given indent env visible count n j no_blocks r before sees short =
        gives-no-more (no-more-blocks loaded forms types env n (suc j))
    blocks-given indent env visible count n j (block args os bs) r before sees short =
        next-given indent env visible count n args os bs r before sees (suc j)
        (omega (arith, short))
        (blocks_marks generic_marks types indent (n + length args + length (types_in os))
        (suc (suc j)) bs)
        (block_labels (suc (suc j)) (length (block_args bs)))
        (blocks-given indent (behind_block env n args os) visible count
        (n + length args + length (types_in os)) (suc j) bs
        (ready.next-ready loaded types k visible count n args os bs r)
        (behind-before indent env visible count n args os bs r before sees)
        (behind-sees indent env visible count n args os bs r before sees) (omega (arith, short)))

    -- ---- a region

    module _ (indent : ℕ) (env : Env) (visible : List ℕ) (n : ℕ) where
      -- what stands between the braces
      abbrev InsideGiven : Env → Blocks Text Value → Type 0
      InsideGiven e bs =
          Given cs k (modules.blocks cs) (blocks_marks generic_marks types indent n 0 bs)
          (BlocksHave loaded forms types e n 0 (region_labels bs) bs)

      -- a first block with a label
      first-labelled : (e : Env) (count : ℕ) (args : List Value) (os : WholeModule)
          (bs : Blocks Text Value)
          → BlocksReady loaded types k visible count n (block args os bs) → Before n e
          → Sees loaded forms types e visible count → suc (length (block_args bs)) ≤ 2 ^ 64
          → Given cs k (modules.blocks cs)
          ((label_marks indent n 0 args
          ++ ops_marks generic_marks types (indent + 2) (n + length args) os)
          ++ blocks_marks generic_marks types indent (n + length args + length (types_in os)) 1 bs)
          (BlocksHave loaded forms types e n 0 (block_labels 0 (suc (length (block_args bs))))
          (block args os bs))
      unfolding unlabelled
      first-labelled e count args os bs r before sees short =
          gives-both {ms = []} {P = λ os. os ≡ []}
          (none-given cs k cs.anywhere cs.last refl)
          (next-given indent e visible count n args os bs r before sees 0 (omega (arith, short))
          (blocks_marks generic_marks types indent (n + length args + length (types_in os)) 1 bs)
          (block_labels 1 (length (block_args bs)))
          (blocks-given indent (behind_block e n args os) visible count
          (n + length args + length (types_in os)) 0 bs
          (ready.next-ready loaded types k visible count n args os bs r)
          (behind-before indent e visible count n args os bs r before sees)
          (behind-sees indent e visible count n args os bs r before sees) (omega (arith, short))))
          (λ none_there trees none h. subst (λ (l : List OpCst). BlocksHave loaded forms types e n 0
          (block_labels 0 (suc (length (block_args bs)))) (block args os bs)
          (unlabelled l ++ trees)) (sym none) h)

      inside-given : (e : Env) (count : ℕ) (bs : Blocks Text Value)
          → BlocksReady loaded types k visible count n bs → Before n e
          → Sees loaded forms types e visible count → length (block_args bs) ≤ 2 ^ 64
          → InsideGiven e bs
      unfolding unlabelled
      inside-given e count no_blocks r before sees short =
          gives-both {ms = []} {ns = []} {P = λ os. os ≡ []} {Q = λ trees. trees ≡ []}
          (none-given cs k cs.anywhere cs.last refl) (gives-no-more refl)
          (λ none_there trees none nothing. subst (λ (l : List OpCst).
          BlocksHave loaded forms types e n 0 [] no_blocks (unlabelled l ++ trees)) (sym none)
          (subst (BlocksHave loaded forms types e n 0 [] no_blocks) (sym nothing)
          (no-more-blocks loaded forms types e n 0)))
      inside-given e count (block [] (then_op head rs os) bs) r before sees short =
          gives-both {ms = ops_marks generic_marks types (indent + 2) (n + 0) (then_op head rs os)}
          {ns = blocks_marks generic_marks types indent
          (n + 0 + length (types_in {N = Text} {V = Value} (then_op head rs os))) 1 bs}
          (inner-given indent e visible count n [] (then_op head rs os) bs r before sees)
          (blocks-given indent (behind_block e n [] (then_op head rs os)) visible count
          (n + 0 + length (types_in {N = Text} {V = Value} (then_op head rs os))) 0 bs
          (ready.next-ready loaded types k visible count n [] (then_op head rs os) bs r)
          (behind-before indent e visible count n [] (then_op head rs os) bs r before sees)
          (behind-sees indent e visible count n [] (then_op head rs os) bs r before sees)
          (omega (arith, short)))
          (λ shown trees p q. first-unlabelled loaded forms types few e n head rs os bs
          (args-room indent e visible count n [] (then_op head rs os) bs r before sees) before shown
          trees p q)
      inside-given e count (block [] no_ops bs) r before sees short =
          first-labelled e count [] no_ops bs r before sees (omega (arith, short))
      inside-given e count (block (t ∷ args) os bs) r before sees short =
          first-labelled e count (t ∷ args) os bs r before sees (omega (arith, short))

    -- a region
    region-given : (indent : ℕ) (env : Env) (visible : List ℕ) (blocks n : ℕ)
        (bs : Blocks Text Value)
        → BlocksReady loaded types k (block_numbers n bs ++ visible) (length (block_args bs)) n bs
        → Before n env → Sees loaded forms types env visible blocks
        → length (block_args bs) ≤ 2 ^ 64
        → Given cs k (modules.region cs) (site_marks indent (n, bs))
        (λ r. RegionHas loaded forms types env r (n, bs))
    region-given indent env visible blocks n bs r before sees short = gives-placed
        (given-before (given-sign refl)
        (given-behind
        (inside-given indent env (block_numbers n bs ++ visible) n
        (region_env env n bs)
        (length (block_args bs)) bs r before
        (sees-inside loaded forms types few env visible blocks n bs r.room short sees) short)
        (gives-break (given-sign refl))))
        (λ place trees h. region-has loaded forms types env n bs short place trees h)

  -- ---- regions in regions

  -- regions that nest one deeper
  one-deeper : (k : ℕ) → RegionsGiven k → RegionsGiven (suc k)
  one-deeper k given indent env visible blocks n no_regions r before sees = tt
  one-deeper k given indent env visible blocks n (region bs rs) r before sees =
      let deep : suc (depth_of_blocks bs) ≤ suc k =
      ready.inner-depth loaded types (suc k) visible n bs rs r in
      let short : length (block_args bs) ≤ 2 ^ 64 =
      ready.blocks-few loaded types (suc k) visible n bs rs r in
      let here = region-given k given indent env visible blocks n bs
      (ready.blocks-ready loaded types (suc k) visible n bs rs r k (omega (arith, deep))) before
      sees short in (
        record { tidy = here.tidy; tree = here.tree },
        one-deeper k given indent env visible blocks (n + length (types_in_blocks bs)) rs
            (ready.behind-ready loaded types (suc k) visible n bs rs r)
            (below-more value_key n (n + length (types_in_blocks bs)) env.before (omega arith)
            before) sees,
      )

  none-nested : RegionsGiven 0
  none-nested indent env visible blocks n no_regions r before sees = tt
  none-nested indent env visible blocks n (region bs rs) r before sees =
      absurd (omega (arith, ready.inner-depth loaded types 0 visible n bs rs r))

  all-given : (k : ℕ) → RegionsGiven k
  all-given zero = none-nested
  all-given (suc k) = one-deeper k (all-given k)

  -- The operations of a module are read as they are written, where regions nest at most k deep.
  pub top-given : (k : ℕ) (env : Env) (visible : List ℕ) (os : WholeModule)
      → OpsReady loaded types k visible 0 0 os → Below value_key 0 env.before
      → Sees loaded forms types env visible 0
      → Given cs k (ops cs) (ops_marks generic_marks types 0 0 os)
      (OpsHave loaded forms types env 0 os)
  top-given k env visible os r before sees =
      ops-given k (all-given k) 0 env visible 0 0 os r before sees
