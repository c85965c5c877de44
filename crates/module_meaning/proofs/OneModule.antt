-- At most one module completes a tree.
--
-- In two steps: modules that complete one tree are the same apart from numbers (SameShape), so
-- names mean the same in both, and then the numbers are the same too.
use Rattle.std.proofs.Common.{◌≡◌, ℕ, suc, ◌+◌, ◌<◌, true, List, [], ◌∷◌, length}
use Rattle.std.proofs.Common.{sum, refl, sym, ◌∙◌, ap, subst, arith, Some, slice_get}
use Rattle.std.proofs.Common.{inl, inr, ◌⊎◌}
use Rattle.std.proofs.lemmas.List.{length-map}
use Rattle.std.specs.List.{AllByRecursion}
use Rattle.attr_value.specs.Values.{Value}
use Rattle.dialect_defs.specs.declared.definition.OpDef.{OpDef}
use Rattle.dialect_defs.specs.declared.entry.Entry.{Entry}
use Rattle.dialect_defs.specs.Operations.{Operation}
use Rattle.dialect_defs.specs.Segments.{FitEach, parts}
use Rattle.generic_syntax.specs.declared.module_cst.BlockCst.{BlockCst, out-BlockCst}
use Rattle.generic_syntax.specs.declared.module_cst.ModuleCst.{ModuleCst}
use Rattle.generic_syntax.specs.declared.module_cst.OpCst.{OpCst, out-OpCst}
use Rattle.generic_syntax.specs.declared.module_cst.RegionCst.{RegionCst, out-RegionCst}
use Rattle.ir_lexer.specs.Spelling.{Text}
use Rattle.ir_store.specs.Modules.{Regions, Blocks, no_ops, then_op, no_regions, region}
use Rattle.ir_store.specs.Modules.{no_blocks, block, types_in, types_in_regions, types_in_blocks}
use Rattle.ir_store.specs.Modules.{region_args}
use Rattle.module_meaning.proofs.AnyTypes.{ops-wider}
use Rattle.module_meaning.proofs.OneCompletes.{same-def, same-cut}
use Rattle.module_meaning.proofs.Places.{same-some, same-places, map-some, some-same, parts-exact}
use Rattle.module_meaning.proofs.Places.{parts-length}
use Rattle.module_meaning.proofs.SameModules.{SameHead, SameOps, SameRegions, SameBlocks}
use Rattle.module_meaning.proofs.SameModules.{block-types-same, next-op, next-block}
use Rattle.module_meaning.proofs.SameModules.{own-same, blocks-own-same, proper-right}
use Rattle.module_meaning.proofs.SameShape.{BothOf, told-region, same-ops}
use Rattle.module_meaning.proofs.Told.{both-hold, told-of}
use Rattle.module_meaning.specs.Completes.{OpSays, OpsSay, RegionSays, BlocksSay}
use Rattle.module_meaning.specs.Completes.{HaveDistinctOps, HaveOneTyping, block_scope, own_scope}
use Rattle.module_meaning.specs.Completes.{NearlySays, AreTypes, AsMany, top_level}
use Rattle.module_meaning.specs.Completes.{Completes, NearlyCompletes, aliases_of}
use Rattle.module_meaning.specs.Facts.{CustomForms, Fact, uses_are, all_uses_are, successor_is}
use Rattle.module_meaning.specs.Facts.{is_of, tells, form_facts, operand_topic, all_uses_topic}
use Rattle.module_meaning.specs.Facts.{successor_topic}
use Rattle.module_meaning.specs.Names.{Env, Names, inside, behind, nowhere, label_scope}
use Rattle.module_meaning.specs.Names.{result_names, argument_names, op_names}
use Rattle.module_meaning.specs.WholeModules.{WholeHead, WholeModule, Loaded, operation_with}
use Rattle.module_meaning.specs.WholeModules.{Proper}
use Rattle.segment_match.proofs.Unique.{FitEach-length}
use Rattle.symbol_scopes.specs.Regions.{RegionScope}
use Rattle.value_meaning.specs.Meaning.{Aliases}

-- values that are named are as many as their types
pub are-as-many : (types ts : List Value) (ns : List ℕ) → AreTypes types ts ns → length ts ≡ length ns
are-as-many types ts ns e =
    sym (length-map ts Some) ∙ (ap length (sym e) ∙ length-map ns (slice_get types))

-- ---- one operation

-- a head is its parts
head-same : (a b : WholeHead) → SameHead a b → a.operands ≡ b.operands
    → a.successors ≡ b.successors → a ≡ b
head-same a b h o s =
    ap (λ x. record {
      name = x;
      operands = a.operands;
      results = a.results;
      successors = a.successors;
      keys = a.keys;
      values = a.values;
    }) h.name
    ∙ (ap (λ x. record {
      name = b.name;
      operands = x;
      results = a.results;
      successors = a.successors;
      keys = a.keys;
      values = a.values;
    }) o
    ∙ (ap (λ x. record {
      name = b.name;
      operands = b.operands;
      results = x;
      successors = a.successors;
      keys = a.keys;
      values = a.values;
    }) h.results
    ∙ (ap (λ x. record {
      name = b.name;
      operands = b.operands;
      results = b.results;
      successors = x;
      keys = a.keys;
      values = a.values;
    }) s
    ∙ (ap (λ x. record {
      name = b.name;
      operands = b.operands;
      results = b.results;
      successors = b.successors;
      keys = x;
      values = a.values;
    }) h.keys
    ∙ ap (λ x. record {
      name = b.name;
      operands = b.operands;
      results = b.results;
      successors = b.successors;
      keys = b.keys;
      values = x;
    }) h.values))))

-- an operation is its head, its regions, and those behind it
then-same : (a b : WholeHead) (rs rs2 : Regions Text Value) (os os2 : WholeModule) → a ≡ b
    → rs ≡ rs2 → os ≡ os2 → then_op a rs os ≡ then_op b rs2 os2
then-same a b rs rs2 os os2 x y z =
    ap (λ w. then_op w rs os) x
    ∙ (ap (λ w. then_op b w os) y ∙ ap (λ w. then_op b rs2 w) z)

-- facts that name two lists of operands and of successors, where names mean the same
module _ (env : Env) (sizes xs ys ss ss2 : List ℕ) (P Q : ℕ → RegionCst → Type 0)
    (facts : List Fact) (first : AllByRecursion (Names env sizes xs ss P) facts)
    (second : AllByRecursion (Names env sizes ys ss2 Q) facts) where
  abbrev Both : Fact → Type 0
  Both fact = Names env sizes xs ss P fact × Names env sizes ys ss2 Q fact

  both : AllByRecursion Both facts
  both = both-hold (Names env sizes xs ss P) (Names env sizes ys ss2 Q) facts first second

  segment-of : (i : ℕ) (fact : Fact) → is_of (operand_topic i) fact ≡ true → Both fact
      → slice_get (parts sizes xs) i ≡ slice_get (parts sizes ys) i
  segment-of i (uses_are j us) e (a, b) =
      let at : j ≡ i = grind (arith, e) in
      subst (λ (k : ℕ). slice_get (parts sizes xs) k ≡ slice_get (parts sizes ys) k) at
      (same-some _ _ _ _ a b (λ x y h k. map-some x y (sym h ∙ k)))
  segment-of i _ e ab = absurd (cc)

  all-of : (fact : Fact) → is_of all_uses_topic fact ≡ true → Both fact → xs ≡ ys
  all-of (all_uses_are us) e (a, b) = map-some xs ys (sym a ∙ b)
  all-of _ e ab = absurd (cc)

  block-of : (i : ℕ) (fact : Fact) → is_of (successor_topic i) fact ≡ true → Both fact
      → slice_get ss i ≡ slice_get ss2 i
  block-of i (successor_is j s) e (a, b) =
      let at : j ≡ i = grind (arith, e) in
      subst (λ (k : ℕ). slice_get ss k ≡ slice_get ss2 k) at
      (same-some _ _ _ _ a b (λ x y h k. some-same x y (sym h ∙ k)))
  block-of i _ e ab = absurd (cc)

  same-segment : (i : ℕ) → tells facts (operand_topic i) ≡ true
      → slice_get (parts sizes xs) i ≡ slice_get (parts sizes ys) i
  same-segment i e =
      let (fact, is, ab) = told-of (operand_topic i) facts Both e both in segment-of i fact is ab

  -- operands of which the facts tell all are the same
  same-operands : (es : List Entry) → FitEach es sizes → sum sizes ≡ length xs
      → sum sizes ≡ length ys
      → (tells facts all_uses_topic ≡ true)
      ⊎ ((i : ℕ) → i < length es → tells facts (operand_topic i) ≡ true)
      → xs ≡ ys
  same-operands es fit a b (inl e) =
      let (fact, is, ab) = told-of all_uses_topic facts Both e both in all-of fact is ab
  same-operands es fit a b (inr told) =
      let long : length (parts sizes xs) ≡ length sizes = parts-length sizes xs in
      let long2 : length (parts sizes ys) ≡ length sizes = parts-length sizes ys in
      let entries : length sizes ≡ length es = FitEach-length es sizes fit in
      parts-exact sizes xs ys a b (same-places (parts sizes xs) (parts sizes ys)
      (long ∙ sym long2) (λ i within. same-segment i (told i (omega (arith, long, entries)))))

  -- so are successors
  same-successors : length ss ≡ length ss2
      → ((i : ℕ) → i < length ss → tells facts (successor_topic i) ≡ true) → ss ≡ ss2
  same-successors e told = same-places ss ss2 e (λ i within. at i (told i within))
    where
      at : (i : ℕ) → tells facts (successor_topic i) ≡ true → slice_get ss i ≡ slice_get ss2 i
      at i t =
          let (fact, is, ab) = told-of (successor_topic i) facts Both t both in
          block-of i fact is ab

module _ (loaded : Loaded) (forms : CustomForms) (aliases : Aliases)
    (distinct : HaveDistinctOps loaded.ops) (typing : HaveOneTyping loaded forms) where
  abbrev Says : Env → OpCst → WholeHead → Operation → (ℕ → RegionCst → Type 0) → Type 0
  Says env c head o P = OpSays loaded forms aliases env c head o P

  -- operands and successors of an operation of each module that completes one tree
  same-numbers : (env : Env) (c : OpCst) (ts ts2 : List Value) (a b : WholeHead)
      (rs rs2 : Regions Text Value) (P Q : ℕ → RegionCst → Type 0)
      → length ts ≡ length a.operands → length ts2 ≡ length b.operands
      → Says env c a (operation_with ts a rs) P → Says env c b (operation_with ts2 b rs2) Q
      → (a.operands ≡ b.operands) × (a.successors ≡ b.successors)
  same-numbers env c ts ts2 a b rs rs2 P Q long long2 p q =
      let o = operation_with ts a rs in
      let o2 = operation_with ts2 b rs2 in
      let cut : q.completes.operand_sizes ≡ p.completes.operand_sizes =
      sym (same-cut loaded forms aliases distinct typing c (operation_with ts a rs)
      (operation_with ts2 b rs2) p.completes q.completes) in
      let names2 = subst (λ (sizes : List ℕ).
      AllByRecursion (Names env sizes b.operands b.successors Q) (form_facts forms c)) cut
      q.names in
      let total : sum p.completes.operand_sizes ≡ length ts =
      p.completes.meets.operand_segments.total in
      let total2 : sum q.completes.operand_sizes ≡ length ts2 =
      q.completes.meets.operand_segments.total in
      let def : p.completes.def ≡ q.completes.def =
      same-def loaded forms aliases distinct c (operation_with ts a rs)
      (operation_with ts2 b rs2) p.completes q.completes in
      let leads : length a.successors ≡ length b.successors =
      p.completes.meets.successors
      ∙ (ap (λ (d : OpDef). length d.successors) def ∙ sym q.completes.meets.successors) in (
        same-operands env p.completes.operand_sizes a.operands b.operands a.successors b.successors
            P Q (form_facts forms c) p.names names2 p.completes.def.operands
            p.completes.meets.operand_segments.fit (total ∙ long)
            (ap sum (sym cut) ∙ (total2 ∙ long2)) p.completes.shows.covers.uses,
        same-successors env p.completes.operand_sizes a.operands b.operands a.successors
            b.successors P Q (form_facts forms c) p.names names2 leads
            p.completes.shows.covers.successors,
      )

  -- ---- a module

  module _ (Typed : List Value → List ℕ → Type 0)
      (as_many : (ts : List Value) (ns : List ℕ) → Typed ts ns → length ts ≡ length ns) where
    abbrev Say : Env → ℕ → List OpCst → WholeModule → Type 0
    Say env n cs os = OpsSay loaded forms aliases Typed env n cs os

    abbrev Region : Env → ℕ → Regions Text Value → ℕ → RegionCst → Type 0
    Region env n rs i r = RegionSays loaded forms aliases Typed env n i r rs

    abbrev SayBlocks : Env → ℕ → List BlockCst → Blocks Text Value → Type 0
    SayBlocks env n cs bs = BlocksSay loaded forms aliases Typed env n cs bs

    mutual
      exact-ops : (env : Env) (n : ℕ) (cs : List OpCst) (os os2 : WholeModule) → Say env n cs os
          → Say env n cs os2 → SameOps os os2 → os ≡ os2
      exact-ops env n cs no_ops no_ops p q s = refl
      exact-ops env n cs no_ops (then_op b rs2 os2) p q s = absurd s
      exact-ops env n cs (then_op a rs os) no_ops p q s = absurd s
      exact-ops env n [] (then_op a rs os) (then_op b rs2 os2) p q s = absurd p
      exact-ops env n (c ∷ cs) (then_op a rs os) (then_op b rs2 os2) (new, (ts, typed, p), more)
          (new2, (ts2, typed2, q), more2) (h, r, s) =
          let inner = behind env (result_names (out-OpCst c).results) in
          let P = Region (behind env (result_names (out-OpCst c).results)) (n + length a.results)
          rs in
          let Q = Region (behind env (result_names (out-OpCst c).results)) (n + length b.results)
          rs2 in
          let numbers = same-numbers env c ts ts2 a b rs rs2 P Q (as_many ts a.operands typed)
          (as_many ts2 b.operands typed2) p q in
          let heads : a ≡ b = head-same a b h numbers.0 numbers.1 in
          let first : n + length b.results ≡ n + length a.results =
          ap (λ (l : List Value). n + length l) (sym h.results) in
          let inside_same : rs ≡ rs2 = exact-regions inner (n + length a.results) rs rs2
          (λ i within. (let both = told-region env env p.completes.operand_sizes
          q.completes.operand_sizes a.operands b.operands a.successors b.successors P Q
          (form_facts forms c) i (p.completes.shows.covers.regions i within) p.names
          q.names in
          record {
            tree = both.tree;
            first = both.first;
            second = subst (λ (k : ℕ). Region inner k rs2 i both.tree) first both.second;
          })) r in
          let later : os ≡ os2 =
          exact-ops inner (n + length a.results + length (types_in_regions rs)) cs os os2 more
          (subst (λ (k : ℕ). Say inner k cs os2) (next-op n a b rs rs2 h r) more2) s in
          then-same a b rs rs2 os os2 heads inside_same later

      exact-regions : (env : Env) (n : ℕ) (rs rs2 : Regions Text Value)
          → ((i : ℕ) → i < length (region_args rs) → BothOf (Region env n rs) (Region env n rs2) i)
          → SameRegions rs rs2 → rs ≡ rs2
      exact-regions env n no_regions no_regions told s = refl
      exact-regions env n no_regions (region bs2 rs2) told s = absurd s
      exact-regions env n (region bs rs) no_regions told s = absurd s
      exact-regions env n (region bs rs) (region bs2 rs2) told (b, s) =
          let here = told 0 (omega arith) in
          let cs = (out-RegionCst here.tree).blocks in
          let first : bs ≡ bs2 =
          exact-blocks (inside env (block_scope n cs bs) (label_scope 0 cs)) n cs bs bs2
          here.first.1
          (subst (λ (w : RegionScope). SayBlocks (inside env w (label_scope 0 cs)) n cs bs2)
          (blocks-own-same n cs bs bs2 b) here.second.1) b in
          let next : n + length (types_in_blocks bs2) ≡ n + length (types_in_blocks bs) =
          ap (λ (l : List Value). n + length l) (sym (block-types-same bs bs2 b)) in
          let rest : rs ≡ rs2 = exact-regions env (n + length (types_in_blocks bs)) rs rs2
          (λ i within. (let there = told (suc i) (omega arith) in
          record {
            tree = there.tree;
            first = there.first;
            second = subst (λ (k : ℕ). Region env k rs2 i there.tree) next there.second;
          })) s in
          ap (λ w. region w rs) first ∙ ap (λ w. region bs2 w) rest

      exact-blocks : (env : Env) (n : ℕ) (cs : List BlockCst) (bs bs2 : Blocks Text Value)
          → SayBlocks env n cs bs → SayBlocks env n cs bs2 → SameBlocks bs bs2 → bs ≡ bs2
      exact-blocks env n cs no_blocks no_blocks p q s = refl
      exact-blocks env n cs no_blocks (block xs2 os2 bs2) p q s = absurd s
      exact-blocks env n cs (block xs os bs) no_blocks p q s = absurd s
      exact-blocks env n [] (block xs os bs) (block xs2 os2 bs2) p q s = absurd p
      exact-blocks env n (c ∷ cs) (block xs os bs) (block xs2 os2 bs2) (new, p, more)
          (new2, q, more2) (e, o, s) =
          let inner = behind env (argument_names (out-BlockCst c).args) in
          let outer = behind (behind env (argument_names (out-BlockCst c).args))
          (op_names (out-BlockCst c).ops) in
          let first : n + length xs2 ≡ n + length xs =
          ap (λ (l : List Value). n + length l) (sym e) in
          let ops : os ≡ os2 = exact-ops inner (n + length xs) (out-BlockCst c).ops os os2 p
          (subst (λ (k : ℕ). Say inner k (out-BlockCst c).ops os2) first q) o in
          let rest : bs ≡ bs2 = exact-blocks outer (n + length xs + length (types_in os)) cs bs bs2
          more
          (subst (λ (k : ℕ). SayBlocks outer k cs bs2) (next-block n xs xs2 os os2 e o) more2)
          s in
          ap (λ w. block w os bs) e
          ∙ (ap (λ w. block xs2 w bs) ops ∙ ap (λ w. block xs2 os2 w) rest)

  -- Modules that complete the same trees with any types of uses are the same.
  pub one-nearly : (cs : List OpCst) (m k : WholeModule) → Proper loaded m → Proper loaded k
      → NearlySays loaded forms aliases cs m → NearlySays loaded forms aliases cs k → m ≡ k
  one-nearly cs m k a b p q =
      let right = proper-right loaded _ 0 0 m a.each in
      let right2 = proper-right loaded _ 0 0 k b.each in
      let s : SameOps m k = same-ops loaded forms aliases distinct typing AsMany AsMany
      (inside nowhere (own_scope 0 cs m) []) (inside nowhere (own_scope 0 cs k) []) 0 0 cs m k
      p q right right2 in
      exact-ops AsMany (λ ts ns e. e) (inside nowhere (own_scope 0 cs m) []) 0 cs m k p
      (subst (λ (w : RegionScope). OpsSay loaded forms aliases AsMany (inside nowhere w []) 0 cs k)
      (own-same 0 cs m k s) q) s

-- ---- a file

module _ (loaded : Loaded) (forms : CustomForms) where
  -- what completes a tree does so with any types of uses
  pub completed-nearly : (tree : ModuleCst) (m : WholeModule) → Completes loaded forms tree m
      → NearlyCompletes loaded forms tree m
  completed-nearly tree m p = record {
    aliases = p.aliases;
    proper = p.proper;
    says = ops-wider loaded loaded forms (aliases_of tree) (λ env c head o P says. says)
        (AreTypes (types_in m)) AsMany (are-as-many (types_in m)) (top_level tree.ops m) 0 tree.ops
        m p.says;
  }

  -- at most one module completes a tree, with any types of uses
  pub one-nearly-completed : HaveDistinctOps loaded.ops → HaveOneTyping loaded forms
      → (tree : ModuleCst) (m n : WholeModule) → NearlyCompletes loaded forms tree m
      → NearlyCompletes loaded forms tree n → m ≡ n
  one-nearly-completed distinct typing tree m n p q =
      one-nearly loaded forms (aliases_of tree) distinct typing tree.ops m n p.proper q.proper
      p.says q.says

  -- at most one module completes a tree
  pub one-completed : HaveDistinctOps loaded.ops → HaveOneTyping loaded forms
      → (tree : ModuleCst) (m n : WholeModule) → Completes loaded forms tree m
      → Completes loaded forms tree n → m ≡ n
  one-completed distinct typing tree m n p q =
      one-nearly-completed distinct typing tree m n (completed-nearly tree m p)
      (completed-nearly tree n q)
