-- In a module that completes trees, operands and successors of each operation are in scope.
--
-- By recursion over the module, with an environment whose names stand for the values that may be
-- used (`Reaches`). A region adds the names that it defines, which stand for its own values.
use Rattle.std.proofs.Common.{◌≡◌, ℕ, suc, ◌+◌, ◌<◌, Bool, true, List, [], ◌∷◌}
use Rattle.std.proofs.Common.{◌++◌, length, map, sum, refl, sym, ◌∙◌, ap, subst, arith, Option}
use Rattle.std.proofs.Common.{Some}
use Rattle.std.proofs.Common.{slice_get, IsSomeAnd, inl, inr, ◌⊎◌, ◌≢◌, Contains, None}
use Rattle.std.proofs.lemmas.List.{length-map}
use Rattle.std.specs.List.{AllByRecursion, range_with_len}
use Rattle.attr_value.specs.Values.{Value}
use Rattle.dialect_defs.specs.declared.entry.Entry.{Entry}
use Rattle.dialect_defs.specs.Segments.{FitEach, parts}
use Rattle.generic_syntax.specs.declared.module_cst.ArgCst.{ArgCst}
use Rattle.generic_syntax.specs.declared.module_cst.BlockCst.{BlockCst, out-BlockCst}
use Rattle.generic_syntax.specs.declared.module_cst.OpCst.{OpCst, out-OpCst}
use Rattle.generic_syntax.specs.declared.module_cst.RegionCst.{RegionCst, out-RegionCst}
use Rattle.generic_syntax.specs.declared.module_cst.ResultCst.{ResultCst}
use Rattle.ir_lexer.specs.Spelling.{Text}
use Rattle.ir_store.specs.Modules.{Regions, Blocks, no_ops, then_op, no_regions, region}
use Rattle.ir_store.specs.Modules.{no_blocks, block, types_in, types_in_regions, types_in_blocks}
use Rattle.ir_store.specs.Modules.{block_args, region_args}
use Rattle.module_meaning.proofs.InScope.{Reaches, StandsFor, stands-none, stands-append}
use Rattle.module_meaning.proofs.InScope.{stands-results, stands-arguments, label-below}
use Rattle.module_meaning.proofs.InScope.{looked-inside, all-visible, target-below, all-places}
use Rattle.module_meaning.proofs.Places.{all-segments}
use Rattle.module_meaning.proofs.Told.{both-hold, told-of}
use Rattle.module_meaning.specs.Completes.{OpSays, OpsSay, RegionSays, BlocksSay}
use Rattle.module_meaning.specs.Completes.{block_scope, own_scope, top_level}
use Rattle.module_meaning.specs.Facts.{CustomForms, Fact, uses_are, all_uses_are, successor_is}
use Rattle.module_meaning.specs.Facts.{region_is, is_of, tells, form_facts, operand_topic}
use Rattle.module_meaning.specs.Facts.{all_uses_topic, successor_topic, region_topic}
use Rattle.module_meaning.specs.Names.{Env, Names, inside, behind, label_scope}
use Rattle.module_meaning.specs.Names.{result_scope, pack_size}
use Rattle.module_meaning.specs.Names.{result_names, argument_names, op_names}
use Rattle.module_meaning.specs.Says.{Says, argument_types}
use Rattle.module_meaning.specs.WholeModules.{WholeHead, WholeModule, Loaded, operation_with}
use Rattle.module_meaning.specs.WholeModules.{EachOp, EachInRegions, EachInBlocks, IsInScope}
use Rattle.module_meaning.specs.WholeModules.{is_end}
use Rattle.module_meaning.specs.WholeModules.{own_numbers, block_numbers}
use Rattle.segment_match.proofs.Unique.{FitEach-length}
use Rattle.symbol_scopes.specs.Meanings.{or_else}
use Rattle.symbol_scopes.specs.Regions.{found}
use Rattle.value_meaning.specs.Meaning.{Aliases, value_of}

-- something that is there has what is asked of it, and more where that follows
some-wider : {A : Type 0} (P Q : A → Type 0) (o : Option A) → ((x : A) → P x → Q x)
    → IsSomeAnd o P → IsSomeAnd o Q
some-wider P Q None more h = absurd h
some-wider P Q (Some x) more h = more x h

-- facts of one operation, whose names stand for what may be used
module _ (visible : List ℕ) (blocks : ℕ) (env : Env) (reaches : Reaches visible blocks env)
    (sizes xs ss : List ℕ) (P : ℕ → RegionCst → Type 0) (facts : List Fact)
    (names : AllByRecursion (Names env sizes xs ss P) facts) where
  abbrev Named : Fact → Type 0
  Named fact = Names env sizes xs ss P fact

  segment-of : (i : ℕ) (fact : Fact) → is_of (operand_topic i) fact ≡ true → Named fact
      → IsSomeAnd (slice_get (parts sizes xs) i) (AllByRecursion (Contains visible))
  segment-of i (uses_are j us) e h =
      let at : j ≡ i = grind (arith, e) in
      subst (λ (k : ℕ). IsSomeAnd (slice_get (parts sizes xs) k)
      (AllByRecursion (Contains visible))) at
      (some-wider _ _ _ (λ ns is. all-visible visible blocks env reaches us ns is) h)
  segment-of i _ e h = absurd (cc)

  all-of : (fact : Fact) → is_of all_uses_topic fact ≡ true → Named fact
      → AllByRecursion (Contains visible) xs
  all-of (all_uses_are us) e h = all-visible visible blocks env reaches us xs h
  all-of _ e h = absurd (cc)

  block-of : (i : ℕ) (fact : Fact) → is_of (successor_topic i) fact ≡ true → Named fact
      → IsSomeAnd (slice_get ss i) (λ b. b < blocks)
  block-of i (successor_is j s) e h =
      let at : j ≡ i = grind (arith, e) in
      subst (λ (k : ℕ). IsSomeAnd (slice_get ss k) (λ b. b < blocks)) at
      (some-wider _ _ _ (λ b is. target-below visible blocks env reaches s b is) h)
  block-of i _ e h = absurd (cc)

  told-segment : (i : ℕ) → tells facts (operand_topic i) ≡ true
      → IsSomeAnd (slice_get (parts sizes xs) i) (AllByRecursion (Contains visible))
  told-segment i e =
      let (fact, is, h) = told-of (operand_topic i) facts Named e names in segment-of i fact is h

  told-block : (i : ℕ) → tells facts (successor_topic i) ≡ true
      → IsSomeAnd (slice_get ss i) (λ b. b < blocks)
  told-block i e =
      let (fact, is, h) = told-of (successor_topic i) facts Named e names in block-of i fact is h

  operands-visible : (es : List Entry) → FitEach es sizes → sum sizes ≡ length xs
      → (tells facts all_uses_topic ≡ true)
      ⊎ ((i : ℕ) → i < length es → tells facts (operand_topic i) ≡ true)
      → AllByRecursion (Contains visible) xs
  operands-visible es fit total (inl e) =
      let (fact, is, h) = told-of all_uses_topic facts Named e names in all-of fact is h
  operands-visible es fit total (inr told) =
      let entries : length sizes ≡ length es = FitEach-length es sizes fit in
      all-segments (Contains visible) sizes xs total
      (λ i within. told-segment i (told i (omega (arith, entries))))

  successors-below : ((i : ℕ) → i < length ss → tells facts (successor_topic i) ≡ true)
      → AllByRecursion (λ b. b < blocks) ss
  successors-below told =
      all-places (λ b. b < blocks) ss (λ i within. told-block i (told i within))

module _ (loaded : Loaded) (forms : CustomForms) (aliases : Aliases)
    (Typed : List Value → List ℕ → Type 0)
    (as_many : (ts : List Value) (ns : List ℕ) → Typed ts ns → length ts ≡ length ns) where
  abbrev Say : Env → ℕ → List OpCst → WholeModule → Type 0
  Say env n cs os = OpsSay loaded forms aliases Typed env n cs os

  abbrev SayBlocks : Env → ℕ → List BlockCst → Blocks Text Value → Type 0
  SayBlocks env n cs bs = BlocksSay loaded forms aliases Typed env n cs bs

  -- the arguments of blocks are those of their trees
  abbrev HaveArguments : List BlockCst → Blocks Text Value → Type 0
  HaveArguments cs bs =
      map (λ b. map (λ (x : ArgCst). value_of aliases x.ty) (out-BlockCst b).args) cs
      ≡ map (map Some) (block_args bs)

  -- the tree of the i-th region, which says what stands there
  record TreeOf (env : Env) (n : ℕ) (rs : Regions Text Value) (i : ℕ) : Type 0 where
    pub tree : RegionCst
    pub says : RegionSays loaded forms aliases Typed env n i tree rs
    pub arguments : IsSomeAnd (slice_get (region_args rs) i)
        (λ blocks. argument_types aliases tree ≡ map (map Some) blocks)

  -- ---- what names stand for

  -- the names of an operation's results stand for its results
  results-stand : (n : ℕ) (rs : List ResultCst) (len : ℕ)
      → (rs ≢ [] → sum (map (λ (r : ResultCst). pack_size r.pack) rs) ≡ len)
      → StandsFor (range_with_len n len) (result_scope n rs)
  results-stand n [] len h = stands-none (range_with_len n len)
  results-stand n (r ∷ rs) len h =
      let all : sum (map (λ (x : ResultCst). pack_size x.pack) (r ∷ rs)) ≡ len =
      h (λ e. absurd (cc)) in
      stands-results n len n (r ∷ rs) (omega arith) (omega arith)

  -- the names that operations define themselves stand for their own values
  own-stands : (env : Env) (n : ℕ) (cs : List OpCst) (os : WholeModule) → Say env n cs os
      → StandsFor (own_numbers n os) (own_scope n cs os)
  own-stands env n [] no_ops p = stands-none []
  own-stands env n [] (then_op head rs os) p = absurd p
  own-stands env n (c ∷ cs) no_ops p = absurd p
  own-stands env n (c ∷ cs) (then_op head rs os) (new, (ts, typed, p), more) =
      stands-append _ _ _ _
      (results-stand n (out-OpCst c).results (length head.results) p.completes.results)
      (own-stands (behind env (result_names (out-OpCst c).results))
      (n + length head.results + length (types_in_regions rs)) cs os more)

  -- those of blocks stand for theirs
  blocks-stand : (env : Env) (n : ℕ) (cs : List BlockCst) (bs : Blocks Text Value)
      → SayBlocks env n cs bs → HaveArguments cs bs
      → StandsFor (block_numbers n bs) (block_scope n cs bs)
  blocks-stand env n [] no_blocks p e = stands-none []
  blocks-stand env n [] (block args os bs) p e = absurd p
  blocks-stand env n (c ∷ cs) no_blocks p e = absurd p
  blocks-stand env n (c ∷ cs) (block args os bs) (new, p, more) e =
      let first : map (λ (x : ArgCst). value_of aliases x.ty) (out-BlockCst c).args
      ≡ map Some args = cc in
      let rest : HaveArguments cs bs = cc in
      let long : length (out-BlockCst c).args ≡ length args =
      sym (length-map (out-BlockCst c).args (λ (x : ArgCst). value_of aliases x.ty))
      ∙ (ap length first ∙ length-map args Some) in
      stands-append _ _ _ _
      (stands-arguments n (length args) n (out-BlockCst c).args (omega arith) (omega (arith, long)))
      (stands-append _ _ _ _ (own-stands _ _ (out-BlockCst c).ops os p)
      (blocks-stand
      (behind (behind env (argument_names (out-BlockCst c).args)) (op_names (out-BlockCst c).ops))
      (n + length args + length (types_in os)) cs bs more rest))

  -- as many blocks as trees
  blocks-length : (cs : List BlockCst) (bs : Blocks Text Value) → HaveArguments cs bs
      → length cs ≡ length (block_args bs)
  blocks-length cs bs e =
      sym (length-map cs
      (λ b. map (λ (x : ArgCst). value_of aliases x.ty) (out-BlockCst b).args))
      ∙ (ap length e ∙ length-map (block_args bs) (map Some))

  -- ---- the recursion

  -- one operation
  op-in-scope : (visible : List ℕ) (blocks : ℕ) (env : Env) → Reaches visible blocks env
      → (c : OpCst) (ts : List Value) (head : WholeHead) (rs : Regions Text Value) (last : Bool)
      (P : ℕ → RegionCst → Type 0) → length ts ≡ length head.operands
      → OpSays loaded forms aliases env c head (operation_with ts head rs) P
      → IsInScope visible blocks head rs last
  op-in-scope visible blocks env reaches c ts head rs last P long p =
      let total : sum p.completes.operand_sizes ≡ length ts =
      p.completes.meets.operand_segments.total in
      record {
        operands = operands-visible visible blocks env reaches p.completes.operand_sizes
            head.operands head.successors P (form_facts forms c) p.names
            p.completes.def.operands p.completes.meets.operand_segments.fit (total ∙ long)
            p.completes.shows.covers.uses;
        successors = successors-below visible blocks env reaches p.completes.operand_sizes
            head.operands head.successors P (form_facts forms c) p.names
            p.completes.shows.covers.successors;
      }

  -- the tree of each of its regions
  module _ (env inner : Env) (n : ℕ) (c : OpCst) (ts : List Value) (head : WholeHead)
      (rs : Regions Text Value)
      (p : OpSays loaded forms aliases env c head (operation_with ts head rs)
      (λ i r. RegionSays loaded forms aliases Typed inner n i r rs)) where
    abbrev Said : Fact → Type 0
    Said fact = Says aliases p.completes.operand_sizes p.completes.result_sizes
        (operation_with ts head rs) fact

    abbrev SaysNames : Fact → Type 0
    SaysNames fact = Names env p.completes.operand_sizes head.operands head.successors
        (λ i r. RegionSays loaded forms aliases Typed inner n i r rs) fact

    abbrev Both : Fact → Type 0
    Both fact = Said fact × SaysNames fact

    tree-of : (i : ℕ) (fact : Fact) → is_of (region_topic i) fact ≡ true → Both fact
        → TreeOf inner n rs i
    tree-of i (region_is j r) is (x, y) =
        let at : j ≡ i = grind (arith, is) in
        record {
          tree = r;
          says = subst (λ (k : ℕ). RegionSays loaded forms aliases Typed inner n k r rs) at y;
          arguments = subst (λ (k : ℕ). IsSomeAnd (slice_get (region_args rs) k)
              (λ blocks. argument_types aliases r ≡ map (map Some) blocks)) at x;
        }
    tree-of i _ is xy = absurd (cc)

    region-tree : (i : ℕ) → i < length (region_args rs) → TreeOf inner n rs i
    region-tree i within =
        let (fact, is, h) = told-of (region_topic i) (form_facts forms c) Both
        (p.completes.shows.covers.regions i within)
        (both-hold Said SaysNames (form_facts forms c) p.completes.shows.said p.names) in
        tree-of i fact is h

  mutual
    ops-in-scope : (visible : List ℕ) (blocks : ℕ) (env : Env) → Reaches visible blocks env
        → (n : ℕ) (cs : List OpCst) (os : WholeModule) → Say env n cs os
        → EachOp IsInScope visible blocks n os
    ops-in-scope visible blocks env reaches n [] no_ops p = tt
    ops-in-scope visible blocks env reaches n [] (then_op head rs os) p = absurd p
    ops-in-scope visible blocks env reaches n (c ∷ cs) no_ops p = absurd p
    ops-in-scope visible blocks env reaches n (c ∷ cs) (then_op head rs os)
        (new, (ts, typed, p), more) =
        let inner = behind env (result_names (out-OpCst c).results) in
        let reaches2 : Reaches visible blocks (behind env (result_names (out-OpCst c).results)) =
        record { values = reaches.values; labels = reaches.labels } in (
          op-in-scope visible blocks env reaches c ts head rs (is_end os) _
              (as_many ts head.operands typed) p,
          regions-in-scope visible blocks inner reaches2 (n + length head.results) rs
              (region-tree env inner (n + length head.results) c ts head rs p),
          ops-in-scope visible blocks inner reaches2 _ cs os more,
        )

    regions-in-scope : (visible : List ℕ) (blocks : ℕ) (env : Env) → Reaches visible blocks env
        → (n : ℕ) (rs : Regions Text Value)
        → ((i : ℕ) → i < length (region_args rs) → TreeOf env n rs i)
        → EachInRegions IsInScope visible n rs
    regions-in-scope visible blocks env reaches n no_regions told = tt
    regions-in-scope visible blocks env reaches n (region bs rs) told =
        let here = told 0 (omega arith) in
        let cs = (out-RegionCst here.tree).blocks in
        let scope = block_scope n (out-RegionCst here.tree).blocks bs in
        let labels = label_scope 0 (out-RegionCst here.tree).blocks in
        let stands : StandsFor (block_numbers n bs) scope =
        blocks-stand _ n cs bs here.says.1 here.arguments in
        let many : length cs ≡ length (block_args bs) = blocks-length cs bs here.arguments in
        let reaches2 : Reaches (block_numbers n bs ++ visible) (length (block_args bs))
        (inside env scope labels) =
        record {
          values = looked-inside (block_numbers n bs) visible scope env.scopes stands
              reaches.values;
          labels = λ name d e. (let below : d.1 < 0 + length cs = label-below 0 cs name d e in
              omega (arith, many));
        } in (
          blocks-in-scope _ _ (inside env scope labels) reaches2 n cs bs here.says.1,
          regions-in-scope visible blocks env reaches (n + length (types_in_blocks bs)) rs
              (λ i within. (let there = told (suc i) (omega arith) in
              record { tree = there.tree; says = there.says; arguments = there.arguments })),
        )

    blocks-in-scope : (visible : List ℕ) (blocks : ℕ) (env : Env) → Reaches visible blocks env
        → (n : ℕ) (cs : List BlockCst) (bs : Blocks Text Value) → SayBlocks env n cs bs
        → EachInBlocks IsInScope visible blocks n bs
    blocks-in-scope visible blocks env reaches n [] no_blocks p = tt
    blocks-in-scope visible blocks env reaches n [] (block args os bs) p = absurd p
    blocks-in-scope visible blocks env reaches n (c ∷ cs) no_blocks p = absurd p
    blocks-in-scope visible blocks env reaches n (c ∷ cs) (block args os bs) (new, p, more) =
        let names = argument_names (out-BlockCst c).args in
        let reaches2 : Reaches visible blocks (behind env (argument_names (out-BlockCst c).args)) =
        record { values = reaches.values; labels = reaches.labels } in
        let reaches3 : Reaches visible blocks (behind
        (behind env (argument_names (out-BlockCst c).args))
        (op_names (out-BlockCst c).ops)) =
        record { values = reaches.values; labels = reaches.labels } in (
          ops-in-scope visible blocks _ reaches2 _ (out-BlockCst c).ops os p,
          blocks-in-scope visible blocks _ reaches3 _ cs bs more,
        )

  -- operands and successors of a module that completes trees are in scope
  pub module-in-scope : (cs : List OpCst) (m : WholeModule) → Say (top_level cs m) 0 cs m
      → EachOp IsInScope (own_numbers 0 m) 0 0 m
  module-in-scope cs m p = ops-in-scope (own_numbers 0 m) 0 (top_level cs m) reaches 0 cs m p
    where
      stands : StandsFor (own_numbers 0 m) (own_scope 0 cs m)
      stands = own-stands (top_level cs m) 0 cs m p

      reaches : Reaches (own_numbers 0 m) 0 (top_level cs m)
      reaches = record {
        values = λ name d e k within. at name d (found (own_scope 0 cs m) name) refl e k within;
        labels = λ name d e. absurd (cc);
      }
        where
          at : (name : Text) (d : ℕ × ℕ) (o : Option (ℕ × ℕ))
              → found (own_scope 0 cs m) name ≡ o → or_else o None ≡ Some d → (k : ℕ) → k < d.1
              → Contains (own_numbers 0 m) (d.0 + k)
          at name d None is e k within = absurd (cc)
          at name d (Some x) is e k within = stands.each name d (is ∙ e) k within
