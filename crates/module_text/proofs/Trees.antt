-- What the trees of operations and blocks say, put together as the trees are.
--
--   OpHas, OpsHave       the tree of an operation has its parts; operations complete their trees,
--                        and their names are those of their numbers
--   BlockHas, BlocksHave the same of a block and of blocks, with their labels
use Rattle.std.proofs.Common.{◌≡◌, ℕ, zero, suc, ◌+◌, ◌≤◌, ◌^◌, Bool, List, [], ◌∷◌, ◌++◌, length}
use Rattle.std.proofs.Common.{map, refl, sym, ◌∙◌, ap, subst, Some, arith}
use Rattle.std.proofs.lemmas.List.{map-append}
use Rattle.std.specs.List.{AllByRecursion, AllZip, range_with_len}
use Rattle.attr_value.specs.Ids.{at}
use Rattle.attr_value.specs.Values.{Value}
use Rattle.derived_printer.specs.ModuleMarks.{view_of, numbered}
use Rattle.derived_printer.specs.ValueMarks.{Marks}
use Rattle.generic_syntax.specs.declared.module_cst.ArgCst.{ArgCst}
use Rattle.generic_syntax.specs.declared.module_cst.BlockCst.{BlockCst, out-BlockCst}
use Rattle.generic_syntax.specs.declared.module_cst.GenericCst.{GenericCst, out-GenericCst}
use Rattle.generic_syntax.specs.declared.module_cst.OpCst.{OpCst, out-OpCst}
use Rattle.generic_syntax.specs.declared.module_cst.ResultCst.{ResultCst}
use Rattle.ir_lexer.specs.Spelling.{Text}
use Rattle.ir_store.specs.Modules.{Regions, Blocks, no_ops, then_op, no_blocks, block, types_in}
use Rattle.ir_store.specs.Modules.{types_in_regions, block_args}
use Rattle.module_meaning.specs.AliasValues.{no_aliases}
use Rattle.module_meaning.specs.Completes.{AreTypes, OpSays, OpsSay, BlocksSay, own_scope}
use Rattle.module_meaning.specs.Completes.{block_scope}
use Rattle.module_meaning.specs.Facts.{CustomForms}
use Rattle.module_meaning.specs.Names.{Env, AreNew, behind, result_scope, argument_scope}
use Rattle.module_meaning.specs.Names.{label_of, label_scope, result_names, argument_names}
use Rattle.module_meaning.specs.Names.{op_names}
use Rattle.module_meaning.specs.WholeModules.{WholeHead, WholeModule, Loaded, operation_with}
use Rattle.module_meaning.specs.WholeModules.{own_numbers, block_numbers}
use Rattle.module_text.proofs.Generic.{HasParts}
use Rattle.module_text.proofs.Numbers.{value_key, values-differ}
use Rattle.module_text.proofs.OneOperation.{Sees, RegionIs, RegionsHave, IsForm, op-says, all-low}
use Rattle.module_text.proofs.OneOperation.{operands-typed}
use Rattle.module_text.proofs.Parts.{IsResult, IsArgument}
use Rattle.module_text.proofs.Ready.{TypeIsRight, OpIsReady}
use Rattle.module_text.proofs.Scopes.{scope_of, scope-both, Below, numbers-new}
use Rattle.symbol_scopes.specs.Regions.{RegionScope}
use Rattle.value_meaning.specs.Meaning.{value_of}

-- the names of so many values from a number on
abbrev pub keys_from : ℕ → ℕ → List Text
keys_from n k = map value_key (range_with_len n k)

-- the names of values
abbrev pub values_scope : List ℕ → RegionScope
values_scope ns = scope_of value_key ns

-- behind the results of an operation, and behind the arguments of a block
abbrev pub behind_values : Env → ℕ → ℕ → Env
behind_values env n k = behind env (keys_from n k)

-- behind a block with its operations
abbrev pub behind_block : Env → ℕ → List Value → WholeModule → Env
behind_block env n args os =
    behind (behind_values env n (length args))
    (map value_key (own_numbers (n + length args) os))

-- ---- results and arguments

-- names of results are those of their numbers
results-scope : (n k : ℕ) (rs : List ResultCst) → AllZip IsResult rs (range_with_len n k)
    → result_scope n rs ≡ values_scope (range_with_len n k)
results-scope n zero [] h = refl
results-scope n zero (r ∷ rs) h = absurd h
results-scope n (suc k) [] h = absurd h
results-scope n (suc k) (r ∷ rs) ((p, q), h) =
    rw (p, q) (ap (λ w. record { name = value_key n; at = n; number = 1 } ∷ w)
    (results-scope (n + 1) k rs h))

results-names : (rs : List ResultCst) (ns : List ℕ) → AllZip IsResult rs ns
    → result_names rs ≡ map value_key ns
results-names [] [] h = refl
results-names (r ∷ rs) (n ∷ ns) ((p, q), h) =
    ap (λ w. w ∷ result_names rs) p ∙ ap (λ l. value_key n ∷ l) (results-names rs ns h)
results-names [] (n ∷ ns) h = absurd h
results-names (r ∷ rs) [] h = absurd h

-- and so are those of arguments
next-numbered : (n : ℕ) (xs : List ArgCst) (args : List Value)
    → AllZip IsArgument xs (numbered (suc n) args) → AllZip IsArgument xs (numbered (n + 1) args)
next-numbered n xs args h =
    let next : suc n ≡ n + 1 = omega arith in
    subst (λ (m : ℕ). AllZip IsArgument xs (numbered m args)) next h

arguments-scope : (n : ℕ) (xs : List ArgCst) (args : List Value)
    → AllZip IsArgument xs (numbered n args)
    → argument_scope n xs ≡ values_scope (range_with_len n (length args))
arguments-scope n [] [] h = refl
arguments-scope n (x ∷ xs) (t ∷ args) ((p, q), h) =
    rw p (ap (λ w. record { name = value_key n; at = n; number = 1 } ∷ w)
    (arguments-scope (n + 1) xs args (next-numbered n xs args h)))
arguments-scope n [] (t ∷ args) h = absurd h
arguments-scope n (x ∷ xs) [] h = absurd h

arguments-names : (n : ℕ) (xs : List ArgCst) (args : List Value)
    → AllZip IsArgument xs (numbered n args)
    → argument_names xs ≡ keys_from n (length args)
arguments-names n [] [] h = refl
arguments-names n (x ∷ xs) (t ∷ args) ((p, q), h) =
    ap (λ w. w ∷ argument_names xs) p
    ∙ ap (λ l. value_key n ∷ l) (arguments-names (n + 1) xs args (next-numbered n xs args h))
arguments-names n [] (t ∷ args) h = absurd h
arguments-names n (x ∷ xs) [] h = absurd h

arguments-types : (n : ℕ) (xs : List ArgCst) (args : List Value)
    → AllZip IsArgument xs (numbered n args)
    → map (λ (x : ArgCst). value_of no_aliases x.ty) xs ≡ map Some args
arguments-types n [] [] h = refl
arguments-types n (x ∷ xs) (t ∷ args) ((p, q), h) =
    ap (λ w. w ∷ map (λ (x : ArgCst). value_of no_aliases x.ty) xs) q
    ∙ ap (λ l. Some t ∷ l) (arguments-types (suc n) xs args h)
arguments-types n [] (t ∷ args) h = absurd h
arguments-types n (x ∷ xs) [] h = absurd h

module _ (loaded : Loaded) (forms : CustomForms) (types : List Value) where
  abbrev Say : Env → ℕ → List OpCst → WholeModule → Type 0
  Say env n cs os = OpsSay loaded forms no_aliases (AreTypes types) env n cs os

  abbrev SayBlocks : Env → ℕ → List BlockCst → Blocks Text Value → Type 0
  SayBlocks env n cs bs = BlocksSay loaded forms no_aliases (AreTypes types) env n cs bs

  abbrev Says : Env → Env → ℕ → OpCst → WholeHead → Regions Text Value → List Value → Type 0
  Says env inner n c head rs ts =
      OpSays loaded forms no_aliases env c head (operation_with ts head rs)
      (λ i r. RegionIs loaded forms types inner n i r rs)

  -- ---- operations

  -- the tree of an operation has its parts, where the marks of its regions are these
  pub record OpHas (env : Env) (n : ℕ) (head : WholeHead) (rs : Regions Text Value)
      (marks : List Marks) (c : OpCst) : Type 0 where
    pub named : AllZip IsResult (out-OpCst c).results (range_with_len n (length head.results))
    pub form : GenericCst
    pub form_is : IsForm c form
    pub parts : HasParts (view_of types head marks)
        (RegionsHave loaded forms types (behind_values env n (length head.results))
        (n + length head.results) rs) (out-GenericCst form)

  -- the operations complete the trees, and their own names are those of their numbers
  pub record OpsHave (env : Env) (n : ℕ) (os : WholeModule) (cs : List OpCst) : Type 0 where
    pub says : Say env n cs os
    pub scope : own_scope n cs os ≡ values_scope (own_numbers n os)
    pub names : op_names cs ≡ map value_key (own_numbers n os)

  -- none
  pub no-more-ops : (env : Env) (n : ℕ) → OpsHave env n no_ops []
  no-more-ops env n = record { says = tt; scope = refl; names = refl }

  -- one and those behind it
  module _ (right : AllByRecursion (TypeIsRight loaded) types) (few : length types ≤ 2 ^ 64)
      (env : Env) (visible : List ℕ) (blocks n : ℕ) (head : WholeHead) (rs : Regions Text Value)
      (os : WholeModule) (last : Bool) (marks : List Marks) (c : OpCst) (cs : List OpCst)
      (ready : OpIsReady loaded types visible blocks head rs last)
      (sees : Sees loaded forms types env visible blocks)
      (results : AllByRecursion (TypeIsRight loaded) head.results)
      (arguments : AllByRecursion (TypeIsRight loaded) (types_in_regions rs))
      (room : n + length head.results ≤ length types)
      (before : Below value_key n env.before)
      (here : OpHas env n head rs marks c)
      (more : OpsHave (behind_values env n (length head.results))
      (n + length head.results + length (types_in_regions rs)) os cs) where
    abbrev own : List ℕ
    own = range_with_len n (length head.results)

    abbrev next : ℕ
    next = n + length head.results + length (types_in_regions rs)

    names-are : result_names (out-OpCst c).results ≡ keys_from n (length head.results)
    names-are = results-names (out-OpCst c).results own here.named

    says-this : Says env (behind_values env n (length head.results)) (n + length head.results) c
        head rs (map (at types) head.operands)
    says-this =
        op-says loaded forms types right env (behind_values env n (length head.results)) visible
        blocks n head rs last marks c here.form ready sees results arguments here.form_is here.named
        here.parts

    pub more-ops : OpsHave env n (then_op head rs os) (c ∷ cs)
    more-ops = record {
      says = subst (λ (ws : List Text). AreNew env.before ws
          × ((ts : List Value) × AreTypes types ts head.operands
          × Says env (behind env ws) (n + length head.results) c head rs ts)
          × Say (behind env ws) next cs os) (sym names-are) (
            numbers-new value_key (length types)
                (λ i j a b e. values-differ i j (omega arith) (omega arith) e) n
                (length head.results)
                env.before room before,
            (
              map (at types) head.operands,
              operands-typed loaded forms types head.operands
                  (all-low loaded forms types env visible blocks sees head.operands
                  ready.proper.in_scope.operands),
              says-this,
            ),
            more.says,
          );
      scope =
          ap (λ s. s ++ own_scope next cs os)
          (results-scope n (length head.results) (out-OpCst c).results here.named)
          ∙ ap (λ s. values_scope own ++ s) more.scope
          ∙ sym (scope-both value_key own (own_numbers next os));
      names =
          ap (λ s. s ++ op_names cs) names-are
          ∙ ap (λ s. map value_key own ++ s) more.names
          ∙ sym (map-append value_key own (own_numbers next os));
    }

  -- ---- blocks

  -- the tree of a block has its arguments and operations, and this label
  pub record BlockHas (env : Env) (n k : ℕ) (label : RegionScope) (args : List Value)
      (os : WholeModule) (b : BlockCst) : Type 0 where
    pub arguments : AllZip IsArgument (out-BlockCst b).args (numbered n args)
    pub inside : OpsHave (behind_values env n (length args)) (n + length args) os
        (out-BlockCst b).ops
    pub labelled : label_of k (out-BlockCst b).label ≡ label

  -- the blocks complete the trees, their own names are those of their numbers, and their labels are
  -- these
  pub record BlocksHave (env : Env) (n k : ℕ) (labels : RegionScope) (blocks : Blocks Text Value)
      (bs : List BlockCst) : Type 0 where
    pub says : SayBlocks env n bs blocks
    pub scope : block_scope n bs blocks ≡ values_scope (block_numbers n blocks)
    pub spelled : map (λ b. map (λ (x : ArgCst). value_of no_aliases x.ty) (out-BlockCst b).args) bs
        ≡ map (map Some) (block_args blocks)
    pub labelled : label_scope k bs ≡ labels

  -- none
  pub no-more-blocks : (env : Env) (n k : ℕ) → BlocksHave env n k [] no_blocks []
  no-more-blocks env n k =
      record { says = tt; scope = refl; spelled = refl; labelled = refl }

  -- one and those behind it
  module _ (few : length types ≤ 2 ^ 64) (env : Env) (n k : ℕ) (label labels : RegionScope)
      (args : List Value) (os : WholeModule) (rest : Blocks Text Value) (b : BlockCst)
      (bs : List BlockCst) (room : n + length args ≤ length types)
      (before : Below value_key n env.before) (here : BlockHas env n k label args os b)
      (more : BlocksHave (behind_block env n args os) (n + length args + length (types_in os))
      (suc k) labels rest bs) where
    abbrev next_block : ℕ
    next_block = n + length args + length (types_in os)

    abbrev shown : List ArgCst
    shown = (out-BlockCst b).args

    abbrev inside_it : List ℕ
    inside_it = own_numbers (n + length args) os

    args-are : argument_names (out-BlockCst b).args ≡ keys_from n (length args)
    args-are = arguments-names n (out-BlockCst b).args args here.arguments

    pub more-blocks : BlocksHave env n k (label ++ labels) (block args os rest) (b ∷ bs)
    more-blocks = record {
      says = subst (λ (ws : List Text). AreNew env.before ws
          × Say (behind env ws) (n + length args) (out-BlockCst b).ops os
          × SayBlocks (behind (behind env ws) (op_names (out-BlockCst b).ops)) next_block bs rest)
          (sym args-are) (
            numbers-new value_key (length types)
                (λ i j a b e. values-differ i j (omega arith) (omega arith) e) n (length args)
                env.before
                room before,
            here.inside.says,
            subst (λ (ws : List Text). SayBlocks (behind (behind_values env n (length args)) ws)
                next_block bs rest) (sym here.inside.names) more.says,
          );
      scope =
          ap (λ s. s ++ (own_scope (n + length args) (out-BlockCst b).ops os
          ++ block_scope next_block bs rest))
          (arguments-scope n (out-BlockCst b).args args here.arguments)
          ∙ ap (λ s. values_scope (range_with_len n (length args))
          ++ (s ++ block_scope next_block bs rest)) here.inside.scope
          ∙ ap (λ s. values_scope (range_with_len n (length args)) ++ (values_scope inside_it ++ s))
          more.scope
          ∙ ap (λ s. values_scope (range_with_len n (length args)) ++ s)
          (sym (scope-both value_key inside_it (block_numbers next_block rest)))
          ∙ sym (scope-both value_key (range_with_len n (length args))
          (inside_it ++ block_numbers next_block rest));
      spelled =
          ap (λ l. l ∷ map (λ b. map (λ (x : ArgCst). value_of no_aliases x.ty)
          (out-BlockCst b).args) bs)
          (arguments-types n (out-BlockCst b).args args here.arguments)
          ∙ ap (λ l. map Some args ∷ l) more.spelled;
      labelled =
          ap (λ s. s ++ label_scope (suc k) bs) here.labelled ∙ ap (λ s. label ++ s) more.labelled;
    }
