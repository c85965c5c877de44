-- Where a module completes trees without custom forms, no value name in them is at fault.
--
-- By recursion over the module: the notes of each tree are right (`AreRight`) by what the module
-- says of its names. The scopes of the notes hold the same names with the same sizes of packs as
-- those of the module.
use Rattle.std.proofs.Common.{◌≡◌, ℕ, zero, suc, ◌+◌, true, List, [], ◌∷◌, ◌++◌}
use Rattle.std.proofs.Common.{length, map, refl, sym, ◌∙◌, ap, subst}
use Rattle.std.proofs.Common.{◌⊎◌, append_assoc}
use Rattle.std.proofs.lemmas.List.{map-append}
use Rattle.std.specs.List.{AllByRecursion}
use Rattle.attr_value.specs.Values.{Value}
use Rattle.dialect_defs.specs.Operations.{Operation}
use Rattle.generic_syntax.specs.declared.module_cst.BlockCst.{BlockCst, out-BlockCst}
use Rattle.generic_syntax.specs.declared.module_cst.FormCst.{out-FormCst}
use Rattle.generic_syntax.specs.declared.module_cst.FormCst.TheOpen.{FormCst-F}
use Rattle.generic_syntax.specs.declared.module_cst.GenericCst.{GenericCst, out-GenericCst}
use Rattle.generic_syntax.specs.declared.module_cst.OpCst.{OpCst, out-OpCst}
use Rattle.generic_syntax.specs.declared.module_cst.RegionCst.{RegionCst, out-RegionCst}
use Rattle.ir_lexer.specs.Spelling.{Text}
use Rattle.grammar.specs.Looks.{is_among}
use Rattle.ir_store.specs.Modules.{Regions, Blocks, no_ops, then_op, no_regions, region}
use Rattle.ir_store.specs.Modules.{no_blocks, block, types_in, types_in_regions, types_in_blocks}
use Rattle.module_meaning.proofs.NotesOfTrees.{listed-label, right-label}
use Rattle.module_meaning.proofs.NotesOfTrees.{listed-generic, listed_in-append}
use Rattle.module_meaning.proofs.NotesOfTrees.{all-new, behind-names}
use Rattle.module_meaning.proofs.NotesOfTrees.{behind-none, behind-arguments, behind-block}
use Rattle.module_meaning.proofs.NotesOfTrees.{regions-right}
use Rattle.module_meaning.proofs.GenericForm.{NamesGeneric, generic-shows, generic-names}
use Rattle.module_meaning.proofs.NotesJoined.{listed_in, listed, names_of, listed-own}
use Rattle.module_meaning.proofs.NotesJoined.{listed-joined, listed-results, listed-arguments}
use Rattle.module_meaning.proofs.NotesJoined.{listed-uses, listed-successors, names-results}
use Rattle.module_meaning.proofs.NotesJoined.{names-arguments, Within}
use Rattle.module_meaning.proofs.NotesJoined.{right-joined, right-results, right-arguments}
use Rattle.module_meaning.proofs.NotesJoined.{right-successors, right-uses, right-silent}
use Rattle.module_meaning.proofs.ValueNotes.{AreRight, right-everywhere, wrong}
use Rattle.module_meaning.specs.Completes.{OpSays, OpsSay, RegionSays, BlocksSay, own_scope}
use Rattle.module_meaning.specs.Completes.{block_scope, top_level, AsMany, NearlySays}
use Rattle.module_meaning.specs.Facts.{FormSeen, facts_in, hides_in}
use Rattle.module_meaning.specs.Facts.{no_forms, tells, dict_topic}
use Rattle.module_meaning.specs.Names.{Env, AreNew, Names, inside, behind, label_scope}
use Rattle.module_meaning.specs.Names.{result_scope, argument_scope, result_names, argument_names}
use Rattle.module_meaning.specs.Names.{op_names}
use Rattle.module_meaning.specs.Says.{Shows, ShowsGeneric}
use Rattle.module_meaning.specs.WholeModules.{WholeHead, WholeModule, Loaded, operation_with}
use Rattle.module_names.proofs.Opened.{generic-opened, form_mentions, form-silent}
use Rattle.module_names.proofs.Opening.{op-opens, region-opens, block-opens, form-generic}
use Rattle.module_names.specs.ModuleNotes.{use_noted, successor_noted, result_noted, op_notes}
use Rattle.module_names.specs.ModuleNotes.{argument_noted}
use Rattle.module_names.specs.ModuleNotes.{form_notes, generic_notes, region_notes, block_notes}
use Rattle.module_names.specs.ModuleNotes.{ops_notes, blocks_notes, in_order}
use Rattle.module_names.specs.Said.{joined, noted}
use Rattle.symbol_scopes.specs.declared.call.NameKind.TheVariants.{Values}
use Rattle.symbol_scopes.specs.Regions.{Notes, RegionScope, own, count, told_in}
use Rattle.value_meaning.specs.Meaning.{Aliases}

module _ (loaded : Loaded) (aliases : Aliases) where
  abbrev Says : Env → OpCst → WholeHead → Operation → (ℕ → RegionCst → Type 0) → Type 0
  Says env c head o P = OpSays loaded no_forms aliases env c head o P

  abbrev Say : Env → ℕ → List OpCst → WholeModule → Type 0
  Say env n cs os = OpsSay loaded no_forms aliases AsMany env n cs os

  abbrev SayBlocks : Env → ℕ → List BlockCst → Blocks Text Value → Type 0
  SayBlocks env n cs bs = BlocksSay loaded no_forms aliases AsMany env n cs bs

  -- an operation that completes a tree has the generic form, whose names are right and which shows
  -- the operation
  pub record Generic (env : Env) (c : OpCst) (head : WholeHead) (P : ℕ → RegionCst → Type 0)
      : Type 0 where
    pub form : GenericCst
    pub is : out-FormCst (out-OpCst c).form ≡ FormCst-F.Generic form
    pub names : NamesGeneric env form head.operands head.successors P
    pub types : List Value
    pub regions : Regions Text Value
    pub shown : ShowsGeneric aliases form (operation_with types head regions)

  pub generic : (env : Env) (c : OpCst) (ts : List Value) (head : WholeHead)
      (rs : Regions Text Value) (P : ℕ → RegionCst → Type 0)
      → Says env c head (operation_with ts head rs) P → Generic env c head P
  generic env c ts head rs P p = by (out-FormCst (out-OpCst c).form) refl
    where
      by : (f : FormSeen) → out-FormCst (out-OpCst c).form ≡ f → Generic env c head P
      by (FormCst-F.Generic g) e =
          let shows = subst (λ (f : FormSeen). Shows aliases p.completes.def
          (hides_in no_forms f) (facts_in no_forms f) (operation_with ts head rs)
          p.completes.operand_sizes p.completes.result_sizes) e p.completes.shows in
          let names = subst (λ (f : FormSeen).
          AllByRecursion (Names env p.completes.operand_sizes head.operands head.successors P)
          (facts_in no_forms f)) e p.names in
          let shown = generic-shows aliases p.completes.def g (operation_with ts head rs)
          p.completes.operand_sizes p.completes.result_sizes shows in
          record {
            form = g;
            is = e;
            names = generic-names env g p.completes.operand_sizes head.operands head.successors P
                shown.successors names;
            types = ts;
            regions = rs;
            shown = shown;
          }
      by (FormCst-F.Custom k) e =
          let told = subst (λ (f : FormSeen). tells (facts_in no_forms f) dict_topic ≡ true) e
          p.completes.shows.covers.dict in
          absurd (cc)

  -- ---- names that trees define

  listed-op : (n : ℕ) (c : OpCst) (g : GenericCst)
      → out-FormCst (out-OpCst c).form ≡ FormCst-F.Generic g
      → listed (op_notes c) ≡ listed_in (result_scope n (out-OpCst c).results)
  listed-op n c g e =
      ap listed (op-opens c)
      ∙ (listed-joined (noted result_noted (out-OpCst c).results) (form_notes (out-OpCst c).form)
      ∙ (ap (λ (ns : Notes). listed (noted result_noted (out-OpCst c).results) ++ listed ns)
      (form-generic (out-OpCst c).form g e)
      ∙ (ap (λ w. listed (noted result_noted (out-OpCst c).results) ++ w) (listed-generic g)
      ∙ (append-none (listed (noted result_noted (out-OpCst c).results))
      ∙ listed-results n (out-OpCst c).results))))
    where
      append-none : (xs : List (Text × ℕ)) → xs ++ [] ≡ xs
      append-none [] = refl
      append-none (x ∷ xs) = ap (λ w. x ∷ w) (append-none xs)

  listed-ops : (env : Env) (n : ℕ) (cs : List OpCst) (os : WholeModule) → Say env n cs os
      → listed (ops_notes cs) ≡ listed_in (own_scope n cs os)
  listed-ops env n [] no_ops p = refl
  listed-ops env n [] (then_op head rs os) p = absurd p
  listed-ops env n (c ∷ cs) no_ops p = absurd p
  listed-ops env n (c ∷ cs) (then_op head rs os) (new, (ts, typed, p), more) =
      let g = generic env c ts head rs _ p in
      let next = n + length head.results + length (types_in_regions rs) in
      listed-joined (op_notes c) (ops_notes cs)
      ∙ (ap (λ w. w ++ listed (ops_notes cs)) (listed-op n c g.form g.is)
      ∙ (ap (λ w. listed_in (result_scope n (out-OpCst c).results) ++ w)
      (listed-ops (behind env (result_names (out-OpCst c).results)) next cs os more)
      ∙ sym (listed_in-append (result_scope n (out-OpCst c).results) (own_scope next cs os))))

  listed-block : (env : Env) (n k : ℕ) (c : BlockCst) (args : List Value) (os : WholeModule)
      → Say env (n + length args) (out-BlockCst c).ops os
      → listed (block_notes c k) ≡ listed_in (argument_scope n (out-BlockCst c).args)
      ++ listed_in (own_scope (n + length args) (out-BlockCst c).ops os)
  listed-block env n k c args os p =
      ap listed (block-opens c k)
      ∙ (listed-label k (out-BlockCst c).label _
      ∙ (listed-joined (noted argument_noted (out-BlockCst c).args) (ops_notes (out-BlockCst c).ops)
      ∙ (ap (λ w. w ++ listed (ops_notes (out-BlockCst c).ops))
      (listed-arguments n (out-BlockCst c).args)
      ∙ ap (λ w. listed_in (argument_scope n (out-BlockCst c).args) ++ w)
      (listed-ops env (n + length args) (out-BlockCst c).ops os p))))

  listed-blocks : (env : Env) (n k : ℕ) (cs : List BlockCst) (bs : Blocks Text Value)
      → SayBlocks env n cs bs
      → listed (in_order k (map block_notes cs)) ≡ listed_in (block_scope n cs bs)
  listed-blocks env n k [] no_blocks p = refl
  listed-blocks env n k [] (block args os bs) p = absurd p
  listed-blocks env n k (c ∷ cs) no_blocks p = absurd p
  listed-blocks env n k (c ∷ cs) (block args os bs) (new, p, more) =
      let next = n + length args + length (types_in os) in
      let xs = argument_scope n (out-BlockCst c).args in
      let ys = own_scope (n + length args) (out-BlockCst c).ops os in
      listed-joined (block_notes c k) (in_order (suc k) (map block_notes cs))
      ∙ (ap (λ w. w ++ listed (in_order (suc k) (map block_notes cs)))
      (listed-block _ n k c args os p)
      ∙ (ap (λ w. (listed_in xs ++ listed_in ys) ++ w)
      (listed-blocks (behind (behind env (argument_names (out-BlockCst c).args))
      (op_names (out-BlockCst c).ops)) next (suc k) cs bs more)
      ∙ (append_assoc (listed_in xs) (listed_in ys) (listed_in (block_scope next cs bs))
      ∙ (ap (λ w. listed_in xs ++ w) (sym (listed_in-append ys (block_scope next cs bs)))
      ∙ sym (listed_in-append xs (ys ++ block_scope next cs bs))))))

  -- the names of an operation are those of its results
  names-op : (c : OpCst) (g : GenericCst) → out-FormCst (out-OpCst c).form ≡ FormCst-F.Generic g
      → names_of (op_notes c) ≡ result_names (out-OpCst c).results
  names-op c g e =
      ap (λ (l : List (Text × ℕ)). map (λ x. x.0) l) (listed-op 0 c g e)
      ∙ names-results 0 (out-OpCst c).results

  names-ops : (env : Env) (n : ℕ) (cs : List OpCst) (os : WholeModule) → Say env n cs os
      → names_of (ops_notes cs) ≡ op_names cs
  names-ops env n [] no_ops p = refl
  names-ops env n [] (then_op head rs os) p = absurd p
  names-ops env n (c ∷ cs) no_ops p = absurd p
  names-ops env n (c ∷ cs) (then_op head rs os) (new, (ts, typed, p), more) =
      let g = generic env c ts head rs _ p in
      ap (λ (l : List (Text × ℕ)). map (λ x. x.0) l) (listed-joined (op_notes c) (ops_notes cs))
      ∙ (map-append (λ (x : Text × ℕ). x.0) (listed (op_notes c)) (listed (ops_notes cs))
      ∙ (ap (λ w. w ++ names_of (ops_notes cs)) (names-op c g.form g.is)
      ∙ ap (λ w. result_names (out-OpCst c).results ++ w)
      (names-ops (behind env (result_names (out-OpCst c).results)) _ cs os more)))

  -- the names of a block are those of its arguments and of its operations
  names-block : (env : Env) (n k : ℕ) (c : BlockCst) (args : List Value) (os : WholeModule)
      → Say env (n + length args) (out-BlockCst c).ops os
      → names_of (block_notes c k)
      ≡ argument_names (out-BlockCst c).args ++ op_names (out-BlockCst c).ops
  names-block env n k c args os p =
      ap (λ (l : List (Text × ℕ)). map (λ x. x.0) l) (listed-block env n k c args os p)
      ∙ (map-append (λ (x : Text × ℕ). x.0)
      (listed_in (argument_scope n (out-BlockCst c).args))
      (listed_in (own_scope (n + length args) (out-BlockCst c).ops os))
      ∙ (ap (λ w. w ++ map (λ (x : Text × ℕ). x.0)
      (listed_in (own_scope (n + length args) (out-BlockCst c).ops os)))
      (names-arguments n (out-BlockCst c).args)
      ∙ ap (λ w. argument_names (out-BlockCst c).args ++ w)
      (ap (λ (l : List (Text × ℕ)). map (λ x. x.0) l)
      (sym (listed-ops env (n + length args) (out-BlockCst c).ops os p))
      ∙ names-ops env (n + length args) (out-BlockCst c).ops os p)))

  behind-results : (env : Env) (c : OpCst) (g : GenericCst)
      → out-FormCst (out-OpCst c).form ≡ FormCst-F.Generic g → (before : List Text)
      → Within before env.before → (names : List Text)
      → ((w : Text) → is_among names w ≡ true
      → (is_among (names_of (op_notes c)) w ≡ true) ⊎ (is_among before w ≡ true))
      → Within names (result_names (out-OpCst c).results ++ env.before)
  behind-results env c g is before in_it names h =
      behind-names env.before before (result_names (out-OpCst c).results) names in_it
      (λ w e. subst (λ (l : List Text). (is_among l w ≡ true) ⊎ (is_among before w ≡ true))
      (names-op c g is) (h w e))

  -- the notes of one operation, whose regions are right
  op-right : (env : Env) (c : OpCst) (g : GenericCst) (operands successors : List ℕ)
      (P : ℕ → RegionCst → Type 0) → out-FormCst (out-OpCst c).form ≡ FormCst-F.Generic g
      → AreNew env.before (result_names (out-OpCst c).results) → (ss : List RegionScope)
      → map listed_in ss ≡ map listed_in env.scopes → (i : ℕ) (before : List Text)
      → Within before env.before → NamesGeneric env g operands successors P
      → ((k : ℕ) (r : RegionCst) (j : ℕ) (names : List Text) → P k r
      → Within names (result_names (out-OpCst c).results ++ env.before)
      → AreRight j ss names (region_notes r))
      → AreRight i ss before (op_notes c)
  op-right env c g operands successors P is new ss alike i before in_it says each =
      let results = noted result_noted (out-OpCst c).results in
      let names_are : names_of (noted result_noted (out-OpCst c).results)
      ≡ result_names (out-OpCst c).results =
      ap (λ (l : List (Text × ℕ)). map (λ x. x.0) l)
      (listed-results 0 (out-OpCst c).results)
      ∙ names-results 0 (out-OpCst c).results in
      let all = result_names (out-OpCst c).results ++ env.before in
      let opened : op_notes c ≡ joined results (generic_notes g) =
      op-opens c ∙ ap (λ (ns : Notes). joined (noted result_noted (out-OpCst c).results) ns)
      (form-generic (out-OpCst c).form g is) in
      subst (AreRight i ss before) (sym opened)
      (right-joined i (i + count Values results) ss before results (generic_notes g)
      (right-results i ss before (out-OpCst c).results new.distinct
      (all-new env.before before in_it _ new.new))
      refl
      (λ names h. form-right env g operands successors P ss alike _ names all
      (behind-names env.before before (result_names (out-OpCst c).results) names in_it
      (λ w e. subst (λ (l : List Text). (is_among l w ≡ true) ⊎ (is_among before w ≡ true))
      names_are (h w e))) says each))
    where
      form-right : (env : Env) (g : GenericCst) (operands successors : List ℕ)
          (P : ℕ → RegionCst → Type 0) (ss : List RegionScope)
          → map listed_in ss ≡ map listed_in env.scopes → (i : ℕ) (before all : List Text)
          → Within before all → NamesGeneric env g operands successors P
          → ((k : ℕ) (r : RegionCst) (j : ℕ) (names : List Text) → P k r → Within names all
          → AreRight j ss names (region_notes r))
          → AreRight i ss before (generic_notes g)
      form-right env g operands successors P ss alike i before all in_it says each =
          let us = noted use_noted (out-GenericCst g).operands in
          let ls = noted successor_noted (out-GenericCst g).successors in
          let regions = noted region_notes (out-GenericCst g).regions in
          subst (AreRight i ss before) (sym (generic-opened g))
          (right-joined i (i + count Values us) ss before us
          (joined ls (joined (form_mentions g) regions))
          (right-uses env ss alike i before (out-GenericCst g).operands operands says.uses) refl
          (λ names h. right-joined _ _ ss names ls (joined (form_mentions g) regions)
          (right-successors _ ss names (out-GenericCst g).successors) refl
          (λ more k. right-silent _ ss more (form_mentions g) regions (form-silent g)
          (regions-right ss all (out-GenericCst g).regions
          (λ x r is j own in_them. each x r j own (says.regions x r is) in_them) _ more
          (behind-none all names ls (listed-successors (out-GenericCst g).successors)
          (behind-none all before us (listed-uses (out-GenericCst g).operands) in_it names h)
          more k)))))

  -- ---- notes are right

  mutual
    ops-right : (env : Env) (n : ℕ) (cs : List OpCst) (os : WholeModule) → Say env n cs os
        → (ss : List RegionScope) → map listed_in ss ≡ map listed_in env.scopes → (i : ℕ)
        (before : List Text) → Within before env.before → AreRight i ss before (ops_notes cs)
    ops-right env n [] no_ops p ss alike i before in_it = tt
    ops-right env n [] (then_op head rs os) p ss alike i before in_it = absurd p
    ops-right env n (c ∷ cs) no_ops p ss alike i before in_it = absurd p
    ops-right env n (c ∷ cs) (then_op head rs os) (new, (ts, typed, p), more) ss alike i before
        in_it =
        let inner = behind env (result_names (out-OpCst c).results) in
        let g = generic env c ts head rs _ p in
        right-joined i (i + count Values (op_notes c)) ss before (op_notes c) (ops_notes cs)
        (op-right env c g.form head.operands head.successors _ g.is new ss alike i before in_it
        g.names (λ k r j names said in_them. region-right inner (n + length head.results) k r rs
        said ss alike j names in_them))
        refl
        (λ names all. ops-right inner (n + length head.results + length (types_in_regions rs)) cs
        os more ss alike (i + count Values (op_notes c)) names
        (behind-results env c g.form g.is before in_it names all))

    region-right : (env : Env) (n i : ℕ) (r : RegionCst) (rs : Regions Text Value)
        → RegionSays loaded no_forms aliases AsMany env n i r rs → (ss : List RegionScope)
        → map listed_in ss ≡ map listed_in env.scopes → (j : ℕ) (before : List Text)
        → Within before env.before → AreRight j ss before (region_notes r)
    region-right env n i r no_regions p ss alike j before in_it = absurd p
    region-right env n zero r (region bs rs) (labels, p) ss alike j before in_it =
        let cs = (out-RegionCst r).blocks in
        let scope = block_scope n (out-RegionCst r).blocks bs in
        let env2 = inside env scope (label_scope 0 (out-RegionCst r).blocks) in
        let names : listed_in (own Values j (blocks_notes cs)) ≡ listed_in scope =
        listed-own j (blocks_notes cs) ∙ listed-blocks env2 n 0 cs bs p in
        let alike2 : map listed_in (own Values j (blocks_notes cs) ∷ ss)
        ≡ map listed_in (scope ∷ env.scopes) =
        ap (λ w. w ∷ map listed_in ss) names ∙ ap (λ w. listed_in scope ∷ w) alike in
        subst (AreRight j ss before) (sym (region-opens r)) (
          blocks-right env2 n cs bs p (own Values j (blocks_notes cs) ∷ ss) alike2 j before in_it
              0,
          tt,
        )
    region-right env n (suc i) r (region bs rs) p ss alike j before in_it =
        region-right env (n + length (types_in_blocks bs)) i r rs p ss alike j before in_it

    blocks-right : (env : Env) (n : ℕ) (cs : List BlockCst) (bs : Blocks Text Value)
        → SayBlocks env n cs bs → (ss : List RegionScope)
        → map listed_in ss ≡ map listed_in env.scopes → (j : ℕ) (before : List Text)
        → Within before env.before → (k : ℕ)
        → AreRight j ss before (in_order k (map block_notes cs))
    blocks-right env n [] no_blocks p ss alike j before in_it k = tt
    blocks-right env n [] (block args os bs) p ss alike j before in_it k = absurd p
    blocks-right env n (c ∷ cs) no_blocks p ss alike j before in_it k = absurd p
    blocks-right env n (c ∷ cs) (block args os bs) (new, p, more) ss alike j before in_it k =
        let inner = behind env (argument_names (out-BlockCst c).args) in
        let outer = behind (behind env (argument_names (out-BlockCst c).args))
        (op_names (out-BlockCst c).ops) in
        let own_names = names-block inner n k c args os p in
        right-joined j (j + count Values (block_notes c k)) ss before (block_notes c k)
        (in_order (suc k) (map block_notes cs))
        (subst (AreRight j ss before) (sym (block-opens c k))
        (right-label j k ss before (out-BlockCst c).label _
        (right-joined j (j + count Values (noted argument_noted (out-BlockCst c).args)) ss before
        (noted argument_noted (out-BlockCst c).args) (ops_notes (out-BlockCst c).ops)
        (right-arguments j ss before (out-BlockCst c).args new.distinct
        (all-new env.before before in_it _ new.new))
        refl
        (λ names all. ops-right inner (n + length args) (out-BlockCst c).ops os p ss alike _ names
        (behind-arguments env (out-BlockCst c).args before in_it names all)))))
        refl
        (λ names all. blocks-right outer (n + length args + length (types_in os)) cs bs more ss
        alike
        (j + count Values (block_notes c k)) names
        (behind-block env c k own_names before in_it names all) (suc k))

  -- Without custom forms, operations that complete trees leave no value name at fault.
  pub no-value-fault : (cs : List OpCst) (m : WholeModule)
      → NearlySays loaded no_forms aliases cs m → told_in Values wrong (ops_notes cs) ≡ []
  no-value-fault cs m p = right-everywhere (ops_notes cs)
      (ops-right (top_level cs m) 0 cs m p (own Values 0 (ops_notes cs) ∷ [])
      (ap (λ w. w ∷ []) (listed-own 0 (ops_notes cs) ∙ listed-ops (top_level cs m) 0 cs m p)) 0 []
      (λ w e. absurd (cc)))
