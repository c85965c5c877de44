-- Where a proper module completes trees without custom forms, no label and no successor in them is
-- at fault.
--
-- A region's labels differ, so the first of a name is the one that stands there; and a successor
-- leads to a block that isn't the first, since the module is proper.
use Rattle.std.proofs.Common.{◌≡◌, ℕ, zero, suc, ◌+◌, ◌<◌, ◌==◌, false, List, [], ◌∷◌}
use Rattle.std.proofs.Common.{◌++◌, length, map, refl, sym, ◌∙◌, ap, subst, arith, Option, Some}
use Rattle.std.proofs.Common.{None}
use Rattle.std.proofs.Common.{bytes_eq, option_map, append_assoc, slice_get}
use Rattle.std.proofs.lemmas.List.{append-nil}
use Rattle.std.specs.List.{AllByRecursion, IsDistinct}
use Rattle.attr_value.specs.Values.{Value}
use Rattle.generic_syntax.specs.declared.cst.NameCst.{NameCst}
use Rattle.generic_syntax.specs.declared.module_cst.BlockCst.{BlockCst, out-BlockCst}
use Rattle.generic_syntax.specs.declared.module_cst.GenericCst.{out-GenericCst}
use Rattle.generic_syntax.specs.declared.module_cst.OpCst.{OpCst, out-OpCst}
use Rattle.generic_syntax.specs.declared.module_cst.RegionCst.{RegionCst, out-RegionCst}
use Rattle.ir_lexer.specs.Spelling.{Text}
use Rattle.ir_store.specs.Modules.{Regions, Blocks, no_ops, then_op, no_regions, region}
use Rattle.ir_store.specs.Modules.{no_blocks, block, types_in, types_in_regions, types_in_blocks}
use Rattle.module_meaning.proofs.LabelNotes.{wrong, AreLabelled, labelled-told}
use Rattle.module_meaning.proofs.LabelNotes.{labelled-joined, quiet-labelled, quiet-results}
use Rattle.module_meaning.proofs.LabelNotes.{quiet-uses, quiet-arguments, silent-quiet}
use Rattle.module_meaning.proofs.LabelNotes.{distinct-before, found-behind}
use Rattle.module_meaning.proofs.LabelNotes.{never-earlier}
use Rattle.module_meaning.proofs.NamesRight.{generic}
use Rattle.module_meaning.proofs.NotesJoined.{listed_in, found-alike, size_in}
use Rattle.module_meaning.proofs.NotesOfTrees.{listed_in-append}
use Rattle.module_meaning.proofs.Places.{some-same}
use Rattle.module_meaning.specs.Completes.{OpsSay, RegionSays, BlocksSay}
use Rattle.module_meaning.specs.Completes.{block_scope, top_level, AsMany, NearlySays}
use Rattle.module_meaning.specs.Facts.{no_forms}
use Rattle.module_meaning.specs.Names.{Env, inside, behind, label_scope, label_of, names_in, target}
use Rattle.module_meaning.specs.Names.{result_names, argument_names, op_names}
use Rattle.module_meaning.specs.WholeModules.{WholeModule, Loaded}
use Rattle.module_meaning.specs.WholeModules.{EachOp, EachInRegions, EachInBlocks, IsProperOp}
use Rattle.module_names.proofs.Bare.{own-op, results-unlabelled, arguments-unlabelled, two-none}
use Rattle.module_names.proofs.Cut.{own-joined}
use Rattle.module_names.proofs.Opened.{op-opened, form_mentions, form-silent}
use Rattle.module_names.proofs.Opening.{region-opens, block-opens}
use Rattle.module_names.specs.ModuleNotes.{use_noted, successor_noted, result_noted, op_notes}
use Rattle.module_names.specs.ModuleNotes.{argument_noted, label_noted}
use Rattle.module_names.specs.ModuleNotes.{region_notes, block_notes}
use Rattle.module_names.specs.ModuleNotes.{ops_notes, blocks_notes, in_order}
use Rattle.module_names.specs.Said.{noted}
use Rattle.symbol_scopes.specs.declared.call.NameKind.TheVariants.{Labels}
use Rattle.symbol_scopes.specs.Faults.{fault_if}
use Rattle.symbol_scopes.specs.Regions.{RegionScope, ScopeName, own, count, found, innermost}
use Rattle.symbol_scopes.specs.Regions.{told_in, target_wrong, is_earlier}
use Rattle.value_meaning.specs.Meaning.{Aliases}

-- ---- targets that aren't the first block

abbrev mutual
  pub TargetsRight : WholeModule → Type 0
  TargetsRight no_ops = Unit {0}
  TargetsRight (then_op head rs os) =
      AllByRecursion (λ b. 0 < b) head.successors × RegionTargets rs × TargetsRight os

  pub RegionTargets : Regions Text Value → Type 0
  RegionTargets no_regions = Unit {0}
  RegionTargets (region bs rs) = BlockTargets bs × RegionTargets rs

  pub BlockTargets : Blocks Text Value → Type 0
  BlockTargets no_blocks = Unit {0}
  BlockTargets (block xs os bs) = TargetsRight os × BlockTargets bs

module _ (loaded : Loaded) where
  mutual
    pub proper-targets : (visible : List ℕ) (blocks n : ℕ) (os : WholeModule)
        → EachOp (IsProperOp loaded) visible blocks n os → TargetsRight os
    proper-targets visible blocks n no_ops each = tt
    proper-targets visible blocks n (then_op head rs os) (here, inner, later) = (
      here.targets,
      proper-region-targets visible _ rs inner,
      proper-targets visible blocks _ os later,
    )

    proper-region-targets : (visible : List ℕ) (n : ℕ) (rs : Regions Text Value)
        → EachInRegions (IsProperOp loaded) visible n rs → RegionTargets rs
    proper-region-targets visible n no_regions each = tt
    proper-region-targets visible n (region bs rs) (here, later) =
        (proper-block-targets _ _ n bs here, proper-region-targets visible _ rs later)

    proper-block-targets : (visible : List ℕ) (blocks n : ℕ) (bs : Blocks Text Value)
        → EachInBlocks (IsProperOp loaded) visible blocks n bs → BlockTargets bs
    proper-block-targets visible blocks n no_blocks each = tt
    proper-block-targets visible blocks n (block xs os bs) (here, later) =
        (proper-targets visible blocks _ os here, proper-block-targets visible blocks _ bs later)

-- successors that lead to other blocks than the first
labelled-successors : (env : Env) (n : ℕ) (ss : List RegionScope)
    → listed_in (innermost ss) ≡ listed_in env.labels → (xs : List NameCst) (bs : List ℕ)
    → map (target env) xs ≡ map Some bs → AllByRecursion (λ b. 0 < b) bs
    → AreLabelled n ss (noted successor_noted xs)
labelled-successors env n ss alike [] bs e h = tt
labelled-successors env n ss alike (x ∷ xs) [] e h = absurd (cc)
labelled-successors env n ss alike (x ∷ xs) (b ∷ bs) e (some, h) =
    let first : target env x ≡ Some b = cc in
    let rest : map (target env) xs ≡ map Some bs = cc in
    let known : option_map size_in (found (innermost ss) x.name) ≡ Some b =
    found-alike (innermost ss) env.labels x.name alike ∙ first in
    (at (found (innermost ss) x.name) known, labelled-successors env n ss alike xs bs rest h)
  where
    at : (o : Option (ℕ × ℕ)) → option_map size_in o ≡ Some b
        → target_wrong (record { name = x.name; place = x.place }) o ≡ None
    at None is = absurd (cc)
    at (Some d) is =
        let same : d.1 ≡ b = some-same d.1 b is in
        let other : (d.1 == 0) ≡ false = grind (arith, same, some) in
        ap (λ c. fault_if c x.place 12) other

-- regions of one operation, each of which is labelled
labelled-regions : (ss : List RegionScope) (trees : List RegionCst)
    → ((i : ℕ) (r : RegionCst) → slice_get trees i ≡ Some r → (j : ℕ)
    → AreLabelled j ss (region_notes r))
    → (j : ℕ) → AreLabelled j ss (noted region_notes trees)
labelled-regions ss [] each j = tt
labelled-regions ss (r ∷ trees) each j =
    labelled-joined j (j + count Labels (region_notes r)) ss (region_notes r)
    (noted region_notes trees) (each 0 r refl j) refl
    (labelled-regions ss trees (λ i x is. each (suc i) x is) _)

-- the label of a block is the first of its name
labelled-label : (ss : List RegionScope) (j k : ℕ) (l : Option NameCst) (past rest : RegionScope)
    → innermost ss ≡ past ++ (own Labels j (label_noted l k) ++ rest)
    → IsDistinct bytes_eq (names_in (innermost ss)) → AreLabelled j ss (label_noted l k)
labelled-label ss j k None past rest is apart = tt
labelled-label ss j k (Some l) past rest is apart =
    let x : ScopeName = record { name = l.name; at = j; number = k } in
    let distinct : IsDistinct bytes_eq (names_in (past ++
    (record { name = l.name; at = j; number = k } ∷ rest))) =
    subst (λ (s : RegionScope). IsDistinct bytes_eq (names_in s)) is apart in
    let here : found (innermost ss) l.name ≡ Some (j, k) =
    ap (λ (s : RegionScope). found s l.name) is
    ∙ found-behind past (record { name = l.name; at = j; number = k }) rest
    (distinct-before past (record { name = l.name; at = j; number = k }) rest distinct) in
    (ap (λ o. is_earlier o j) here ∙ never-earlier j k, tt)

-- the labels of blocks with their numbers
listed-label : (k : ℕ) (l : Option NameCst) (n : ℕ)
    → listed_in (own Labels n (label_noted l k)) ≡ listed_in (label_of k l)
listed-label k None n = refl
listed-label k (Some l) n = refl

names-listed : (s t : RegionScope) → listed_in s ≡ listed_in t → names_in s ≡ names_in t
names-listed [] [] e = refl
names-listed [] (y ∷ t) e = absurd (cc)
names-listed (x ∷ s) [] e = absurd (cc)
names-listed (x ∷ s) (y ∷ t) e =
    let rest : listed_in s ≡ listed_in t = cc in
    let heads : (x.name, x.number) ≡ (y.name, y.number) = cc in
    let first : x.name ≡ y.name = ap (λ (p : Text × ℕ). p.0) heads in
    let later : names_in s ≡ names_in t = names-listed s t rest in
    ap (λ w. x.name ∷ w) later ∙ ap (λ (w : Text). w ∷ names_in t) first

module _ (loaded : Loaded) (aliases : Aliases) where
  abbrev Say : Env → ℕ → List OpCst → WholeModule → Type 0
  Say env n cs os = OpsSay loaded no_forms aliases AsMany env n cs os

  abbrev SayBlocks : Env → ℕ → List BlockCst → Blocks Text Value → Type 0
  SayBlocks env n cs bs = BlocksSay loaded no_forms aliases AsMany env n cs bs

  -- operations define no label outside of their regions
  own-ops : (env : Env) (n i : ℕ) (cs : List OpCst) (os : WholeModule) → Say env n cs os
      → own Labels i (ops_notes cs) ≡ []
  own-ops env n i [] no_ops p = refl
  own-ops env n i [] (then_op head rs os) p = absurd p
  own-ops env n i (c ∷ cs) no_ops p = absurd p
  own-ops env n i (c ∷ cs) (then_op head rs os) (new, (ts, typed, p), more) =
      let g = generic loaded aliases env c ts head rs _ p in
      own-joined Labels i (i + count Labels (op_notes c)) (op_notes c) (ops_notes cs) refl
      ∙ two-none (own Labels i (op_notes c)) _
      (own-op Labels i c g.form g.is ∙ results-unlabelled i (out-OpCst c).results)
      (own-ops (behind env (result_names (out-OpCst c).results))
      (n + length head.results + length (types_in_regions rs)) _ cs os more)

  -- a block defines its label
  own-block : (env : Env) (n k i : ℕ) (c : BlockCst) (args : List Value) (os : WholeModule)
      → Say env (n + length args) (out-BlockCst c).ops os
      → own Labels i (block_notes c k) ≡ own Labels i (label_noted (out-BlockCst c).label k)
  own-block env n k i c args os p =
      let label = label_noted (out-BlockCst c).label k in
      let xs = noted argument_noted (out-BlockCst c).args in
      ap (own Labels i) (block-opens c k)
      ∙ (own-joined Labels i (i + count Labels label) label _ refl
      ∙ (ap (λ (w : RegionScope). own Labels i (label_noted (out-BlockCst c).label k) ++ w)
      (own-joined Labels (i + count Labels label) (i + count Labels label + count Labels xs) xs
      (ops_notes (out-BlockCst c).ops) refl
      ∙ two-none (own Labels (i + count Labels label) xs) _
      (arguments-unlabelled (i + count Labels label) (out-BlockCst c).args)
      (own-ops env (n + length args) _ (out-BlockCst c).ops os p))
      ∙ append-nil (own Labels i (label_noted (out-BlockCst c).label k))))

  listed-blocks : (env : Env) (n k i : ℕ) (cs : List BlockCst) (bs : Blocks Text Value)
      → SayBlocks env n cs bs
      → listed_in (own Labels i (in_order k (map block_notes cs))) ≡ listed_in (label_scope k cs)
  listed-blocks env n k i [] no_blocks p = refl
  listed-blocks env n k i [] (block args os bs) p = absurd p
  listed-blocks env n k i (c ∷ cs) no_blocks p = absurd p
  listed-blocks env n k i (c ∷ cs) (block args os bs) (new, p, more) =
      let next = i + count Labels (block_notes c k) in
      ap listed_in (own-joined Labels i (i + count Labels (block_notes c k)) (block_notes c k)
      (in_order (suc k) (map block_notes cs)) refl)
      ∙ (listed_in-append (own Labels i (block_notes c k))
      (own Labels next (in_order (suc k) (map block_notes cs)))
      ∙ (ap (λ w. w ++ listed_in (own Labels next (in_order (suc k) (map block_notes cs))))
      (ap listed_in (own-block _ n k i c args os p)
      ∙ listed-label k (out-BlockCst c).label i)
      ∙ (ap (λ w. listed_in (label_of k (out-BlockCst c).label) ++ w)
      (listed-blocks (behind (behind env (argument_names (out-BlockCst c).args))
      (op_names (out-BlockCst c).ops)) (n + length args + length (types_in os)) (suc k) next
      cs bs more)
      ∙ sym (listed_in-append (label_of k (out-BlockCst c).label) (label_scope (suc k) cs)))))

  -- ---- the recursion

  mutual
    ops-labelled : (env : Env) (n : ℕ) (cs : List OpCst) (os : WholeModule) → Say env n cs os
        → TargetsRight os → (ss : List RegionScope)
        → listed_in (innermost ss) ≡ listed_in env.labels → (i : ℕ)
        → AreLabelled i ss (ops_notes cs)
    ops-labelled env n [] no_ops p targets ss alike i = tt
    ops-labelled env n [] (then_op head rs os) p targets ss alike i = absurd p
    ops-labelled env n (c ∷ cs) no_ops p targets ss alike i = absurd p
    ops-labelled env n (c ∷ cs) (then_op head rs os) (new, (ts, typed, p), more)
        (here, inner_targets, later) ss alike i =
        let inner = behind env (result_names (out-OpCst c).results) in
        let g = generic loaded aliases env c ts head rs _ p in
        let results = noted result_noted (out-OpCst c).results in
        let us = noted use_noted (out-GenericCst g.form).operands in
        let ls = noted successor_noted (out-GenericCst g.form).successors in
        let regions = noted region_notes (out-GenericCst g.form).regions in
        labelled-joined i (i + count Labels (op_notes c)) ss (op_notes c) (ops_notes cs)
        (subst (AreLabelled i ss) (sym (op-opened c g.form g.is))
        (labelled-joined i (i + count Labels results) ss results _
        (quiet-labelled i ss results (quiet-results (out-OpCst c).results)) refl
        (labelled-joined _ _ ss us _
        (quiet-labelled _ ss us (quiet-uses (out-GenericCst g.form).operands)) refl
        (labelled-joined _ _ ss ls _
        (labelled-successors env _ ss alike (out-GenericCst g.form).successors head.successors
        g.names.labels here) refl
        (labelled-joined _ _ ss (form_mentions g.form) regions
        (quiet-labelled _ ss (form_mentions g.form)
        (silent-quiet (form_mentions g.form) (form-silent g.form))) refl
        (labelled-regions ss (out-GenericCst g.form).regions
        (λ k r is j. region-labelled inner (n + length head.results) k r rs
        (g.names.regions k r is) inner_targets ss j) _))))))
        refl
        (ops-labelled inner (n + length head.results + length (types_in_regions rs)) cs os more
        later
        ss alike (i + count Labels (op_notes c)))

    region-labelled : (env : Env) (n i : ℕ) (r : RegionCst) (rs : Regions Text Value)
        → RegionSays loaded no_forms aliases AsMany env n i r rs → RegionTargets rs
        → (ss : List RegionScope) (j : ℕ) → AreLabelled j ss (region_notes r)
    region-labelled env n i r no_regions p targets ss j = absurd p
    region-labelled env n zero r (region bs rs) (distinct, p) (here, later) ss j =
        let cs = (out-RegionCst r).blocks in
        let scope = own Labels j (blocks_notes (out-RegionCst r).blocks) in
        let env2 = inside env (block_scope n (out-RegionCst r).blocks bs)
        (label_scope 0 (out-RegionCst r).blocks) in
        let alike : listed_in scope ≡ listed_in (label_scope 0 cs) =
        listed-blocks env2 n 0 j cs bs p in
        let apart : IsDistinct bytes_eq (names_in scope) =
        subst (IsDistinct bytes_eq) (sym (names-listed scope (label_scope 0 cs) alike))
        distinct in
        subst (AreLabelled j ss) (sym (region-opens r))
        (blocks-labelled env2 n cs bs p here (scope ∷ ss) alike j 0 [] refl apart, tt)
    region-labelled env n (suc i) r (region bs rs) p (here, later) ss j =
        region-labelled env (n + length (types_in_blocks bs)) i r rs p later ss j

    blocks-labelled : (env : Env) (n : ℕ) (cs : List BlockCst) (bs : Blocks Text Value)
        → SayBlocks env n cs bs → BlockTargets bs → (ss : List RegionScope)
        → listed_in (innermost ss) ≡ listed_in env.labels → (j k : ℕ) (past : RegionScope)
        → innermost ss ≡ past ++ own Labels j (in_order k (map block_notes cs))
        → IsDistinct bytes_eq (names_in (innermost ss))
        → AreLabelled j ss (in_order k (map block_notes cs))
    blocks-labelled env n [] no_blocks p targets ss alike j k past is apart = tt
    blocks-labelled env n [] (block args os bs) p targets ss alike j k past is apart = absurd p
    blocks-labelled env n (c ∷ cs) no_blocks p targets ss alike j k past is apart = absurd p
    blocks-labelled env n (c ∷ cs) (block args os bs) (new, p, more) (here, later) ss alike j k past
        is apart =
        let inner = behind env (argument_names (out-BlockCst c).args) in
        let outer = behind (behind env (argument_names (out-BlockCst c).args))
        (op_names (out-BlockCst c).ops) in
        let next = j + count Labels (block_notes c k) in
        let label = label_noted (out-BlockCst c).label k in
        let xs = noted argument_noted (out-BlockCst c).args in
        let split : innermost ss ≡ past ++ (own Labels j label
        ++ own Labels next (in_order (suc k) (map block_notes cs))) =
        is ∙ ap (λ (w : RegionScope). past ++ w)
        (own-joined Labels j (j + count Labels (block_notes c k)) (block_notes c k)
        (in_order (suc k) (map block_notes cs)) refl
        ∙ ap (λ (w : RegionScope). w ++ own Labels next (in_order (suc k) (map block_notes cs)))
        (own-block inner n k j c args os p)) in
        labelled-joined j (j + count Labels (block_notes c k)) ss (block_notes c k)
        (in_order (suc k) (map block_notes cs))
        (subst (AreLabelled j ss) (sym (block-opens c k))
        (labelled-joined j (j + count Labels label) ss label _
        (labelled-label ss j k (out-BlockCst c).label past
        (own Labels next (in_order (suc k) (map block_notes cs))) split apart) refl
        (labelled-joined _ _ ss xs (ops_notes (out-BlockCst c).ops)
        (quiet-labelled _ ss xs (quiet-arguments (out-BlockCst c).args)) refl
        (ops-labelled inner (n + length args) (out-BlockCst c).ops os p here ss alike _))))
        refl
        (blocks-labelled outer (n + length args + length (types_in os)) cs bs more later ss alike
        next (suc k) (past ++ own Labels j label)
        (split ∙ sym (append_assoc past (own Labels j label)
        (own Labels next (in_order (suc k) (map block_notes cs))))) apart)

  -- Without custom forms, operations of a proper module that complete trees leave no label and no
  -- successor at fault.
  pub no-label-fault : (cs : List OpCst) (m : WholeModule) → TargetsRight m
      → NearlySays loaded no_forms aliases cs m → told_in Labels wrong (ops_notes cs) ≡ []
  no-label-fault cs m targets p =
      labelled-told 0 (own Labels 0 (ops_notes cs) ∷ []) (ops_notes cs)
      (ops-labelled (top_level cs m) 0 cs m p targets (own Labels 0 (ops_notes cs) ∷ [])
      (ap listed_in (own-ops (top_level cs m) 0 0 cs m p)) 0)
