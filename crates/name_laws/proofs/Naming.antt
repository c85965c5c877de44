-- Names are right, region by region: the recursion over a module with the trees beside it, where
-- the notes of the trees mean its operands and successors and nothing is wrong with them.
use Rattle.std.proofs.Common.{◌≡◌, ℕ, suc, ◌+◌, List, [], ◌∷◌, ◌++◌, length, map}
use Rattle.std.proofs.Common.{refl, sym, ◌∙◌, ap, subst, arith, append_assoc, bytes_eq}
use Rattle.std.proofs.lemmas.List.{length-append}
use Rattle.std.proofs.lemmas.List.FromFn.{length-range_with_len}
use Rattle.std.specs.List.{IsDistinct, range_with_len}
use Rattle.attr_value.specs.Values.{Value}
use Rattle.generic_syntax.specs.declared.module_cst.BlockCst.{BlockCst, out-BlockCst}
use Rattle.generic_syntax.specs.declared.module_cst.FormCst.{out-FormCst}
use Rattle.generic_syntax.specs.declared.module_cst.FormCst.TheOpen.{FormCst-F}
use Rattle.generic_syntax.specs.declared.module_cst.GenericCst.{out-GenericCst}
use Rattle.generic_syntax.specs.declared.module_cst.OpCst.{OpCst, out-OpCst}
use Rattle.generic_syntax.specs.declared.module_cst.RegionCst.{RegionCst, out-RegionCst}
use Rattle.ir_lexer.specs.Spelling.{Text}
use Rattle.ir_store.specs.Modules.{Regions, Blocks, no_ops, then_op, no_regions, region}
use Rattle.ir_store.specs.Modules.{no_blocks, block, types_in, types_in_regions, types_in_blocks}
use Rattle.module_faults.specs.Shape.{FormFits, HasShape, RegionsHaveShape, BlocksHaveShape}
use Rattle.module_faults.specs.Shape.{result_firsts, definitions_in, definitions_in_regions}
use Rattle.module_faults.specs.Shape.{definitions_in_blocks}
use Rattle.module_faults.specs.Standings.{generic_regions, regions_in_form}
use Rattle.module_meaning.proofs.NotesJoined.{listed_in}
use Rattle.module_meaning.specs.Completes.{block_scope, own_scope}
use Rattle.module_meaning.specs.Facts.{FormSeen}
use Rattle.module_meaning.specs.Names.{Env, behind, inside, names_in, label_scope}
use Rattle.module_meaning.specs.Names.{result_names, argument_names}
use Rattle.module_meaning.specs.Names.{op_names}
use Rattle.module_meaning.specs.WholeModules.{WholeModule}
use Rattle.module_names.proofs.Opening.{region-opens}
use Rattle.module_names.specs.ModuleNotes.{op_notes}
use Rattle.module_names.specs.ModuleNotes.{region_notes, block_notes, ops_notes, blocks_notes}
use Rattle.module_names.specs.ModuleNotes.{in_order}
use Rattle.module_names.specs.Said.{joined, noted}
use Rattle.name_laws.proofs.Counted.{counted-op, counted-block}
use Rattle.name_laws.proofs.Counted.{counted-region}
use Rattle.name_laws.proofs.Counted.{ops-counted, regions-counted, blocks-counted, length-firsts}
use Rattle.name_laws.proofs.InOrder.{operands_of, region_operands, block_operands}
use Rattle.name_laws.proofs.InOrder.{successors_of, region_successors, block_successors}
use Rattle.name_laws.proofs.Early.{Knows, knows-more, knows-inside, knows-behind}
use Rattle.name_laws.proofs.NewNames.{labels-distinct}
use Rattle.name_laws.proofs.OwnNames.{own-is-ops, own-is-blocks}
use Rattle.name_laws.proofs.OwnNames.{names-own, names-of-own}
use Rattle.name_laws.proofs.OwnNames.{labels-listed, generic-of}
use Rattle.name_laws.proofs.Pieces.{Piece, State, piece-left, piece-right, piece-inside}
use Rattle.name_laws.proofs.Scoped.{Stands, stands-left, stands-right}
use Rattle.name_laws.proofs.Scoped.{relabelled}
use Rattle.completion_laws.specs.Named.{OpsNamed, RegionsNamed, BlocksNamed}
use Rattle.symbol_scopes.specs.declared.call.NameKind.TheVariants.{Values, Labels}
use Rattle.symbol_scopes.specs.Regions.{Notes, no_notes, in_region, RegionScope}
use Rattle.symbol_scopes.specs.Regions.{own, count}
use Rattle.name_laws.proofs.OneStep.{state-behind, op-named, op-regions, op-knows, regions_label}
use Rattle.name_laws.proofs.OneStep.{block-new, block-ops, block-knows, ops_label}

module _ (firsts : List ℕ) where
  -- ---- the recursion

  -- labels by their names
  names-listed : (x y : RegionScope) → listed_in x ≡ listed_in y → names_in x ≡ names_in y
  names-listed x y e = firsts-of x ∙ (ap (map (λ (w : Text × ℕ). w.0)) e ∙ sym (firsts-of y))
    where
      firsts-of : (x : RegionScope) → names_in x ≡ map (λ (w : Text × ℕ). w.0) (listed_in x)
      firsts-of [] = refl
      firsts-of (y ∷ x) = ap (λ w. y.name ∷ w) (firsts-of x)

  mutual
    pub ops-named : (env : Env) (ss ls : List RegionScope) (n l v : ℕ) (cs : List OpCst)
        (os : WholeModule) → State firsts env ss ls n → HasShape cs os
        → Stands firsts n (definitions_in v cs os)
        → Piece firsts ss ls n l (ops_notes cs) (operands_of os) (successors_of os)
        → OpsNamed env v cs os
    ops-named env ss ls n l v [] no_ops s h stands p = tt
    ops-named env ss ls n l v [] (then_op head rs os) s h stands p = absurd h
    ops-named env ss ls n l v (c ∷ cs) no_ops s h stands p = absurd h
    ops-named env ss ls n l v (c ∷ cs) (then_op head rs os) s (fits, named, inner, more) stands p =
        let (g, is) = generic-of (out-FormCst (out-OpCst c).form) head fits in
        let names = result_names (out-OpCst c).results in
        let rf = result_firsts v (out-OpCst c).results in
        let w = v + length head.results in
        let ds = definitions_in_regions (v + length head.results) (generic_regions c) rs in
        let next = v + length head.results + length (types_in_regions rs) in
        let es = definitions_in (v + length head.results + length (types_in_regions rs)) cs os in
        let fits2 : FormFits (FormCst-F.Generic g) head =
        subst (λ (f : FormSeen). FormFits f head) is fits in
        let counted = counted-op c head (out-FormCst (out-OpCst c).form) refl fits
        (length (definitions_in_regions (v + length head.results) (generic_regions c) rs))
        (length (region_operands rs)) (length (region_successors rs))
        (regions-counted (v + length head.results) (generic_regions c) rs inner) in
        let long = length-firsts v (out-OpCst c).results in
        let all : count Values (op_notes c) ≡ length (out-OpCst c).results + length ds =
        counted.definitions in
        let m = n + count Values (op_notes c) in
        let i = l + count Labels (op_notes c) in
        let xs = head.operands ++ region_operands rs in
        let us = head.successors ++ region_successors rs in
        let p2 : Piece firsts ss ls n l (joined (op_notes c) (ops_notes cs))
        (head.operands ++ (region_operands rs ++ operands_of os))
        (head.successors ++ (region_successors rs ++ successors_of os)) = p in
        let p3 : Piece firsts ss ls n l (joined (op_notes c) (ops_notes cs))
        ((head.operands ++ region_operands rs) ++ operands_of os)
        ((head.successors ++ region_successors rs) ++ successors_of os) =
        subst (λ (q : List ℕ). Piece firsts ss ls n l (joined (op_notes c) (ops_notes cs)) q
        ((head.successors ++ region_successors rs) ++ successors_of os))
        (sym (append_assoc head.operands (region_operands rs) (operands_of os)))
        (subst (λ (q : List ℕ). Piece firsts ss ls n l (joined (op_notes c) (ops_notes cs))
        (head.operands ++ (region_operands rs ++ operands_of os)) q)
        (sym (append_assoc head.successors (region_successors rs) (successors_of os))) p2) in
        let many = counted.uses ∙ sym (length-append head.operands (region_operands rs)) in
        let targets = counted.targets
        ∙ sym (length-append head.successors (region_successors rs)) in
        let here = piece-left firsts ss ls n (n + count Values (op_notes c)) l
        (l + count Labels (op_notes c)) (op_notes c) (ops_notes cs)
        (head.operands ++ region_operands rs) (operands_of os)
        (head.successors ++ region_successors rs) (successors_of os) refl refl many targets p3 in
        let there = piece-right firsts ss ls n (n + count Values (op_notes c)) l
        (l + count Labels (op_notes c)) (op_notes c) (ops_notes cs)
        (head.operands ++ region_operands rs) (operands_of os)
        (head.successors ++ region_successors rs) (successors_of os) refl refl many targets p3 in
        let first = stands-left firsts n rf (ds ++ es) stands in
        let past = n + length (out-OpCst c).results in
        let later = stands-right firsts n past rf (ds ++ es) (omega (arith, long)) stands in
        let knows = op-knows firsts env ss ls n l v c g head rs is fits2 s first here in
        let label = regions_label firsts env ss ls n l v c g head rs is fits2 s first here in
        let regions = op-regions firsts env ss ls n l v c g head rs is fits2 s first here in
        let trees : (out-GenericCst g).regions ≡ generic_regions c =
        sym (ap regions_in_form is) in
        let regions2 : Piece firsts ss ls past label (noted region_notes (generic_regions c))
        (region_operands rs) (region_successors rs) =
        subst (λ (q : List RegionCst). Piece firsts ss ls past label (noted region_notes q)
        (region_operands rs) (region_successors rs)) trees regions in (
          op-named firsts env ss ls n l v c g head rs is fits2 s first here,
          regions-named (behind env names) ss ls past label w (generic_regions c) rs
              (state-behind firsts env ss ls n past names s knows) inner
              (stands-left firsts past ds es later) regions2,
          ops-named (behind env names) ss ls m i next cs os
              (state-behind firsts env ss ls n m names s
              (knows-more ss past m (names ++ env.before) (omega (arith, all)) knows)) more
              (stands-right firsts past m ds es (omega (arith, all)) later) there,
        )

    pub regions-named : (env : Env) (ss ls : List RegionScope) (n l v : ℕ) (cs : List RegionCst)
        (rs : Regions Text Value) → State firsts env ss ls n → RegionsHaveShape cs rs
        → Stands firsts n (definitions_in_regions v cs rs)
        → Piece firsts ss ls n l (noted region_notes cs) (region_operands rs) (region_successors rs)
        → RegionsNamed env v cs rs
    regions-named env ss ls n l v [] no_regions s h stands p = tt
    regions-named env ss ls n l v [] (region bs rs) s h stands p = absurd h
    regions-named env ss ls n l v (c ∷ cs) no_regions s h stands p = absurd h
    regions-named env ss ls n l v (c ∷ cs) (region bs rs) s (here, more) stands p =
        let ds = definitions_in_blocks v (out-RegionCst c).blocks bs in
        let next = v + length (types_in_blocks bs) in
        let es = definitions_in_regions (v + length (types_in_blocks bs)) cs rs in
        let inner = blocks_notes (out-RegionCst c).blocks in
        let counted = counted-region c
        (length (definitions_in_blocks v (out-RegionCst c).blocks bs)) (length (block_operands bs))
        (length (block_successors bs)) (blocks-counted v 0 (out-RegionCst c).blocks bs here) in
        let all : count Values (region_notes c) ≡ length ds = counted.definitions in
        let m = n + count Values (region_notes c) in
        let i = l + count Labels (region_notes c) in
        let own_piece = piece-left firsts ss ls n (n + count Values (region_notes c)) l
        (l + count Labels (region_notes c)) (region_notes c) (noted region_notes cs)
        (block_operands bs) (region_operands rs) (block_successors bs) (region_successors rs) refl
        refl counted.uses counted.targets p in
        let there = piece-right firsts ss ls n (n + count Values (region_notes c)) l
        (l + count Labels (region_notes c)) (region_notes c) (noted region_notes cs)
        (block_operands bs) (region_operands rs) (block_successors bs) (region_successors rs) refl
        refl counted.uses counted.targets p in
        let opened : Piece firsts ss ls n l
        (in_region (blocks_notes (out-RegionCst c).blocks) no_notes) (block_operands bs)
        (block_successors bs) =
        subst (λ (ns : Notes). Piece firsts ss ls n l ns (block_operands bs) (block_successors bs))
        (region-opens c) own_piece in
        let inside_it = piece-inside firsts ss ls n l (blocks_notes (out-RegionCst c).blocks)
        (block_operands bs) (block_successors bs) opened in
        let scope = own Values n (blocks_notes (out-RegionCst c).blocks) in
        let labelled = own Labels l (blocks_notes (out-RegionCst c).blocks) in
        let first = stands-left firsts n ds es stands in
        let own_names = own-is-blocks firsts n v 0 (out-RegionCst c).blocks bs here first
        inside_it.free in
        let listed = labels-listed l 0 (out-RegionCst c).blocks bs here in
        let env2 = inside env (block_scope v (out-RegionCst c).blocks bs)
        (label_scope 0 (out-RegionCst c).blocks) in
        let s2 : State firsts (inside env (block_scope v (out-RegionCst c).blocks bs)
        (label_scope 0 (out-RegionCst c).blocks)) (scope ∷ ss) (labelled ∷ ls) n =
        record {
          scopes = ap (λ (q : RegionScope). q ∷ map (map (relabelled firsts)) ss) own_names.same
              ∙ ap (λ (q : List RegionScope). block_scope v (out-RegionCst c).blocks bs ∷ q)
              s.scopes;
          sizes = (own_names.sizes, s.sizes);
          labels = listed;
          knows = knows-inside scope ss n env.before s.knows;
        } in (
          subst (IsDistinct bytes_eq)
              (names-listed labelled (label_scope 0 (out-RegionCst c).blocks) listed)
              (labels-distinct ls l (blocks_notes (out-RegionCst c).blocks)
              inside_it.block_right),
          blocks-named env2 (scope ∷ ss) (labelled ∷ ls) n l v 0 (out-RegionCst c).blocks bs s2 here
              first inside_it,
          regions-named env ss ls m i next cs rs (record {
            scopes = s.scopes;
            sizes = s.sizes;
            labels = s.labels;
            knows = knows-more ss n m env.before (omega arith) s.knows;
          }) more (stands-right firsts n m ds es (omega (arith, all)) stands) there,
        )

    pub blocks-named : (env : Env) (ss ls : List RegionScope) (n l v j : ℕ) (cs : List BlockCst)
        (bs : Blocks Text Value) → State firsts env ss ls n → BlocksHaveShape cs bs
        → Stands firsts n (definitions_in_blocks v cs bs)
        → Piece firsts ss ls n l (in_order j (map block_notes cs)) (block_operands bs)
        (block_successors bs) → BlocksNamed env v cs bs
    blocks-named env ss ls n l v j [] no_blocks s h stands p = tt
    blocks-named env ss ls n l v j [] (block args os bs) s h stands p = absurd h
    blocks-named env ss ls n l v j (c ∷ cs) no_blocks s h stands p = absurd h
    blocks-named env ss ls n l v j (c ∷ cs) (block args os bs) s (long, here, more) stands p =
        let names = argument_names (out-BlockCst c).args in
        let own_ops = op_names (out-BlockCst c).ops in
        let rs = range_with_len v (length args) in
        let ds = definitions_in (v + length args) (out-BlockCst c).ops os in
        let next = v + length args + length (types_in os) in
        let es = definitions_in_blocks (v + length args + length (types_in os)) cs bs in
        let ops_are = ops-counted (v + length args) (out-BlockCst c).ops os here in
        let counted = counted-block c j
        (length (definitions_in (v + length args) (out-BlockCst c).ops os))
        (length (operands_of os))
        (length (successors_of os)) ops_are in
        let all : count Values (block_notes c j) ≡ length (out-BlockCst c).args + length ds =
        counted.definitions in
        let some : count Values (ops_notes (out-BlockCst c).ops) ≡ length ds =
        ops_are.definitions in
        let size = length-range_with_len v (length args) in
        let m = n + count Values (block_notes c j) in
        let i = l + count Labels (block_notes c j) in
        let own_piece = piece-left firsts ss ls n (n + count Values (block_notes c j)) l
        (l + count Labels (block_notes c j)) (block_notes c j)
        (in_order (suc j) (map block_notes cs)) (operands_of os) (block_operands bs)
        (successors_of os) (block_successors bs) refl refl counted.uses counted.targets p in
        let there = piece-right firsts ss ls n (n + count Values (block_notes c j)) l
        (l + count Labels (block_notes c j)) (block_notes c j)
        (in_order (suc j) (map block_notes cs)) (operands_of os) (block_operands bs)
        (successors_of os) (block_successors bs) refl refl counted.uses counted.targets p in
        let first = stands-left firsts n rs (ds ++ es) stands in
        let past = n + length (out-BlockCst c).args in
        let later = stands-right firsts n past rs (ds ++ es) (omega (arith, size, long)) stands in
        let mine = stands-left firsts past ds es later in
        let label = ops_label firsts env ss ls n l v j (length args) c (operands_of os)
        (successors_of os) long s first own_piece in
        let ops_piece = block-ops firsts env ss ls n l v j (length args) c (operands_of os)
        (successors_of os) long s first own_piece in
        let knows = block-knows firsts env ss ls n l v j (length args) c (operands_of os)
        (successors_of os) long s first own_piece in
        let own_names : names_in (own Values past (ops_notes (out-BlockCst c).ops))
        ≡ op_names (out-BlockCst c).ops =
        names-of-own firsts past (ops_notes (out-BlockCst c).ops)
        (own_scope (v + length args) (out-BlockCst c).ops os) (op_names (out-BlockCst c).ops)
        (own-is-ops firsts past (v + length args) (out-BlockCst c).ops os here mine ops_piece.free)
        (names-own (v + length args) (out-BlockCst c).ops os here) in
        let knows2 : Knows ss (past + count Values (ops_notes (out-BlockCst c).ops))
        (op_names (out-BlockCst c).ops ++ (argument_names (out-BlockCst c).args ++ env.before)) =
        subst (λ (q : List Text). Knows ss (past + count Values (ops_notes (out-BlockCst c).ops))
        (q ++ (argument_names (out-BlockCst c).args ++ env.before))) own_names
        (knows-behind ss past (argument_names (out-BlockCst c).args ++ env.before)
        (ops_notes (out-BlockCst c).ops) ops_piece.early knows) in
        let s2 = state-behind firsts env ss ls n past (argument_names (out-BlockCst c).args) s
        knows in (
          block-new firsts env ss ls n l v j (length args) c (operands_of os) (successors_of os)
              long s first own_piece,
          ops-named (behind env names) ss ls past label (v + length args) (out-BlockCst c).ops os s2
              here mine ops_piece,
          blocks-named (behind (behind env names) own_ops) ss ls m i next (suc j) cs bs
              (state-behind firsts (behind env (argument_names (out-BlockCst c).args)) ss ls past m
              (op_names (out-BlockCst c).ops) s2
              (knows-more ss (past + count Values (ops_notes (out-BlockCst c).ops)) m
              (op_names (out-BlockCst c).ops ++ (argument_names (out-BlockCst c).args
              ++ env.before)) (omega (arith, all, some)) knows2)) more
              (stands-right firsts past m ds es (omega (arith, all)) later) there,
        )
