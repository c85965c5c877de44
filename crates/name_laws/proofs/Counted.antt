-- How many definitions, uses and successors the notes of trees hold: as many as a module of their
-- shape has.
--
--   Counted ns d u t              notes hold so many definitions, uses and successors
use Rattle.std.proofs.Common.{◌≡◌, ℕ, suc, ◌+◌, List, [], ◌∷◌, ◌++◌, length, map}
use Rattle.std.proofs.Common.{refl, sym, ◌∙◌, ap, subst, arith, Option, Some, None}
use Rattle.std.proofs.lemmas.List.{length-append}
use Rattle.std.proofs.lemmas.List.FromFn.{length-range_with_len}
use Rattle.std.specs.List.{range_with_len}
use Rattle.generic_syntax.specs.declared.cst.NameCst.{NameCst}
use Rattle.generic_syntax.specs.declared.module_cst.ArgCst.{ArgCst}
use Rattle.generic_syntax.specs.declared.module_cst.BlockCst.{BlockCst, out-BlockCst}
use Rattle.generic_syntax.specs.declared.module_cst.FormCst.{out-FormCst}
use Rattle.generic_syntax.specs.declared.module_cst.FormCst.TheOpen.{FormCst-F}
use Rattle.generic_syntax.specs.declared.module_cst.GenericCst.{GenericCst, out-GenericCst}
use Rattle.generic_syntax.specs.declared.module_cst.NumberCst.{NumberCst}
use Rattle.generic_syntax.specs.declared.module_cst.OpCst.{OpCst, out-OpCst}
use Rattle.generic_syntax.specs.declared.module_cst.RegionCst.{RegionCst, out-RegionCst}
use Rattle.generic_syntax.specs.declared.module_cst.ResultCst.{ResultCst}
use Rattle.generic_syntax.specs.declared.module_cst.UseCst.{UseCst}
use Rattle.ir_store.specs.Modules.{OpHead, Ops, Regions, Blocks, no_ops, then_op, no_regions}
use Rattle.ir_store.specs.Modules.{region, no_blocks, block, types_in, types_in_regions}
use Rattle.ir_store.specs.Modules.{types_in_blocks}
use Rattle.module_faults.specs.Shape.{FormFits, HasShape, RegionsHaveShape, BlocksHaveShape}
use Rattle.module_faults.specs.Shape.{result_firsts, definitions_in, definitions_in_regions}
use Rattle.module_faults.specs.Shape.{definitions_in_blocks}
use Rattle.module_faults.specs.Standings.{regions_in_form, generic_regions}
use Rattle.module_meaning.specs.Facts.{FormSeen}
use Rattle.module_meaning.specs.Names.{pack_size}
use Rattle.module_names.proofs.Cut.{said, said-joined, count-joined, IsSilent, count-silent}
use Rattle.module_names.proofs.Cut.{said-silent}
use Rattle.module_names.proofs.Opening.{region-opens, block-opens}
use Rattle.module_names.proofs.Silent.{value-silent}
use Rattle.module_names.specs.Mentions.{value_mentions}
use Rattle.module_names.specs.ModuleNotes.{use_noted, successor_noted, result_noted, op_notes}
use Rattle.module_names.specs.ModuleNotes.{region_notes, block_notes, ops_notes, blocks_notes}
use Rattle.module_names.specs.ModuleNotes.{argument_noted, label_noted, in_order, size_noted}
use Rattle.module_names.specs.ModuleNotes.{wrong_size}
use Rattle.module_names.specs.Numbers as number
use Rattle.module_names.specs.Said.{joined, noted}
use Rattle.module_names.proofs.Opened.{op-opened, form_mentions, form-silent}
use Rattle.symbol_scopes.specs.declared.call.NameKind.TheVariants.{Values}
use Rattle.symbol_scopes.specs.Regions.{Note, Notes, no_notes, note, defines, uses}
use Rattle.symbol_scopes.specs.Regions.{labels, leads_to, bad_pack, defines_alias, mentions_alias}
use Rattle.symbol_scopes.specs.Regions.{count}
use Rattle.name_laws.proofs.InOrder.{operands_of, region_operands, block_operands}
use Rattle.name_laws.proofs.InOrder.{successors_of, region_successors, block_successors}

-- ---- what is counted

abbrev pub is_use : Note → ℕ
is_use (uses u) = 1
is_use _ = 0

abbrev pub is_target : Note → ℕ
is_target (leads_to t) = 1
is_target _ = 0

pub record Counted (ns : Notes) (d u t : ℕ) : Type 0 where
  pub definitions : count Values ns ≡ d
  pub uses : said is_use ns ≡ u
  pub targets : said is_target ns ≡ t

pub counted-joined : (a b : Notes) (d u t e v s : ℕ) → Counted a d u t → Counted b e v s
    → Counted (joined a b) (d + e) (u + v) (t + s)
counted-joined a b d u t e v s p q = record {
  definitions =
      let here = p.definitions in let there = q.definitions in
      count-joined Values a b ∙ omega (arith, here, there);
  uses = let here = p.uses in let there = q.uses in
      said-joined is_use a b ∙ omega (arith, here, there);
  targets = let here = p.targets in let there = q.targets in
      said-joined is_target a b ∙ omega (arith, here, there);
}

pub counted-as : (ns : Notes) (d u t e v s : ℕ) → d ≡ e → u ≡ v → t ≡ s → Counted ns d u t
    → Counted ns e v s
counted-as ns d u t e v s x y z p = record {
  definitions = p.definitions ∙ x;
  uses = p.uses ∙ y;
  targets = p.targets ∙ z;
}

no-use : (x : Note) → IsSilent (note x no_notes) → is_use x ≡ 0
no-use (uses u) h = absurd h
no-use (defines u) h = refl
no-use (labels u) h = refl
no-use (leads_to u) h = refl
no-use (bad_pack u) h = refl
no-use (defines_alias u) h = refl
no-use (mentions_alias u) h = refl

no-target : (x : Note) → IsSilent (note x no_notes) → is_target x ≡ 0
no-target (leads_to u) h = absurd h
no-target (uses u) h = refl
no-target (defines u) h = refl
no-target (labels u) h = refl
no-target (bad_pack u) h = refl
no-target (defines_alias u) h = refl
no-target (mentions_alias u) h = refl

pub counted-silent : (ns : Notes) → IsSilent ns → Counted ns 0 0 0
counted-silent ns h = record {
  definitions = count-silent Values ns h;
  uses = said-silent is_use no-use ns h;
  targets = said-silent is_target no-target ns h;
}

-- ---- parts of trees

pub counted-size : (p : Option NumberCst) → Counted (size_noted p) 0 0 0
counted-size None = record { definitions = refl; uses = refl; targets = refl }
counted-size (Some n) = go (number.pack_size n.digits)
  where
    go : (o : Option ℕ) → Counted (wrong_size n.place o) 0 0 0
    go None = record { definitions = refl; uses = refl; targets = refl }
    go (Some k) = record { definitions = refl; uses = refl; targets = refl }

pub counted-results : (rs : List ResultCst) → Counted (noted result_noted rs) (length rs) 0 0
counted-results [] = record { definitions = refl; uses = refl; targets = refl }
counted-results (r ∷ rs) =
    let one : Notes = note (defines (record {
      name = r.name;
      place = r.place;
      count = number.pack_count r.pack;
    })) no_notes in
    counted-as (noted result_noted (r ∷ rs)) (0 + 1 + length rs) (0 + 0 + 0) (0 + 0 + 0)
    (length (r ∷ rs)) 0 0 (omega arith) (omega arith) (omega arith)
    (counted-joined (result_noted r) (noted result_noted rs) (0 + 1) (0 + 0) (0 + 0) (length rs) 0 0
    (counted-joined (size_noted r.pack) one 0 0 0 1 0 0 (counted-size r.pack)
    (record { definitions = refl; uses = refl; targets = refl }))
    (counted-results rs))

pub counted-uses : (us : List UseCst) → Counted (noted use_noted us) 0 (length us) 0
counted-uses [] = record { definitions = refl; uses = refl; targets = refl }
counted-uses (u ∷ us) =
    counted-as (noted use_noted (u ∷ us)) (0 + 0) (1 + length us) (0 + 0) 0 (length (u ∷ us)) 0
    (omega arith) (omega arith) (omega arith)
    (counted-joined (use_noted u) (noted use_noted us) 0 1 0 0 (length us) 0
    (record { definitions = refl; uses = refl; targets = refl }) (counted-uses us))

pub counted-successors : (ss : List NameCst) → Counted (noted successor_noted ss) 0 0 (length ss)
counted-successors [] = record { definitions = refl; uses = refl; targets = refl }
counted-successors (s ∷ ss) =
    counted-as (noted successor_noted (s ∷ ss)) (0 + 0) (0 + 0) (1 + length ss) 0 0
    (length (s ∷ ss)) (omega arith) (omega arith) (omega arith)
    (counted-joined (successor_noted s) (noted successor_noted ss) 0 0 1 0 0 (length ss)
    (record { definitions = refl; uses = refl; targets = refl }) (counted-successors ss))

pub counted-arguments : (xs : List ArgCst) → Counted (noted argument_noted xs) (length xs) 0 0
counted-arguments [] = record { definitions = refl; uses = refl; targets = refl }
counted-arguments (x ∷ xs) =
    let one : Notes =
    note (defines (record { name = x.name; place = x.place; count = 1 })) no_notes in
    counted-as (noted argument_noted (x ∷ xs)) (1 + 0 + length xs) (0 + 0 + 0) (0 + 0 + 0)
    (length (x ∷ xs)) 0 0 (omega arith) (omega arith) (omega arith)
    (counted-joined (argument_noted x) (noted argument_noted xs) (1 + 0) (0 + 0) (0 + 0)
    (length xs) 0 0
    (counted-joined one (value_mentions x.ty) 1 0 0 0 0 0
    (record { definitions = refl; uses = refl; targets = refl })
    (counted-silent (value_mentions x.ty) (value-silent x.ty)))
    (counted-arguments xs))

pub counted-label : (l : Option NameCst) (k : ℕ) → Counted (label_noted l k) 0 0 0
counted-label None k = record { definitions = refl; uses = refl; targets = refl }
counted-label (Some l) k = record { definitions = refl; uses = refl; targets = refl }

pub counted-region : (r : RegionCst) (d u t : ℕ)
    → Counted (blocks_notes (out-RegionCst r).blocks) d u t → Counted (region_notes r) d u t
counted-region r d u t p =
    let x = p.definitions in let y = p.uses in let z = p.targets in
    subst (λ (ns : Notes). Counted ns d u t) (sym (region-opens r)) (record {
      definitions = omega (arith, x);
      uses = omega (arith, y);
      targets = omega (arith, z);
    })

pub length-firsts : (n : ℕ) (rs : List ResultCst) → length (result_firsts n rs) ≡ length rs
length-firsts n [] = refl
length-firsts n (r ∷ rs) = ap suc (length-firsts (n + pack_size r.pack) rs)

-- one operation, by the regions of its generic form
pub counted-generic : (c : OpCst) (g : GenericCst)
    → out-FormCst (out-OpCst c).form ≡ FormCst-F.Generic g → (d u t : ℕ)
    → Counted (noted region_notes (out-GenericCst g).regions) d u t
    → Counted (op_notes c) (length (out-OpCst c).results + d)
    (length (out-GenericCst g).operands + u) (length (out-GenericCst g).successors + t)
counted-generic c g e d u t p =
    let results = noted result_noted (out-OpCst c).results in
    let us = noted use_noted (out-GenericCst g).operands in
    let ls = noted successor_noted (out-GenericCst g).successors in
    let regions = noted region_notes (out-GenericCst g).regions in
    let i = length (out-GenericCst g).operands in
    let j = length (out-GenericCst g).successors in
    subst (λ (ns : Notes). Counted ns (length (out-OpCst c).results + d)
    (length (out-GenericCst g).operands + u) (length (out-GenericCst g).successors + t))
    (sym (op-opened c g e))
    (counted-as (joined results (joined us (joined ls (joined (form_mentions g) regions))))
    (length (out-OpCst c).results + (0 + (0 + (0 + d)))) (0 + (i + (0 + (0 + u))))
    (0 + (0 + (j + (0 + t)))) (length (out-OpCst c).results + d)
    (length (out-GenericCst g).operands + u) (length (out-GenericCst g).successors + t)
    (omega arith) (omega arith) (omega arith)
    (counted-joined results (joined us (joined ls (joined (form_mentions g) regions)))
    (length (out-OpCst c).results) 0 0 (0 + (0 + (0 + d))) (i + (0 + (0 + u))) (0 + (j + (0 + t)))
    (counted-results (out-OpCst c).results)
    (counted-joined us (joined ls (joined (form_mentions g) regions)) 0 i 0 (0 + (0 + d))
    (0 + (0 + u)) (j + (0 + t)) (counted-uses (out-GenericCst g).operands)
    (counted-joined ls (joined (form_mentions g) regions) 0 0 j (0 + d) (0 + u) (0 + t)
    (counted-successors (out-GenericCst g).successors)
    (counted-joined (form_mentions g) regions 0 0 0 d u t
    (counted-silent (form_mentions g) (form-silent g)) p)))))

-- the same, by the operation of a module
pub counted-op : {N V : Type 0} (c : OpCst) (head : OpHead N V) (f : FormSeen)
    → out-FormCst (out-OpCst c).form ≡ f → FormFits f head → (d u t : ℕ)
    → Counted (noted region_notes (regions_in_form f)) d u t
    → Counted (op_notes c) (length (out-OpCst c).results + d) (length head.operands + u)
    (length head.successors + t)
counted-op c head (FormCst-F.Custom k) e fits d u t p = absurd fits
counted-op c head (FormCst-F.Generic g) e (ins, targets, outs) d u t p =
    counted-as (op_notes c) (length (out-OpCst c).results + d)
    (length (out-GenericCst g).operands + u) (length (out-GenericCst g).successors + t)
    (length (out-OpCst c).results + d) (length head.operands + u) (length head.successors + t)
    refl (ap (λ n. n + u) ins) (ap (λ n. n + t) targets) (counted-generic c g e d u t p)

-- one block, by its operations
pub counted-block : (b : BlockCst) (k d u t : ℕ) → Counted (ops_notes (out-BlockCst b).ops) d u t
    → Counted (block_notes b k) (length (out-BlockCst b).args + d) u t
counted-block b k d u t p =
    let label = label_noted (out-BlockCst b).label k in
    let args = noted argument_noted (out-BlockCst b).args in
    let many = length (out-BlockCst b).args in
    subst (λ (ns : Notes). Counted ns (length (out-BlockCst b).args + d) u t)
    (sym (block-opens b k))
    (counted-as (joined label (joined args (ops_notes (out-BlockCst b).ops)))
    (0 + (many + d)) (0 + (0 + u)) (0 + (0 + t)) (many + d) u t (omega arith) (omega arith)
    (omega arith)
    (counted-joined label (joined args (ops_notes (out-BlockCst b).ops)) 0 0 0 (many + d) (0 + u)
    (0 + t) (counted-label (out-BlockCst b).label k)
    (counted-joined args (ops_notes (out-BlockCst b).ops) many 0 0 d u t
    (counted-arguments (out-BlockCst b).args) p)))

-- ---- the recursion

-- the lengths of three lists
two-lengths : {A : Type 0} (xs ys : List A) (n : ℕ) → length xs ≡ n
    → n + length ys ≡ length (xs ++ ys)
two-lengths xs ys n e = sym (length-append xs ys ∙ omega (arith, e))

three-lengths : {A : Type 0} (xs ys zs : List A) (n : ℕ) → length xs ≡ n
    → n + length ys + length zs ≡ length (xs ++ (ys ++ zs))
three-lengths xs ys zs n e =
    let more = length-append ys zs in sym (length-append xs (ys ++ zs) ∙ omega (arith, e, more))

module _ {N V : Type 0} where
  mutual
    pub ops-counted : (n : ℕ) (cs : List OpCst) (os : Ops N V) → HasShape cs os
        → Counted (ops_notes cs) (length (definitions_in n cs os)) (length (operands_of os))
        (length (successors_of os))
    ops-counted n [] no_ops h = record { definitions = refl; uses = refl; targets = refl }
    ops-counted n [] (then_op head rs os) h = absurd h
    ops-counted n (c ∷ cs) no_ops h = absurd h
    ops-counted n (c ∷ cs) (then_op head rs os) (fits, named, inner, more) =
        let ds = definitions_in_regions (n + length head.results) (generic_regions c) rs in
        let es = definitions_in (n + length head.results + length (types_in_regions rs)) cs os in
        counted-as (ops_notes (c ∷ cs)) (length (out-OpCst c).results + length ds + length es)
        (length head.operands + length (region_operands rs) + length (operands_of os))
        (length head.successors + length (region_successors rs) + length (successors_of os))
        (length (definitions_in n (c ∷ cs) (then_op head rs os)))
        (length (operands_of (then_op head rs os))) (length (successors_of (then_op head rs os)))
        (three-lengths (result_firsts n (out-OpCst c).results) ds es
        (length (out-OpCst c).results) (length-firsts n (out-OpCst c).results))
        (three-lengths head.operands (region_operands rs) (operands_of os) (length head.operands)
        refl)
        (three-lengths head.successors (region_successors rs) (successors_of os)
        (length head.successors) refl)
        (counted-joined (op_notes c) (ops_notes cs) (length (out-OpCst c).results + length ds)
        (length head.operands + length (region_operands rs))
        (length head.successors + length (region_successors rs)) (length es)
        (length (operands_of os)) (length (successors_of os))
        (counted-op c head (out-FormCst (out-OpCst c).form) refl fits (length ds)
        (length (region_operands rs)) (length (region_successors rs))
        (regions-counted (n + length head.results) (generic_regions c) rs inner))
        (ops-counted (n + length head.results + length (types_in_regions rs)) cs os more))

    pub regions-counted : (n : ℕ) (cs : List RegionCst) (rs : Regions N V) → RegionsHaveShape cs rs
        → Counted (noted region_notes cs) (length (definitions_in_regions n cs rs))
        (length (region_operands rs)) (length (region_successors rs))
    regions-counted n [] no_regions h = record { definitions = refl; uses = refl; targets = refl }
    regions-counted n [] (region bs rs) h = absurd h
    regions-counted n (c ∷ cs) no_regions h = absurd h
    regions-counted n (c ∷ cs) (region bs rs) (inner, more) =
        let ds = definitions_in_blocks n (out-RegionCst c).blocks bs in
        let es = definitions_in_regions (n + length (types_in_blocks bs)) cs rs in
        counted-as (noted region_notes (c ∷ cs)) (length ds + length es)
        (length (block_operands bs) + length (region_operands rs))
        (length (block_successors bs) + length (region_successors rs))
        (length (ds ++ es)) (length (block_operands bs ++ region_operands rs))
        (length (block_successors bs ++ region_successors rs))
        (two-lengths ds es (length ds) refl)
        (two-lengths (block_operands bs) (region_operands rs) (length (block_operands bs)) refl)
        (two-lengths (block_successors bs) (region_successors rs) (length (block_successors bs))
        refl)
        (counted-joined (region_notes c) (noted region_notes cs) (length ds)
        (length (block_operands bs)) (length (block_successors bs)) (length es)
        (length (region_operands rs)) (length (region_successors rs))
        (counted-region c (length ds) (length (block_operands bs)) (length (block_successors bs))
        (blocks-counted n 0 (out-RegionCst c).blocks bs inner))
        (regions-counted (n + length (types_in_blocks bs)) cs rs more))

    pub blocks-counted : (n k : ℕ) (cs : List BlockCst) (bs : Blocks N V) → BlocksHaveShape cs bs
        → Counted (in_order k (map block_notes cs)) (length (definitions_in_blocks n cs bs))
        (length (block_operands bs)) (length (block_successors bs))
    blocks-counted n k [] no_blocks h = record { definitions = refl; uses = refl; targets = refl }
    blocks-counted n k [] (block args os bs) h = absurd h
    blocks-counted n k (c ∷ cs) no_blocks h = absurd h
    blocks-counted n k (c ∷ cs) (block args os bs) (long, inner, more) =
        let ds = definitions_in (n + length args) (out-BlockCst c).ops os in
        let es = definitions_in_blocks (n + length args + length (types_in os)) cs bs in
        let many = length (out-BlockCst c).args in
        counted-as (in_order k (map block_notes (c ∷ cs))) (many + length ds + length es)
        (length (operands_of os) + length (block_operands bs))
        (length (successors_of os) + length (block_successors bs))
        (length (range_with_len n (length args) ++ (ds ++ es)))
        (length (operands_of os ++ block_operands bs))
        (length (successors_of os ++ block_successors bs))
        (three-lengths (range_with_len n (length args)) ds es many
        (length-range_with_len n (length args) ∙ sym long))
        (two-lengths (operands_of os) (block_operands bs) (length (operands_of os)) refl)
        (two-lengths (successors_of os) (block_successors bs) (length (successors_of os)) refl)
        (counted-joined (block_notes c k) (in_order (suc k) (map block_notes cs))
        (many + length ds) (length (operands_of os)) (length (successors_of os)) (length es)
        (length (block_operands bs)) (length (block_successors bs))
        (counted-block c k (length ds) (length (operands_of os)) (length (successors_of os))
        (ops-counted (n + length args) (out-BlockCst c).ops os inner))
        (blocks-counted (n + length args + length (types_in os)) (suc k) cs bs more))
