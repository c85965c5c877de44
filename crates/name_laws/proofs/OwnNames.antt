-- The names that trees define themselves, and the labels of a region's blocks: the scopes of their
-- notes are those of a module of their shape.
use Rattle.std.proofs.Common.{◌≡◌, ℕ, zero, suc, ◌+◌, List, [], ◌∷◌, ◌++◌, length, map}
use Rattle.std.proofs.Common.{get_or, refl, sym, ◌∙◌, ap, subst, arith, append_assoc}
use Rattle.std.proofs.Common.{Option, Some, None}
use Rattle.std.proofs.lemmas.List.{map-append, append-nil}
use Rattle.std.proofs.lemmas.List.FromFn.{length-range_with_len}
use Rattle.std.specs.List.{AllByRecursion, range_with_len}
use Rattle.attr_value.specs.Values.{Value}
use Rattle.generic_syntax.specs.declared.cst.NameCst.{NameCst}
use Rattle.generic_syntax.specs.declared.module_cst.ArgCst.{ArgCst}
use Rattle.generic_syntax.specs.declared.module_cst.BlockCst.{BlockCst, out-BlockCst}
use Rattle.generic_syntax.specs.declared.module_cst.FormCst.{out-FormCst}
use Rattle.generic_syntax.specs.declared.module_cst.FormCst.TheOpen.{FormCst-F}
use Rattle.generic_syntax.specs.declared.module_cst.GenericCst.{GenericCst}
use Rattle.generic_syntax.specs.declared.module_cst.NumberCst.{NumberCst}
use Rattle.generic_syntax.specs.declared.module_cst.OpCst.{OpCst, out-OpCst}
use Rattle.generic_syntax.specs.declared.module_cst.ResultCst.{ResultCst}
use Rattle.ir_lexer.specs.Spelling.{Text}
use Rattle.ir_store.specs.Modules.{Blocks, no_ops, then_op}
use Rattle.ir_store.specs.Modules.{no_blocks, block, types_in, types_in_regions}
use Rattle.module_faults.specs.Shape.{FormFits, HasShape, BlocksHaveShape}
use Rattle.module_faults.specs.Shape.{result_firsts, definitions_in, definitions_in_regions}
use Rattle.module_faults.specs.Shape.{definitions_in_blocks}
use Rattle.module_faults.specs.Standings.{generic_regions}
use Rattle.module_names.proofs.Bare.{two-none, own-op, results-unlabelled, arguments-unlabelled}
use Rattle.module_meaning.proofs.NotesJoined.{listed_in}
use Rattle.module_meaning.proofs.NotesOfTrees.{listed_in-append}
use Rattle.module_meaning.specs.Completes.{IsPack, own_scope, block_scope}
use Rattle.module_meaning.specs.Facts.{FormSeen}
use Rattle.module_meaning.specs.Names.{names_in, pack_size, result_scope, argument_scope}
use Rattle.module_meaning.specs.Names.{label_of, label_scope, result_names, argument_names}
use Rattle.module_meaning.specs.Names.{op_names}
use Rattle.module_meaning.specs.WholeModules.{WholeHead, WholeModule}
use Rattle.module_names.proofs.Cut.{own-joined, own-behind, AllNotes}
use Rattle.module_names.proofs.Cut.{notes-left, notes-right}
use Rattle.module_names.proofs.Opening.{block-opens}
use Rattle.module_names.proofs.Silent.{value-silent}
use Rattle.module_names.specs.Mentions.{value_mentions}
use Rattle.module_names.specs.ModuleNotes.{result_noted, op_notes}
use Rattle.module_names.specs.ModuleNotes.{block_notes, ops_notes}
use Rattle.module_names.specs.ModuleNotes.{argument_noted, label_noted, in_order, size_noted}
use Rattle.module_names.specs.ModuleNotes.{wrong_size}
use Rattle.module_names.specs.Numbers.{pack_count}
use Rattle.module_names.specs.Numbers as number
use Rattle.module_names.specs.Said.{joined, noted}
use Rattle.name_laws.proofs.Counted.{counted-op, counted-block, counted-label}
use Rattle.name_laws.proofs.Counted.{counted-arguments, ops-counted, regions-counted, length-firsts}
use Rattle.name_laws.proofs.InOrder.{region_operands, region_successors}
use Rattle.module_names.proofs.Opened.{op-opened}
use Rattle.name_laws.proofs.Scoped.{IsNoBadPack, size-fits, Stands}
use Rattle.name_laws.proofs.Scoped.{stands-left, stands-right, OwnIs, own-is-joined, own-is-as}
use Rattle.name_laws.proofs.Scoped.{own-is-nothing, names-relabelled}
use Rattle.symbol_scopes.specs.declared.call.NameKind.TheVariants.{Values, Labels}
use Rattle.symbol_scopes.specs.Regions.{Notes, no_notes, note, defines}
use Rattle.symbol_scopes.specs.Regions.{RegionScope, ScopeName, own, count}

-- the form of an operation with a shape is generic
pub generic-of : (f : FormSeen) (head : WholeHead) → FormFits f head
    → (g : GenericCst) × (f ≡ FormCst-F.Generic g)
generic-of (FormCst-F.Generic g) head fits = (g, refl)
generic-of (FormCst-F.Custom k) head fits = absurd fits

-- ---- results and arguments

size-none : (p : Option NumberCst) → AllNotes IsNoBadPack (size_noted p) → size_noted p ≡ no_notes
size-none None h = refl
size-none (Some n) h = go (number.pack_size n.digits) h
  where
    go : (o : Option ℕ) → AllNotes IsNoBadPack (wrong_size n.place o)
        → wrong_size n.place o ≡ no_notes
    go (Some k) h = refl
    go None h = absurd h.0

pub own-is-results : (firsts : List ℕ) (k n : ℕ) (rs : List ResultCst)
    → Stands firsts k (result_firsts n rs) → AllNotes IsNoBadPack (noted result_noted rs)
    → OwnIs firsts k (noted result_noted rs) (result_scope n rs)
own-is-results firsts k n [] stands free = record { same = refl; sizes = tt }
own-is-results firsts k n (r ∷ rs) (first, stands) free =
    let one : Notes = note (defines (record {
      name = r.name;
      place = r.place;
      count = pack_count r.pack;
    })) no_notes in
    let here = notes-left IsNoBadPack (result_noted r) (noted result_noted rs) free in
    let sized = notes-left IsNoBadPack (size_noted r.pack) one here in
    let opened : noted result_noted (r ∷ rs) ≡ joined one (noted result_noted rs) =
    ap (λ (ns : Notes). joined (joined ns one) (noted result_noted rs)) (size-none r.pack sized) in
    let more = own-is-results firsts (k + 1) (n + pack_size r.pack) rs stands
    (notes-right IsNoBadPack (result_noted r) (noted result_noted rs) free) in
    own-is-as firsts k (noted result_noted (r ∷ rs)) (joined one (noted result_noted rs))
    (result_scope n (r ∷ rs)) (ap (own Values k) opened) (record {
      same = ap (λ (w : RegionScope).
          record { name = r.name; at = get_or firsts k 0; number = pack_count r.pack } ∷ w)
          more.same
          ∙ ap (λ i. record { name = r.name; at = i; number = pack_size r.pack }
          ∷ result_scope (n + pack_size r.pack) rs) first;
      sizes = (size-fits r.pack sized, more.sizes);
    })

pub packs-right : (rs : List ResultCst) → AllNotes IsNoBadPack (noted result_noted rs)
    → AllByRecursion IsPack rs
packs-right [] free = tt
packs-right (r ∷ rs) free =
    let one : Notes = note (defines (record {
      name = r.name;
      place = r.place;
      count = pack_count r.pack;
    })) no_notes in
    let here = notes-left IsNoBadPack (result_noted r) (noted result_noted rs) free in
    let some = (size-fits r.pack (notes-left IsNoBadPack (size_noted r.pack) one here)).0 in (
      some,
      packs-right rs (notes-right IsNoBadPack (result_noted r) (noted result_noted rs) free),
    )

pub own-is-arguments : (firsts : List ℕ) (k n m : ℕ) (xs : List ArgCst) → length xs ≡ m
    → Stands firsts k (range_with_len n m)
    → OwnIs firsts k (noted argument_noted xs) (argument_scope n xs)
own-is-arguments firsts k n m [] long stands = record { same = refl; sizes = tt }
own-is-arguments firsts k n zero (x ∷ xs) long stands = absurd (omega (arith, long))
own-is-arguments firsts k n (suc m) (x ∷ xs) long (first, stands) =
    let one : Notes =
    note (defines (record { name = x.name; place = x.place; count = 1 })) no_notes in
    let more = own-is-arguments firsts (k + 1) (n + 1) m xs (omega (arith, long)) stands in
    let behind : own Values k (noted argument_noted (x ∷ xs))
    ≡ own Values k (joined one (noted argument_noted xs)) =
    ap (λ (w : RegionScope). record { name = x.name; at = k; number = 1 } ∷ w)
    (own-behind Values (k + 1) (value_mentions x.ty) (noted argument_noted xs)
    (value-silent x.ty)) in
    own-is-as firsts k (noted argument_noted (x ∷ xs)) (joined one (noted argument_noted xs))
    (argument_scope n (x ∷ xs)) behind (record {
      same = ap (λ (w : RegionScope).
          record { name = x.name; at = get_or firsts k 0; number = 1 } ∷ w) more.same
          ∙ ap (λ i. record { name = x.name; at = i; number = 1 } ∷ argument_scope (n + 1) xs)
          first;
      sizes = ((omega arith, omega arith), more.sizes);
    })

-- ---- names alone

pub names-results : (n : ℕ) (rs : List ResultCst)
    → names_in (result_scope n rs) ≡ result_names rs
names-results n [] = refl
names-results n (r ∷ rs) = ap (λ w. r.name ∷ w) (names-results (n + pack_size r.pack) rs)

pub names-arguments : (n : ℕ) (xs : List ArgCst)
    → names_in (argument_scope n xs) ≡ argument_names xs
names-arguments n [] = refl
names-arguments n (x ∷ xs) = ap (λ w. x.name ∷ w) (names-arguments (n + 1) xs)

pub names-own : (n : ℕ) (cs : List OpCst) (os : WholeModule) → HasShape cs os
    → names_in (own_scope n cs os) ≡ op_names cs
names-own n [] no_ops h = refl
names-own n [] (then_op head rs os) h = absurd h
names-own n (c ∷ cs) no_ops h = absurd h
names-own n (c ∷ cs) (then_op head rs os) (fits, named, inner, more) =
    let next = n + length head.results + length (types_in_regions rs) in
    map-append (λ (x : ScopeName). x.name) (result_scope n (out-OpCst c).results)
    (own_scope next cs os)
    ∙ (ap (λ w. w ++ names_in (own_scope next cs os)) (names-results n (out-OpCst c).results)
    ∙ ap (λ w. result_names (out-OpCst c).results ++ w) (names-own next cs os more))

-- the names of notes, by their scope
pub names-of-own : (firsts : List ℕ) (k : ℕ) (ns : Notes) (s : RegionScope) (names : List Text)
    → OwnIs firsts k ns s → names_in s ≡ names → names_in (own Values k ns) ≡ names
names-of-own firsts k ns s names p e =
    sym (names-relabelled firsts (own Values k ns)) ∙ (ap names_in p.same ∙ e)

-- ---- operations and blocks

-- the results of an operation, by its notes
pub free-results : (c : OpCst) (g : GenericCst)
    → out-FormCst (out-OpCst c).form ≡ FormCst-F.Generic g → AllNotes IsNoBadPack (op_notes c)
    → AllNotes IsNoBadPack (noted result_noted (out-OpCst c).results)
free-results c g e free =
    notes-left IsNoBadPack (noted result_noted (out-OpCst c).results) _
    (subst (AllNotes IsNoBadPack) (op-opened c g e) free)

pub own-is-op : (firsts : List ℕ) (k n : ℕ) (c : OpCst) (f : FormSeen) (head : WholeHead)
    → out-FormCst (out-OpCst c).form ≡ f → FormFits f head
    → Stands firsts k (result_firsts n (out-OpCst c).results) → AllNotes IsNoBadPack (op_notes c)
    → OwnIs firsts k (op_notes c) (result_scope n (out-OpCst c).results)
own-is-op firsts k n c f head e fits stands free =
    let (g, is) = generic-of f head fits in
    own-is-as firsts k (op_notes c) (noted result_noted (out-OpCst c).results)
    (result_scope n (out-OpCst c).results) (own-op Values k c g (e ∙ is))
    (own-is-results firsts k n (out-OpCst c).results stands (free-results c g (e ∙ is) free))

pub own-is-ops : (firsts : List ℕ) (k n : ℕ) (cs : List OpCst) (os : WholeModule) → HasShape cs os
    → Stands firsts k (definitions_in n cs os) → AllNotes IsNoBadPack (ops_notes cs)
    → OwnIs firsts k (ops_notes cs) (own_scope n cs os)
own-is-ops firsts k n [] no_ops h stands free = record { same = refl; sizes = tt }
own-is-ops firsts k n [] (then_op head rs os) h stands free = absurd h
own-is-ops firsts k n (c ∷ cs) no_ops h stands free = absurd h
own-is-ops firsts k n (c ∷ cs) (then_op head rs os) (fits, named, inner, more) stands free =
    let rf = result_firsts n (out-OpCst c).results in
    let ds = definitions_in_regions (n + length head.results) (generic_regions c) rs in
    let next = n + length head.results + length (types_in_regions rs) in
    let es = definitions_in (n + length head.results + length (types_in_regions rs)) cs os in
    let counted = counted-op c head (out-FormCst (out-OpCst c).form) refl fits
    (length (definitions_in_regions (n + length head.results) (generic_regions c) rs))
    (length (region_operands rs)) (length (region_successors rs))
    (regions-counted (n + length head.results) (generic_regions c) rs inner) in
    let many : count Values (op_notes c) ≡ length (out-OpCst c).results + length ds =
    counted.definitions in
    let long = length-firsts n (out-OpCst c).results in
    own-is-joined firsts k (k + count Values (op_notes c)) (op_notes c) (ops_notes cs)
    (result_scope n (out-OpCst c).results) (own_scope next cs os) refl
    (own-is-op firsts k n c (out-FormCst (out-OpCst c).form) head refl fits
    (stands-left firsts k rf (ds ++ es) stands)
    (notes-left IsNoBadPack (op_notes c) (ops_notes cs) free))
    (own-is-ops firsts (k + count Values (op_notes c)) next cs os more
    (stands-right firsts (k + length rf) (k + count Values (op_notes c)) ds es
    (omega (arith, many, long))
    (stands-right firsts k (k + length rf) rf (ds ++ es) refl stands))
    (notes-right IsNoBadPack (op_notes c) (ops_notes cs) free))

pub own-label : (k : ℕ) (n : ℕ) (l : Option NameCst) → own Values n (label_noted l k) ≡ []
own-label k n None = refl
own-label k n (Some l) = refl

pub own-is-block : (firsts : List ℕ) (k n j m : ℕ) (b : BlockCst) (s : RegionScope)
    → length (out-BlockCst b).args ≡ m → Stands firsts k (range_with_len n m)
    → OwnIs firsts (k + length (out-BlockCst b).args) (ops_notes (out-BlockCst b).ops) s
    → OwnIs firsts k (block_notes b j) (argument_scope n (out-BlockCst b).args ++ s)
own-is-block firsts k n j m b s long stands p =
    let label = label_noted (out-BlockCst b).label j in
    let args = noted argument_noted (out-BlockCst b).args in
    let none = (counted-label (out-BlockCst b).label j).definitions in
    let some = (counted-arguments (out-BlockCst b).args).definitions in
    subst (λ (ns : Notes). OwnIs firsts k ns (argument_scope n (out-BlockCst b).args ++ s))
    (sym (block-opens b j))
    (own-is-joined firsts k k label (joined args (ops_notes (out-BlockCst b).ops)) []
    (argument_scope n (out-BlockCst b).args ++ s) (omega (arith, none))
    (own-is-nothing firsts k label (own-label j k (out-BlockCst b).label))
    (own-is-joined firsts k (k + length (out-BlockCst b).args) args
    (ops_notes (out-BlockCst b).ops) (argument_scope n (out-BlockCst b).args) s
    (omega (arith, some)) (own-is-arguments firsts k n m (out-BlockCst b).args long stands) p))

pub free-ops : (b : BlockCst) (j : ℕ) → AllNotes IsNoBadPack (block_notes b j)
    → AllNotes IsNoBadPack (ops_notes (out-BlockCst b).ops)
free-ops b j free =
    notes-right IsNoBadPack (noted argument_noted (out-BlockCst b).args)
    (ops_notes (out-BlockCst b).ops)
    (notes-right IsNoBadPack (label_noted (out-BlockCst b).label j)
    (joined (noted argument_noted (out-BlockCst b).args) (ops_notes (out-BlockCst b).ops))
    (subst (AllNotes IsNoBadPack) (block-opens b j) free))

pub own-is-blocks : (firsts : List ℕ) (k n j : ℕ) (cs : List BlockCst) (bs : Blocks Text Value)
    → BlocksHaveShape cs bs → Stands firsts k (definitions_in_blocks n cs bs)
    → AllNotes IsNoBadPack (in_order j (map block_notes cs))
    → OwnIs firsts k (in_order j (map block_notes cs)) (block_scope n cs bs)
own-is-blocks firsts k n j [] no_blocks h stands free = record { same = refl; sizes = tt }
own-is-blocks firsts k n j [] (block args os bs) h stands free = absurd h
own-is-blocks firsts k n j (c ∷ cs) no_blocks h stands free = absurd h
own-is-blocks firsts k n j (c ∷ cs) (block args os bs) (long, inner, more) stands free =
    let next = n + length args + length (types_in os) in
    let xs = range_with_len n (length args) in
    let ds = definitions_in (n + length args) (out-BlockCst c).ops os in
    let es = definitions_in_blocks (n + length args + length (types_in os)) cs bs in
    let counted = ops-counted (n + length args) (out-BlockCst c).ops os inner in
    let all = (counted-block c j (length (definitions_in (n + length args) (out-BlockCst c).ops os))
    _ _ counted).definitions in
    let many : count Values (block_notes c j) ≡ length (out-BlockCst c).args + length ds = all in
    let size = length-range_with_len n (length args) in
    let here = own_scope (n + length args) (out-BlockCst c).ops os in
    subst (OwnIs firsts k (in_order j (map block_notes (c ∷ cs))))
    (append_assoc (argument_scope n (out-BlockCst c).args) here (block_scope next cs bs))
    (own-is-joined firsts k (k + count Values (block_notes c j)) (block_notes c j)
    (in_order (suc j) (map block_notes cs))
    (argument_scope n (out-BlockCst c).args ++ here)
    (block_scope next cs bs) refl
    (own-is-block firsts k n j (length args) c here long (stands-left firsts k xs (ds ++ es) stands)
    (own-is-ops firsts (k + length (out-BlockCst c).args) (n + length args) (out-BlockCst c).ops os
    inner
    (stands-left firsts (k + length (out-BlockCst c).args) ds es
    (stands-right firsts k (k + length (out-BlockCst c).args) xs (ds ++ es)
    (omega (arith, size, long)) stands))
    (free-ops c j
    (notes-left IsNoBadPack (block_notes c j) (in_order (suc j) (map block_notes cs)) free))))
    (own-is-blocks firsts (k + count Values (block_notes c j)) next (suc j) cs bs more
    (stands-right firsts (k + length xs) (k + count Values (block_notes c j)) ds es
    (omega (arith, many, size, long))
    (stands-right firsts k (k + length xs) xs (ds ++ es) refl stands))
    (notes-right IsNoBadPack (block_notes c j) (in_order (suc j) (map block_notes cs)) free)))

-- ---- labels

pub ops-unlabelled : (n : ℕ) (cs : List OpCst) (os : WholeModule) → HasShape cs os
    → own Labels n (ops_notes cs) ≡ []
ops-unlabelled n [] no_ops h = refl
ops-unlabelled n [] (then_op head rs os) h = absurd h
ops-unlabelled n (c ∷ cs) no_ops h = absurd h
ops-unlabelled n (c ∷ cs) (then_op head rs os) (fits, named, inner, more) =
    let (g, is) = generic-of (out-FormCst (out-OpCst c).form) head fits in
    own-joined Labels n (n + count Labels (op_notes c)) (op_notes c) (ops_notes cs) refl
    ∙ two-none (own Labels n (op_notes c))
    (own Labels (n + count Labels (op_notes c)) (ops_notes cs))
    (own-op Labels n c g is ∙ results-unlabelled n (out-OpCst c).results)
    (ops-unlabelled (n + count Labels (op_notes c)) cs os more)

label-listed : (j n : ℕ) (l : Option NameCst)
    → listed_in (own Labels n (label_noted l j)) ≡ listed_in (label_of j l)
label-listed j n None = refl
label-listed j n (Some l) = refl

block-label : (n j : ℕ) (c : BlockCst) (os : WholeModule) → HasShape (out-BlockCst c).ops os
    → own Labels n (block_notes c j) ≡ own Labels n (label_noted (out-BlockCst c).label j)
block-label n j c os h =
    let label = label_noted (out-BlockCst c).label j in
    let args = noted argument_noted (out-BlockCst c).args in
    let m = n + count Labels label in
    ap (own Labels n) (block-opens c j)
    ∙ (own-joined Labels n m label (joined args (ops_notes (out-BlockCst c).ops)) refl
    ∙ (ap (λ (w : RegionScope). own Labels n label ++ w)
    (own-joined Labels m (m + count Labels args) args (ops_notes (out-BlockCst c).ops) refl
    ∙ two-none (own Labels m args)
    (own Labels (m + count Labels args) (ops_notes (out-BlockCst c).ops))
    (arguments-unlabelled m (out-BlockCst c).args)
    (ops-unlabelled (m + count Labels args) (out-BlockCst c).ops os h))
    ∙ append-nil (own Labels n label)))

pub labels-listed : (n j : ℕ) (cs : List BlockCst) (bs : Blocks Text Value) → BlocksHaveShape cs bs
    → listed_in (own Labels n (in_order j (map block_notes cs))) ≡ listed_in (label_scope j cs)
labels-listed n j [] no_blocks h = refl
labels-listed n j [] (block args os bs) h = absurd h
labels-listed n j (c ∷ cs) no_blocks h = absurd h
labels-listed n j (c ∷ cs) (block args os bs) (long, inner, more) =
    let next = n + count Labels (block_notes c j) in
    ap listed_in (own-joined Labels n next (block_notes c j)
    (in_order (suc j) (map block_notes cs)) refl)
    ∙ (listed_in-append (own Labels n (block_notes c j))
    (own Labels next (in_order (suc j) (map block_notes cs)))
    ∙ (ap (λ w. w ++ listed_in (own Labels next (in_order (suc j) (map block_notes cs))))
    (ap listed_in (block-label n j c os inner)
    ∙ label-listed j n (out-BlockCst c).label)
    ∙ (ap (λ w. listed_in (label_of j (out-BlockCst c).label) ++ w)
    (labels-listed next (suc j) cs bs more)
    ∙ sym (listed_in-append (label_of j (out-BlockCst c).label) (label_scope (suc j) cs)))))
