-- When notes have no fault among labels: a condition by recursion on the notes, and which notes say
-- nothing of labels.
use Rattle.std.proofs.Common.{◌≡◌, ℕ, ◌+◌, ◌<◌, Bool, true, false, List, [], ◌∷◌}
use Rattle.std.proofs.Common.{◌++◌, refl, sym, ap, subst, arith, Option, Some, None}
use Rattle.std.proofs.Common.{bytes_eq, nat_lt, option_to_list}
use Rattle.std.proofs.lemmas.Bool.{ltb-true}
use Rattle.std.proofs.lemmas.Slice.Eq.{bytes_eq-Decides}
use Rattle.std.specs.List.{AllByRecursion, IsDistinct}
use Rattle.first_fault.specs.declared.fault.Fault.{Fault}
use Rattle.generic_syntax.specs.declared.module_cst.ArgCst.{ArgCst}
use Rattle.generic_syntax.specs.declared.module_cst.NumberCst.{NumberCst}
use Rattle.generic_syntax.specs.declared.module_cst.ResultCst.{ResultCst}
use Rattle.generic_syntax.specs.declared.module_cst.UseCst.{UseCst}
use Rattle.ir_lexer.specs.Spelling.{Text}
use Rattle.module_meaning.proofs.ValueNotes.{none-joined}
use Rattle.module_meaning.proofs.NotesJoined.{result_defined}
use Rattle.module_meaning.specs.Names.{names_in}
use Rattle.module_names.proofs.Cut.{IsSilent}
use Rattle.module_names.proofs.Silent.{value-silent}
use Rattle.module_names.specs.Mentions.{value_mentions}
use Rattle.module_names.specs.ModuleNotes.{use_noted, result_noted}
use Rattle.module_names.specs.ModuleNotes.{argument_noted, size_noted, wrong_size}
use Rattle.module_names.specs.Numbers as number
use Rattle.module_names.specs.Said.{joined, noted}
use Rattle.symbol_scopes.specs.declared.call.NameKind.TheVariants.{Labels}
use Rattle.symbol_scopes.specs.Faults.{fault_if}
use Rattle.symbol_scopes.specs.Regions.{Note, Notes, no_notes, note, in_region, defines, uses}
use Rattle.symbol_scopes.specs.Regions.{labels, leads_to, bad_pack, defines_alias, mentions_alias}
use Rattle.symbol_scopes.specs.Regions.{RegionScope, ScopeName, own, count, found, innermost}
use Rattle.symbol_scopes.specs.Regions.{told, block_wrong, target_wrong, is_earlier}

-- what is wrong with the labels of a note
abbrev pub wrong : List RegionScope → ℕ → Note → List Fault
wrong ss n x = option_to_list (block_wrong ss n x)

-- ---- the condition

-- labels are the first of their names, and successors lead to other blocks than the first
abbrev pub AreLabelled : ℕ → List RegionScope → Notes → Type 0
AreLabelled n ss no_notes = Unit {0}
AreLabelled n ss (note (labels l) ns) =
    (is_earlier (found (innermost ss) l.name) n ≡ false) × AreLabelled (n + 1) ss ns
AreLabelled n ss (note (leads_to t) ns) =
    (target_wrong t (found (innermost ss) t.name) ≡ None) × AreLabelled n ss ns
AreLabelled n ss (note _ ns) = AreLabelled n ss ns
AreLabelled n ss (in_region inner ns) =
    AreLabelled n (own Labels n inner ∷ ss) inner × AreLabelled (n + count Labels inner) ss ns

pub moved : (n : ℕ) (ss : List RegionScope) (ns : Notes) → AreLabelled n ss ns
    → AreLabelled (n + 0) ss ns
moved n ss ns h =
    let same : n ≡ n + 0 = omega arith in subst (λ (m : ℕ). AreLabelled m ss ns) same h

-- then nothing is wrong
pub labelled-told : (n : ℕ) (ss : List RegionScope) (ns : Notes) → AreLabelled n ss ns
    → told Labels wrong ss n ns ≡ []
labelled-told n ss no_notes h = refl
labelled-told n ss (note (labels l) ns) (first, h) =
    none-joined (wrong ss n (labels l)) (told Labels wrong ss (n + 1) ns)
    (ap (λ b. option_to_list (fault_if b l.place 11)) first) (labelled-told (n + 1) ss ns h)
labelled-told n ss (note (leads_to t) ns) (right, h) =
    none-joined (wrong ss n (leads_to t)) (told Labels wrong ss (n + 0) ns)
    (ap option_to_list right) (labelled-told (n + 0) ss ns (moved n ss ns h))
labelled-told n ss (note (defines d) ns) h = labelled-told (n + 0) ss ns (moved n ss ns h)
labelled-told n ss (note (uses u) ns) h = labelled-told (n + 0) ss ns (moved n ss ns h)
labelled-told n ss (note (bad_pack p) ns) h = labelled-told (n + 0) ss ns (moved n ss ns h)
labelled-told n ss (note (defines_alias a) ns) h = labelled-told (n + 0) ss ns (moved n ss ns h)
labelled-told n ss (note (mentions_alias a) ns) h = labelled-told (n + 0) ss ns (moved n ss ns h)
labelled-told n ss (in_region inner ns) (h, k) =
    none-joined (told Labels wrong (own Labels n inner ∷ ss) n inner)
    (told Labels wrong ss (n + count Labels inner) ns)
    (labelled-told n (own Labels n inner ∷ ss) inner h)
    (labelled-told (n + count Labels inner) ss ns k)

-- ---- notes put together

pub labelled-joined : (n m : ℕ) (ss : List RegionScope) (a b : Notes) → AreLabelled n ss a
    → m ≡ n + count Labels a → AreLabelled m ss b → AreLabelled n ss (joined a b)
labelled-joined n m ss no_notes b h e k =
    let same : m ≡ n = omega arith in subst (λ (i : ℕ). AreLabelled i ss b) same k
labelled-joined n m ss (note (labels l) a) b (first, h) e k =
    (first, labelled-joined (n + 1) m ss a b h (omega arith) k)
labelled-joined n m ss (note (leads_to t) a) b (right, h) e k =
    (right, labelled-joined n m ss a b h (omega arith) k)
labelled-joined n m ss (note (defines d) a) b h e k = labelled-joined n m ss a b h (omega arith) k
labelled-joined n m ss (note (uses u) a) b h e k = labelled-joined n m ss a b h (omega arith) k
labelled-joined n m ss (note (bad_pack p) a) b h e k = labelled-joined n m ss a b h (omega arith) k
labelled-joined n m ss (note (defines_alias x) a) b h e k =
    labelled-joined n m ss a b h (omega arith) k
labelled-joined n m ss (note (mentions_alias x) a) b h e k =
    labelled-joined n m ss a b h (omega arith) k
labelled-joined n m ss (in_region inner a) b (h, i) e k =
    (h, labelled-joined (n + count Labels inner) m ss a b i (omega arith) k)

-- ---- notes that say nothing of labels

-- no label is defined outside of regions, and none is led to
abbrev pub IsQuiet : Notes → Type 0
IsQuiet no_notes = Unit {0}
IsQuiet (note (labels l) ns) = ⊥
IsQuiet (note (leads_to t) ns) = ⊥
IsQuiet (note _ ns) = IsQuiet ns
IsQuiet (in_region inner ns) = ⊥

pub quiet-joined : (a b : Notes) → IsQuiet a → IsQuiet b → IsQuiet (joined a b)
quiet-joined no_notes b h k = k
quiet-joined (note (labels l) a) b h k = absurd h
quiet-joined (note (leads_to t) a) b h k = absurd h
quiet-joined (note (defines d) a) b h k = quiet-joined a b h k
quiet-joined (note (uses u) a) b h k = quiet-joined a b h k
quiet-joined (note (bad_pack p) a) b h k = quiet-joined a b h k
quiet-joined (note (defines_alias x) a) b h k = quiet-joined a b h k
quiet-joined (note (mentions_alias x) a) b h k = quiet-joined a b h k
quiet-joined (in_region inner a) b h k = absurd h

pub quiet-labelled : (n : ℕ) (ss : List RegionScope) (ns : Notes) → IsQuiet ns → AreLabelled n ss ns
quiet-labelled n ss no_notes h = tt
quiet-labelled n ss (note (labels l) ns) h = absurd h
quiet-labelled n ss (note (leads_to t) ns) h = absurd h
quiet-labelled n ss (note (defines d) ns) h = quiet-labelled n ss ns h
quiet-labelled n ss (note (uses u) ns) h = quiet-labelled n ss ns h
quiet-labelled n ss (note (bad_pack p) ns) h = quiet-labelled n ss ns h
quiet-labelled n ss (note (defines_alias x) ns) h = quiet-labelled n ss ns h
quiet-labelled n ss (note (mentions_alias x) ns) h = quiet-labelled n ss ns h
quiet-labelled n ss (in_region inner ns) h = absurd h

-- notes of aliases don't
pub silent-quiet : (ns : Notes) → IsSilent ns → IsQuiet ns
silent-quiet no_notes h = tt
silent-quiet (note (defines_alias x) ns) h = silent-quiet ns h
silent-quiet (note (mentions_alias x) ns) h = silent-quiet ns h
silent-quiet (note (defines x) ns) h = absurd h
silent-quiet (note (uses x) ns) h = absurd h
silent-quiet (note (labels x) ns) h = absurd h
silent-quiet (note (leads_to x) ns) h = absurd h
silent-quiet (note (bad_pack x) ns) h = absurd h
silent-quiet (in_region inner ns) h = absurd h

pub quiet-pack : (p : Option NumberCst) → IsQuiet (size_noted p)
quiet-pack None = tt
quiet-pack (Some size) = go (number.pack_size size.digits)
  where
    go : (o : Option ℕ) → IsQuiet (wrong_size size.place o)
    go None = tt
    go (Some n) = tt

pub quiet-results : (rs : List ResultCst) → IsQuiet (noted result_noted rs)
quiet-results [] = tt
quiet-results (r ∷ rs) = quiet-joined (result_noted r) (noted result_noted rs)
    (quiet-joined (size_noted r.pack) (result_defined r) (quiet-pack r.pack) tt) (quiet-results rs)

pub quiet-uses : (us : List UseCst) → IsQuiet (noted use_noted us)
quiet-uses [] = tt
quiet-uses (u ∷ us) = quiet-uses us

pub quiet-arguments : (xs : List ArgCst) → IsQuiet (noted argument_noted xs)
quiet-arguments [] = tt
quiet-arguments (x ∷ xs) =
    quiet-joined (value_mentions x.ty) (noted argument_noted xs)
    (silent-quiet (value_mentions x.ty) (value-silent x.ty)) (quiet-arguments xs)

-- ---- a label among those of its region

-- texts that differ, whichever comes first
pub differ-back : (a b : Text) → bytes_eq a b ≡ false → bytes_eq b a ≡ false
differ-back a b e = go (bytes_eq b a) refl
  where
    go : (c : Bool) → bytes_eq b a ≡ c → bytes_eq b a ≡ false
    go true is =
        let same : b ≡ a = (bytes_eq-Decides b a).0 is in
        let back : bytes_eq a b ≡ true = (bytes_eq-Decides a b).1 (sym same) in
        absurd (cc)
    go false is = is

-- names of before differ from one behind them
pub distinct-before : (past : RegionScope) (x : ScopeName) (rest : RegionScope)
    → IsDistinct bytes_eq (names_in (past ++ (x ∷ rest)))
    → AllByRecursion (λ (p : ScopeName). bytes_eq p.name x.name ≡ false) past
unfolding IsDistinct
distinct-before [] x rest d = tt
distinct-before (p ∷ past) x rest (here, d) = (at past here, distinct-before past x rest d)
  where
    at : (ps : RegionScope)
        → AllByRecursion (λ y. bytes_eq p.name y ≡ false) (names_in (ps ++ (x ∷ rest)))
        → bytes_eq p.name x.name ≡ false
    at [] (e, h) = e
    at (q ∷ ps) (e, h) = at ps h

-- the first of its name is found
pub found-behind : (past : RegionScope) (x : ScopeName) (rest : RegionScope)
    → AllByRecursion (λ (p : ScopeName). bytes_eq p.name x.name ≡ false) past
    → found (past ++ (x ∷ rest)) x.name ≡ Some (x.at, x.number)
found-behind [] x rest h = rw ((bytes_eq-Decides x.name x.name).1 refl) refl
found-behind (p ∷ past) x rest (e, h) = rw e (found-behind past x rest h)

pub never-earlier : (n k : ℕ) → is_earlier (Some (n, k)) n ≡ false
never-earlier n k = go (nat_lt n n) refl
  where
    go : (b : Bool) → nat_lt n n ≡ b → nat_lt n n ≡ false
    go true e = let less : n < n = ltb-true n n e in absurd (omega arith)
    go false e = e
