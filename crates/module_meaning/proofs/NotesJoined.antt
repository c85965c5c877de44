-- Notes that are put together: which names they define, and when they are right.
use Rattle.std.proofs.Common.{◌≡◌, ℕ, ◌+◌, ◌<◌, ◌≤◌, Bool, true, false, ◌||◌, ◌&&◌, not, List}
use Rattle.std.proofs.Common.{[], ◌∷◌, ◌++◌, map, refl, sym, ◌∙◌, ap, subst, arith}
use Rattle.std.proofs.Common.{Option, Some, None, inl, inr, ◌⊎◌, bytes_eq, cond, option_map, nat_lt}
use Rattle.std.proofs.Common.{option_and_then}
use Rattle.std.proofs.lemmas.Bool.{ltb-true, lt-ltb}
use Rattle.std.proofs.lemmas.Slice.Eq.{bytes_eq-Decides}
use Rattle.std.specs.List.{AllByRecursion, IsDistinct}
use Rattle.generic_syntax.specs.declared.cst.NameCst.{NameCst}
use Rattle.generic_syntax.specs.declared.module_cst.ArgCst.{ArgCst}
use Rattle.generic_syntax.specs.declared.module_cst.NumberCst.{NumberCst}
use Rattle.generic_syntax.specs.declared.module_cst.ResultCst.{ResultCst}
use Rattle.generic_syntax.specs.declared.module_cst.UseCst.{UseCst}
use Rattle.grammar.specs.Looks.{is_among}
use Rattle.ir_lexer.specs.Spelling.{Text}
use Rattle.module_meaning.proofs.Places.{some-same}
use Rattle.module_meaning.proofs.ValueNotes.{AreRight}
use Rattle.module_meaning.specs.Names.{Env, used, in_pack, pack_size, result_number, result_scope}
use Rattle.module_meaning.specs.Names.{argument_scope, result_names, argument_names}
use Rattle.module_names.proofs.Cut.{IsSilent, joined-assoc}
use Rattle.module_names.proofs.Silent.{value-silent}
use Rattle.module_names.specs.Mentions.{value_mentions}
use Rattle.module_names.specs.ModuleNotes.{use_noted, successor_noted, size_noted, wrong_size}
use Rattle.module_names.specs.ModuleNotes.{result_noted, argument_noted}
use Rattle.module_names.specs.Numbers.{use_number, number_place}
use Rattle.module_names.specs.Numbers as number
use Rattle.module_names.specs.Said.{joined, noted, one}
use Rattle.symbol_scopes.specs.declared.call.NameKind.TheVariants.{Values}
use Rattle.symbol_scopes.specs.Faults.{fault_if}
use Rattle.symbol_scopes.specs.Meanings.{or_else}
use Rattle.symbol_scopes.specs.Regions.{Notes, no_notes, note, in_region, defines, uses}
use Rattle.symbol_scopes.specs.Regions.{labels, leads_to, bad_pack, defines_alias, mentions_alias}
use Rattle.symbol_scopes.specs.Regions.{RegionScope, own, count, found, looked, use_wrong}

-- ---- the names that notes define themselves

-- the names of a scope with the sizes of their packs
abbrev pub listed_in : RegionScope → List (Text × ℕ)
listed_in scope = map (λ x. (x.name, x.number)) scope

-- those that notes define, outside of regions
abbrev pub listed : Notes → List (Text × ℕ)
listed no_notes = []
listed (note (defines d) ns) = (d.name, d.count) ∷ listed ns
listed (note _ ns) = listed ns
listed (in_region inner ns) = listed ns

-- their names alone
abbrev pub names_of : Notes → List Text
names_of ns = map (λ e. e.0) (listed ns)

pub listed-own : (n : ℕ) (ns : Notes) → listed_in (own Values n ns) ≡ listed ns
listed-own n no_notes = refl
listed-own n (note (defines d) ns) = ap (λ w. (d.name, d.count) ∷ w) (listed-own (n + 1) ns)
listed-own n (note (uses u) ns) = listed-own (n + 0) ns
listed-own n (note (labels l) ns) = listed-own (n + 0) ns
listed-own n (note (leads_to t) ns) = listed-own (n + 0) ns
listed-own n (note (bad_pack p) ns) = listed-own (n + 0) ns
listed-own n (note (defines_alias a) ns) = listed-own (n + 0) ns
listed-own n (note (mentions_alias a) ns) = listed-own (n + 0) ns
listed-own n (in_region inner ns) = listed-own (n + count Values inner) ns

pub listed-joined : (a b : Notes) → listed (joined a b) ≡ listed a ++ listed b
listed-joined no_notes b = refl
listed-joined (note (defines d) a) b = ap (λ w. (d.name, d.count) ∷ w) (listed-joined a b)
listed-joined (note (uses u) a) b = listed-joined a b
listed-joined (note (labels l) a) b = listed-joined a b
listed-joined (note (leads_to t) a) b = listed-joined a b
listed-joined (note (bad_pack p) a) b = listed-joined a b
listed-joined (note (defines_alias x) a) b = listed-joined a b
listed-joined (note (mentions_alias x) a) b = listed-joined a b
listed-joined (in_region inner a) b = listed-joined a b

pub listed-pack : (p : Option NumberCst) (more : Notes)
    → listed (joined (size_noted p) more) ≡ listed more
listed-pack None more = refl
listed-pack (Some size) more = go (number.pack_size size.digits)
  where
    go : (o : Option ℕ) → listed (joined (wrong_size size.place o) more) ≡ listed more
    go None = refl
    go (Some n) = refl

-- the definition of a result
abbrev pub result_defined : ResultCst → Notes
result_defined r =
    one (defines (record { name = r.name; place = r.place; count = pack_size r.pack }))

pub listed-results : (n : ℕ) (rs : List ResultCst)
    → listed (noted result_noted rs) ≡ listed_in (result_scope n rs)
listed-results n [] = refl
listed-results n (r ∷ rs) =
    ap listed (joined-assoc (size_noted r.pack) (result_defined r) (noted result_noted rs))
    ∙ (listed-pack r.pack (joined (result_defined r) (noted result_noted rs))
    ∙ ap (λ w. (r.name, pack_size r.pack) ∷ w) (listed-results (n + pack_size r.pack) rs))

-- notes of aliases define none
pub listed-silent : (a b : Notes) → IsSilent a → listed (joined a b) ≡ listed b
listed-silent no_notes b h = refl
listed-silent (note (defines_alias x) a) b h = listed-silent a b h
listed-silent (note (mentions_alias x) a) b h = listed-silent a b h
listed-silent (note (defines x) a) b h = absurd h
listed-silent (note (uses x) a) b h = absurd h
listed-silent (note (labels x) a) b h = absurd h
listed-silent (note (leads_to x) a) b h = absurd h
listed-silent (note (bad_pack x) a) b h = absurd h
listed-silent (in_region inner a) b h = absurd h

pub listed-arguments : (n : ℕ) (xs : List ArgCst)
    → listed (noted argument_noted xs) ≡ listed_in (argument_scope n xs)
listed-arguments n [] = refl
listed-arguments n (x ∷ xs) = ap (λ w. (x.name, 1) ∷ w)
    (listed-silent (value_mentions x.ty) (noted argument_noted xs) (value-silent x.ty)
    ∙ listed-arguments (n + 1) xs)

pub listed-uses : (us : List UseCst) → listed (noted use_noted us) ≡ []
listed-uses [] = refl
listed-uses (u ∷ us) = listed-uses us

pub listed-successors : (ss : List NameCst) → listed (noted successor_noted ss) ≡ []
listed-successors [] = refl
listed-successors (s ∷ ss) = listed-successors ss

-- the names of results and of arguments
pub names-results : (n : ℕ) (rs : List ResultCst)
    → map (λ e. e.0) (listed_in (result_scope n rs)) ≡ result_names rs
names-results n [] = refl
names-results n (r ∷ rs) = ap (λ w. r.name ∷ w) (names-results (n + pack_size r.pack) rs)

pub names-arguments : (n : ℕ) (xs : List ArgCst)
    → map (λ e. e.0) (listed_in (argument_scope n xs)) ≡ argument_names xs
names-arguments n [] = refl
names-arguments n (x ∷ xs) = ap (λ w. x.name ∷ w) (names-arguments (n + 1) xs)

-- ---- names among others

-- each text of the first is one of the second
abbrev pub Within : List Text → List Text → Type 0
Within xs ys = (w : Text) → is_among xs w ≡ true → is_among ys w ≡ true

pub among-left : (xs ys : List Text) → Within xs (xs ++ ys)
among-left [] ys w e = absurd (cc)
among-left (x ∷ xs) ys w e = go (bytes_eq w x) e (among-left xs ys w)
  where
    go : (b : Bool) → (b || is_among xs w) ≡ true
        → (is_among xs w ≡ true → is_among (xs ++ ys) w ≡ true)
        → (b || is_among (xs ++ ys) w) ≡ true
    go true e more = refl
    go false e more = more e

pub among-right : (xs ys : List Text) → Within ys (xs ++ ys)
among-right [] ys w e = e
among-right (x ∷ xs) ys w e = go (bytes_eq w x) (among-right xs ys w e)
  where
    go : (b : Bool) → is_among (xs ++ ys) w ≡ true → (b || is_among (xs ++ ys) w) ≡ true
    go true more = refl
    go false more = more

-- ---- notes that are right, behind others

-- what stands behind has to be right behind any names that are defined before it
pub right-joined : (n m : ℕ) (ss : List RegionScope) (before : List Text) (a b : Notes)
    → AreRight n ss before a → m ≡ n + count Values a
    → ((names : List Text) → ((w : Text) → is_among names w ≡ true
    → (is_among (names_of a) w ≡ true) ⊎ (is_among before w ≡ true)) → AreRight m ss names b)
    → AreRight n ss before (joined a b)
right-joined n m ss before no_notes b h e more =
    let same : m ≡ n = omega arith in
    subst (λ (k : ℕ). AreRight k ss before b) same (more before (λ w is. inr is))
right-joined n m ss before (note (defines d) a) b (new, h) e more = (
  new,
  right-joined (n + 1) m ss (d.name ∷ before) a b h (omega arith)
      (λ names all. more names (λ w is. elim (all w is) [
        | inl l ↦ inl (later (is_among (names_of a) w) (bytes_eq w d.name) l)
        | inr r ↦ either (is_among (names_of a) w) (is_among before w) (bytes_eq w d.name) r
      ])),
)
  where
    later : (x c : Bool) → x ≡ true → (c || x) ≡ true
    later x true e = refl
    later x false e = e

    either : (x y c : Bool) → (c || y) ≡ true → ((c || x) ≡ true) ⊎ (y ≡ true)
    either x y true e = inl refl
    either x y false e = inr e
right-joined n m ss before (note (uses u) a) b (right, h) e more =
    (right, right-joined n m ss before a b h (omega arith) more)
right-joined n m ss before (note (labels l) a) b h e more =
    right-joined n m ss before a b h (omega arith) more
right-joined n m ss before (note (leads_to t) a) b h e more =
    right-joined n m ss before a b h (omega arith) more
right-joined n m ss before (note (bad_pack p) a) b h e more =
    right-joined n m ss before a b h (omega arith) more
right-joined n m ss before (note (defines_alias x) a) b h e more =
    right-joined n m ss before a b h (omega arith) more
right-joined n m ss before (note (mentions_alias x) a) b h e more =
    right-joined n m ss before a b h (omega arith) more
right-joined n m ss before (in_region inner a) b (h, k) e more =
    (h, right-joined (n + count Values inner) m ss before a b k (omega arith) more)

-- a pack's size asks nothing here
right-pack : (n : ℕ) (ss : List RegionScope) (before : List Text) (p : Option NumberCst)
    (more : Notes) → AreRight n ss before more → AreRight n ss before (joined (size_noted p) more)
right-pack n ss before None more h = h
right-pack n ss before (Some size) more h = go (number.pack_size size.digits)
  where
    go : (o : Option ℕ) → AreRight n ss before (joined (wrong_size size.place o) more)
    go None = h
    go (Some k) = h

-- nor do notes of aliases
pub right-silent : (n : ℕ) (ss : List RegionScope) (before : List Text) (a b : Notes) → IsSilent a
    → AreRight n ss before b → AreRight n ss before (joined a b)
right-silent n ss before no_notes b h k = k
right-silent n ss before (note (defines_alias x) a) b h k = right-silent n ss before a b h k
right-silent n ss before (note (mentions_alias x) a) b h k = right-silent n ss before a b h k
right-silent n ss before (note (defines x) a) b h k = absurd h
right-silent n ss before (note (uses x) a) b h k = absurd h
right-silent n ss before (note (labels x) a) b h k = absurd h
right-silent n ss before (note (leads_to x) a) b h k = absurd h
right-silent n ss before (note (bad_pack x) a) b h k = absurd h
right-silent n ss before (in_region inner a) b h k = absurd h

-- names that differ from one differ from it and from those of before
new-behind : (x : Text) (before ys : List Text) → AllByRecursion (λ y. bytes_eq x y ≡ false) ys
    → AllByRecursion (λ y. is_among before y ≡ false) ys
    → AllByRecursion (λ y. is_among (x ∷ before) y ≡ false) ys
new-behind x before [] d h = tt
new-behind x before (y ∷ ys) (e, d) (p, h) =
    (go (bytes_eq y x) refl, new-behind x before ys d h)
  where
    go : (b : Bool) → bytes_eq y x ≡ b → (bytes_eq y x || is_among before y) ≡ false
    go true is =
        let same : y ≡ x = (bytes_eq-Decides y x).0 is in
        let back : bytes_eq x y ≡ true = (bytes_eq-Decides x y).1 (sym same) in
        absurd (cc)
    go false is = rw is p

-- new names of results are right, and so are those of arguments
pub right-results : (n : ℕ) (ss : List RegionScope) (before : List Text) (rs : List ResultCst)
    → IsDistinct bytes_eq (result_names rs)
    → AllByRecursion (λ name. is_among before name ≡ false) (result_names rs)
    → AreRight n ss before (noted result_noted rs)
unfolding IsDistinct
right-results n ss before [] d h = tt
right-results n ss before (r ∷ rs) (e, d) (new, h) =
    subst (AreRight n ss before)
    (sym (joined-assoc (size_noted r.pack) (result_defined r) (noted result_noted rs)))
    (right-pack n ss before r.pack (joined (result_defined r) (noted result_noted rs)) (
      new,
      right-results (n + 1) ss (r.name ∷ before) rs d
          (new-behind r.name before (result_names rs) e h),
    ))

pub right-arguments : (n : ℕ) (ss : List RegionScope) (before : List Text) (xs : List ArgCst)
    → IsDistinct bytes_eq (argument_names xs)
    → AllByRecursion (λ name. is_among before name ≡ false) (argument_names xs)
    → AreRight n ss before (noted argument_noted xs)
unfolding IsDistinct
right-arguments n ss before [] d h = tt
right-arguments n ss before (x ∷ xs) (e, d) (new, h) = (
  new,
  right-silent (n + 1) ss (x.name ∷ before) (value_mentions x.ty) (noted argument_noted xs)
      (value-silent x.ty)
      (right-arguments (n + 1) ss (x.name ∷ before) xs d
      (new-behind x.name before (argument_names xs) e h)),
)

-- successors ask nothing of value names
pub right-successors : (n : ℕ) (ss : List RegionScope) (before : List Text) (xs : List NameCst)
    → AreRight n ss before (noted successor_noted xs)
right-successors n ss before [] = tt
right-successors n ss before (x ∷ xs) = right-successors n ss before xs

-- ---- uses

-- the size of a pack, or the number of a block
abbrev pub size_in : ℕ × ℕ → ℕ
size_in d = d.1

-- what a name stands for, by the names and sizes of two scopes
pub found-alike : (s t : RegionScope) (name : Text) → listed_in s ≡ listed_in t
    → option_map size_in (found s name) ≡ option_map size_in (found t name)
found-alike [] [] name e = refl
found-alike [] (y ∷ t) name e = absurd (cc)
found-alike (x ∷ s) [] name e = absurd (cc)
found-alike (x ∷ s) (y ∷ t) name e =
    let rest : listed_in s ≡ listed_in t = cc in
    let heads : (x.name, x.number) ≡ (y.name, y.number) = cc in
    let names : x.name ≡ y.name = ap (λ (p : Text × ℕ). p.0) heads in
    let sizes : x.number ≡ y.number = ap (λ (p : Text × ℕ). p.1) heads in
    go names sizes (bytes_eq x.name name) refl (found-alike s t name rest)
  where
    go : x.name ≡ y.name → x.number ≡ y.number → (b : Bool) → bytes_eq x.name name ≡ b
        → option_map size_in (found s name)
        ≡ option_map size_in (found t name)
        → option_map size_in (found (x ∷ s) name)
        ≡ option_map size_in (found (y ∷ t) name)
    go names sizes true is more =
        let is2 : bytes_eq y.name name ≡ true =
        ap (λ (w : Text). bytes_eq w name) (sym names) ∙ is in
        rw (is, is2) (ap Some sizes)
    go names sizes false is more =
        let is2 : bytes_eq y.name name ≡ false =
        ap (λ (w : Text). bytes_eq w name) (sym names) ∙ is in
        rw (is, is2) more

-- the same of scopes round a place
pub looked-alike : (ss ts : List RegionScope) (name : Text) → map listed_in ss ≡ map listed_in ts
    → option_map size_in (looked ss name)
    ≡ option_map size_in (looked ts name)
looked-alike [] [] name e = refl
looked-alike [] (t ∷ ts) name e = absurd (cc)
looked-alike (s ∷ ss) [] name e = absurd (cc)
looked-alike (s ∷ ss) (t ∷ ts) name e =
    let first : listed_in s ≡ listed_in t = cc in
    let rest : map listed_in ss ≡ map listed_in ts = cc in
    go (found s name) (found t name) (found-alike s t name first) (looked-alike ss ts name rest)
  where
    go : (o p : Option (ℕ × ℕ)) → option_map size_in o ≡ option_map size_in p
        → option_map size_in (looked ss name)
        ≡ option_map size_in (looked ts name)
        → option_map size_in (or_else o (looked ss name))
        ≡ option_map size_in (or_else p (looked ts name))
    go None None e more = more
    go None (Some y) e more = absurd (cc)
    go (Some x) None e more = absurd (cc)
    go (Some x) (Some y) e more = e

-- a number that is cut down is no greater
number-below : (p : Option NumberCst) → use_number p ≤ result_number p
number-below None = omega arith
number-below (Some n) = omega arith

module _ (env : Env) (ss : List RegionScope) (alike : map listed_in ss ≡ map listed_in env.scopes)
  where
    -- a use that means a value is right
    use-right : (u : UseCst) (n : ℕ) → used env u ≡ Some n
        → use_wrong (record {
          name = u.name;
          place = u.place;
          number = use_number u.number;
          number_place = number_place u.place u.number;
        }) (looked ss u.name) ≡ None
    use-right u n e = go (looked env.scopes u.name) (looked ss u.name) refl e
        (looked-alike ss env.scopes u.name alike)
      where
        at : (d e : ℕ × ℕ) → e.1 ≡ d.1 → (b : Bool) → nat_lt (result_number u.number) d.1 ≡ b
            → cond b (Some (d.0 + result_number u.number)) None ≡ Some n
            → fault_if
            (nat_lt 0 e.1 && not (nat_lt (use_number u.number) e.1))
            (number_place u.place u.number) 9 ≡ None
        at d e same true is value =
            let less : result_number u.number < d.1 = ltb-true _ _ is in
            let most = number-below u.number in
            let below : use_number u.number < e.1 = omega arith in
            let some : 0 < e.1 = omega arith in
            let first : nat_lt 0 e.1 ≡ true = lt-ltb 0 e.1 some in
            let second : nat_lt (use_number u.number) e.1 ≡ true =
            lt-ltb _ e.1 below in
            rw (first, second) refl
        at d e same false is value = absurd (cc)

        go : (o p : Option (ℕ × ℕ)) → looked env.scopes u.name ≡ o
            → option_and_then (in_pack (result_number u.number)) (looked env.scopes u.name) ≡ Some n
            → option_map size_in p ≡ option_map size_in (looked env.scopes u.name)
            → use_wrong (record {
              name = u.name;
              place = u.place;
              number = use_number u.number;
              number_place = number_place u.place u.number;
            }) p ≡ None
        go None p is e same =
            let none : option_and_then (in_pack (result_number u.number)) None ≡ Some n =
            subst (λ (o : Option (ℕ × ℕ)).
            option_and_then (in_pack (result_number u.number)) o ≡ Some n) is e in
            absurd (cc)
        go (Some d) None is e same =
            let there : None ≡ Some d.1 = subst (λ (o : Option (ℕ × ℕ)).
            None ≡ option_map size_in o) is same in
            absurd (cc)
        go (Some d) (Some x) is e same =
            let there : Some x.1 ≡ Some d.1 = subst (λ (o : Option (ℕ × ℕ)).
            Some x.1 ≡ option_map size_in o) is same in
            let value : in_pack (result_number u.number) d ≡ Some n = subst (λ (o : Option (ℕ × ℕ)).
            option_and_then (in_pack (result_number u.number)) o ≡ Some n) is e in
            at d x (some-same x.1 d.1 there) (nat_lt (result_number u.number) d.1) refl value

    pub right-uses : (n : ℕ) (before : List Text) (us : List UseCst) (ns : List ℕ)
        → map (used env) us ≡ map Some ns → AreRight n ss before (noted use_noted us)
    right-uses n before [] ns e = tt
    right-uses n before (u ∷ us) [] e = absurd (cc)
    right-uses n before (u ∷ us) (m ∷ ns) e =
        let first : used env u ≡ Some m = cc in
        let rest : map (used env) us ≡ map Some ns = cc in
        (use-right u m first, right-uses n before us ns rest)
