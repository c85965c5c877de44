-- The looks that come next, as they are gathered from the right.
--
-- A list of looks is compared with others by what meets it, so its order doesn't matter, and what
-- is gathered behind the looks of later elements is as good as the lists of the definitions.
use Rattle.std.proofs.Common.{◌≡◌, ℕ, ◌+◌, ◌-◌, ◌<◌, ◌≤◌, Bool, true, false, ◌&&◌, ◌||◌, List, [], ◌∷◌, ◌++◌, length, drop, get_or, refl, sym, ◌∙◌, ap, subst, arith, Option, Some, None, if◌then◌else◌}
use Rattle.std.specs.Option.{option_or}
use Rattle.std.proofs.lemmas.List.Folds.{list_any-append}
use Rattle.dialect_defs.specs.declared.definition.OpDef.{OpDef}
use Rattle.dialect_defs.specs.declared.format.Element.{Element}
use Rattle.dialect_defs.specs.declared.format.ElementKind.TheOpen.{ElementKind-F}
use Rattle.format_checker.specs.declared.clash.Clash.{Clash}
use Rattle.format_checker.specs.declared.look.Look.{Look}
use Rattle.format_checker.specs.Columns.{Kind, kind_of, is_anchor, counts_empty, counts_starts, counts_open, branch_empty, branch_starts, may_be_empty, starts}
use Rattle.format_checker.specs.Clashes.{clash_at, item_clash, branch_clash, group_clash, form_clash, first_clash}
use Rattle.format_checker.specs.Decided.{starts_then, after}
use Rattle.format_checker.specs.Meeting.{meets, meets_some, sooner, first_meeting}
use Rattle.format_checker.specs.Shown.{at_of}
use Rattle.format_checker.proofs.Both.{cut-at}

-- the same looks meet both lists
pub record Same (ls ms : List Look) : Type 0 where
  pub meet : (p : Look) → meets_some p ls ≡ meets_some p ms

-- the items of a branch from a place on begin with these looks, and may all be empty or not
pub record Ahead (op : OpDef) (anchor : Option ℕ) (i : ℕ) (rest : List Element) (near : List Look)
    (all_empty : Bool) : Type 0 where
  pub starts : Same near (branch_starts op anchor i rest)
  pub empty : all_empty ≡ branch_empty op anchor i rest

meets-both : (p : Look) (ls ms : List Look)
    → meets_some p (ls ++ ms) ≡ (meets_some p ls || meets_some p ms)
meets-both p ls ms = list_any-append (meets p) ls ms

or-swap : (a b : Bool) → (a || b) ≡ (b || a)
or-swap true true = refl
or-swap true false = refl
or-swap false true = refl
or-swap false false = refl

pub same-self : (ls : List Look) → Same ls ls
same-self ls = record { meet = λ p. refl }

-- put together
same-both : (ls ms ns os : List Look) → Same ls ms → Same ns os → Same (ls ++ ns) (ms ++ os)
same-both ls ms ns os x y = record {
  meet = λ p.
      meets-both p ls ns
      ∙ ap (λ b. b || meets_some p ns) (x.meet p)
      ∙ ap (λ b. meets_some p ms || b) (y.meet p)
      ∙ sym (meets-both p ms os);
}

same-swap : (ls ms : List Look) → Same (ls ++ ms) (ms ++ ls)
same-swap ls ms = record {
  meet = λ p.
      meets-both p ls ms ∙ or-swap (meets_some p ls) (meets_some p ms) ∙ sym (meets-both p ms ls);
}

same-through : (ls ms ns : List Look) → Same ls ms → Same ms ns → Same ls ns
same-through ls ms ns x y = record { meet = λ p. x.meet p ∙ y.meet p }

same-if : (b : Bool) (ls ms : List Look) → Same ls ms
    → Same (if b then ls else []) (if b then ms else [])
same-if true ls ms x = x
same-if false ls ms x = same-self []

same-is : (ls ms ns : List Look) → ls ≡ ms → Same ms ns → Same ls ns
same-is ls ms ns e x = record { meet = λ p. ap (meets_some p) e ∙ x.meet p }

-- what was gathered, with the looks of one element more
pub gathered : (b : Bool) (own near new rest : List Look) → Same near rest
    → new ≡ (if b then near else []) ++ own → Same new (own ++ (if b then rest else []))
gathered b own near new rest x e =
    same-is new ((if b then near else []) ++ own) (own ++ (if b then rest else [])) e
    (same-through ((if b then near else []) ++ own) ((if b then rest else []) ++ own)
    (own ++ (if b then rest else []))
    (same-both (if b then near else []) (if b then rest else []) own own (same-if b near rest x)
    (same-self own))
    (same-swap (if b then rest else []) own))

-- behind the last item
pub ahead-end : (op : OpDef) (anchor : Option ℕ) (i : ℕ) → Ahead op anchor i [] [] true
ahead-end op anchor i = record { starts = same-self []; empty = refl }

-- one item more
pub ahead-more : (op : OpDef) (anchor : Option ℕ) (i : ℕ) (e : Element) (rest : List Element)
    (near new : List Look) (all_empty : Bool) → Ahead op anchor (i + 1) rest near all_empty
    → new ≡ (if counts_empty op (is_anchor anchor i) (kind_of e) then near else [])
    ++ counts_starts op (is_anchor anchor i) (kind_of e)
    → Ahead op anchor i (e ∷ rest) new
    (counts_empty op (is_anchor anchor i) (kind_of e) && all_empty)
ahead-more op anchor i e rest near new all_empty x put = record {
  starts =
      gathered (counts_empty op (is_anchor anchor i) (kind_of e))
      (counts_starts op (is_anchor anchor i) (kind_of e)) near new
      (branch_starts op anchor (i + 1) rest) x.starts put;
  empty = ap (λ b. counts_empty op (is_anchor anchor i) (kind_of e) && b) x.empty;
}

-- with what comes behind the branch
pub ahead-then : (op : OpDef) (anchor : Option ℕ) (i : ℕ) (rest : List Element)
    (near behind : List Look) (all_empty : Bool) → Ahead op anchor i rest near all_empty
    → Same (near ++ (if all_empty then behind else [])) (starts_then op anchor i rest behind)
ahead-then op anchor i rest near behind all_empty x =
    same-both near (branch_starts op anchor i rest) (if all_empty then behind else [])
    (if branch_empty op anchor i rest then behind else []) x.starts
    (record { meet = λ p. ap (λ b. meets_some p (if b then behind else [])) x.empty })

-- ---- what is told doesn't hang on the order of the others

pub meeting-same : (own ls ms : List Look) → Same ls ms
    → first_meeting own ls ≡ first_meeting own ms
meeting-same [] ls ms x = refl
meeting-same (p ∷ own) ls ms x =
    ap (λ b. if b then Some (sooner p (first_meeting own ls)) else first_meeting own ls) (x.meet p)
    ∙ ap (λ r. if meets_some p ms then Some (sooner p r) else r) (meeting-same own ls ms x)

pub item-same : (op : OpDef) (anchor : Bool) (k : Kind) (ls ms : List Look) → Same ls ms
    → item_clash op anchor k ls ≡ item_clash op anchor k ms
item-same op anchor k ls ms x =
    ap (λ r. option_or r (if counts_empty op anchor k
    then first_meeting (counts_starts op anchor k) ls else None))
    (meeting-same (counts_open op anchor k) ls ms x)
    ∙ ap (λ r. option_or (first_meeting (counts_open op anchor k) ms)
    (if counts_empty op anchor k then r else None))
    (meeting-same (counts_starts op anchor k) ls ms x)

then-same : (op : OpDef) (anchor : Option ℕ) (i : ℕ) (es : List Element) (ls ms : List Look)
    → Same ls ms → Same (starts_then op anchor i es ls) (starts_then op anchor i es ms)
then-same op anchor i es ls ms x =
    same-both (branch_starts op anchor i es) (branch_starts op anchor i es)
    (if branch_empty op anchor i es then ls else []) (if branch_empty op anchor i es then ms else [])
    (same-self (branch_starts op anchor i es)) (same-if (branch_empty op anchor i es) ls ms x)

branch-same : (op : OpDef) (anchor : Option ℕ) (i : ℕ) (es : List Element) (ls ms : List Look)
    → Same ls ms → branch_clash op anchor i es ls ≡ branch_clash op anchor i es ms
branch-same op anchor i [] ls ms x = refl
branch-same op anchor i (e ∷ es) ls ms x =
    ap (λ r. option_or (clash_at (at_of e) r) (branch_clash op anchor (i + 1) es ls))
    (item-same op (is_anchor anchor i) (kind_of e) (starts_then op anchor (i + 1) es ls)
    (starts_then op anchor (i + 1) es ms) (then-same op anchor (i + 1) es ls ms x))
    ∙ ap (λ r. option_or (clash_at (at_of e) (item_clash op (is_anchor anchor i) (kind_of e)
    (starts_then op anchor (i + 1) es ms))) r) (branch-same op anchor (i + 1) es ls ms x)

group-same : (op : OpDef) (first otherwise : List Element) (anchor : ℕ) (ls ms : List Look)
    → Same ls ms → group_clash op first otherwise anchor ls ≡ group_clash op first otherwise anchor ms
group-same op first otherwise anchor ls ms x =
    ap (λ r. option_or (first_meeting (branch_starts op (Some anchor) 0 first)
    (branch_starts op None 0 otherwise)) (if branch_empty op None 0 otherwise then r else None))
    (meeting-same (branch_starts op (Some anchor) 0 first) ls ms x)

pub form-same : (op : OpDef) (at : ℕ) (k : Kind) (ls ms : List Look) → Same ls ms
    → form_clash op at k ls ≡ form_clash op at k ms
form-same op at (ElementKind-F.Group first otherwise anchor) ls ms x =
    ap (λ r. option_or (clash_at at r) (option_or (branch_clash op (Some anchor) 0 first ls)
    (branch_clash op None 0 otherwise ls))) (group-same op first otherwise anchor ls ms x)
    ∙ ap (λ r. option_or (clash_at at (group_clash op first otherwise anchor ms))
    (option_or r (branch_clash op None 0 otherwise ls))) (branch-same op (Some anchor) 0 first ls ms x)
    ∙ ap (λ r. option_or (clash_at at (group_clash op first otherwise anchor ms))
    (option_or (branch_clash op (Some anchor) 0 first ms) r)) (branch-same op None 0 otherwise ls ms x)
form-same op at k ls ms x = ap (clash_at at) (item-same op false k ls ms x)

-- ---- loops from the right

-- the first of a branch, with one item more
pub branch-more : (op : OpDef) (anchor : Option ℕ) (items : List Element) (behind : List Look)
    (at : ℕ) (e : Element) (near new : List Look) (all_empty : Bool) (found : Option Clash)
    (look : Option Look) → 0 < at → at ≤ length items → e ≡ get_or items (at - 1) e
    → Ahead op anchor at (drop at items) near all_empty
    → found ≡ branch_clash op anchor at (drop at items) behind
    → look ≡ item_clash op (is_anchor anchor (at - 1)) (kind_of e)
    (near ++ (if all_empty then behind else []))
    → option_or (clash_at (at_of e) look) found
    ≡ branch_clash op anchor (at - 1) (drop (at - 1) items) behind
branch-more op anchor items behind at e near new all_empty found look some le is ahead so told =
    let next : at - 1 + 1 ≡ at = omega arith in
    let cut = cut-at items (at - 1) e (omega arith) is in
    ap (λ l. option_or (clash_at (at_of e) l) found) told
    ∙ ap (λ l. option_or (clash_at (at_of e) l) found)
    (item-same op (is_anchor anchor (at - 1)) (kind_of e) (near ++ (if all_empty then behind else []))
    (starts_then op anchor at (drop at items) behind)
    (ahead-then op anchor at (drop at items) near behind all_empty ahead))
    ∙ ap (option_or (clash_at (at_of e) (item_clash op (is_anchor anchor (at - 1)) (kind_of e)
    (starts_then op anchor at (drop at items) behind)))) so
    ∙ ap (λ n. option_or (clash_at (at_of e) (item_clash op (is_anchor anchor (at - 1)) (kind_of e)
    (starts_then op anchor n (drop n items) behind)))
    (branch_clash op anchor n (drop n items) behind)) (sym next)
    ∙ ap (λ l. branch_clash op anchor (at - 1) l behind) (sym cut)

-- what is ahead, with one item more
pub ahead-back : (op : OpDef) (anchor : Option ℕ) (items : List Element) (at : ℕ) (e : Element)
    (near new : List Look) (all_empty : Bool) → 0 < at → at ≤ length items
    → e ≡ get_or items (at - 1) e → Ahead op anchor at (drop at items) near all_empty
    → new ≡ (if counts_empty op (is_anchor anchor (at - 1)) (kind_of e) then near else [])
    ++ counts_starts op (is_anchor anchor (at - 1)) (kind_of e)
    → Ahead op anchor (at - 1) (drop (at - 1) items) new
    (counts_empty op (is_anchor anchor (at - 1)) (kind_of e) && all_empty)
ahead-back op anchor items at e near new all_empty some le is ahead put =
    let next : at - 1 + 1 ≡ at = omega arith in
    let cut = cut-at items (at - 1) e (omega arith) is in
    subst (λ l. Ahead op anchor (at - 1) l new
    (counts_empty op (is_anchor anchor (at - 1)) (kind_of e) && all_empty)) (sym cut)
    (ahead-more op anchor (at - 1) e (drop (at - 1 + 1) items) near new all_empty
    (subst (λ n. Ahead op anchor n (drop n items) near all_empty) (sym next) ahead) put)

-- the first of a format, with one element more
pub clash-more : (op : OpDef) (es : List Element) (follow : List Look) (at : ℕ) (e : Element)
    (next : List Look) (found own : Option Clash) → 0 < at → at ≤ length es
    → e ≡ get_or es (at - 1) e → Same next (after op (drop at es) follow)
    → found ≡ first_clash op (drop at es) follow
    → own ≡ form_clash op (at_of e) (kind_of e) next
    → option_or own found ≡ first_clash op (drop (at - 1) es) follow
clash-more op es follow at e next found own some le is same so told =
    let back : at - 1 + 1 ≡ at = omega arith in
    let cut = cut-at es (at - 1) e (omega arith) is in
    ap (λ o. option_or o found) (told
    ∙ form-same op (at_of e) (kind_of e) next (after op (drop at es) follow) same)
    ∙ ap (option_or (form_clash op (at_of e) (kind_of e) (after op (drop at es) follow))) so
    ∙ ap (λ n. option_or (form_clash op (at_of e) (kind_of e) (after op (drop n es) follow))
    (first_clash op (drop n es) follow)) (sym back)
    ∙ ap (λ l. first_clash op l follow) (sym cut)

-- what comes next, with one element more
pub next-more : (op : OpDef) (es : List Element) (follow : List Look) (at : ℕ) (e : Element)
    (next new : List Look) → 0 < at → at ≤ length es → e ≡ get_or es (at - 1) e
    → Same next (after op (drop at es) follow)
    → new ≡ (if may_be_empty op (kind_of e) then next else []) ++ starts op (kind_of e)
    → Same new (after op (drop (at - 1) es) follow)
next-more op es follow at e next new some le is same put =
    let back : at - 1 + 1 ≡ at = omega arith in
    let cut = cut-at es (at - 1) e (omega arith) is in
    subst (λ l. Same new (after op l follow)) (sym cut)
    (gathered (may_be_empty op (kind_of e)) (starts op (kind_of e)) next new
    (after op (drop (at - 1 + 1) es) follow)
    (subst (λ n. Same next (after op (drop n es) follow)) (sym back) same) put)
