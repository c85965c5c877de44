-- Where no look meets another that may come next, one token decides.
use Rattle.std.proofs.Common.{◌≡◌, ℕ, ◌+◌, Bool, true, false, not, ◌||◌, List, [], ◌∷◌, refl, ◌∙◌, ap, Option, Some, None, if◌then◌else◌}
use Rattle.std.specs.Option.{option_or}
use Rattle.grammar.specs.Looks as grammar
use Rattle.dialect_defs.specs.declared.definition.OpDef.{OpDef}
use Rattle.dialect_defs.specs.declared.format.Element.{Element}
use Rattle.dialect_defs.specs.declared.format.ElementKind.TheOpen.{ElementKind-F}
use Rattle.format_checker.specs.declared.look.Look.{Look}
use Rattle.format_checker.specs.Clashes.{clash_at, item_clash, branch_clash, group_clash, form_clash, first_clash}
use Rattle.format_checker.specs.Columns.{Kind, kind_of, is_anchor, counts_empty, counts_starts, counts_open, branch_empty, branch_starts}
use Rattle.format_checker.specs.Decided.{apart, starts_then, after, is_clear, is_clear_branch, is_clear_group, is_clear_element, is_one_token}
use Rattle.format_checker.specs.Fits.{demand, looks}
use Rattle.format_checker.specs.Meeting.{meets, meets_some, sooner, first_meeting}
use Rattle.format_checker.specs.Shown.{at_of}
use Rattle.format_checker.proofs.Known.{and-both}
use Rattle.format_checker.proofs.Soundness.{or-none}

meets-one : (p : Look) (qs : List Look)
    → grammar.meets_one (demand p) (looks qs) ≡ meets_some p qs
meets-one p [] = refl
meets-one p (q ∷ qs) = ap (λ b. meets p q || b) (meets-one p qs)

none-meets : (own others : List Look) → first_meeting own others ≡ None
    → grammar.any_meet (looks own) (looks others) ≡ false
none-meets [] others e = refl
none-meets (p ∷ own) others e =
    ap (λ b. b || grammar.any_meet (looks own) (looks others)) (meets-one p others)
    ∙ go (meets_some p others) e (none-meets own others)
  where
    go : (b : Bool)
        → (if b then Some (sooner p (first_meeting own others)) else first_meeting own others) ≡ None
        → (first_meeting own others ≡ None → grammar.any_meet (looks own) (looks others) ≡ false)
        → (b || grammar.any_meet (looks own) (looks others)) ≡ false
    go true h later = absurd (cc)
    go false h later = later h

-- they are apart
none-apart : (own others : List Look) → first_meeting own others ≡ None → apart own others ≡ true
none-apart own others e = ap not (none-meets own others e)

-- where that is asked
asked-apart : (b : Bool) (own others : List Look)
    → (if b then first_meeting own others else None) ≡ None → (not b || apart own others) ≡ true
asked-apart true own others e = none-apart own others e
asked-apart false own others e = refl

no-clash : (at : ℕ) (l : Option Look) → clash_at at l ≡ None → l ≡ None
no-clash at None e = refl
no-clash at (Some l) e = absurd (cc)

item-decides : (op : OpDef) (anchor : Bool) (k : Kind) (next : List Look)
    → item_clash op anchor k next ≡ None → is_clear op anchor k next ≡ true
item-decides op anchor k next e =
    let h = or-none (first_meeting (counts_open op anchor k) next)
    (if counts_empty op anchor k then first_meeting (counts_starts op anchor k) next else None) e in
    and-both (apart (counts_open op anchor k) next)
    (not (counts_empty op anchor k) || apart (counts_starts op anchor k) next)
    (none-apart (counts_open op anchor k) next h.0)
    (asked-apart (counts_empty op anchor k) (counts_starts op anchor k) next h.1)

branch-decides : (op : OpDef) (anchor : Option ℕ) (i : ℕ) (es : List Element) (next : List Look)
    → branch_clash op anchor i es next ≡ None → is_clear_branch op anchor i es next ≡ true
branch-decides op anchor i [] next e = refl
branch-decides op anchor i (x ∷ es) next e =
    let behind = starts_then op anchor (i + 1) es next in
    let own = item_clash op (is_anchor anchor i) (kind_of x) behind in
    let h = or-none (clash_at (at_of x) own) (branch_clash op anchor (i + 1) es next) e in
    and-both (is_clear op (is_anchor anchor i) (kind_of x) behind)
    (is_clear_branch op anchor (i + 1) es next)
    (item-decides op (is_anchor anchor i) (kind_of x) behind (no-clash (at_of x) own h.0))
    (branch-decides op anchor (i + 1) es next h.1)

group-decides : (op : OpDef) (at : ℕ) (first otherwise : List Element) (anchor : ℕ)
    (next : List Look) → form_clash op at (ElementKind-F.Group first otherwise anchor) next ≡ None
    → is_clear_group op first otherwise anchor next ≡ true
group-decides op at first otherwise anchor next e =
    let own = branch_starts op (Some anchor) 0 first in
    let other = branch_starts op None 0 otherwise in
    let one = branch_clash op (Some anchor) 0 first next in
    let two = branch_clash op None 0 otherwise next in
    let h = or-none (clash_at at (group_clash op first otherwise anchor next)) (option_or one two) e in
    let g = or-none one two h.1 in
    let w = or-none (first_meeting own other)
    (if branch_empty op None 0 otherwise then first_meeting own next else None)
    (no-clash at (group_clash op first otherwise anchor next) h.0) in
    and-both (apart own other) _ (none-apart own other w.0)
    (and-both (not (branch_empty op None 0 otherwise) || apart own next) _
    (asked-apart (branch_empty op None 0 otherwise) own next w.1)
    (and-both (is_clear_branch op (Some anchor) 0 first next)
    (is_clear_branch op None 0 otherwise next) (branch-decides op (Some anchor) 0 first next g.0)
    (branch-decides op None 0 otherwise next g.1)))

form-decides : (op : OpDef) (at : ℕ) (k : Kind) (next : List Look)
    → form_clash op at k next ≡ None → is_clear_element op k next ≡ true
form-decides op at (ElementKind-F.Group first otherwise anchor) next e =
    group-decides op at first otherwise anchor next e
form-decides op at k next e =
    item-decides op false k next (no-clash at (item_clash op false k next) e)

-- one token decides in a format in which nothing clashes
pub format-decides : (op : OpDef) (es : List Element) (follow : List Look)
    → first_clash op es follow ≡ None → is_one_token op es follow ≡ true
format-decides op [] follow e = refl
format-decides op (x ∷ es) follow e =
    let next = after op es follow in
    let h = or-none (form_clash op (at_of x) (kind_of x) next) (first_clash op es follow) e in
    and-both (is_clear_element op (kind_of x) next) (is_one_token op es follow)
    (form-decides op (at_of x) (kind_of x) next h.0) (format-decides op es follow h.1)
