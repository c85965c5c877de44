-- A format whose elements are clear is decided by one token.
--
-- By the elements: the columns fit their pieces, so what the condition asks of columns holds of the
-- tokens. What comes behind the name of a value, the number of a result, is in no column; so no
-- column's looks, nor those of what follows, ask for it (`Plain`).
use Rattle.std.proofs.Common.{◌≡◌, ℕ, ◌+◌, Bool, true, false, not, ◌&&◌, ◌||◌, List, [], ◌∷◌, ◌++◌, Option, Some, None, refl, sym, ◌∙◌, ap, if◌then◌else◌}
use Rattle.ir_lexer.specs.declared.class.Class.{Class}
use Rattle.ir_lexer.specs.declared.class.Class.TheVariants as c
use Rattle.ir_lexer.specs.Classes.{same_class}
use Rattle.ir_lexer.specs.Tokens.{Token}
use Rattle.grammar.specs.Grammar.{nullable}
use Rattle.grammar.specs.Looks as grammar
use Rattle.grammar.specs.Looks.{any, any_of, passes}
use Rattle.grammar.proofs.Check.{checked, more-in}
use Rattle.grammar.proofs.Meet.{and-true, true-or, or-first, any-append, apart-sound, passes-class, same-self}
use Rattle.grammar.proofs.More.{Disjoint}
use Rattle.dialect_defs.specs.declared.definition.OpDef.{OpDef}
use Rattle.dialect_defs.specs.declared.format.Element.{Element}
use Rattle.dialect_defs.specs.declared.format.ElementKind.TheOpen.{ElementKind-F}
use Rattle.format_checker.specs.declared.look.Look.{Look}
use Rattle.format_checker.specs.Columns.{Kind, kind_of, is_anchor, is_spelled, column_starts, counts_empty, counts_starts, counts_open, branch_empty, branch_starts, may_be_empty, starts}
use Rattle.format_checker.specs.Decided.{apart, starts_then, after, follow, is_clear, is_clear_branch, is_clear_group, is_clear_element, is_one_token, is_sign, all_signs, element_signs, IsFullGroup, AreSound, shown_each}
use Rattle.format_checker.specs.Fits.{looks, AnchorFits, Fits}
use Rattle.format_checker.specs.Pieces.{inner_looks, inner_more_looks, piece, branch, shown}
use Rattle.format_checker.proofs.Clear.{Opens, Clear, Before, or-case, clear-less, clear-ret, clear-made, clear-both, clear-alt}
use Rattle.format_checker.proofs.Fitting.{fits}
use Rattle.format_checker.proofs.Groups.{any-both, branch-null, branch-begins, group-fits, no-anchor}

-- ---- no number of a result

-- none of these is the number of a result
abbrev pub Plain : List Look → Type 0
Plain ls = (t : Token) → passes (any_of c.ResultNumber) t ≡ true → any (looks ls) t ≡ true → ⊥

plain-by : (ls : List Look) → grammar.apart (any_of c.ResultNumber ∷ []) (looks ls) ≡ true → Plain ls
plain-by ls e t p q = apart-sound (any_of c.ResultNumber ∷ []) (looks ls) e t (rw p refl) q

plain-none : Plain []
plain-none t p q = absurd (cc)

plain-both : (ls ms : List Look) → Plain ls → Plain ms → Plain (ls ++ ms)
plain-both ls ms x y t p q =
    or-case (any (looks ls) t) (any (looks ms) t) (sym (any-both ls ms t) ∙ q) (x t p) (y t p)

plain-if : (b : Bool) (ls : List Look) → Plain ls → Plain (if b then ls else [])
plain-if true ls x = x
plain-if false ls x = plain-none

-- two classes of one token
one-class : (a b : Class) (t : Token) → passes (any_of a) t ≡ true → passes (any_of b) t ≡ true → a ≡ b
one-class a b t p q = sym (passes-class (any_of a) t p) ∙ passes-class (any_of b) t q

plain-sign : (class : Class) (t : Token) → not (same_class c.ResultNumber class) ≡ true
    → passes (any_of c.ResultNumber) t ≡ true → (passes (any_of class) t || false) ≡ true → ⊥
plain-sign class t e p q = or-case (passes (any_of class) t) false q
    (λ h. absurd (cc (e, ap (same_class c.ResultNumber) (one-class c.ResultNumber class t p h), same-self c.ResultNumber)))
    (λ h. absurd (cc h))

plain-column : (k : Kind) → is_sign k ≡ true → Plain (column_starts k)
unfolding same_class
plain-column (ElementKind-F.Word w) e = plain-by (column_starts (ElementKind-F.Word w)) refl
plain-column (ElementKind-F.Punct class) e = λ t p q. plain-sign class t e p q
plain-column ElementKind-F.Space e = plain-none
plain-column ElementKind-F.Newline e = plain-none
plain-column ElementKind-F.Empty e = plain-none
plain-column (ElementKind-F.Operand i) e = plain-by (column_starts (ElementKind-F.Operand i)) refl
plain-column (ElementKind-F.Attr i) e = plain-by (column_starts (ElementKind-F.Attr i)) refl
plain-column (ElementKind-F.Region i) e = plain-by (column_starts (ElementKind-F.Region i)) refl
plain-column (ElementKind-F.Successor i) e = plain-by (column_starts (ElementKind-F.Successor i)) refl
plain-column (ElementKind-F.SymbolName i) e = plain-by (column_starts (ElementKind-F.SymbolName i)) refl
plain-column (ElementKind-F.IntText i k) e = plain-by (column_starts (ElementKind-F.IntText i k)) refl
plain-column (ElementKind-F.Types a) e = plain-by (column_starts (ElementKind-F.Types a)) refl
plain-column (ElementKind-F.Functional a b) e = plain-by (column_starts (ElementKind-F.Functional a b)) refl
plain-column ElementKind-F.Dict e = plain-by (column_starts ElementKind-F.Dict) refl
plain-column ElementKind-F.DictKeyword e = plain-by (column_starts ElementKind-F.DictKeyword) refl
plain-column (ElementKind-F.Group first otherwise a) e = plain-none

pub plain-follow : (terminator : Bool) → Plain (follow terminator)
unfolding same_class
plain-follow true = plain-by (follow true) refl
plain-follow false = plain-by (follow false) refl

-- ---- single elements

apart-tokens : (ls ms : List Look) → apart ls ms ≡ true → Disjoint (any (looks ls)) (any (looks ms))
apart-tokens ls ms e t p q = apart-sound (looks ls) (looks ms) e t p q

-- a piece's tokens, where it may be left out
left-out : (b : Bool) (ls ms : List Look) → (not b || apart ls ms) ≡ true → (t : Token)
    → any (if b then looks ls else []) t ≡ true → any (looks ms) t ≡ true → ⊥
left-out true ls ms e t p q = apart-tokens ls ms e t p q
left-out false ls ms e t p q = absurd (cc)

item-clear : (op : OpDef) (anchor : Bool) (k : Kind) (next : List Look) → Fits op anchor k
    → is_clear op anchor k next ≡ true → Plain next → Clear (piece op anchor k) (any (looks next))
item-clear op anchor k next x e plain = record {
  checks = checked inner_looks inner_more_looks (piece op anchor k) x.decided;
  ends = λ t m q.
      let more = x.goes t (more-in inner_looks inner_more_looks (piece op anchor k) t m) in
      let both = and-true (apart (counts_open op anchor k) next) _ e in
      or-case (passes (any_of c.ResultNumber) t) _ more (λ h. plain t h q)
      (λ h. or-case (any (looks (counts_open op anchor k)) t)
      (any (if counts_empty op anchor k then looks (counts_starts op anchor k) else []) t)
      (sym (any-append (looks (counts_open op anchor k)) _ t) ∙ h)
      (λ u. apart-tokens (counts_open op anchor k) next both.0 t u q)
      (λ u. left-out (counts_empty op anchor k) (counts_starts op anchor k) next both.1 t u q));
}

-- ---- branches

module _ (op : OpDef) (anchor : Option ℕ) where
  plain-branch : (i : ℕ) (es : List Element) → all_signs es ≡ true → Plain (branch_starts op anchor i es)
  plain-branch i [] e = plain-none
  plain-branch i (x ∷ es) e =
      let both = and-true (is_sign (kind_of x)) (all_signs es) e in
      let a = is_anchor anchor i in
      plain-both (counts_starts op a (kind_of x))
      (if counts_empty op a (kind_of x) then branch_starts op anchor (i + 1) es else [])
      (plain-if (is_spelled op a (kind_of x)) (column_starts (kind_of x)) (plain-column (kind_of x) both.0))
      (plain-if (counts_empty op a (kind_of x)) (branch_starts op anchor (i + 1) es)
      (plain-branch (i + 1) es both.1))

  plain-then : (i : ℕ) (es : List Element) (next : List Look) → all_signs es ≡ true → Plain next
      → Plain (starts_then op anchor i es next)
  plain-then i es next e plain =
      plain-both (branch_starts op anchor i es) (if branch_empty op anchor i es then next else [])
      (plain-branch i es e) (plain-if (branch_empty op anchor i es) next plain)

  where-empty : (b : Bool) (ls : List Look) (t : Token) → (b && any (looks ls) t) ≡ true
      → any (looks (if b then ls else [])) t ≡ true
  where-empty true ls t e = e
  where-empty false ls t e = absurd (cc)

  branch-before : (i : ℕ) (es : List Element) (next : List Look) → AnchorFits anchor i es → (t : Token)
      → Before (branch op anchor i es) (any (looks next)) t ≡ true
      → any (looks (starts_then op anchor i es next)) t ≡ true
  branch-before i es next good t e =
      any-both (branch_starts op anchor i es) (if branch_empty op anchor i es then next else []) t
      ∙ or-case (Opens (branch op anchor i es) t)
      (nullable (branch op anchor i es) && any (looks next) t) e
      (λ h. or-first (any (looks (branch_starts op anchor i es)) t) _
      (sym (branch-begins op anchor i es t good) ∙ h))
      (λ h. true-or (any (looks (branch_starts op anchor i es)) t) _
      (where-empty (branch_empty op anchor i es) next t
      (ap (λ b. b && any (looks next) t) (sym (branch-null op anchor i es good)) ∙ h)))

  branch-clear : (i : ℕ) (es : List Element) (next : List Look) → AnchorFits anchor i es
      → all_signs es ≡ true → is_clear_branch op anchor i es next ≡ true → Plain next
      → Clear (branch op anchor i es) (any (looks next))
  branch-clear i [] next good signs e plain = clear-ret [] (any (looks next))
  branch-clear i (x ∷ es) next good signs e plain =
      let both = and-true (is_clear op (is_anchor anchor i) (kind_of x) (starts_then op anchor (i + 1) es next)) _ e in
      let sign = and-true (is_sign (kind_of x)) (all_signs es) signs in
      clear-both (piece op (is_anchor anchor i) (kind_of x)) (branch op anchor (i + 1) es)
      (any (looks next))
      (clear-less (Before (branch op anchor (i + 1) es) (any (looks next)))
      (any (looks (starts_then op anchor (i + 1) es next)))
      (branch-before (i + 1) es next good.1)
      (item-clear op (is_anchor anchor i) (kind_of x) (starts_then op anchor (i + 1) es next)
      (fits op (is_anchor anchor i) (kind_of x) good.0) both.0
      (plain-then (i + 1) es next sign.1 plain)))
      (branch-clear (i + 1) es next good.1 sign.1 both.1 plain)

-- ---- elements

shown-null : (op : OpDef) (k : Kind) → IsFullGroup op k → nullable (shown op k) ≡ may_be_empty op k
shown-null op (ElementKind-F.Group first otherwise anchor) x =
    (group-fits op first otherwise anchor x.0 x.1).empty
shown-null op k x = (fits op false k (λ h. absurd (cc h))).empty

shown-begins : (op : OpDef) (k : Kind) → IsFullGroup op k → (t : Token)
    → Opens (shown op k) t ≡ any (looks (starts op k)) t
shown-begins op (ElementKind-F.Group first otherwise anchor) x t =
    (group-fits op first otherwise anchor x.0 x.1).begins t
shown-begins op k x t = (fits op false k (λ h. absurd (cc h))).begins t

plain-element : (op : OpDef) (k : Kind) → element_signs k ≡ true → Plain (starts op k)
plain-element op (ElementKind-F.Group first otherwise anchor) e =
    let both = and-true (all_signs first) (all_signs otherwise) e in
    plain-both (branch_starts op (Some anchor) 0 first) (branch_starts op None 0 otherwise)
    (plain-branch op (Some anchor) 0 first both.0) (plain-branch op None 0 otherwise both.1)
plain-element op k e = plain-column k e

group-clear : (op : OpDef) (first otherwise : List Element) (anchor : ℕ) (next : List Look)
    → AnchorFits (Some anchor) 0 first → branch_empty op (Some anchor) 0 first ≡ false
    → all_signs first ≡ true → all_signs otherwise ≡ true
    → is_clear_group op first otherwise anchor next ≡ true → Plain next
    → Clear (shown op (ElementKind-F.Group first otherwise anchor)) (any (looks next))
group-clear op first otherwise anchor next good full signs others e plain =
    let some = Some anchor in
    let p = and-true (apart (branch_starts op some 0 first) (branch_starts op None 0 otherwise)) _ e in
    let q = and-true (not (branch_empty op None 0 otherwise) || apart (branch_starts op some 0 first) next) _ p.1 in
    let r = and-true (is_clear_branch op some 0 first next) _ q.1 in
    let none = no-anchor 0 otherwise in
    clear-alt _ _ (any (looks next))
    (clear-made (branch-clear op some 0 first next good signs r.0 plain))
    (clear-made (branch-clear op None 0 otherwise next none others r.1 plain))
    (branch-null op some 0 first good ∙ full)
    (λ t a b. apart-tokens (branch_starts op some 0 first) (branch_starts op None 0 otherwise) p.0 t
    (sym (branch-begins op some 0 first t good) ∙ a) (sym (branch-begins op None 0 otherwise t none) ∙ b))
    (λ empty t a b. left-out-of (branch_empty op None 0 otherwise)
    (sym (branch-null op None 0 otherwise none) ∙ empty) (branch_starts op some 0 first) next q.0 t
    (sym (branch-begins op some 0 first t good) ∙ a) b)
  where
    left-out-of : (b : Bool) → b ≡ true → (ls ms : List Look) → (not b || apart ls ms) ≡ true
        → (t : Token) → any (looks ls) t ≡ true → any (looks ms) t ≡ true → ⊥
    left-out-of true h ls ms e t p q = apart-tokens ls ms e t p q
    left-out-of false h ls ms e t p q = absurd (cc)

shown-clear : (op : OpDef) (k : Kind) (next : List Look) → IsFullGroup op k → element_signs k ≡ true
    → is_clear_element op k next ≡ true → Plain next → Clear (shown op k) (any (looks next))
shown-clear op (ElementKind-F.Group first otherwise anchor) next x signs e plain =
    let both = and-true (all_signs first) (all_signs otherwise) signs in
    group-clear op first otherwise anchor next x.0 x.1 both.0 both.1 e plain
shown-clear op k next x signs e plain =
    item-clear op false k next (fits op false k (λ h. absurd (cc h))) e plain

-- ---- formats

plain-after : (op : OpDef) (es : List Element) (next : List Look) → AreSound op es → Plain next
    → Plain (after op es next)
plain-after op [] next x plain = plain
plain-after op (e ∷ es) next x plain =
    plain-both (starts op (kind_of e))
    (if may_be_empty op (kind_of e) then after op es next else [])
    (plain-element op (kind_of e) x.1)
    (plain-if (may_be_empty op (kind_of e)) (after op es next) (plain-after op es next x.2 plain))

each-before : (op : OpDef) (es : List Element) (next : List Look) → AreSound op es → (t : Token)
    → Before (shown_each op es) (any (looks next)) t ≡ true → any (looks (after op es next)) t ≡ true
each-before op [] next x t h = h
each-before op (e ∷ es) next x t h =
    let k = kind_of e in
    any-both (starts op k) (if may_be_empty op k then after op es next else []) t
    ∙ split (Opens (shown op k) t) (nullable (shown op k)) (Opens (shown_each op es) t)
    (nullable (shown_each op es)) (any (looks next) t) (any (looks (starts op k)) t)
    (any (looks (if may_be_empty op k then after op es next else [])) t) h
    (λ a. sym (shown-begins op k x.0 t) ∙ a)
    (λ a b. later (may_be_empty op k) (sym (shown-null op k x.0) ∙ a) (after op es next)
    (each-before op es next x.2 t b))
  where
    split : (a n b m q l r : Bool) → ((a || (n && b)) || ((n && m) && q)) ≡ true
        → (a ≡ true → l ≡ true) → (n ≡ true → (b || (m && q)) ≡ true → r ≡ true) → (l || r) ≡ true
    split true n b m q l r h f g = or-first l r (f refl)
    split false true true m q l r h f g = true-or l r (g refl refl)
    split false true false true q l r h f g = true-or l r (g refl h)
    split false true false false q l r h f g = absurd (cc)
    split false false b m q l r h f g = absurd (cc)

    later : (b : Bool) → b ≡ true → (ls : List Look) → any (looks ls) t ≡ true
        → any (looks (if b then ls else [])) t ≡ true
    later true e ls h = h
    later false e ls h = absurd (cc)

-- a format whose elements are clear is so before what follows it
pub each-clear : (op : OpDef) (es : List Element) (next : List Look) → AreSound op es
    → is_one_token op es next ≡ true → Plain next → Clear (shown_each op es) (any (looks next))
each-clear op [] next x e plain = clear-ret [] (any (looks next))
each-clear op (y ∷ es) next x e plain =
    let both = and-true (is_clear_element op (kind_of y) (after op es next)) (is_one_token op es next) e in
    clear-both (shown op (kind_of y)) (shown_each op es) (any (looks next))
    (clear-less (Before (shown_each op es) (any (looks next))) (any (looks (after op es next)))
    (each-before op es next x.2)
    (shown-clear op (kind_of y) (after op es next) x.0 x.1 both.0 (plain-after op es next x.2 plain)))
    (each-clear op es next x.2 both.1 plain)
