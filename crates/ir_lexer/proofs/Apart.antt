-- When a spelling ends where the next byte stands, and that the text of pieces which do so has
-- their tokens.
use Rattle.std.proofs.Common.{◌≡◌, ◌≢◌, ◌⊎◌, inl, inr, ℕ, suc, ◌+◌, ◌-◌, ◌<◌, ◌≤◌, Bool, true, false, ◌&&◌, ◌||◌, not, List, [], ◌∷◌, ◌++◌, length, take, drop, get_or, refl, sym, ◌∙◌, ap, subst, arith, nat_eq, eqb-true, lit<, if◌then◌else◌, ◌==◌, slice_index, length-append, drop_of_length-le}
use Rattle.std.proofs.Math.Seq.{take-append-add, take-append_seam, drop-append_seam}
use Rattle.std.proofs.lemmas.List.{drop-drop}
use Rattle.std.specs.List.{list_all}
use Rattle.ir_lexer.specs.declared.class.Class.{Class}
use Rattle.ir_lexer.specs.declared.class.Class.TheVariants as c
use Rattle.ir_lexer.specs.declared.table.TheConstants.{COLUMNS, STATES, START}
use Rattle.ir_lexer.specs.Signs.{tab, line_feed, carriage_return, space, slash}
use Rattle.ir_lexer.specs.Spelling.{Text, never, Fits, Spells, spelling}
use Rattle.ir_lexer.specs.Tokens.{Token, is_blank, layout_len, NoneFrom, IsFront, IsNext, AreTokensFrom}
use Rattle.ir_lexer.specs.Scan.{step, next, column, is_whole, class_at}
use Rattle.ir_lexer.specs.Classes.{same_class}
use Rattle.ir_lexer.specs.Written.{EndsAt, NoneLonger, Piece, IsGap, text_of_pieces, AreApart, placed, may_join}
use Rattle.ir_lexer.proofs.Derive.{behind, behind-in, behind-alike, and-both}
use Rattle.ir_lexer.proofs.Longest.{none-empty}
use Rattle.ir_lexer.proofs.Machine.{run, run-dead, run-within, accepted, same, same-is, upto, below, samples, classes, every, column-within, like-sample, same-class-refl}

-- ---- classes that end at a column of bytes

-- no state of the class goes on with the column
abbrev pub ends : Class → ℕ → Bool
ends class k =
    upto STATES (λ s. not (is_whole s && same_class (class_at s) class) || nat_eq (next s k) 0)

-- no spelling of the class begins with the column
abbrev pub begins_not : Class → ℕ → Bool
begins_not class k = same (behind (get_or samples k 0) (spelling class)) never

-- no spelling of the one goes on with a byte that begins one of the other
abbrev pub are_apart : Class → Class → Bool
are_apart a b = upto COLUMNS (λ k. begins_not b k || ends a k)

-- from a true `not a || b`, where a is true, b is
pub implied : (a b : Bool) → (not a || b) ≡ true → a ≡ true → b ≡ true
implied true b e f = e
implied false b e f = absurd (cc)

-- one side of a true `||` is true
pub or-either : (a b : Bool) → (a || b) ≡ true → (a ≡ true) ⊎ (b ≡ true)
or-either true b e = inl refl
or-either false b e = inr e

-- the table goes on behind a text with its next byte
pub run-on : (t u : Text) (s b : ℕ) → run s (t ++ b ∷ u) ≡ run (step (run s t) b) u
run-on [] u s b = refl
run-on (x ∷ t) u s b = run-on t u (step s x) b

-- where no spelling goes on, none is whole
pub not-whole : is_whole 0 ≡ true → ⊥
unfolding is_whole
not-whole e = absurd (cc)

stops : (class : Class) (b s : ℕ) → s < STATES → ends class (column b) ≡ true → is_whole s ≡ true
    → class_at s ≡ class → step s b ≡ 0
unfolding step
stops class b s h e w is =
    let both : (is_whole s && same_class (class_at s) class) ≡ true =
    and-both _ _ w (subst (λ x. same_class x class ≡ true) (sym is) (same-class-refl class)) in
    eqb-true _ _ (implied _ _ (below STATES
    (λ x. not (is_whole x && same_class (class_at x) class) || nat_eq (next x (column b)) 0) e s h)
    both)

-- a byte of such a column ends every spelling of the class
pub ends-at : (class : Class) (b : ℕ) (rest : Text) → ends class (column b) ≡ true
    → EndsAt class (b ∷ rest)
ends-at class b rest e t u other f g =
    let a = accepted class t f in
    let w : is_whole (run START (t ++ b ∷ u)) ≡ true = (accepted other (t ++ b ∷ u) g).0 in
    let dead : step (run START t) b ≡ 0 =
    stops class b (run START t) (run-within t START (lit< tt)) e a.0 a.1 in
    not-whole (sym (ap is_whole (run-on t u START b ∙ ap (λ s. run s u) dead ∙ run-dead u)) ∙ w)

-- so does a spelling of a class that is apart from it
apart-ends : (a b : Class) (text rest : Text) → are_apart a b ≡ true → Spells b text
    → EndsAt a (text ++ rest)
unfolding Spells
apart-ends a b [] rest e f = absurd (none-empty b f)
apart-ends a b (x ∷ text) rest e f =
    let k = column x in
    let test : (begins_not b k || ends a k) ≡ true =
    below COLUMNS (λ k. begins_not b k || ends a k) e k (column-within x) in
    ends-at a x (text ++ rest) (second (begins_not b k) (ends a k) test (begins b x text f))
  where
    second : (p q : Bool) → (p || q) ≡ true → (p ≡ true → ⊥) → q ≡ true
    second true q e f = absurd (f refl)
    second false q e f = e

    begins : (b : Class) (x : ℕ) (text : Text) → Fits (spelling b) (x ∷ text)
        → begins_not b (column x) ≡ true → ⊥
    begins b x text f e =
        subst (λ r. Fits r text)
        (behind-alike x _ (spelling b) (like-sample x b) ∙ same-is _ _ e)
        (behind-in (spelling b) x text f)

-- by classes alone, all pairs but those of `may_join` are apart
others-apart : list_all (λ a. list_all (λ b. may_join a b || are_apart a b) classes) classes ≡ true
unfolding is_whole class_at same_class
others-apart = refl

-- no spelling of the first class goes on with one of the second, where the two may stand together
pub apart-where : (a b : Class) (text rest : Text) → may_join a b ≡ false → Spells b text
    → EndsAt a (text ++ rest)
apart-where a b text rest e f =
    apart-ends a b text rest (second (may_join a b) (are_apart a b) e
    (every (λ y. may_join a y || are_apart a y)
    (every (λ x. list_all (λ y. may_join x y || are_apart x y) classes) others-apart a) b)) f
  where
    second : (p q : Bool) → p ≡ false → (p || q) ≡ true → q ≡ true
    second true q e f = absurd (cc)
    second false q e f = f

-- ---- blanks

-- no spelling goes on with a blank
abbrev pub ends_by : ℕ → Bool
ends_by b = list_all (λ a. ends a (column b)) classes

which-blank : (P : ℕ → Type 0) (b : ℕ) → is_blank b ≡ true → P space → P line_feed → P tab
    → P carriage_return → P b
which-blank P b e s l t r =
    elim (or-either ((b == space) || (b == line_feed) || (b == tab)) (b == carriage_return) e) [
      | inr f ↦ subst P (sym (eqb-true b carriage_return f)) r
      | inl f ↦ elim (or-either ((b == space) || (b == line_feed)) (b == tab) f) [
        | inr g ↦ subst P (sym (eqb-true b tab g)) t
        | inl g ↦ elim (or-either (b == space) (b == line_feed) g) [
          | inl h ↦ subst P (sym (eqb-true b space h)) s
          | inr h ↦ subst P (sym (eqb-true b line_feed h)) l
        ]
      ]
    ]

blank-ends : (b : ℕ) → is_blank b ≡ true → ends_by b ≡ true
unfolding is_whole class_at same_class
blank-ends b e = which-blank (λ x. ends_by x ≡ true) b e refl refl refl refl

-- a blank ends every spelling
pub at-blank : (class : Class) (b : ℕ) (rest : Text) → is_blank b ≡ true → EndsAt class (b ∷ rest)
at-blank class b rest e =
    ends-at class b rest (every (λ a. ends a (column b)) (blank-ends b e) class)

-- so does a tail of blanks
pub at-tail : (class : Class) (tail : Text) → IsGap tail → EndsAt class tail
at-tail class [] h = tt
at-tail class (b ∷ tail) h = at-blank class b tail h.0

-- ---- the longest spelling

none-longer : (class other : Class) (text rest : Text) (m : ℕ) → Spells class text
    → EndsAt class rest → length text < m → m ≤ length (text ++ rest)
    → Spells other (take m (text ++ rest)) → ⊥
none-longer class other text [] m f e h k g = absurd (omega (arith, length-append text []))
none-longer class other text (b ∷ rest) m f e h k g =
    let j = m - length text - 1 in
    let is : m ≡ length text + suc j = omega arith in
    let same : take m (text ++ b ∷ rest) ≡ text ++ b ∷ take j rest =
    ap (λ n. take n (text ++ b ∷ rest)) is ∙ take-append-add text (b ∷ rest) (suc j) in
    e text (take j rest) other f (subst (Spells other) same g)

-- where a class ends at the rest, no spelling is longer
pub ends-longest : (class : Class) (text rest : Text) → Spells class text → EndsAt class rest
    → NoneLonger text rest
ends-longest class text rest f e m other h k g =
    none-longer class other text rest m f e (omega arith) k g

-- a spelling that none is longer than is the token at the front
pub stays : (class : Class) (text rest : Text) → Spells class text → NoneLonger text rest
    → IsFront (text ++ rest) class (length text)
unfolding IsFront
stays class [] rest f e = absurd (none-empty class f)
stays class (x ∷ text) rest f e = inl (record {
  within = (omega arith, omega (arith, length-append (x ∷ text) rest));
  spelled = subst (Spells class) (sym (take-append_seam (x ∷ text) rest)) f;
  longest = e;
})

spelled-there : (a : Class) (x y : Text) (n : ℕ) → Spells a x → NoneFrom n (x ++ y)
    → n ≤ length x → ⊥
spelled-there a x y n f none le =
    none (length x) a le (omega (arith, length-append x y))
    (subst (Spells a) (sym (take-append_seam x y)) f)

-- Where a spelling stands at the front, the token there has its length exactly where no spelling is
-- longer.
pub front-stays : (a : Class) (x y : Text) (class : Class) (n : ℕ) → Spells a x
    → IsFront (x ++ y) class n → n ≡ length x → NoneLonger x y
unfolding IsFront
front-stays a [] y class n f h e = absurd (none-empty a f)
front-stays a (b ∷ x) y class n f (inl h) e =
    subst (λ k. NoneFrom (k + 1) ((b ∷ x) ++ y)) e h.longest
front-stays a (b ∷ x) y class n f (inr h) e =
    absurd (spelled-there a (b ∷ x) y 0 f h.2 (omega arith))

-- where no longer spelling begins, the token at the front is the spelling
pub stays-front : (a : Class) (x y : Text) (class : Class) (n : ℕ) → Spells a x
    → IsFront (x ++ y) class n → NoneLonger x y → n ≡ length x
unfolding IsFront
stays-front a [] y class n f h none = absurd (none-empty a f)
stays-front a (b ∷ x) y class n f (inl h) none = elim (compared n (length (b ∷ x))) [
  | inl same ↦ same
  | inr (inl less) ↦ absurd (spelled-there a (b ∷ x) y (n + 1) f h.longest (omega arith))
  | inr (inr more) ↦ absurd (none n class (omega arith) h.within.1 h.spelled)
]
  where
    compared : (n m : ℕ) → (n ≡ m) ⊎ ((n < m) ⊎ (m < n))
    compared n m = grind arith
stays-front a (b ∷ x) y class n f (inr h) none =
    absurd (spelled-there a (b ∷ x) y 0 f h.2 (omega arith))

-- ---- layout

blank-stops : (b : ℕ) → (is_blank b ≡ true) ⊎ ((b == slash) ≡ true) → step START b ≡ 0
unfolding step
blank-stops b (inr e) = ap (step START) (eqb-true b slash e)
blank-stops b (inl e) = which-blank (λ x. step START x ≡ 0) b e refl refl refl refl

begins-token : (class : Class) (b : ℕ) (t : Text) → Spells class (b ∷ t) → step START b ≡ 0 → ⊥
begins-token class b t f e =
    not-whole (sym (ap is_whole (ap (λ s. run s t) e ∙ run-dead t)) ∙ (accepted class (b ∷ t) f).0)

no-layout-at : (b : ℕ) (t : Text) (p q : Bool) → is_blank b ≡ p → (b == slash) ≡ q
    → (step START b ≡ 0 → ⊥)
    → (if p then suc (layout_len false t)
    else (if q && (slice_index t 0 == slash) then suc (layout_len true t) else 0)) ≡ 0
no-layout-at b t true q e f h = absurd (h (blank-stops b (inl e)))
no-layout-at b t false true e f h = absurd (h (blank-stops b (inr f)))
no-layout-at b t false false e f h = refl

-- a spelling begins with no layout
pub no-layout : (class : Class) (text rest : Text) → Spells class text
    → layout_len false (text ++ rest) ≡ 0
no-layout class [] rest f = absurd (none-empty class f)
no-layout class (b ∷ text) rest f =
    no-layout-at b (text ++ rest) (is_blank b) (b == slash) refl refl (begins-token class b text f)

gap-then : (gap rest : Text) → IsGap gap → layout_len false rest ≡ 0
    → layout_len false (gap ++ rest) ≡ length gap
gap-then [] rest h e = e
gap-then (b ∷ gap) rest h e = rw h.0 (ap (λ n. suc n) (gap-then gap rest h.1 e))

gap-alone : (gap : Text) → IsGap gap → layout_len false gap ≡ length gap
gap-alone [] h = refl
gap-alone (b ∷ gap) h = rw h.0 (ap (λ n. suc n) (gap-alone gap h.1))

-- ---- the text of the pieces has their tokens

from-cons : (src : Text) (at : ℕ) (t : Token) (ts : List Token) → IsNext src at t → t.class ≢ c.End
    → AreTokensFrom src (t.place + length t.text) ts → AreTokensFrom src at (t ∷ ts)
from-cons src at t [] is other h = absurd h
from-cons src at t (u ∷ ts) is other h = (is, other, h)

no-end : (class : Class) (t : Text) → Spells class t → class ≢ c.End
unfolding Spells
no-end class t f e = subst (λ x. Fits (spelling x) t) e f

-- pieces that are apart are the tokens of their text
pub pieces-back : (ps : List Piece) (tail src : Text) (at : ℕ) → drop at src ≡ text_of_pieces ps tail
    → AreApart ps tail → AreTokensFrom src at (placed at ps tail)
unfolding IsFront
pieces-back [] tail src at e h =
    let len : layout_len false (drop at src) ≡ length tail =
    ap (layout_len false) e ∙ gap-alone tail h in
    let none : drop (at + length tail) src ≡ [] =
    sym (drop-drop (length tail) at src) ∙ ap (drop (length tail)) e
    ∙ drop_of_length-le tail (omega arith) in
    (record { place = ap (λ n. at + n) (sym len); text = refl; front = rw none (refl, refl) }, refl)
pieces-back (p ∷ ps) tail src at e (gap, spelled, ends, more) =
    let rest = text_of_pieces ps tail in
    let len : layout_len false (drop at src) ≡ length p.gap =
    ap (layout_len false) e
    ∙ gap-then p.gap (p.text ++ rest) gap (no-layout p.class p.text rest spelled) in
    let here : drop (at + length p.gap) src ≡ p.text ++ rest =
    sym (drop-drop (length p.gap) at src) ∙ ap (drop (length p.gap)) e
    ∙ drop-append_seam p.gap (p.text ++ rest) in
    let behind : drop (at + length p.gap + length p.text) src ≡ rest =
    sym (drop-drop (length p.text) (at + length p.gap) src) ∙ ap (drop (length p.text)) here
    ∙ drop-append_seam p.text rest in
    from-cons src at (record { class = p.class; text = p.text; place = at + length p.gap })
    (placed (at + length p.gap + length p.text) ps tail)
    (record {
      place = ap (λ n. at + n) (sym len);
      text = sym (ap (take (length p.text)) here ∙ take-append_seam p.text rest);
      front = subst (λ x. IsFront x p.class (length p.text)) (sym here)
          (stays p.class p.text rest spelled ends);
    })
    (no-end p.class p.text spelled)
    (pieces-back ps tail src (at + length p.gap + length p.text) behind more)
