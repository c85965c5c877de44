-- The scan finds the longest spelling, by induction over the text. No class is looked at: that a
-- prefix spells one is that the table, run over it, ends in a whole state.
use Rattle.std.proofs.lemmas.Bool.{ne_eqb}
use Rattle.std.proofs.Common.{◌≡◌, ℕ, zero, suc, ◌+◌, ◌-◌, ◌<◌, ◌≤◌, Bool, true, false, [], ◌∷◌, length, take, drop, refl, sym, ◌∙◌, ap, subst, inl, inr, arith, if◌then◌else◌, ◌==◌, eqb-true, add-one, lit<, get_or, drop-cons, drop_of_length-le, ◌↔◌, Some, None}
use Rattle.ir_lexer.specs.declared.class.Class.{Class}
use Rattle.ir_lexer.specs.declared.class.Class.TheVariants as c
use Rattle.ir_lexer.specs.declared.table.TheConstants.{START}
use Rattle.ir_lexer.specs.Spelling.{Text, Spells}
use Rattle.ir_lexer.specs.Tokens.{NoneFrom, IsLongest, IsFront}
use Rattle.ir_lexer.specs.Scan.{step, is_whole, class_at, scan, front}
use Rattle.ir_lexer.proofs.Machine.{run, run-dead, accepted, spelled}

-- no more than n bytes lead to a whole state
abbrev pub NoWhole : ℕ → ℕ → Text → Type 0
NoWhole s n t = (m : ℕ) → n < m → m ≤ length t → is_whole (run s (take m t)) ≡ false

-- what a scan from a state finds, after whole and end
pub data Finds (s whole end at : ℕ) (t : Text) (r : ℕ × ℕ) : Type 0 where
  none : r ≡ (whole, end) → NoWhole s 0 t → Finds s whole end at t r
  some : (n : ℕ) → (0 < n) × (n ≤ length t) → r ≡ (run s (take n t), at + n)
      → is_whole (run s (take n t)) ≡ true → NoWhole s n t → Finds s whole end at t r

none-at-dead : (s b : ℕ) (t : Text) → step s b ≡ 0 → NoWhole s 0 (b ∷ t)
unfolding is_whole
none-at-dead s b t e zero h k = absurd (omega arith)
none-at-dead s b t e (suc m) h k =
    ap (λ x. is_whole (run x (take m t))) e ∙ ap is_whole (run-dead (take m t))

none-behind : (s b n : ℕ) (t : Text) → NoWhole (step s b) n t → NoWhole s (suc n) (b ∷ t)
none-behind s b n t f zero h k = absurd (omega arith)
none-behind s b n t f (suc m) h k = f m (omega arith) (omega arith)

none-here : (s b : ℕ) (t : Text) → is_whole (step s b) ≡ false → NoWhole (step s b) 0 t
    → NoWhole s 0 (b ∷ t)
none-here s b t e f zero h k = absurd (omega arith)
none-here s b t e f (suc zero) h k = e
none-here s b t e f (suc (suc m)) h k = f (suc m) (omega arith) (omega arith)

go-on : (s b whole end at : ℕ) (t : Text) (x y : ℕ) (r : ℕ × ℕ) (n : ℕ) → (0 < n) × (n ≤ length t)
    → r ≡ (run (step s b) (take n t), at + 1 + n) → is_whole (run (step s b) (take n t)) ≡ true
    → NoWhole (step s b) n t → Finds s whole end at (b ∷ t) r
go-on s b whole end at t x y r n w e i f =
    let same : at + 1 + n ≡ at + suc n = omega arith in
    some (suc n) (omega arith, omega arith) (e ∙ ap (λ z. (run (step s b) (take n t), z)) same) i
    (none-behind s b n t f)

at-byte : (s b whole end at : ℕ) (t : Text) (dead here : Bool) (r1 r2 : ℕ × ℕ)
    → (step s b == 0) ≡ dead → is_whole (step s b) ≡ here
    → Finds (step s b) (step s b) (at + 1) (at + 1) t r1 → Finds (step s b) whole end (at + 1) t r2
    → Finds s whole end at (b ∷ t) (if dead then (whole, end) else (if here then r1 else r2))
at-byte s b whole end at t true here r1 r2 d h f g = none refl (none-at-dead s b t (eqb-true _ _ d))
at-byte s b whole end at t false true r1 r2 d h (none e f) g =
    some 1 (lit< tt, omega arith) e h (none-behind s b 0 t f)
at-byte s b whole end at t false true r1 r2 d h (some n w e i f) g =
    go-on s b whole end at t 0 0 r1 n w e i f
at-byte s b whole end at t false false r1 r2 d h f (none e g) = none e (none-here s b t h g)
at-byte s b whole end at t false false r1 r2 d h f (some n w e i g) =
    go-on s b whole end at t 0 0 r2 n w e i g

-- the scan finds the longest whole spelling
pub finds : (t : Text) (s whole end at : ℕ) → Finds s whole end at t (scan s whole end at t)
finds [] s whole end at = none refl (λ m h k. absurd (omega arith))
finds (b ∷ t) s whole end at =
    at-byte s b whole end at t (step s b == 0) (is_whole (step s b)) _ _ refl refl
    (finds t (step s b) (step s b) (at + 1) (at + 1)) (finds t (step s b) whole end (at + 1))

-- where no prefix leads to a whole state, none spells a class
none-spells : (n : ℕ) (t : Text) → NoWhole START n t → NoneFrom (n + 1) t
none-spells n t f m class h k g = absurd (cc (f m (omega arith) k, (accepted class (take m t) g).0))

-- no class is spelled by the empty text
pub none-empty : (class : Class) → Spells class [] → ⊥
unfolding is_whole
none-empty class g = absurd (cc (accepted class [] g).0)

none-at-all : (t : Text) → NoWhole START 0 t → NoneFrom 0 t
none-at-all t f zero class h k g = none-empty class g
none-at-all t f (suc m) class h k g = none-spells 0 t f (suc m) class (omega arith) k g

longest-of : (t : Text) (n : ℕ) → (0 < n) × (n ≤ length t) → is_whole (run START (take n t)) ≡ true
    → NoWhole START n t → IsLongest t (class_at (run START (take n t))) n
longest-of t n w i f =
    record { within = w; spelled = spelled (take n t) i; longest = none-spells n t f }

front-of : (b : ℕ) (t : Text) (r : ℕ × ℕ) → Finds START 0 1 0 (b ∷ t) r
    → IsFront (b ∷ t) (class_at r.0) r.1
unfolding IsFront class_at
front-of b t r (none e f) = inr (ap (λ x. class_at x.0) e, ap (λ x. x.1) e, none-at-all (b ∷ t) f)
front-of b t r (some n w e i f) =
    let is : (run START (take n (b ∷ t)), n) ≡ r =
    sym (e ∙ ap (λ z. (run START (take n (b ∷ t)), z)) zero-plus) in
    inl (subst (λ x. IsLongest (b ∷ t) (class_at x.0) x.1) is (longest-of (b ∷ t) n w i f))
  where
    zero-plus : 0 + n ≡ n
    zero-plus = omega arith

-- what the scan finds is the token at the front
pub is-front : (t : Text) → IsFront t (front t).0 (front t).1
unfolding front IsFront
is-front [] = (refl, refl)
is-front (b ∷ t) = front-of b t (scan START 0 1 0 (b ∷ t)) (finds (b ∷ t) START 0 1 0)

-- ---- for the loop

-- behind the last byte, the scan has what it found
pub scan-end : (t : Text) (s whole end at : ℕ) → length t ≤ at
    → scan s whole end at (drop at t) ≡ (whole, end)
scan-end t s whole end at h = rw (drop_of_length-le t {i = at} h) refl

-- where no spelling goes on, it has what it found
pub scan-dead : (t : Text) (s whole end at : ℕ) → at < length t → step s (get_or t at 0) ≡ 0
    → scan s whole end at (drop at t) ≡ (whole, end)
scan-dead t s whole end at h e = rw (drop-cons t at 0, e) refl

-- each byte from one place to another leads from the state to itself
abbrev pub Stays : ℕ → ℕ → ℕ → Text → Type 0
Stays s from to t = (k : ℕ) → from ≤ k → k < to → step s (get_or t k 0) ≡ s

stays-less : (s from to : ℕ) (t : Text) → Stays s from to t → Stays s (from + 1) to t
stays-less s from to t f k h w = f k (omega arith) w

-- over such bytes the longest spelling grows, where the state is whole
pub stays-whole : (n : ℕ) (t : Text) (s from to : ℕ) → from + n ≡ to → to ≤ length t
    → (s ≡ 0 → ⊥) → is_whole s ≡ true → Stays s from to t
    → scan s s from from (drop from t) ≡ scan s s to to (drop to t)
stays-whole zero t s from to e h z w f =
    let same : from ≡ to = omega arith in ap (λ x. scan s s x x (drop x t)) same
stays-whole (suc n) t s from to e h z w f =
    let q : from + 1 + n ≡ to = omega arith in
    let b : step s (get_or t from 0) ≡ s = f from (omega arith) (omega arith) in
    let dead : (s == 0) ≡ false = ne_eqb s 0 z in
    let next = stays-whole n t s (from + 1) to q h z w (stays-less s from to t f) in
    rw (drop-cons t from 0 (omega arith), b, dead, w, add-one) (rw add-one at next)

-- and elsewhere it stays what it is
pub stays-part : (n : ℕ) (t : Text) (s whole end from to : ℕ) → from + n ≡ to → to ≤ length t
    → (s ≡ 0 → ⊥) → is_whole s ≡ false → Stays s from to t
    → scan s whole end from (drop from t) ≡ scan s whole end to (drop to t)
stays-part zero t s whole end from to e h z w f =
    let same : from ≡ to = omega arith in ap (λ x. scan s whole end x (drop x t)) same
stays-part (suc n) t s whole end from to e h z w f =
    let q : from + 1 + n ≡ to = omega arith in
    let b : step s (get_or t from 0) ≡ s = f from (omega arith) (omega arith) in
    let dead : (s == 0) ≡ false = ne_eqb s 0 z in
    let next = stays-part n t s whole end (from + 1) to q h z w (stays-less s from to t f) in
    rw (drop-cons t from 0 (omega arith), b, dead, w, add-one) (rw add-one at next)

-- one byte, and then such bytes, to a whole state
pub on-whole : (t : Text) (s s2 whole end at to : ℕ) → at < length t → (s2 ≡ 0 → ⊥)
    → s2 ≡ step s (get_or t at 0) → is_whole s2 ≡ true → at + 1 ≤ to → to ≤ length t
    → Stays s2 (at + 1) to t
    → scan s2 s2 to to (drop to t) ≡ scan s whole end at (drop at t)
on-whole t s s2 whole end at to h z e w from within f =
    let n : at + 1 + (to - (at + 1)) ≡ to = omega arith in
    let next = stays-whole (to - (at + 1)) t s2 (at + 1) to n within z w f in
    sym (rw (drop-cons t at 0 h, sym e, ne_eqb s2 0 z, w, add-one) (rw add-one at next))

-- or to another one
pub on-part : (t : Text) (s s2 whole end at to : ℕ) → at < length t → (s2 ≡ 0 → ⊥)
    → s2 ≡ step s (get_or t at 0) → is_whole s2 ≡ false → at + 1 ≤ to → to ≤ length t
    → Stays s2 (at + 1) to t
    → scan s2 whole end to (drop to t) ≡ scan s whole end at (drop at t)
on-part t s s2 whole end at to h z e w from within f =
    let n : at + 1 + (to - (at + 1)) ≡ to = omega arith in
    let next = stays-part (to - (at + 1)) t s2 whole end (at + 1) to n within z w f in
    sym (rw (drop-cons t at 0 h, sym e, ne_eqb s2 0 z, w, add-one) (rw add-one at next))

-- at the end of a text stands the end
pub front-end : (t : Text) → length t ≡ 0 → (c.End, 0) ≡ front t
unfolding front
front-end [] e = refl
front-end (b ∷ t) e = absurd (cc)

-- the scan from the start of a text that has bytes gives its front
pub front-found : (t : Text) (whole end : ℕ) → (length t ≡ 0 → ⊥)
    → (whole, end) ≡ scan START 0 1 0 t → (class_at whole, end) ≡ front t
unfolding front
front-found [] whole end h e = absurd (h refl)
front-found (b ∷ t) whole end h e = ap (λ r. (class_at r.0, r.1)) e

-- behind the last byte, the table stays where it is
pub run-end : (t : Text) (s at : ℕ) → length t ≤ at → run s (drop at t) ≡ s
run-end t s at h = rw (drop_of_length-le t {i = at} h) refl

-- the whole text spells the class of the state to which it leads, and no other
pub spells-where : (t : Text) (s : ℕ) (class : Class) → s ≡ run START t → is_whole s ≡ true
    → class ≡ class_at s
    → (other : Class) → (Some class ≡ Some other) ↔ Spells other t
spells-where t s class e w is other = (
  λ f. let same : class ≡ other = cc f in subst (λ x. Spells x t) same whole,
  λ f. ap (λ x. Some x) (is ∙ ap class_at e ∙ (accepted other t f).1),
)
  where
    whole : Spells class t
    whole = subst (λ x. Spells x t) (sym (is ∙ ap class_at e)) (spelled t (sym (ap is_whole e) ∙ w))

-- it spells none where that state isn't whole
pub spells-none : (t : Text) (s : ℕ) → s ≡ run START t → is_whole s ≡ false → (other : Class)
    → (None ≡ Some other) ↔ Spells other t
spells-none t s e w other = (
  λ f. absurd (cc f),
  λ f. absurd (cc ((accepted other t f).0, ap is_whole e, w)),
)
