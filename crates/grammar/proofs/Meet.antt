-- Looks that do not meet pass no token together, and each look passes some token.
--
-- Two looks that one token passes have its class, and its text fits both; the one fact to be found
-- is that the name of an integer type has no dot. So lists of looks that are apart keep tokens
-- apart.
use Rattle.std.proofs.Common.{◌≡◌, ◌≢◌, ℕ, zero, suc, ◌+◌, ◌<◌, length, take, drop, ap, codes, Bool, true, false, not, ◌&&◌, ◌||◌, ◌==◌, List, [], ◌∷◌, ◌++◌, ◌⊎◌, inl, inr, refl, sym, ◌∙◌, subst, arith, bytes_eq}
use denote.Enum.Bare.{same_true, true_same}
use Rattle.std.proofs.lemmas.List.{take-append-drop}
use Rattle.std.proofs.lemmas.Slice.Eq.{bytes_eq-Decides}
use Rattle.ir_lexer.specs.declared.class.Class.{Class}
use Rattle.ir_lexer.specs.declared.class.Class.TheVariants.{Word, Integer, End}
use Rattle.ir_lexer.specs.contracts.class.Class.{the_type}
use Rattle.ir_lexer.specs.Classes.{same_class}
use Rattle.ir_lexer.specs.Spelling.{Text}
use Rattle.ir_lexer.specs.Tokens.{Token}
use Rattle.grammar.specs.Looks.{has_dot, all_digits, is_width, is_width_after, is_integer_word, is_among, Look, any_of, word, other_word, int_word, dotted, undotted, number_to, class_of, text_fits, passes, texts_meet, looks_meet, any, meets_one, any_meet, apart}

-- both sides of a true `&&` are true
pub and-true : (a b : Bool) → (a && b) ≡ true → (a ≡ true) × (b ≡ true)
and-true true b e = (refl, e)
and-true false b e = absurd (cc)

-- one side of a true `||` is true
pub or-true : (a b : Bool) → (a || b) ≡ true → (a ≡ true) ⊎ (b ≡ true)
or-true true b e = inl refl
or-true false b e = inr e

-- a true second side makes `||` true
pub true-or : (a b : Bool) → b ≡ true → (a || b) ≡ true
true-or true b e = refl
true-or false b e = e

-- a true first side makes `||` true
pub or-first : (a b : Bool) → a ≡ true → (a || b) ≡ true
or-first a b e = rw e refl

-- a true `not` is of what is false
pub not-true : (a : Bool) → not a ≡ true → a ≡ false
not-true true e = absurd (cc)
not-true false e = refl

-- from a true `not a || b`, where a is true, b is
pub not-or : (a b : Bool) → (not a || b) ≡ true → a ≡ true → b ≡ true
not-or true b e h = e
not-or false b e h = absurd (cc)

-- what is false is not true
pub no-true : (a : Bool) → not a ≡ true → a ≡ true → ⊥
no-true true e h = absurd (cc)
no-true false e h = absurd (cc)

or-false : (a b : Bool) → (a || b) ≡ false → (a ≡ false) × (b ≡ false)
or-false true b e = absurd (cc)
or-false false b e = (refl, e)

-- texts that compare as equal are one
pub same-text : (v w : Text) → bytes_eq v w ≡ true → v ≡ w
same-text v w e = (bytes_eq-Decides v w).0 e

-- a text compares as equal with itself
pub text-same : (w : Text) → bytes_eq w w ≡ true
text-same w = (bytes_eq-Decides w w).1 refl

-- digits have no dot
digits-no-dot : (w : Text) → all_digits w ≡ true → has_dot w ≡ false
digits-no-dot [] e = refl
digits-no-dot (b ∷ w) e =
    let p = and-true _ (all_digits w) e in
    let h = digits-no-dot w p.1 in rw h grind arith

-- nor have two texts without one, put together
no-dot-append : (v w : Text) → has_dot v ≡ false → has_dot w ≡ false → has_dot (v ++ w) ≡ false
no-dot-append [] w p q = q
no-dot-append (b ∷ v) w p q = let u = or-false (b == 46) (has_dot v) p in
    let later = no-dot-append v w u.1 q in rw (u.0, later) refl

-- a width has no dot
width-no-dot : (w : Text) → is_width w ≡ true → has_dot w ≡ false
width-no-dot [] e = refl
width-no-dot (b ∷ w) e =
    digits-no-dot (b ∷ w) (and-true (all_digits (b ∷ w)) _ (and-true (not (b == 48)) _ e).1).0

-- nor has a prefix without one and a width
digits-after : (prefix w : Text) → has_dot prefix ≡ false → is_width_after prefix w ≡ true
    → has_dot w ≡ false
digits-after prefix w none e =
    let p = and-true (bytes_eq (take (length prefix) w) prefix) _ e in
    let front : take (length prefix) w ≡ prefix = same-text (take (length prefix) w) prefix p.0 in
    let parts = take-append-drop (length prefix) w in
    rw (sym parts)
    (no-dot-append (take (length prefix) w) (drop (length prefix) w) (rw front none)
    (width-no-dot (drop (length prefix) w) p.1))

-- the name of an integer type has no dot
int-no-dot : (w : Text) → is_integer_word w ≡ true → has_dot w ≡ false
int-no-dot w e = go (or-true (is_width_after (codes "i") w) _ e)
  where
    others : (is_width_after (codes "si") w ≡ true) ⊎ (is_width_after (codes "ui") w ≡ true)
        → has_dot w ≡ false
    others (inl h) = digits-after (codes "si") w refl h
    others (inr h) = digits-after (codes "ui") w refl h

    go : (is_width_after (codes "i") w ≡ true)
        ⊎ ((is_width_after (codes "si") w || is_width_after (codes "ui") w) ≡ true)
        → has_dot w ≡ false
    go (inl h) = digits-after (codes "i") w refl h
    go (inr h) = others (or-true (is_width_after (codes "si") w) _ h)

along : (q : Look) (v w : Text) → bytes_eq w v ≡ true → text_fits q w ≡ true → text_fits q v ≡ true
along q v w e y = subst (λ (u : Text). text_fits q u ≡ true) (same-text w v e) y

-- demands on a text that one text fits meet
both-fit : (p q : Look) (w : Text) → text_fits p w ≡ true → text_fits q w ≡ true
    → texts_meet p q ≡ true
both-fit (word v) q w x y = along q v w x y
both-fit p (word v) w x y = along p v w y x
both-fit int_word (dotted c) w x y = absurd (cc (int-no-dot w x, y))
both-fit (dotted c) int_word w x y = absurd (cc (int-no-dot w y, x))
both-fit (dotted c) (undotted d) w x y = absurd (no-true (has_dot w) y x)
both-fit (undotted c) (dotted d) w x y = absurd (no-true (has_dot w) x y)
both-fit p q w x y = refl

-- a class is the same as itself
pub same-self : (c : Class) → same_class c c ≡ true
unfolding same_class
same-self c = true_same the_type c c refl

-- classes that are the same as one are the same
classes : (a b c : Class) → same_class a b ≡ true → same_class a c ≡ true → same_class b c ≡ true
unfolding same_class
classes a b c x y = subst (λ (d : Class). same_class d c ≡ true) (same_true the_type tt a b x) y

-- looks that one token passes meet
pub meet : (p q : Look) (t : Token) → passes p t ≡ true → passes q t ≡ true → looks_meet p q ≡ true
meet p q t x y =
    let u = and-true (same_class t.class (class_of p)) (text_fits p t.text) x in
    let v = and-true (same_class t.class (class_of q)) (text_fits q t.text) y in
    let a = classes t.class (class_of p) (class_of q) u.0 v.0 in
    let b = both-fit p q t.text u.1 v.1 in rw (a, b) refl

-- a token that passes a look has its class
pub passes-class : (l : Look) (t : Token) → passes l t ≡ true → t.class ≡ class_of l
unfolding same_class
passes-class l t e =
    same_true the_type tt t.class (class_of l)
    (and-true (same_class t.class (class_of l)) (text_fits l t.text) e).0

-- a token that passes a look of another class isn't the end
pub before-end : (l : Look) (t : Token) → passes l t ≡ true → class_of l ≢ End → t.class ≢ End
before-end l t e other h = other (sym (passes-class l t e) ∙ h)

-- a word is not the end
pub word-before-end : Word ≢ End
word-before-end e = cc

meets-in : (p : Look) (qs : List Look) (t : Token) → passes p t ≡ true → any qs t ≡ true
    → meets_one p qs ≡ true
meets-in p [] t x y = absurd (cc)
meets-in p (q ∷ qs) t x y = go (or-true (passes q t) (any qs t) y) (meets-in p qs t x)
  where
    go : (passes q t ≡ true) ⊎ (any qs t ≡ true) → (any qs t ≡ true → meets_one p qs ≡ true)
        → (looks_meet p q || meets_one p qs) ≡ true
    go (inl h) again = or-first (looks_meet p q) (meets_one p qs) (meet p q t x h)
    go (inr h) again = true-or (looks_meet p q) (meets_one p qs) (again h)

-- lists of looks that one token passes meet
pub any-meets : (ps qs : List Look) (t : Token) → any ps t ≡ true → any qs t ≡ true
    → any_meet ps qs ≡ true
any-meets [] qs t x y = absurd (cc)
any-meets (p ∷ ps) qs t x y = go (or-true (passes p t) (any ps t) x) (λ h. any-meets ps qs t h y)
  where
    go : (passes p t ≡ true) ⊎ (any ps t ≡ true) → (any ps t ≡ true → any_meet ps qs ≡ true)
        → (meets_one p qs || any_meet ps qs) ≡ true
    go (inl h) again = or-first (meets_one p qs) (any_meet ps qs) (meets-in p qs t h y)
    go (inr h) again = true-or (meets_one p qs) (any_meet ps qs) (again h)

-- no token passes two lists that are apart
pub apart-sound : (ps qs : List Look) → apart ps qs ≡ true → (t : Token) → any ps t ≡ true
    → any qs t ≡ true → ⊥
apart-sound ps qs e t x y = no-true (any_meet ps qs) e (any-meets ps qs t x y)

-- one of two lists put together is passed where one of either is
pub any-append : (ps qs : List Look) (t : Token) → any (ps ++ qs) t ≡ (any ps t || any qs t)
any-append [] qs t = refl
any-append (p ∷ ps) qs t = go (passes p t) (any-append ps qs t)
  where
    go : (b : Bool) → any (ps ++ qs) t ≡ (any ps t || any qs t)
        → (b || any (ps ++ qs) t) ≡ ((b || any ps t) || any qs t)
    go true h = refl
    go false h = h

-- what passes the first list passes both together
pub in-left : (ps qs : List Look) (t : Token) → any ps t ≡ true → any (ps ++ qs) t ≡ true
in-left ps qs t x = any-append ps qs t ∙ or-first (any ps t) (any qs t) x

-- what passes the second list passes both together
pub in-right : (ps qs : List Look) (t : Token) → any qs t ≡ true → any (ps ++ qs) t ≡ true
in-right ps qs t x = any-append ps qs t ∙ true-or (any ps t) (any qs t) x

-- ---- each look passes some token

-- the length of all texts together
abbrev pub total : List Text → ℕ
total [] = 0
total (w ∷ ws) = length w + total ws

-- a text of n zeros
zeros : ℕ → Text
zeros zero = []
zeros (suc n) = 48 ∷ zeros n

zeros-length : (n : ℕ) → length (zeros n) ≡ n
unfolding zeros
zeros-length zero = refl
zeros-length (suc n) = ap (λ k. suc k) (zeros-length n)

shorter-differs : (t w : Text) (b : Bool) → bytes_eq t w ≡ b → length w < length t → b ≡ false
shorter-differs t w true e less = let same = ap length (same-text t w e) in absurd (omega arith)
shorter-differs t w false e less = refl

-- a text longer than some together is none of them
pub longer-is-none : (ws : List Text) (t : Text) → total ws < length t → is_among ws t ≡ false
longer-is-none [] t less = refl
longer-is-none (w ∷ ws) t less =
    let one = shorter-differs t w (bytes_eq t w) refl (omega arith) in
    let others = longer-is-none ws t (omega arith) in rw (one, others) refl

-- a text that is none of these
another : List Text → Text
another ws = zeros (suc (total ws))

another-is-none : (ws : List Text) → not (is_among ws (another ws)) ≡ true
unfolding another
another-is-none ws =
    rw (longer-is-none ws (zeros (suc (total ws)))
    (rw (zeros-length (suc (total ws))) (omega arith))) refl

-- a token that passes a look
pub a-token : Look → Token
a-token (any_of c) = record { class = c; text = []; place = 0 }
a-token (word w) = record { class = Word; text = w; place = 0 }
a-token (other_word ws) = record { class = Word; text = another ws; place = 0 }
a-token int_word = record { class = Word; text = codes "i1"; place = 0 }
a-token (dotted c) = record { class = c; text = 46 ∷ []; place = 0 }
a-token (undotted c) = record { class = c; text = []; place = 0 }
a-token (number_to n) = record { class = Integer; text = []; place = 0 }

-- that token passes the look
pub passes-some : (l : Look) → passes l (a-token l) ≡ true
unfolding a-token
passes-some (any_of c) = rw (same-self c) refl
passes-some (word w) = rw (same-self Word) (text-same w)
passes-some (other_word ws) = rw (same-self Word) (another-is-none ws)
passes-some int_word = rw (same-self Word) refl
passes-some (dotted c) = rw (same-self c) refl
passes-some (undotted c) = rw (same-self c) refl
passes-some (number_to n) = rw (same-self Integer) (grind arith)
