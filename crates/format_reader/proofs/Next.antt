-- The tokens that the code finds are those of the text, and a text has no others.
--
-- Each token but `End` takes a byte, so as many turns as there are bytes, and one, give all tokens
-- (`all-tokens`). Of prefixes that spell a class there is one longest, so a text has one list of
-- tokens (`one-list`).
use Rattle.std.proofs.Common.{◌≡◌, ◌≢◌, ℕ, zero, suc, ◌+◌, ◌-◌, ◌<◌, ◌≤◌, Bool, true, false, ◌&&◌, List, [], ◌∷◌, length, take, drop, refl, sym, ◌∙◌, ap, subst, inl, inr, ◌⊎◌, arith, if◌then◌else◌, length-take, length-drop, Some}
use Rattle.std.specs.List.{prefix_len}
use Rattle.std.specs.Prelude.{slice_range}
use Rattle.ir_lexer.specs.declared.class.Class.{Class}
use Rattle.ir_lexer.specs.declared.class.Class.TheVariants as c
use Rattle.ir_lexer.specs.declared.lexer.Token.{Token as Cut}
use Rattle.ir_lexer.specs.Classes.{same_class}
use Rattle.ir_lexer.specs.Spelling.{Text}
use Rattle.ir_lexer.specs.Tokens.{Token}
use Rattle.ir_lexer.proofs.Machine.{same-class-is, same-class-refl}
use Rattle.grammar.specs.Looks.{any_of, passes}
use Rattle.format_reader.specs.Ran.{HasToken}
use Rattle.format_reader.specs.Spelling.{class_of}
use Rattle.format_reader.specs.Tokens.{is_blank, NoneBeyond, IsFront, IsNext, AreTokensFrom, AreTokens}
use Rattle.format_reader.specs.Scan.{front, cut, next_token, tokens_from, tokens_behind, tokens_at}
use Rattle.format_reader.proofs.Fronts.{is-front}

-- for a token of the code
pub cut-is : (src : Text) (at start len : ℕ) (class : Class)
    → start ≡ at + prefix_len is_blank (drop at src)
    → (class, len) ≡ front (drop start src)
    → cut src start (class, start + len - start) ≡ next_token src at
unfolding next_token
cut-is src at start len class e f =
    let n : start + len - start ≡ len = omega arith in
    ap (λ x. cut src start (class, x)) n
    ∙ ap (cut src start) f
    ∙ ap (λ x. cut src x (front (drop x src))) e

-- a token of the code ends where its text does
pub shown-end : (src : Text) (t : Cut) → t.start ≤ t.end → t.end ≤ length src
    → t.end ≡ t.start + length (slice_range src t.start t.end)
shown-end src t le within =
    omega (arith, length-take (t.end - t.start) (drop t.start src), length-drop t.start src)

-- a token of the class of the end passes its look
pub end-passes : (t : Token) → t.class ≡ c.End → passes (any_of c.End) t ≡ true
end-passes t e =
    ap (λ x. same_class x c.End && true) e ∙ ap (λ b. b && true) (same-class-refl c.End)

-- the token at the front lies in the text
front-within : (t : Text) (class : Class) (n : ℕ) → IsFront t class n → n ≤ length t
unfolding IsFront
front-within [] class n f = omega arith
front-within (b ∷ t) class n (inl f) = f.within.1
front-within (b ∷ t) class n (inr f) = omega arith

front-moves : (t : Text) (class : Class) (n : ℕ) → IsFront t class n → class ≢ c.End → 0 < n
unfolding IsFront
front-moves [] class n f h = absurd (h f.0)
front-moves (b ∷ t) class n (inl f) h = f.within.0
front-moves (b ∷ t) class n (inr f) h = omega arith

taken : (t : Text) → length (take (front t).1 t) ≡ (front t).1
taken t =
    let h : (front t).1 ≤ length t = front-within t _ _ (is-front t) in
    omega (arith, length-take (front t).1 t)

-- what the scan gives comes next
is-next : (src : Text) (at : ℕ) → IsNext src at (next_token src at)
unfolding next_token
is-next src at =
    let t = drop (at + prefix_len is_blank (drop at src)) src in
    record {
      place = refl;
      text = rw (taken t) refl;
      front = subst (IsFront t (front t).0) (sym (taken t)) (is-front t);
    }

-- a token that isn't the end has a byte, and lies in the text
moves : (src : Text) (at : ℕ) (t : Token) → IsNext src at t → t.class ≢ c.End
    → (0 < length t.text) × (t.place + length t.text ≤ length src)
moves src at t h other =
    let more : 0 < length t.text = front-moves _ _ _ h.front other in
    let within : length t.text ≤ length (drop t.place src) = front-within _ _ _ h.front in
    (more, omega (arith, length-drop t.place src))

-- a class that compares as another one than the end is another
pub not-end : (t : Token) → same_class t.class c.End ≡ false → t.class ≢ c.End
not-end t e f = absurd (cc (ap (λ x. same_class x c.End) f, same-class-refl c.End))

go-on : (src : Text) (at n : ℕ) (t : Token) → IsNext src at t → (b : Bool)
    → same_class t.class c.End ≡ b → length src - at < suc n
    → ((to : ℕ) → length src - to < n → AreTokensFrom src to (tokens_from n src to))
    → AreTokensFrom src at (t ∷ (if b then [] else tokens_from n src (t.place + length t.text)))
go-on src at n t is true e h rest = (is, same-class-is _ _ e)
go-on src at zero t is false e h rest =
    let m = moves src at t is (not-end t e) in
    absurd (omega (arith, m, is.place))
go-on src at (suc n) t is false e h rest =
    let m = moves src at t is (not-end t e) in
    (is, not-end t e, rest (t.place + length t.text) (omega (arith, m, is.place)))

-- enough turns give all tokens
all-tokens : (n : ℕ) (src : Text) (at : ℕ) → length src - at < n
    → AreTokensFrom src at (tokens_from n src at)
all-tokens zero src at h = absurd (omega arith)
all-tokens (suc n) src at h =
    go-on src at n (next_token src at) (is-next src at)
    (same_class (next_token src at).class c.End) refl h (λ to. all-tokens n src to)

same-on : (src : Text) (at n m : ℕ) (t : Token) → IsNext src at t → (b : Bool)
    → same_class t.class c.End ≡ b → length src - at < suc n → length src - at < suc m
    → ((to : ℕ) → length src - to < n → length src - to < m
    → tokens_from n src to ≡ tokens_from m src to)
    → (if b then [] else tokens_from n src (t.place + length t.text))
    ≡ (if b then [] else tokens_from m src (t.place + length t.text))
same-on src at n m t is true e h k rest = refl
same-on src at n m t is false e h k rest =
    let p = moves src at t is (not-end t e) in
    rest (t.place + length t.text) (omega (arith, p, is.place)) (omega (arith, p, is.place))

-- more turns than enough change nothing
same-tokens : (n m : ℕ) (src : Text) (at : ℕ) → length src - at < n → length src - at < m
    → tokens_from n src at ≡ tokens_from m src at
same-tokens zero m src at h k = absurd (omega arith)
same-tokens (suc n) zero src at h k = absurd (omega arith)
same-tokens (suc n) (suc m) src at h k =
    let t = next_token src at in
    let last = same_class t.class c.End in
    ap (λ ts. t ∷ ts)
    (same-on src at n m t (is-next src at) last refl h k (λ to. same-tokens n m src to))

-- the tokens of the code are those of the text
pub all-at : (src : Text) → AreTokens src (tokens_at src 0)
all-at src = all-tokens (suc (suc (length src))) src 0 (omega arith)

behind-is : (src : Text) (t next : Token) (b : Bool) → b ≡ false
    → next ≡ next_token src (t.place + length t.text)
    → next ∷ tokens_behind src next
    ≡ (if b then [] else tokens_from (suc (length src)) src (t.place + length t.text))
behind-is src t next true other is = absurd (cc)
behind-is src t next false other is =
    let at = t.place + length t.text in
    rw is (same-tokens (suc (suc (length src))) (suc (length src)) src at (omega arith)
    (omega arith))

passes-end : (t : Token) (b : Bool) → passes (any_of c.End) t ≡ b → same_class t.class c.End ≡ b
passes-end t b e = first (same_class t.class c.End) ∙ e
  where
    first : (x : Bool) → x ≡ (x && true)
    first true = refl
    first false = refl

-- behind a token that isn't the end stand the tokens from its end on
pub advanced : (src : Text) (t next : Token) → passes (any_of c.End) t ≡ false
    → next ≡ next_token src (t.place + length t.text)
    → next ∷ tokens_behind src next ≡ tokens_behind src t
advanced src t next other is =
    behind-is src t next (same_class t.class c.End) (passes-end t false other) is

-- behind the end there are none
pub has-token : (src : Text) (t : Token) → HasToken (t ∷ tokens_behind src t)
has-token src t = record {
  is = refl;
  last = λ e. rw (passes-end t true e) refl;
}

-- ---- one list of tokens

-- two numbers
order : (n m : ℕ) → (n < m) ⊎ ((n ≡ m) ⊎ (m < n))
order n m = grind arith

none-other : (t : Text) (n m : ℕ) (class : Class) → NoneBeyond n t → n < m → m ≤ length t
    → class_of (take m t) ≡ Some class → ⊥
none-other t n m class none less le e = absurd (cc (none m less le, e))

-- the front of a text is one class and one length
one-front : (t : Text) (a b : Class) (n m : ℕ) → IsFront t a n → IsFront t b m → (a ≡ b) × (n ≡ m)
unfolding IsFront
one-front [] a b n m x y = (cc, cc)
one-front (u ∷ t) a b n m (inl x) (inl y) = elim (order n m) [
  | inl less ↦ absurd (none-other (u ∷ t) n m b x.longest less y.within.1 y.spelled)
  | inr (inl is) ↦ (some-is a b (sym x.spelled ∙ ap (λ k. class_of (take k (u ∷ t))) is ∙ y.spelled), is)
  | inr (inr less) ↦ absurd (none-other (u ∷ t) m n a y.longest less x.within.1 x.spelled)
]
  where
    some-is : (a b : Class) → Some a ≡ Some b → a ≡ b
    some-is a b e = cc
one-front (u ∷ t) a b n m (inl x) (inr y) =
    absurd (none-other (u ∷ t) 0 n a y.2 x.within.0 x.within.1 x.spelled)
one-front (u ∷ t) a b n m (inr x) (inl y) =
    absurd (none-other (u ∷ t) 0 m b x.2 y.within.0 y.within.1 y.spelled)
one-front (u ∷ t) a b n m (inr x) (inr y) = (cc, cc)

token-is : (t u : Token) → t.class ≡ u.class → t.text ≡ u.text → t.place ≡ u.place → t ≡ u
token-is t u e f g =
    ap (λ x. record { class = x; text = t.text; place = t.place }) e
    ∙ ap (λ x. record { class = u.class; text = x; place = t.place }) f
    ∙ ap (λ x. record { class = u.class; text = u.text; place = x }) g

-- one token comes next
one-next : (src : Text) (at : ℕ) (t u : Token) → IsNext src at t → IsNext src at u → t ≡ u
one-next src at t u x y =
    let place : t.place ≡ u.place = x.place ∙ sym y.place in
    let other = subst (λ p. IsFront (drop p src) u.class (length u.text)) (sym place) y.front in
    let both = one-front (drop t.place src) t.class u.class (length t.text) (length u.text) x.front
    other in
    token-is t u both.0
    (x.text ∙ ap (λ n. take n (drop t.place src)) both.1
    ∙ ap (λ p. take (length u.text) (drop p src)) place ∙ sym y.text) place

-- a text has one list of tokens
one-from : (src : Text) (at : ℕ) (ts us : List Token) → AreTokensFrom src at ts
    → AreTokensFrom src at us → ts ≡ us
one-from src at [] us x y = absurd x
one-from src at (t ∷ ts) [] x y = absurd y
one-from src at (t ∷ []) (u ∷ []) x y = ap (λ v. v ∷ []) (one-next src at t u x.0 y.0)
one-from src at (t ∷ []) (u ∷ w ∷ us) x y =
    let same = one-next src at t u x.0 y.0 in
    absurd (y.1 (ap (λ (v : Token). v.class) (sym same) ∙ x.1))
one-from src at (t ∷ v ∷ ts) (u ∷ []) x y =
    let same = one-next src at t u x.0 y.0 in
    absurd (x.1 (ap (λ (v : Token). v.class) same ∙ y.1))
one-from src at (t ∷ v ∷ ts) (u ∷ w ∷ us) x y =
    let same = one-next src at t u x.0 y.0 in
    let rest = subst (λ (k : Token). AreTokensFrom src (k.place + length k.text) (w ∷ us)) (sym same) y.2 in
    ap (λ k. k ∷ v ∷ ts) same
    ∙ ap (λ k. u ∷ k) (one-from src (t.place + length t.text) (v ∷ ts) (w ∷ us) x.2 rest)

pub one-list : (src : Text) (ts us : List Token) → AreTokens src ts → AreTokens src us → ts ≡ us
one-list src ts us x y = one-from src 0 ts us x y
