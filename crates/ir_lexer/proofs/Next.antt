-- The tokens that the scan finds are those of the text.
--
-- What comes next by the table comes next by the definition (`is_next`). Each token but `End` takes
-- a byte, so as many turns as there are bytes, and one, give all tokens (`all-tokens`).
use Rattle.std.proofs.Common.{◌≡◌, ◌≢◌, ℕ, zero, suc, ◌+◌, ◌-◌, ◌<◌, ◌≤◌, Bool, true, false, [], ◌∷◌, length, take, drop, refl, sym, ◌∙◌, ap, subst, inl, inr, arith, if◌then◌else◌, length-take, length-drop}
use Rattle.std.proofs.lemmas.List.{take_rest}
use Rattle.ir_lexer.specs.declared.class.Class.{Class}
use Rattle.ir_lexer.specs.declared.class.Class.TheVariants as c
use Rattle.ir_lexer.specs.Spelling.{Text, Fits, Spells, spelling}
use Rattle.ir_lexer.specs.declared.lexer.Token.{Token as Cut}
use Rattle.ir_lexer.specs.Reading.{token_shown}
use Rattle.ir_lexer.specs.Tokens.{Token, layout_len, IsFront, IsNext, AreTokensFrom}
use Rattle.ir_lexer.specs.Scan.{front, cut, next_token, tokens_from, tokens_behind}
use Rattle.ir_lexer.specs.Classes.{same_class}
use Rattle.ir_lexer.proofs.Machine.{same-class-is, same-class-refl}
use Rattle.ir_lexer.proofs.Longest.{is-front}

-- for a token of the code
pub cut-is : (src : Text) (at start len : ℕ) (class : Class)
    → start ≡ at + layout_len false (drop at src)
    → (class, len) ≡ front (take (length src - start) (drop start src))
    → cut src start (class, start + len - start) ≡ next_token src at
unfolding next_token
cut-is src at start len class e f =
    let n : start + len - start ≡ len = omega arith in
    ap (λ x. cut src start (class, x)) n
    ∙ ap (cut src start) f
    ∙ ap (λ t. cut src start (front t)) (take_rest src start)
    ∙ ap (λ x. cut src x (front (drop x src))) e

-- the token at the front lies in the text
pub front-within : (t : Text) (class : Class) (n : ℕ) → IsFront t class n → n ≤ length t
unfolding IsFront
front-within [] class n f = omega arith
front-within (b ∷ t) class n (inl f) = f.within.1
front-within (b ∷ t) class n (inr f) = omega arith

front-moves : (t : Text) (class : Class) (n : ℕ) → IsFront t class n → class ≢ c.End → 0 < n
unfolding IsFront
front-moves [] class n f h = absurd (h f.0)
front-moves (b ∷ t) class n (inl f) h = f.within.0
front-moves (b ∷ t) class n (inr f) h = omega arith

taken : (t : Text) → length (take (front t).1 t) ≡ (front t).1
taken t =
    let h : (front t).1 ≤ length t = front-within t _ _ (is-front t) in
    omega (arith, length-take (front t).1 t)

-- what the scan gives comes next
pub is_next : (src : Text) (at : ℕ) → IsNext src at (next_token src at)
unfolding next_token
is_next src at =
    let t = drop (at + layout_len false (drop at src)) src in
    record {
      place = refl;
      text = rw (taken t) refl;
      front = subst (IsFront t (front t).0) (sym (taken t)) (is-front t);
    }

-- a token that isn't the end has a byte, and lies in the text
pub moves : (src : Text) (at : ℕ) (t : Token) → IsNext src at t → t.class ≢ c.End
    → (0 < length t.text) × (t.place + length t.text ≤ length src)
moves src at t h other =
    let more : 0 < length t.text = front-moves _ _ _ h.front other in
    let within : length t.text ≤ length (drop t.place src) = front-within _ _ _ h.front in
    (more, omega (arith, length-drop t.place src))

-- a class that compares as another one than the end is another
pub not-end : (t : Token) → same_class t.class c.End ≡ false → t.class ≢ c.End
not-end t e f = absurd (cc (ap (λ x. same_class x c.End) f, same-class-refl c.End))

-- at `End` nothing is left
nothing-left : (r : Text) (class : Class) (n : ℕ) → IsFront r class n → class ≡ c.End → length r ≡ 0
unfolding IsFront Spells
nothing-left [] class n f e = refl
nothing-left (b ∷ r) class n (inl f) e =
    absurd (subst (λ x. Fits (spelling x) (take n (b ∷ r))) e f.spelled)
nothing-left (b ∷ r) class n (inr f) e = absurd (cc (f.0, e))

-- the end stands at the end of the text
pub next-end : (src : Text) (at : ℕ) (t : Cut) → token_shown src t ≡ next_token src at
    → (t.start ≤ t.end) × (t.end ≤ length src) → t.class ≡ c.End
    → t.start ≡ length src
next-end src at t is inside end =
    let n : IsNext src at (token_shown src t) = subst (IsNext src at) (sym is) (is_next src at) in
    let none : length (drop t.start src) ≡ 0 = nothing-left _ _ _ n.front end in
    omega (arith, length-drop t.start src)

go-on : (src : Text) (at n : ℕ) (t : Token) → IsNext src at t → (b : Bool)
    → same_class t.class c.End ≡ b → length src - at < suc n
    → ((to : ℕ) → length src - to < n → AreTokensFrom src to (tokens_from n src to))
    → AreTokensFrom src at (t ∷ (if b then [] else tokens_from n src (t.place + length t.text)))
go-on src at n t is true e h rest = (is, same-class-is _ _ e)
go-on src at zero t is false e h rest =
    let m = moves src at t is (not-end t e) in
    absurd (omega (arith, m, is.place))
go-on src at (suc n) t is false e h rest =
    let m = moves src at t is (not-end t e) in
    (is, not-end t e, rest (t.place + length t.text) (omega (arith, m, is.place)))

-- enough turns give all tokens
pub all-tokens : (n : ℕ) (src : Text) (at : ℕ) → length src - at < n
    → AreTokensFrom src at (tokens_from n src at)
all-tokens zero src at h = absurd (omega arith)
all-tokens (suc n) src at h =
    go-on src at n (next_token src at) (is_next src at)
    (same_class (next_token src at).class c.End) refl h (λ to. all-tokens n src to)

same-on : (src : Text) (at n m : ℕ) (t : Token) → IsNext src at t → (b : Bool)
    → same_class t.class c.End ≡ b → length src - at < suc n → length src - at < suc m
    → ((to : ℕ) → length src - to < n → length src - to < m
    → tokens_from n src to ≡ tokens_from m src to)
    → (if b then [] else tokens_from n src (t.place + length t.text))
    ≡ (if b then [] else tokens_from m src (t.place + length t.text))
same-on src at n m t is true e h k rest = refl
same-on src at n m t is false e h k rest =
    let p = moves src at t is (not-end t e) in
    rest (t.place + length t.text) (omega (arith, p, is.place)) (omega (arith, p, is.place))

-- more turns than enough change nothing
pub same-tokens : (n m : ℕ) (src : Text) (at : ℕ) → length src - at < n → length src - at < m
    → tokens_from n src at ≡ tokens_from m src at
same-tokens zero m src at h k = absurd (omega arith)
same-tokens (suc n) zero src at h k = absurd (omega arith)
same-tokens (suc n) (suc m) src at h k =
    let t = next_token src at in
    let last = same_class t.class c.End in
    ap (λ ts. t ∷ ts)
    (same-on src at n m t (is_next src at) last refl h k (λ to. same-tokens n m src to))

-- a token and those behind it are all tokens from a place on
pub all-behind : (src : Text) (at : ℕ)
    → AreTokensFrom src at (next_token src at ∷ tokens_behind src (next_token src at))
all-behind src at = all-tokens (suc (suc (length src))) src at (omega arith)
