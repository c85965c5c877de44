-- What holds of the source of a slice: it tells the text's tokens, each of which spells its class,
-- and a step of it goes to the next one.
use Rattle.std.proofs.Common.{◌≡◌, ◌≢◌, ℕ, suc, ◌+◌, ◌-◌, ◌≤◌, Bool, true, false, List, [], ◌∷◌, All, length, take, drop, refl, sym, ◌∙◌, ap, subst, inl, inr, arith, if◌then◌else◌, length-drop, length-take, Ok}
use Rattle.std.proofs.lemmas.List.Elements.{All-cons, All-nil}
use Rattle.ir_lexer.specs.declared.class.Class.{Class}
use Rattle.ir_lexer.specs.declared.class.Class.TheVariants as c
use Rattle.ir_lexer.specs.Spelling.{Text, Spells}
use Rattle.ir_lexer.specs.Tokens.{Token, layout_len, IsFront, IsNext, AreTokensFrom}
use Rattle.ir_lexer.specs.Scan.{next_token, tokens_from, tokens_behind}
use Rattle.ir_lexer.specs.Classes.{same_class}
use Rattle.ir_lexer.specs.Source.{IsToken, PlacesAscend, IsInOrder, Advances}
use Rattle.ir_lexer.specs.Reading.{token_shown}
use Rattle.ir_lexer.specs.declared.lexer.TheConstants.{TEXT_LIMIT}
use Rattle.ir_lexer.specs.declared.lexer.Token.{Token as Cut}
use Rattle.ir_lexer.specs.Slice.{source_at, Tells}
use Rattle.ir_lexer.proofs.Machine.{same-class-is}
use Rattle.ir_lexer.proofs.Next.{is_next, moves, not-end, same-tokens, all-behind, front-within}

spelled-by : (r text : Text) (class : Class) (place : ℕ) → text ≡ take (length text) r
    → IsFront r class (length text) → IsToken (record { class = class; text = text; place = place })
unfolding IsFront
spelled-by [] [] class place e f = inr (inr (f.0, refl))
spelled-by [] (x ∷ text) class place e f = absurd (cc f.1)
spelled-by (b ∷ r) text class place e (inl f) = inl (subst (Spells class) (sym e) f.spelled)
spelled-by (b ∷ r) text class place e (inr f) = inr (inl (f.0, f.1))

spelled : (src : Text) (at : ℕ) (t : Token) → IsNext src at t → IsToken t
spelled src at t n = spelled-by (drop t.place src) t.text t.class t.place n.text n.front

all-spelled : (src : Text) (at : ℕ) (t : Token) (ts : List Token) → AreTokensFrom src at (t ∷ ts)
    → All IsToken (t ∷ ts)
all-spelled src at t [] f = All-cons IsToken t [] (spelled src at t f.0) (All-nil IsToken)
all-spelled src at t (u ∷ ts) f =
    All-cons IsToken t (u ∷ ts) (spelled src at t f.0)
    (all-spelled src (t.place + length t.text) u ts f.2)

later-spelled : (src : Text) (at : ℕ) (t : Token) (ts : List Token) → AreTokensFrom src at (t ∷ ts)
    → All IsToken ts
later-spelled src at t [] f = All-nil IsToken
later-spelled src at t (u ∷ ts) f = all-spelled src (t.place + length t.text) u ts f.2

-- the text of the token that comes next spells its class
pub next-spells : (src : Text) (at : ℕ) → IsToken (next_token src at)
next-spells src at = spelled src at (next_token src at) (is_next src at)

-- so do the tokens behind it
pub behind-spell : (src : Text) (at : ℕ) → All IsToken (tokens_behind src (next_token src at))
behind-spell src at = later-spelled src at (next_token src at) _ (all-behind src at)

-- and is no longer than what is left
pub next-short : (src : Text) (at : ℕ)
    → length (next_token src at).text ≤ length src - (next_token src at).place
next-short src at =
    let t = next_token src at in
    let n = is_next src at in
    let within : length t.text ≤ length (drop t.place src) = front-within _ _ _ n.front in
    omega (arith, length-drop t.place src)

next-of : (src : Text) (at : ℕ) (t : Token) (ts : List Token) → AreTokensFrom src at (t ∷ ts)
    → IsNext src at t
next-of src at t [] f = f.0
next-of src at t (u ∷ ts) f = f.0

-- the places of tokens that come one after another ascend
pub places-ascend : (src : Text) (at : ℕ) (t : Token) (ts : List Token)
    → AreTokensFrom src at (t ∷ ts) → PlacesAscend (t ∷ ts)
places-ascend src at t [] f = tt
places-ascend src at t (u ∷ ts) f =
    let m = moves src at t f.0 f.1 in
    let n = next-of src (t.place + length t.text) u ts f.2 in
    (omega (arith, m, n.place), places-ascend src (t.place + length t.text) u ts f.2)

-- what always holds of a source holds of a text's tokens, from each place on
pub in-order : (src : Text) (at : ℕ) → IsInOrder (source_at src at)
in-order src at =
    let t = next_token src at in
    record {
      spells = next-spells src at;
      short = next-short src at;
      later_spell = behind-spell src at;
      ascend = λ ts e.
          let same : tokens_behind src t ≡ ts = cc in
          subst (λ (more : List Token). PlacesAscend (t ∷ more)) same
          (places-ascend src at t _ (all-behind src at));
    }

-- a source at the start of a text tells the text's tokens
pub tells : (src : Text) → length src ≤ TEXT_LIMIT → Tells (source_at src 0) src
tells src h = record {
  tokens = (tokens_behind src (next_token src 0), refl, all-behind src 0);
  steady = refl;
  faults = refl;
  origin = refl;
  left = omega arith;
  stopped = refl;
}

behind-end : (src : Text) (t : Token) (b : Bool) → same_class t.class c.End ≡ b → t.class ≡ c.End
    → (if b then [] else tokens_from (suc (length src)) src (t.place + length t.text)) ≡ []
behind-end src t true e f = refl
behind-end src t false e f = absurd (not-end t e f)

behind-other : (src : Text) (t : Token) (b : Bool) → same_class t.class c.End ≡ b → t.class ≢ c.End
    → (if b then [] else tokens_from (suc (length src)) src (t.place + length t.text))
    ≡ tokens_from (suc (length src)) src (t.place + length t.text)
behind-other src t true e f = absurd (f (same-class-is _ _ e))
behind-other src t false e f = refl

-- a step at the end changes nothing
pub at_end : (src : Text) (from : ℕ) → (next_token src from).class ≡ c.End
    → Advances (source_at src from) (Ok tt) (source_at src from)
at_end src from e = record {
  faults = omega arith;
  cause = tt;
  less = λ h. absurd (h e);
  stays = λ h. refl;
  told = λ t ts h.
      let t0 = next_token src from in
      let none : tokens_behind src t0 ≡ [] = behind-end src t0 (same_class t0.class c.End) refl e in
      absurd (cc (none, h));
  origin = refl;
  steady = λ h. h;
  goes_on = refl;
  stops = tt;
}

-- the tokens behind one are the next one and those behind that
behind-from : (src : Text) (t : Token) (at : ℕ) → t.class ≢ c.End → at ≡ t.place + length t.text
    → tokens_behind src t ≡ next_token src at ∷ tokens_behind src (next_token src at)
behind-from src t at other is =
    let n : ℕ = suc (length src) in
    let all : tokens_behind src t ≡ tokens_from n src (t.place + length t.text) =
    behind-other src t (same_class t.class c.End) refl other in
    let more : tokens_from n src at ≡ tokens_from (suc n) src at =
    same-tokens n (suc n) src at (omega arith) (omega arith) in
    all ∙ ap (tokens_from n src) (sym is) ∙ more

-- a step from another token goes to the one that comes next behind it
pub goes-to : (src : Text) (from at : ℕ) → (next_token src from).class ≢ c.End
    → at ≡ (next_token src from).place + length (next_token src from).text
    → Advances (source_at src from) (Ok tt) (source_at src at)
goes-to src from at other is =
    let t0 = next_token src from in
    let m = moves src from t0 (is_next src from) other in
    let n : (next_token src at).place ≡ at + layout_len false (drop at src) =
    (is_next src at).place in
    record {
      faults = omega arith;
      cause = tt;
      less = λ h. (omega (arith, m), omega (arith, m));
      stays = λ h. absurd (other h);
      told = λ t ts h.
          let same = behind-from src t0 at other is in
          (cc (same, h), cc (same, h));
      origin = refl;
      steady = λ h. h;
      goes_on = refl;
      stops = tt;
    }

-- the end of a token of the code is that of its text
pub end-is : (src : Text) (now : Cut) (t : Token) → token_shown src now ≡ t
    → (now.start ≤ now.end) × (now.end ≤ length src) → now.end ≡ t.place + length t.text
end-is src now t e h =
    let start : now.start ≡ t.place = ap (λ x. x.place) e in
    let len : length (take (now.end - now.start) (drop now.start src)) ≡ length t.text =
    ap (λ x. length x.text) e in
    omega
    (arith, h, length-take (now.end - now.start) (drop now.start src), length-drop now.start src)
