-- Strings, symbols and names give their bytes back.
--
-- A fact on each byte is a test of it, and 256 of them compute at once.
use Rattle.std.proofs.Common.{◌≡◌, ℕ, ◌-◌, ◌<◌, ◌/◌, ◌%◌, ◌==◌, Bool, true, false, not, ◌&&◌, ◌||◌, [], ◌∷◌, ◌++◌, length, take, refl, sym, ◌∙◌, ap, cond, arith, length-append, if◌then◌else◌}
use Rattle.std.proofs.Math.Seq.{take-append_seam}
use Rattle.std.proofs.lemmas.Bool.{eqb-true}
use Rattle.grammar.specs.Looks.{has_dot}
use Rattle.grammar.proofs.Meet.{and-true, not-true}
use Rattle.ir_lexer.specs.Names.{items_bytes, literal_bytes, name_bytes, two_digits, is_short_escape}
use Rattle.ir_lexer.specs.Signs.{quote, backslash}
use Rattle.ir_lexer.specs.Spelling.{Text}
use Rattle.ir_lexer.proofs.Machine.{upto, below}
use Rattle.derived_printer.specs.Spelling.{is_shown, hex_digit, escaped_byte, escaped, string_text, symbol_text, is_bare_start, is_bare, name_sign, name_text}
use Rattle.derived_printer.specs.Spellable.{AreBytes, IsFullName}

-- ---- the bytes of a string

-- an escape of two digits names the byte
abbrev escape_is_right : ℕ → Bool
escape_is_right b =
    (two_digits (hex_digit (b / 16)) (hex_digit (b % 16)) == b)
    && not (is_short_escape (hex_digit (b / 16)))

all-escapes : upto 256 escape_is_right ≡ true
all-escapes = refl

no-backslash : (a x y : Bool) → (a && not (x || y)) ≡ true → y ≡ false
no-backslash true true y e = absurd (cc)
no-backslash true false true e = absurd (cc)
no-backslash true false false e = refl
no-backslash false x y e = absurd (cc)

plain-item : (a : ℕ) (t : Text) → (a == backslash) ≡ false → items_bytes (a ∷ t) ≡ a ∷ items_bytes t
plain-item a [] e = refl
plain-item a (b ∷ []) e = rw e refl
plain-item a (b ∷ d ∷ t) e = rw e refl

backslash-item : (t : Text) → items_bytes (backslash ∷ backslash ∷ t) ≡ backslash ∷ items_bytes t
backslash-item [] = refl
backslash-item (b ∷ t) = refl

hex-item : (a b : ℕ) (t : Text) → is_short_escape a ≡ false
    → items_bytes (backslash ∷ a ∷ b ∷ t) ≡ two_digits a b ∷ items_bytes t
hex-item a b t e = rw e refl

-- an item gives its byte back
item-back : (b : ℕ) (t : Text) → b < 256 → items_bytes (escaped_byte b ++ t) ≡ b ∷ items_bytes t
item-back b t lt = go (is_shown b) (b == backslash) refl refl
  where
    go : (p q : Bool) → is_shown b ≡ p → (b == backslash) ≡ q
        → items_bytes
        ((if p then b ∷ [] else (if q then backslash ∷ backslash ∷ [] else backslash ∷ hex_digit
        (b / 16) ∷ hex_digit (b % 16) ∷ [])) ++ t) ≡ b ∷ items_bytes t
    go true q e f = plain-item b t (no-backslash _ _ _ e)
    go false true e f = backslash-item t ∙ ap (λ k. k ∷ items_bytes t)
        (sym (eqb-true b backslash f))
    go false false e f = let h = and-true _ _ (below 256 escape_is_right all-escapes b lt) in
        hex-item (hex_digit (b / 16)) (hex_digit (b % 16)) t (not-true _ h.1)
        ∙ ap (λ k. k ∷ items_bytes t) (eqb-true _ b h.0)

escaped-back : (t : Text) → AreBytes t → items_bytes (escaped t) ≡ t
escaped-back [] h = refl
escaped-back (b ∷ t) (x, h) = item-back b (escaped t) x ∙ ap (λ k. b ∷ k) (escaped-back t h)

-- a string gives its bytes back
pub string-back : (t : Text) → AreBytes t → literal_bytes (string_text t) ≡ t
unfolding string_text
string-back t h = let e = escaped t in
    let n : length (quote ∷ (e ++ quote ∷ [])) - 2 ≡ length e =
    omega (arith, length-append e (quote ∷ [])) in
    ap (λ k. items_bytes (take k (e ++ quote ∷ []))) n
    ∙ ap items_bytes (take-append_seam e (quote ∷ [])) ∙ escaped-back t h

-- ---- names

-- behind a sign it is what it is
name-back : (sign : ℕ) (t : Text) → is_bare t ≡ true → name_bytes (sign ∷ t) ≡ t
name-back sign [] e = absurd (cc)
name-back sign (b ∷ t) e = go (b == quote) refl (and-true (is_bare_start b) _ e).0
  where
    go : (q : Bool) → (b == quote) ≡ q → is_bare_start b ≡ true
        → (if q then literal_bytes (b ∷ t) else (b ∷ t)) ≡ b ∷ t
    go true f e = let k : is_bare_start quote ≡ true = ap is_bare_start (sym (eqb-true b quote f))
        ∙ e in absurd (cc)
    go false f e = refl

quoted-back : (t : Text) → AreBytes t → name_bytes (64 ∷ string_text t) ≡ t
unfolding string_text
quoted-back t h = string-back t h

-- a symbol gives its name back
pub symbol-back : (t : Text) → AreBytes t → name_bytes (symbol_text t) ≡ t
unfolding symbol_text
symbol-back t h = go (is_bare t) refl
  where
    go : (b : Bool) → is_bare t ≡ b → name_bytes (64 ∷ cond b t (string_text t)) ≡ t
    go true e = name-back 64 t e
    go false e = quoted-back t h

-- ---- names of dialects' values

-- such a name has a dot
pub full-name-dotted : (is_type : Bool) (t : Text) → IsFullName t
    → has_dot (name_text is_type t) ≡ true
full-name-dotted true t n = n.dotted
full-name-dotted false t n = n.dotted

-- and gives the name back
pub full-name-back : (is_type : Bool) (t : Text) → IsFullName t
    → name_bytes (name_text is_type t) ≡ t
full-name-back is_type t n = name-back (name_sign is_type) t n.bare
