-- The tokens of a text.
--
-- Behind the layout, which is blanks and comments, a token is the longest prefix of the rest that
-- spells some class. Where no prefix does, it is `Bad`, one byte long; at the end it is `End`, of
-- length 0. A comment begins with two slashes and ends behind its line feed, or with the text.
--
--   layout_len false t      how many bytes of layout t begins with
--   IsFront t class n       the token at the front of t, which begins with no layout: its class,
--                           and how many bytes it has
--   IsNext src at token     the token that comes next from a place of src on
--   AreTokens src tokens       all tokens of src, up to and with `End`
use Rattle.std.specs.Prelude.{◌≡◌, ◌≢◌, ◌⊎◌, ℕ, suc, ◌+◌, ◌<◌, ◌≤◌, Bool, true, false, not, ◌&&◌, ◌||◌, List, [], ◌∷◌, length, take, drop, if◌then◌else◌, ◌==◌, slice_index}
use Rattle.ir_lexer.specs.declared.class.Class.{Class}
use Rattle.ir_lexer.specs.declared.class.Class.TheVariants as c
use Rattle.ir_lexer.specs.Signs.{tab, line_feed, carriage_return, space, slash}
use Rattle.ir_lexer.specs.Spelling.{Text, Spells}

-- a space, a line feed, a tab or a carriage return
abbrev pub is_blank : ℕ → Bool
is_blank b = (b == space) || (b == line_feed) || (b == tab) || (b == carriage_return)

-- How many bytes of layout a text begins with. The flag says that a comment has begun: then the
-- text up to and with the line feed is layout too.
abbrev pub layout_len : Bool → Text → ℕ
layout_len in_comment [] = 0
layout_len true (b ∷ t) = suc (layout_len (not (b == line_feed)) t)
layout_len false (b ∷ t) =
    if is_blank b then suc (layout_len false t)
    else (if (b == slash) && (slice_index t 0 == slash) then suc (layout_len true t) else 0)

-- a class, its spelling, and where it stands, in bytes from 0
pub record Token : Type 0 where
  pub class : Class
  pub text : Text
  pub place : ℕ

-- no prefix of n bytes or more spells a class
abbrev pub NoneFrom : ℕ → Text → Type 0
NoneFrom n t =
    (m : ℕ) (class : Class) → n ≤ m → m ≤ length t → Spells class (take m t) → ⊥

-- the first n bytes spell the class, and no longer prefix spells any
pub record IsLongest (t : Text) (class : Class) (n : ℕ) : Type 0 where
  pub within : (0 < n) × (n ≤ length t)
  pub spelled : Spells class (take n t)
  pub longest : NoneFrom (n + 1) t

-- the longest prefix that spells some class; `Bad` where none does; `End` at the end
unfoldable pub IsFront : Text → Class → ℕ → Type 0
IsFront [] class n = (class ≡ c.End) × (n ≡ 0)
IsFront (b ∷ t) class n =
    IsLongest (b ∷ t) class n ⊎ ((class ≡ c.Bad) × (n ≡ 1) × NoneFrom 0 (b ∷ t))

-- behind the layout at the place, the bytes of the token at the front of what is left
pub record IsNext (src : Text) (at : ℕ) (t : Token) : Type 0 where
  pub place : t.place ≡ at + layout_len false (drop at src)
  pub text : t.text ≡ take (length t.text) (drop t.place src)
  pub front : IsFront (drop t.place src) t.class (length t.text)

-- Each token comes next behind the one before it, the first one from the place on. The last one is
-- `End`, and no other one is.
abbrev pub AreTokensFrom : Text → ℕ → List Token → Type 0
AreTokensFrom src at [] = ⊥
AreTokensFrom src at (t ∷ []) = IsNext src at t × (t.class ≡ c.End)
AreTokensFrom src at (t ∷ u ∷ ts) =
    IsNext src at t × (t.class ≢ c.End) × AreTokensFrom src (t.place + length t.text) (u ∷ ts)

-- all tokens of a text, from its first byte on
abbrev pub AreTokens : Text → List Token → Type 0
AreTokens src ts = AreTokensFrom src 0 ts
