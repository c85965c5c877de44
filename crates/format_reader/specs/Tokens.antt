-- The tokens of a format text.
--
-- Behind spaces, tabs and line feeds, a token is the longest prefix of the rest that spells a
-- class. Where no prefix does, it is `Bad`, one byte long; at the end it is `End`, of length 0.
--
--   IsFront t class n      the token at the front of t, which begins with no blank: its class, and
--                          how many bytes it has
--   IsNext src at token    the token that comes next from a place of src on
--   AreTokens src tokens   all tokens of src, up to and with `End`
--   is_token t             a token that a format text may have, by its class and its bytes
use Rattle.std.specs.Prelude.{◌≡◌, ◌≢◌, ◌⊎◌, ℕ, ◌+◌, ◌<◌, ◌≤◌, ◌==◌, Bool, false, ◌||◌, ◌&&◌, List, [], ◌∷◌, length, take, drop, Option, Some, None, nat_eq}
use Rattle.std.specs.List.{prefix_len}
use Rattle.ir_lexer.specs.declared.class.Class.{Class}
use Rattle.ir_lexer.specs.declared.class.Class.TheVariants as c
use Rattle.ir_lexer.specs.Classes.{same_class}
use Rattle.ir_lexer.specs.Signs.{tab, line_feed, space}
use Rattle.ir_lexer.specs.Spelling.{Text}
use Rattle.ir_lexer.specs.Tokens.{Token}
use Rattle.format_reader.specs.Spelling.{class_of}

-- a space, a tab or a line feed
abbrev pub is_blank : ℕ → Bool
is_blank b = (b == space) || (b == tab) || (b == line_feed)

-- no prefix of more than n bytes spells a class
abbrev pub NoneBeyond : ℕ → Text → Type 0
NoneBeyond n t = (m : ℕ) → n < m → m ≤ length t → class_of (take m t) ≡ None

-- the first n bytes spell the class, and no longer prefix spells any
pub record IsLongest (t : Text) (class : Class) (n : ℕ) : Type 0 where
  pub within : (0 < n) × (n ≤ length t)
  pub spelled : class_of (take n t) ≡ Some class
  pub longest : NoneBeyond n t

-- the longest prefix that spells some class; `Bad` where none does; `End` at the end
unfoldable pub IsFront : Text → Class → ℕ → Type 0
IsFront [] class n = (class ≡ c.End) × (n ≡ 0)
IsFront (b ∷ t) class n =
    IsLongest (b ∷ t) class n ⊎ ((class ≡ c.Bad) × (n ≡ 1) × NoneBeyond 0 (b ∷ t))

-- behind the blanks at the place, the bytes of the token at the front of what is left
pub record IsNext (src : Text) (at : ℕ) (t : Token) : Type 0 where
  pub place : t.place ≡ at + prefix_len is_blank (drop at src)
  pub text : t.text ≡ take (length t.text) (drop t.place src)
  pub front : IsFront (drop t.place src) t.class (length t.text)

-- Each token comes next behind the one before it, the first one from the place on. The last one is
-- `End`, and no other one is.
abbrev pub AreTokensFrom : Text → ℕ → List Token → Type 0
AreTokensFrom src at [] = ⊥
AreTokensFrom src at (t ∷ []) = IsNext src at t × (t.class ≡ c.End)
AreTokensFrom src at (t ∷ u ∷ ts) =
    IsNext src at t × (t.class ≢ c.End) × AreTokensFrom src (t.place + length t.text) (u ∷ ts)

-- all tokens of a text, from its first byte on
abbrev pub AreTokens : Text → List Token → Type 0
AreTokens src ts = AreTokensFrom src 0 ts

-- the class is the one there is
abbrev pub is_class : Option Class → Class → Bool
is_class None class = false
is_class (Some found) class = same_class found class

-- its bytes spell its class; `Bad` has one, and the end none
abbrev pub is_token : Token → Bool
is_token t =
    is_class (class_of t.text) t.class
    || ((same_class t.class c.Bad && nat_eq (length t.text) 1)
    || (same_class t.class c.End && nat_eq (length t.text) 0))
