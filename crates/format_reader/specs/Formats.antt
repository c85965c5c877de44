-- The grammar of format texts, and what is read of one.
--
--   format  = (item | group)*
--   group   = branch `?` | branch `:` branch `?`
--   branch  = `(` item* `)`
--
-- Items stand in `Elements`. Behind a format stands the end of the text. A branch that is missing
-- is empty, and a group in a group is no format.
--
--   FormatTokens ts es    the tokens ts, up to and with the end, spell the elements es
--   IsFormat text es      the text spells the elements es
--   IsRefusedAt text p    p is the place of the first token of the text that goes on in no format
use Rattle.std.specs.Prelude.{◌≡◌, ℕ, true, false, List, [], ◌∷◌, ◌++◌}
use Rattle.std.specs.List.{list_all}
use Rattle.dialect_defs.specs.declared.raw_format.RawElement.{RawElement}
use Rattle.dialect_defs.specs.declared.raw_format.RawKind.TheVariants as kind
use Rattle.ir_lexer.specs.declared.class.Class.TheVariants.{Colon, Question}
use Rattle.ir_lexer.specs.Spelling.{Text}
use Rattle.ir_lexer.specs.Tokens.{Token}
use Rattle.grammar.specs.Flat.{Flat, Spelled}
use Rattle.grammar.specs.Grammar.{Tokens, ret, both, alt, placed}
use Rattle.grammar.specs.Rules.{punct, ◌>>◌, ◌<<◌, many, whole}
use Rattle.format_reader.specs.Elements.{element_at, in_parens, item}
use Rattle.format_reader.specs.Tokens.{AreTokens, is_token}

-- ---- the grammar

-- items in parentheses
abbrev pub branch : Flat (List RawElement)
branch = in_parens (many item)

-- the other branch, where there is one
abbrev pub otherwise : Flat (List RawElement)
otherwise = alt (punct Colon >> branch) (ret [])

-- both branches
abbrev pub branches : Flat (List RawElement × List RawElement)
branches =
    both {A = List RawElement × List RawElement} (λ f o. (f, o)) branch
    (otherwise << punct Question)

-- a group
abbrev pub group : Flat RawElement
group = placed (λ at p. element_at at false (kind.Group p.0 p.1)) branches

-- an element
abbrev pub element : Flat RawElement
element = alt group item

-- any number of elements
abbrev pub format : Flat (List RawElement)
format = many element

-- ---- texts

-- the tokens, up to and with the end, spell these elements
unfoldable pub FormatTokens : Tokens → List RawElement → Type 0
FormatTokens = Spelled (whole format)

-- the tokens of the text spell these elements
pub record IsFormat (text : Text) (elements : List RawElement) : Type 0 where
  pub tokens : Tokens
  pub are : AreTokens text tokens
  pub spelled : FormatTokens tokens elements

-- the tokens begin some format, and go on with tokens that a text may have
abbrev pub BeginsFormat : Tokens → Type 0
BeginsFormat front =
    (more : Tokens) × (elements : List RawElement) × (list_all is_token more ≡ true)
    × FormatTokens (front ++ more) elements

-- The tokens before the place begin some format, and with the token at the place they begin none.
pub record IsRefusedAt (text : Text) (place : ℕ) : Type 0 where
  pub front : Tokens
  pub next : Token
  pub rest : Tokens
  pub are : AreTokens text (front ++ next ∷ rest)
  pub at : place ≡ next.place
  pub begins : BeginsFormat front
  pub ends : (more : Tokens) (elements : List RawElement)
      → FormatTokens (front ++ next ∷ more) elements → ⊥
