-- What it is that tokens and texts are read as a value.
--
--   is_function head           the head is that of function types
--   EndsValue x rest           a value of the sort x doesn't go on with the first of these tokens
--   IsReadAs aliases x v ts    the tokens ts are spelled as the sort x with a tree that has the
--                              value v, and none of them begins a value too deep
--   IsNumberOf kind n ts       the tokens ts spell the number n of this kind, without its type
--   HasTokensOf marks text     the tokens of the text are those of the marks, and the end
--   IsTextOf aliases v text    an attribute that is read from the text has the value v, and the end
--                              is all that stands behind it
use Rattle.std.specs.Prelude.{◌≡◌, Bool, true, false, List, [], ◌∷◌, ◌++◌, ℤ}
use Rattle.std.specs.declared.option.Option.TheVariants.{Some}
use Rattle.attr_value.specs.declared.head.Head.{Head}
use Rattle.attr_value.specs.declared.head.Head.TheVariants as h
use Rattle.attr_value.specs.declared.head.TheConstants.{DEPTH_LIMIT}
use Rattle.attr_value.specs.declared.kind.IntKind.{IntKind}
use Rattle.attr_value.specs.Values.{Value}
use Rattle.generic_syntax.specs.declared.cst.ValueCst.{ValueCst}
use Rattle.generic_syntax.specs.Nested.{IsValue, deep, value_more_looks}
use Rattle.generic_syntax.specs.Values.{Sort, an_attr, signed}
use Rattle.grammar.specs.Front.{Shallow, Front}
use Rattle.grammar.specs.Grammar.{Tokens, Derives}
use Rattle.grammar.specs.Looks.{any}
use Rattle.ir_lexer.specs.declared.class.Class.TheVariants as c
use Rattle.ir_lexer.specs.Spelling.{Text}
use Rattle.ir_lexer.specs.Tokens.{Token, AreTokens}
use Rattle.text_layout.specs.Gives.{MarksSpell}
use Rattle.text_layout.specs.Lines.{Mark}
use Rattle.value_meaning.specs.Meaning.{Aliases, value_of, leaf}
use Rattle.value_meaning.specs.Spelled.{number_head}

-- the head is that of function types, whose text begins with a parenthesis
abbrev pub is_function : Head → Bool
is_function (h.Function inputs) = true
is_function _ = false

-- a value of this sort doesn't go on with the first of these tokens
abbrev pub EndsValue : Sort → Tokens → Type 0
EndsValue x rest = (t : Token) (more : Tokens) → rest ≡ t ∷ more → any (value_more_looks x) t
    ≡ false

-- The tokens are spelled with a tree that has this value, and values nest no deeper in them than
-- the limit. Where a value doesn't go on with what comes behind them, they are what is read.
pub record IsReadAs (aliases : Aliases) (x : Sort) (v : Value) (ts : Tokens) : Type 0 where
  pub tree : ValueCst
  pub spelled : IsValue x ts tree
  pub value : value_of aliases tree ≡ Some v
  pub shallow : Shallow (deep DEPTH_LIMIT x) ts
  pub front : (rest : Tokens) → EndsValue x rest
      → Front (IsValue x) (deep DEPTH_LIMIT x) (ts ++ rest) tree rest

-- the tokens are digits, with or without a minus, which spell this number of this kind
pub record IsNumberOf (kind : IntKind) (n : ℤ) (ts : Tokens) : Type 0 where
  pub tree : Bool × Text
  pub spelled : Derives IsValue signed ts tree
  pub number : number_head tree.0 tree.1 (Some (Some (leaf (h.Int kind)))) ≡ Some (h.Number kind n)

-- the tokens of the text are those of the marks, in their order, and then the end
pub record HasTokensOf (marks : List Mark) (text : Text) : Type 0 where
  pub front : Tokens
  pub end : Token
  pub spell : MarksSpell marks front
  pub ends : end.class ≡ c.End
  pub are : AreTokens text (front ++ end ∷ [])

-- The front of the text's tokens that is an attribute has this value, nothing in it is too deep,
-- and the end is all that stands behind it.
pub record IsTextOf (aliases : Aliases) (v : Value) (text : Text) : Type 0 where
  pub tokens : Tokens
  pub tree : ValueCst
  pub end : Token
  pub are : AreTokens text tokens
  pub read : Front (IsValue an_attr) (deep DEPTH_LIMIT an_attr) tokens tree (end ∷ [])
  pub value : value_of aliases tree ≡ Some v
  pub ends : end.class ≡ c.End
