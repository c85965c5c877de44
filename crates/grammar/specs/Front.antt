-- What it is to read a front of a token list.
--
-- A token that no bytes can give never makes a place later: what may come behind a front are tokens
-- whose texts spell their classes.
--
--   AreSpelled ts        the texts of these tokens spell their classes
--   Viable P ts          some list of the set P begins with ts, and goes on with such tokens
--   Barred P front rest  no list of P begins with the front and one token more
--   Shallow D ts         no front of ts is in the set D
--   Front R D ts a rest  a front of ts is a piece with the tree a, and ends before rest
--   Refused R D ts rest  the tokens before rest go on in no piece with the token there
--   TooDeep D ts rest    the token there begins a value too deep
use Rattle.std.specs.Prelude.{◌≡◌, [], ◌∷◌, ◌++◌}
use Rattle.std.specs.List.{AllByRecursion}
use Rattle.ir_lexer.specs.Source.{IsToken}
use Rattle.ir_lexer.specs.Tokens.{Token}
use Rattle.grammar.specs.Grammar.{Tokens}

-- a set of token lists
abbrev pub Lists : Type 1
Lists = Tokens → Type 0

-- tokens whose texts spell their classes
abbrev pub AreSpelled : Lists
AreSpelled ts = AllByRecursion IsToken ts

-- some list of the set begins with these tokens, and goes on with tokens that bytes can give
abbrev pub Viable : Lists → Lists
Viable P ts = (more : Tokens) × AreSpelled more × P (ts ++ more)

-- no list of the set begins with the front and one token more
abbrev pub Barred : Lists → Tokens → Tokens → Type 0
Barred P front rest = (t : Token) (more e : Tokens) → rest ≡ t ∷ more → P (front ++ t ∷ e) → ⊥

-- no front of these tokens is in the set
abbrev pub Shallow : Lists → Tokens → Type 0
Shallow D ts = (p q : Tokens) → ts ≡ p ++ q → D p → ⊥

-- the lists that stand for some tree
abbrev pub Some_of : {A : Type 0} → (Tokens → A → Type 0) → Lists
Some_of {A = A} R ts = (a : A) × R ts a

-- A front of the tokens is a piece with this tree, one token more isn't viable, and nothing in it
-- is too deep.
pub record Front {A : Type 0} (R : Tokens → A → Type 0) (D : Lists) (ts : Tokens) (a : A)
    (rest : Tokens) : Type 0 where
  pub front : Tokens
  pub is : ts ≡ front ++ rest
  pub tree : R front a
  pub barred : Barred (Some_of R) front rest
  pub shallow : Shallow D front

-- The tokens before the rest are viable and no piece, one token more isn't viable, and nothing in
-- them is too deep.
pub record Refused {A : Type 0} (R : Tokens → A → Type 0) (D : Lists)
    (ts rest : Tokens) : Type 0 where
  pub front : Tokens
  pub is : ts ≡ front ++ rest
  pub viable : Viable (Some_of R) front
  pub none : Some_of R front → ⊥
  pub barred : Barred (Some_of R) front rest
  pub shallow : Shallow D front

-- The next token is the first that begins a value too deep.
pub record TooDeep (D : Lists) (ts rest : Tokens) : Type 0 where
  pub front : Tokens
  pub next : Token
  pub more : Tokens
  pub at : rest ≡ next ∷ more
  pub is : ts ≡ front ++ rest
  pub deep : D (front ++ next ∷ [])
  pub shallow : Shallow D front
