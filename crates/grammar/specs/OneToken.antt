-- One token decides: a test of a grammar that computes.
--
-- A reader that looks at one token has to know at each place which way to go on. So the tokens with
-- which the one way begins, and those with which the other does, must be apart, and the tokens that
-- go on with a whole piece must be apart from those that begin what follows it. Both are found by
-- gathering looks; of the nonterminals, two tables say them.
--
--   begins_too_deep looks p
--                   p is one token that begins a piece, where none may begin
--   first_looks g   the looks with which a piece of g begins
--   more_looks g    the looks that go on with a whole piece of g
--   check g         one token decides at each place of g
use Rattle.std.specs.Prelude.{◌≡◌, Bool, true, not, ◌&&◌, List, [], ◌∷◌, ◌++◌, cond}
use Rattle.ir_lexer.specs.Tokens.{Token}
use Rattle.grammar.specs.Front.{Lists}
use Rattle.grammar.specs.Looks.{Look, any, apart}
use Rattle.grammar.specs.Grammar.{G, ret, tok, both, alt, star, chain, made, placed, kid, nullable}

-- the tokens that pass one of the looks which a table has for each nonterminal
abbrev pub by_looks : {X : Type 0} → (X → List Look) → X → Token → Bool
by_looks table x t = any (table x) t

-- The one token passes a look of the table: where no piece may begin, it begins one too deep.
abbrev pub begins_too_deep : List Look → Lists
begins_too_deep begins p = (t : Token) × (p ≡ t ∷ []) × (any begins t ≡ true)

module _ {X : Type 0} {Sem : X → Type 0} (begins : X → List Look) where
  -- the looks with which a piece begins
  abbrev pub first_looks : {A : Type 0} → G X Sem A → List Look
  first_looks (ret b) = []
  first_looks (tok begins look f) = look ∷ []
  first_looks (both f g h) = first_looks g ++ cond (nullable g) (first_looks h) []
  first_looks (alt g h) = first_looks g ++ first_looks h
  first_looks (star f g) = first_looks g
  first_looks (chain f u v h k l) =
      first_looks h ++ cond (nullable h) (first_looks k ++ first_looks l) []
  first_looks (made f g) = first_looks g
  first_looks (placed f g) = first_looks g
  first_looks (kid x f) = begins x

module _ {X : Type 0} {Sem : X → Type 0} (begins goes_on : X → List Look) where
  -- the looks that go on with a whole piece
  abbrev pub more_looks : {A : Type 0} → G X Sem A → List Look
  more_looks (ret b) = []
  more_looks (tok begins look f) = []
  more_looks (both f g h) = more_looks h ++ cond (nullable h) (more_looks g) []
  more_looks (alt g h) =
      cond (nullable h) (first_looks begins g) [] ++ (more_looks g ++ more_looks h)
  more_looks (star f g) = first_looks begins g ++ more_looks g
  more_looks (chain f u v h k l) =
      (first_looks begins h ++ cond (nullable h) (first_looks begins k ++ first_looks begins l) [])
      ++ (more_looks k ++ more_looks l)
  more_looks (made f g) = more_looks g
  more_looks (placed f g) = more_looks g
  more_looks (kid x f) = goes_on x

  -- One look decides at each place: a test that computes.
  abbrev pub check : {A : Type 0} → G X Sem A → Bool
  check (ret b) = true
  check (tok begins look f) = true
  check (both f g h) = check g && (check h && apart (more_looks g) (first_looks begins h))
  check (alt g h) =
      check g && (check h && (not (nullable g)
      && apart (first_looks begins g) (first_looks begins h)))
  check (star f g) = check g && (not (nullable g) && apart (more_looks g) (first_looks begins g))
  check (chain f u v h k l) =
      check h && (check k && (check l
      && (not (nullable k) && (not (nullable l)
      && (apart (first_looks begins k) (first_looks begins l)
      && (apart (more_looks h) (first_looks begins k ++ first_looks begins l)
      && apart (more_looks k) (first_looks begins h
      ++ cond (nullable h) (first_looks begins k ++ first_looks begins l) [])))))))
  check (made f g) = check g
  check (placed f g) = check g && not (nullable g)
  check (kid x f) = true
