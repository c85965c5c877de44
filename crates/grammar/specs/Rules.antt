-- Small grammars of which others are made.
--
--   punct c      one token of the class c, of which nothing is told
--   keyword w    the word w
--   g >> h       g, of which nothing is told, and then h
--   g << h       g, and then h, of which nothing is told
--   many g       none or more of g
--   whole g      g, and then the end
--   opt g        g, or nothing
--   list g       none or more of g, with commas between them
use Rattle.std.specs.Prelude.{false, List, [], ◌∷◌, Option, Some, None}
use Rattle.ir_lexer.specs.declared.class.Class.{Class}
use Rattle.ir_lexer.specs.declared.class.Class.TheVariants.{Comma, End}
use Rattle.ir_lexer.specs.Spelling.{Text}
use Rattle.grammar.specs.Looks.{any_of, word}
use Rattle.grammar.specs.Grammar.{G, ret, tok, both, alt, star, made}

-- one token of this class, of which nothing is told
abbrev pub punct : {X : Type 0} {Sem : X → Type 0} → Class → G X Sem (Unit {0})
punct c = tok false (any_of c) (λ _. tt)

-- this word, of which nothing is told
abbrev pub keyword : {X : Type 0} {Sem : X → Type 0} → Text → G X Sem (Unit {0})
keyword w = tok false (word w) (λ _. tt)

-- a piece of which nothing is told, and then one that gives the tree
infixr 11 ◌>>◌
abbrev pub ◌>>◌ : {X : Type 0} {Sem : X → Type 0} {A : Type 0} → G X Sem (Unit {0}) → G X Sem A
    → G X Sem A
g >> h = both (λ _ a. a) g h

-- a piece that gives the tree, and then one of which nothing is told
infixl 12 ◌<<◌
abbrev pub ◌<<◌ : {X : Type 0} {Sem : X → Type 0} {A : Type 0} → G X Sem A → G X Sem (Unit {0})
    → G X Sem A
g << h = both (λ a _. a) g h

-- none or more pieces, as the list of their trees
abbrev pub many : {X : Type 0} {Sem : X → Type 0} {A : Type 0} → G X Sem A → G X Sem (List A)
many g = star (λ l. l) g

-- a piece, and then the end of the text
abbrev pub whole : {X : Type 0} {Sem : X → Type 0} {A : Type 0} → G X Sem A → G X Sem A
whole g = g << punct End

-- a piece or nothing
abbrev pub opt : {X : Type 0} {Sem : X → Type 0} {A : Type 0} → G X Sem A → G X Sem (Option A)
opt g = alt (made (λ a. Some a) g) (ret None)

-- a comma and a piece, none or more times
abbrev pub more_of : {X : Type 0} {Sem : X → Type 0} {A : Type 0} → G X Sem A → G X Sem (List A)
more_of g = many (punct Comma >> g)

-- none or more pieces, with commas between them
abbrev pub list : {X : Type 0} {Sem : X → Type 0} {A : Type 0} → G X Sem A → G X Sem (List A)
list g = alt (both (λ a l. a ∷ l) g (more_of g)) (ret [])
