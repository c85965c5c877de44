-- What is written is a piece of a grammar.
--
-- Marks have no places and tokens have, so what is said of marks is said of all tokens that they
-- spell. These are a piece of the grammar, in which no value is too deep, with a tree that says
-- what
-- was meant. Whoever writes puts such facts together as the grammar is put together.
--
--   MarksSpell marks ts           the tokens ts are those of the marks, at some places
--   Gives Inside none g marks P   all tokens that the marks spell are a piece of g, with a tree of
--                                 which P holds
--   GivesKid Inside x marks P     the same of a nonterminal
use Rattle.std.specs.Prelude.{◌≡◌, ℕ, Bool, List, [], ◌∷◌}
use Rattle.grammar.specs.Grammar.{G, Tokens}
use Rattle.grammar.specs.Within.{Within}
use Rattle.text_layout.specs.Lines.{Mark, token, ask, break_line}
use Rattle.text_layout.specs.Tidy.{Tidy}

-- the tokens are those of the marks, in their order and at some places
abbrev pub MarksSpell : List Mark → Tokens → Type 0
MarksSpell [] ts = ts ≡ []
MarksSpell (token class text ∷ marks) ts =
    (place : ℕ) × (rest : Tokens)
    × (ts ≡ (record { class = class; text = text; place = place }) ∷ rest) × MarksSpell marks rest
MarksSpell (ask gap ∷ marks) ts = MarksSpell marks ts
MarksSpell (break_line indent ∷ marks) ts = MarksSpell marks ts

-- What is within the nesting is a parameter: of the nonterminals, and whether no value may begin
-- one deeper.
module _ {X : Type 0} {Sem : X → Type 0} (Inside : (x : X) → Tokens → Sem x → Type 0)
    (none : Bool) where
  -- All tokens that the marks spell are a piece of the grammar in which no value is too deep, with
  -- a
  -- tree of which P holds. And the marks may stand beside others.
  pub record Gives {A : Type 0} (g : G X Sem A) (marks : List Mark) (P : A → Type 0) : Type 0 where
    pub tidy : Tidy marks
    pub tree : (ts : Tokens) → MarksSpell marks ts → (a : A) × Within Inside none g ts a × P a

-- the same of a nonterminal
pub record GivesKid {X : Type 0} {Sem : X → Type 0} (Inside : (x : X) → Tokens → Sem x → Type 0)
    (x : X) (marks : List Mark) (P : Sem x → Type 0) : Type 0 where
  pub tidy : Tidy marks
  pub tree : (ts : Tokens) → MarksSpell marks ts → (c : Sem x) × Inside x ts c × P c
