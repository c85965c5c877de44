-- Grammars in which nothing leads back to itself.
--
--   Flat A        such a grammar, whose pieces stand for an A
--   Spelled g     the tokens are a piece of g, with this tree
--   TooDeepIn g   the last of these tokens begins a value too deep; never, where nothing nests
--   flat          reading such a grammar
use Rattle.std.specs.Prelude.{false}
use Rattle.grammar.specs.Grammar.{G, Tokens, stop, Derives, Deep}
use Rattle.grammar.specs.Front.{Lists}
use Rattle.grammar.specs.Ran.{Env}

-- no nonterminal has a tree
abbrev pub NoTree : ⊥ → Type 0
NoTree x = ⊥

-- a grammar without nonterminals, whose pieces stand for an A
abbrev pub Flat : Type 0 → Type 1
Flat A = G ⊥ NoTree A

-- no tokens are a piece of a nonterminal, since there is none
abbrev pub nothing_derived : (x : ⊥) → Tokens → NoTree x → Type 0
nothing_derived x ts c = ⊥

-- the tokens are a piece of g, with this tree
abbrev pub Spelled : {A : Type 0} → Flat A → Tokens → A → Type 0
Spelled g = Derives nothing_derived g

-- the last of these tokens begins a value too deep in a piece of g: never, since nothing nests
abbrev pub TooDeepIn : {A : Type 0} → Flat A → Lists
TooDeepIn g = Deep nothing_derived (λ x p. ⊥) false g

-- how nonterminals are read, where there is none
abbrev pub flat : Env ⊥ NoTree
flat = record { begins = λ x t. false; inside = λ x ts. stop false ts; none = false }
