-- The reader of a flat grammar that one token decides meets what is asked of it.
--
-- There are no nonterminals, so all is known of them, and the check that computes is all that a
-- crate above has to give.
use Rattle.std.proofs.Common.{◌≡◌, true, false, List, [], Result, IfOk}
use Rattle.grammar.specs.Looks.{Look}
use Rattle.grammar.specs.Grammar.{Tokens}
use Rattle.grammar.specs.Exact.{HasMore}
use Rattle.grammar.specs.Front.{Some_of}
use Rattle.grammar.specs.OneToken.{check}
use Rattle.grammar.specs.Flat.{Flat, nothing_derived, Spelled, TooDeepIn, flat}
use Rattle.ir_lexer.specs.Source.{Source}
use Rattle.grammar.specs.declared.stop.SyntaxStop.{SyntaxStop}
use Rattle.grammar.specs.Answers.{Told, Answered, Accepts, IsReadFrom}
use Rattle.grammar.specs.Rules.{whole}
use Rattle.grammar.specs.Ran.{ReadsWhole}
use Rattle.grammar.proofs.Known.{Known, trees-of, known-fits, grammar-one-tree, known-seen, whole-answered, whole-accepts, whole-read-from}
use Rattle.grammar.proofs.Repeats.{Fits}
use Rattle.grammar.proofs.Respelled.{all_met}

-- the looks of no nonterminal
abbrev pub no_looks : ⊥ → List Look
no_looks x = []

-- all is known of no nonterminals
pub flat-known : Known nothing_derived (λ x p. ⊥) no_looks no_looks flat.inside
flat-known = record { each = λ x. absurd x }

-- no nonterminal gives a token back, since there is none
pub flat-fits : Fits flat
flat-fits = known-fits flat-known false

module _ {A : Type 0} (g : Flat A) (one : check no_looks no_looks g ≡ true) where
  -- what is too deep is viable
  pub flat-seen : (p : Tokens) → TooDeepIn g p → HasMore (Some_of (Spelled g)) p
  flat-seen p d = known-seen flat-known false g one p d

  -- a list has one tree
  pub flat-one-tree : (d : Tokens) (a b : A) → Spelled g d a → Spelled g d b → a ≡ b
  flat-one-tree d a b x y = grammar-one-tree (trees-of flat-known) g one d a b x y

-- what a call that read a whole flat text answers
module _ {A : Type 0} (g : Flat A) (one : check no_looks no_looks (whole g) ≡ true)
    (met : all_met (whole g) ≡ true) {s s' : Source}
    (r : Result A SyntaxStop) (x : ReadsWhole flat g s r s') where
  -- the answer of the call is the tree of the tokens or their refusal
  pub flat-answered : Told s (λ ts. Answered (Spelled (whole g)) (TooDeepIn (whole g)) ts r)
  flat-answered = whole-answered flat-known false g one met r x

  -- tokens with a front are answered by its tree
  pub flat-accepts : Told s (λ ts. Accepts (Spelled (whole g)) (TooDeepIn (whole g)) ts r)
  flat-accepts = whole-accepts flat-known false g one met r x

-- a tree that was read is that of tokens that come from the source, told or not
pub flat-read-from : {A : Type 0} (g : Flat A) → check no_looks no_looks (whole g) ≡ true
    → all_met (whole g) ≡ true → {s s' : Source} (r : Result A SyntaxStop)
    → ReadsWhole flat g s r s'
    → IfOk r (IsReadFrom (Spelled (whole g)) (TooDeepIn (whole g)) s)
flat-read-from g one met r x = whole-read-from flat-known false g one met r x
