-- Grammars over nonterminals of which all is known that the theorem on grammars asks.
--
-- The theorem and its kin ask of nonterminals what they show of whole grammars. Here that is one
-- record for each nonterminal. From it follow, for a grammar that passes the check, the exact
-- answer of its reader, that tokens have one tree, and what a call that read a whole text answers.
-- Such a grammar is known in turn, so a grammar above may have it as a nonterminal.
--
--   KnownTrees, Trees     what is known of the trees of a nonterminal, and of each
--   KnownReader, Known    the same with its reader
--   grammar-..            trees of a grammar over such nonterminals
--   known-..              readers of one
--   whole-..              what a call that read a whole text answers
use Rattle.std.proofs.Common.{◌≡◌, Bool, true, false, List, [], ◌∷◌, ◌++◌, Result, Ok, Err, IfOk}
use Rattle.ir_lexer.specs.Source.{Source}
use Rattle.ir_lexer.specs.Tokens.{Token}
use Rattle.grammar.specs.declared.stop.SyntaxStop.{SyntaxStop}
use Rattle.grammar.specs.Answers.{Told, Answered, Accepts, ReadsFront, IsReadFrom}
use Rattle.grammar.specs.Exact.{HasMore, IsExactAnswer}
use Rattle.grammar.specs.Front.{Lists, Some_of}
use Rattle.grammar.specs.Grammar.{Tokens, Parser, G, Derives, Deep, nullable, reads}
use Rattle.grammar.specs.Looks.{Look, any}
use Rattle.grammar.specs.OneToken.{by_looks, first_looks, more_looks, check}
use Rattle.grammar.specs.Ran.{Env, reads_in, Went, ReadsWhole}
use Rattle.grammar.specs.Rules.{whole}
use Rattle.grammar.proofs.Begun.{Samples, IsOneToken, sample, begun}
use Rattle.grammar.proofs.Check.{starts-in, starts-back, more-in, checked}
use Rattle.grammar.proofs.Exact.{exact, deep-viable, no-deep}
use Rattle.grammar.proofs.Firsts.{Kids, first, empty}
use Rattle.grammar.proofs.More.{goes, one-token}
use Rattle.grammar.proofs.Repeats.{Fits}
use Rattle.grammar.proofs.Respelled.{Respellable, all_met, respelled}
use Rattle.grammar.proofs.Shrink.{Takes, takes-if}
use Rattle.grammar.proofs.Unique.{one-tree}
use Rattle.grammar.proofs.Wholes.{answered, front-answered, told-front, read-from, accepts}

-- ---- trees

-- What is known of the trees of a nonterminal: its pieces begin with tokens of one table, and none
-- is empty; the tokens that go on with a whole piece are in another; tokens have one tree; and a
-- piece of any tokens has one that bytes can give.
pub record KnownTrees {A : Type 0} (R : Tokens → A → Type 0) (begins goes_on : List Look)
    : Type 0 where
  pub first : (t : Token) (ts : Tokens) (a : A) → R (t ∷ ts) a → any begins t ≡ true
  pub full : (a : A) → R [] a → ⊥
  pub goes : (d : Tokens) (y : Token) (e : Tokens) (a b : A) → R d a → R (d ++ y ∷ e) b
      → any goes_on y ≡ true
  pub one : (d : Tokens) (a b : A) → R d a → R d b → a ≡ b
  pub respelled : Respellable R

-- the same of each nonterminal
pub record Trees {X : Type 0} {Sem : X → Type 0} (Derived : (x : X) → Tokens → Sem x → Type 0)
    (begins goes_on : X → List Look) : Type 0 where
  pub each : (x : X) → KnownTrees (Derived x) (begins x) (goes_on x)

module _ {X : Type 0} {Sem : X → Type 0} {Derived : (x : X) → Tokens → Sem x → Type 0}
    {begins goes_on : X → List Look} (trees : Trees Derived begins goes_on) where
  -- first tokens, in the words of the theorem
  pub kids-of : Kids Derived (by_looks begins)
  kids-of = record { begins = λ x. (trees.each x).first; full = λ x. (trees.each x).full }

  module _ {A : Type 0} (g : G X Sem A) (one : check begins goes_on g ≡ true) where
    -- a grammar that passes the check is decided by one token
    pub decided : IsOneToken Derived (by_looks begins) g
    decided =
        one-token (by_looks begins) (by_looks goes_on) Derived kids-of (λ x. (trees.each x).goes) g
        (checked begins goes_on g one)

    -- tokens have one tree
    pub grammar-one-tree : (d : Tokens) (a b : A) → Derives Derived g d a → Derives Derived g d b
        → a ≡ b
    grammar-one-tree d a b x y =
        one-tree (by_looks begins) Derived kids-of (λ x. (trees.each x).one) g decided d a b x y

    -- each piece has one that bytes can give, where each look is met by such a token
    pub grammar-respells : all_met g ≡ true → Respellable (Derives Derived g)
    grammar-respells met = respelled Derived (λ x. (trees.each x).respelled) g met

    -- all that is known of trees, where no piece is empty
    pub grammar-trees : nullable g ≡ false → all_met g ≡ true
        → KnownTrees (Derives Derived g) (first_looks begins g) (more_looks begins goes_on g)
    grammar-trees some met = record {
      first = λ t ts a d.
          starts-in begins goes_on g t (first Derived (by_looks begins) kids-of g t ts a d);
      full = λ a d.
          let u = empty Derived (by_looks begins) kids-of g a d in absurd (cc (u, some));
      goes = λ d y e a b p q. more-in begins goes_on g y
          (goes (by_looks begins) (by_looks goes_on) Derived kids-of (λ x. (trees.each x).goes) g
          (checked begins goes_on g one) d y e a b p q);
      one = grammar-one-tree;
      respelled = grammar-respells met;
    }

-- ---- readers

-- What is known of a nonterminal and its reader: its trees; that it has a piece, and one that
-- begins with each token of its table; that nothing is too deep before the first token, and what is
-- too deep begins a piece; and that the reader takes a token and answers exactly.
pub record KnownReader {A : Type 0} (R : Tokens → A → Type 0) (D : Lists)
    (begins goes_on : List Look) (p : Parser A) : Type 0 where
  pub trees : KnownTrees R begins goes_on
  pub sample : (ts : Tokens) × Some_of R ts
  pub begun : (t : Token) → any begins t ≡ true → HasMore (Some_of R) (t ∷ [])
  pub no_deep : D [] → ⊥
  pub seen : (w : Tokens) → D w → HasMore (Some_of R) w
  pub takes : Takes p
  pub meets : (ts : Tokens) → IsExactAnswer R D ts (p ts)

-- the same of each nonterminal
pub record Known {X : Type 0} {Sem : X → Type 0} (Derived : (x : X) → Tokens → Sem x → Type 0)
    (DeepKid : X → Lists) (begins goes_on : X → List Look)
    (kid_at : (x : X) → Parser (Sem x)) : Type 0 where
  pub each : (x : X)
      → KnownReader (Derived x) (DeepKid x) (begins x) (goes_on x) (kid_at x)

-- how known nonterminals are read
abbrev pub env_of : {X : Type 0} {Sem : X → Type 0} → (X → List Look) → ((x : X) → Parser (Sem x))
    → Bool → Env X Sem
env_of begins kid_at none = record { begins = by_looks begins; inside = kid_at; none = none }

module _ {X : Type 0} {Sem : X → Type 0} {Derived : (x : X) → Tokens → Sem x → Type 0}
    {DeepKid : X → Lists} {begins goes_on : X → List Look} {kid_at : (x : X) → Parser (Sem x)}
    (known : Known Derived DeepKid begins goes_on kid_at) where
  -- what is known of trees alone
  pub trees-of : Trees Derived begins goes_on
  trees-of = record { each = λ x. (known.each x).trees }

  -- a piece of each nonterminal
  samples-of : Samples Derived (by_looks begins)
  samples-of = record { sample = λ x. (known.each x).sample }

  -- readers of nonterminals take tokens
  pub known-fits : (none : Bool) → Fits (env_of begins kid_at none)
  known-fits none = record { takes = λ x. (known.each x).takes }

module _ {X : Type 0} {Sem : X → Type 0} {Derived : (x : X) → Tokens → Sem x → Type 0}
    {DeepKid : X → Lists} {begins goes_on : X → List Look} {kid_at : (x : X) → Parser (Sem x)}
    (known : Known Derived DeepKid begins goes_on kid_at) (none : Bool) where
  module _ {A : Type 0} (g : G X Sem A) (one : check begins goes_on g ≡ true) where
    -- the reader meets what is asked of it
    pub known-meets : (ts : Tokens) → IsExactAnswer (Derives Derived g)
        (Deep Derived DeepKid none g) ts (reads (by_looks begins) kid_at none g ts)
    known-meets ts =
        exact Derived (by_looks begins) (kids-of (trees-of known)) (samples-of known)
        (λ x. (known.each x).begun) DeepKid (λ x. (known.each x).no_deep) (λ x. (known.each x).seen)
        none kid_at (λ x. (known.each x).takes) (λ x. (known.each x).meets) g
        (decided (trees-of known) g one) ts

    -- what is too deep is viable
    pub known-seen : (p : Tokens) → Deep Derived DeepKid none g p
        → HasMore (Some_of (Derives Derived g)) p
    known-seen p d =
        deep-viable Derived (by_looks begins) (kids-of (trees-of known)) (samples-of known)
        (λ x. (known.each x).begun) DeepKid (λ x. (known.each x).no_deep) (λ x. (known.each x).seen)
        none g (decided (trees-of known) g one) p d

    -- Where no piece is empty, the grammar and its reader are known in turn.
    pub grammar-known : nullable g ≡ false → all_met g ≡ true
        → KnownReader (Derives Derived g) (Deep Derived DeepKid none g) (first_looks begins g)
        (more_looks begins goes_on g) (reads (by_looks begins) kid_at none g)
    grammar-known some met = record {
      trees = grammar-trees (trees-of known) g one some met;
      sample =
          sample Derived (by_looks begins) (kids-of (trees-of known)) (samples-of known) g
          (decided (trees-of known) g one);
      begun = λ t e.
          begun Derived (by_looks begins) (kids-of (trees-of known)) (samples-of known)
          (λ x. (known.each x).begun) g (decided (trees-of known) g one) t
          (starts-back begins goes_on g t e);
      no_deep = λ d.
          no-deep Derived (by_looks begins) (kids-of (trees-of known)) (samples-of known)
          (λ x. (known.each x).begun) DeepKid (λ x. (known.each x).no_deep) none g d;
      seen = known-seen;
      takes = takes-if (by_looks begins) kid_at none (λ x. (known.each x).takes) g some;
      meets = known-meets;
    }

  -- what a call that read a piece answers
  module _ {A : Type 0} (g : G X Sem A) (one : check begins goes_on g ≡ true)
      (met : all_met g ≡ true) (s s' : Source) (r : Result A SyntaxStop)
      (x : Went (reads_in (env_of begins kid_at none) g) s r s') where
    -- the tree of the front, or the refusal, over every source
    pub known-front : ReadsFront (Derives Derived g) (Deep Derived DeepKid none g) s r s'
    unfolding reads_in
    known-front =
        front-answered (Derives Derived g) (Deep Derived DeepKid none g)
        (reads (by_looks begins) kid_at none g) (known-meets g one)
        (grammar-respells (trees-of known) g one met) s s' r x

    -- where there is a front, its tree
    pub known-accepts : Told s (λ ts.
        Accepts (Derives Derived g) (Deep Derived DeepKid none g) ts r)
    known-accepts ts is =
        accepts (Derives Derived g) (Deep Derived DeepKid none g) (known-seen g one)
        (grammar-one-tree (trees-of known) g one) (s.now ∷ ts) r
        (told-front (Derives Derived g) (Deep Derived DeepKid none g) s s' r known-front ts is)

  -- what a call that read a whole text answers
  module _ {A : Type 0} (g : G X Sem A) (one : check begins goes_on (whole g) ≡ true)
      (met : all_met (whole g) ≡ true) {s s' : Source} (r : Result A SyntaxStop)
      (x : ReadsWhole (env_of begins kid_at none) g s r s') where
    -- the tree of the tokens, or their refusal
    pub whole-answered : Told s (λ ts.
        Answered (Derives Derived (whole g)) (Deep Derived DeepKid none (whole g)) ts r)
    unfolding reads_in
    whole-answered =
        answered (Derives Derived (whole g)) (Deep Derived DeepKid none (whole g))
        (reads (by_looks begins) kid_at none (whole g)) (known-meets (whole g) one)
        (grammar-respells (trees-of known) (whole g) one met) s s' r x.went

    -- tokens with a front are answered by its tree
    pub whole-accepts : Told s (λ ts.
        Accepts (Derives Derived (whole g)) (Deep Derived DeepKid none (whole g)) ts r)
    whole-accepts ts is =
        accepts (Derives Derived (whole g)) (Deep Derived DeepKid none (whole g))
        (known-seen (whole g) one) (grammar-one-tree (trees-of known) (whole g) one) (s.now ∷ ts) r
        (whole-answered ts is)

  -- a tree that was read is that of tokens that come from the source, told or not
  pub whole-read-from : {A : Type 0} (g : G X Sem A) → check begins goes_on (whole g) ≡ true
      → all_met (whole g) ≡ true → {s s' : Source} (r : Result A SyntaxStop)
      → ReadsWhole (env_of begins kid_at none) g s r s'
      → IfOk r (IsReadFrom (Derives Derived (whole g)) (Deep Derived DeepKid none (whole g)) s)
  unfolding reads_in
  whole-read-from g one met {s = s} {s' = s'} (Ok a) x =
      read-from (Derives Derived (whole g)) (Deep Derived DeepKid none (whole g))
      (reads (by_looks begins) kid_at none (whole g)) (known-meets (whole g) one)
      (grammar-respells (trees-of known) (whole g) one met) s s' a x.went
  whole-read-from g one met (Err e) x = tt
