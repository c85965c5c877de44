-- Trees in trees: what ties the theorem on grammars into a knot.
--
-- A nonterminal that leads back to itself has trees of each height, and is read to some depth. Of
-- its rule all is known once it is known of lower trees and of readers one less deep. So a knot is
-- tied by two inductions, whose steps are `grammar-trees` and `grammar-known`, over these lemmas:
--
--   no-trees        no trees are known
--   trees-as        the same trees in other words
--   heights-trees   trees of any height
--   guarded-begun   each token of the table begins a tree, where no nonterminal stands in front
--   reader-as       the same reader, of trees in other words
--   zero-known      the reader where no tree may begin
use Rattle.std.proofs.Common.{◌≡◌, ℕ, ◌≤◌, Bool, true, false, List, [], ◌∷◌, ◌++◌, max, refl, sym, subst, arith, if◌then◌else◌}
use Rattle.ir_lexer.specs.Tokens.{Token}
use Rattle.grammar.specs.Exact.{HasMore, IsExactAnswer}
use Rattle.grammar.specs.Front.{Lists, Shallow, Some_of}
use Rattle.grammar.specs.Grammar.{Tokens, Parser, Outcome, done, stop, G, Derives, read_tok}
use Rattle.grammar.specs.Looks.{Look, any}
use Rattle.grammar.specs.OneToken.{by_looks, begins_too_deep, first_looks, check}
use Rattle.grammar.proofs.Begun.{guarded, begun-guarded}
use Rattle.grammar.proofs.Check.{starts-back}
use Rattle.grammar.proofs.Choice.{empty-parts}
use Rattle.grammar.proofs.Known.{KnownTrees, Trees, KnownReader, kids-of, decided}
use Rattle.grammar.proofs.Shrink.{tok-takes}

-- ---- trees

-- no trees are known
pub no-trees : {A : Type 0} (begins goes_on : List Look)
    → KnownTrees {A = A} (λ ts a. ⊥) begins goes_on
no-trees begins goes_on = record {
  first = λ t ts a d. absurd d;
  full = λ a d. d;
  goes = λ d y e a b p q. absurd p;
  one = λ d a b p q. absurd p;
  respelled = λ ts a d. absurd d;
}

-- the same trees in other words, with the same tables
pub trees-as : {A : Type 0} (R S : Tokens → A → Type 0)
    {begins begins2 goes_on goes_on2 : List Look} → begins ≡ begins2 → goes_on ≡ goes_on2 → ((ts : Tokens) (a : A) → R ts a → S ts a)
    → ((ts : Tokens) (a : A) → S ts a → R ts a) → KnownTrees R begins goes_on
    → KnownTrees S begins2 goes_on2
trees-as R S b g into back x = record {
  first = λ t ts a d. subst (λ (l : List Look). any l t ≡ true) b
      (x.first t ts a (back (t ∷ ts) a d));
  full = λ a d. x.full a (back [] a d);
  goes = λ d y e v w p q. subst (λ (l : List Look). any l y ≡ true) g
      (x.goes d y e v w (back d v p) (back (d ++ y ∷ e) w q));
  one = λ d v w p q. x.one d v w (back d v p) (back d w q);
  respelled = λ ts a d. let u = x.respelled ts a (back ts a d) in
      (u.0, u.1, u.2, into u.0 u.1 u.3);
}

-- Trees of any height, where those of a height are of each greater one too.
pub heights-trees : {A : Type 0} (R : ℕ → Tokens → A → Type 0) {begins goes_on : List Look}
    → ((n m : ℕ) → n ≤ m → (ts : Tokens) (a : A) → R n ts a → R m ts a)
    → ((n : ℕ) → KnownTrees (R n) begins goes_on)
    → KnownTrees (λ ts a. (n : ℕ) × R n ts a) begins goes_on
heights-trees R up each = record {
  first = λ t ts a d. (each d.0).first t ts a d.1;
  full = λ a d. (each d.0).full a d.1;
  goes = λ d y e a b p q. let m = max p.0 q.0 in (each m).goes d y e a b
      (up p.0 m (omega arith) d a p.1) (up q.0 m (omega arith) (d ++ y ∷ e) b q.1);
  one = λ d a b p q. let m = max p.0 q.0 in (each m).one d a b
      (up p.0 m (omega arith) d a p.1) (up q.0 m (omega arith) d b q.1);
  respelled = λ ts a d. let u = (each d.0).respelled ts a d.1 in
      (u.0, u.1, u.2, (d.0, u.3));
}

-- Each token of the table of a grammar begins a piece, where no nonterminal stands in front.
pub guarded-begun : {X : Type 0} {Sem : X → Type 0} {Derived : (x : X) → Tokens → Sem x → Type 0}
    {begins goes_on : X → List Look} → Trees Derived begins goes_on
    → ((x : X) → (ts : Tokens) × Some_of (Derived x) ts) → {A : Type 0} (g : G X Sem A)
    → check begins goes_on g ≡ true → guarded g ≡ true → (t : Token)
    → any (first_looks begins g) t ≡ true → HasMore (Some_of (Derives Derived g)) (t ∷ [])
guarded-begun {Derived = D} {begins = first} {goes_on = more} trees sample g one guard t e =
    begun-guarded D (by_looks first) (kids-of trees) (record { sample = sample }) g
    (decided trees g one) guard t (starts-back first more g t e)

-- ---- readers

-- an exact answer, of trees in other words
answer-as : {A : Type 0} (R S : Tokens → A → Type 0) (D : Lists)
    → ((ts : Tokens) (a : A) → R ts a → S ts a) → ((ts : Tokens) (a : A) → S ts a → R ts a)
    → (ts : Tokens) (o : Outcome A) → IsExactAnswer R D ts o → IsExactAnswer S D ts o
answer-as R S D into back ts (done a rest) y = record {
  front = y.front;
  is = y.is;
  tree = into y.front a y.tree;
  barred = λ t more e at z. y.barred t more e at (z.0, back _ z.0 z.1);
  shallow = y.shallow;
}
answer-as R S D into back ts (stop false rest) y = record {
  front = y.front;
  is = y.is;
  viable = (y.viable.0, (y.viable.1.0, into _ y.viable.1.0 y.viable.1.1));
  none = λ z. y.none (z.0, back _ z.0 z.1);
  barred = λ t more e at z. y.barred t more e at (z.0, back _ z.0 z.1);
  shallow = y.shallow;
}
answer-as R S D into back ts (stop true rest) y = record {
  front = y.front;
  next = y.next;
  more = y.more;
  at = y.at;
  is = y.is;
  deep = y.deep;
  shallow = y.shallow;
}

-- the same reader, of trees in other words
pub reader-as : {A : Type 0} (R S : Tokens → A → Type 0) {D : Lists}
    {begins begins2 goes_on goes_on2 : List Look} {p : Parser A} → begins ≡ begins2
    → goes_on ≡ goes_on2 → ((ts : Tokens) (a : A) → R ts a → S ts a)
    → ((ts : Tokens) (a : A) → S ts a → R ts a) → KnownReader R D begins goes_on p
    → KnownReader S D begins2 goes_on2 p
reader-as R S {D = D} {p = p} b g into back x = record {
  trees = trees-as R S b g into back x.trees;
  sample = (x.sample.0, (x.sample.1.0, into x.sample.0 x.sample.1.0 x.sample.1.1));
  begun = λ t e. more-as (t ∷ [])
      (x.begun t (subst (λ (l : List Look). any l t ≡ true) (sym b) e));
  no_deep = x.no_deep;
  seen = λ w d. more-as w (x.seen w d);
  takes = x.takes;
  meets = λ ts. answer-as R S D into back ts (p ts) (x.meets ts);
}
  where
    more-as : (w : Tokens) → HasMore (Some_of R) w → HasMore (Some_of S) w
    more-as w u = (u.0, (u.1.0, into (w ++ u.0) u.1.0 u.1.1))

-- The reader where no tree may begin: a token that begins one is too deep.
module _ {A : Type 0} (R : Tokens → A → Type 0) {begins goes_on : List Look}
    (trees : KnownTrees R begins goes_on) (sample : (ts : Tokens) × Some_of R ts)
    (begun : (t : Token) → any begins t ≡ true → HasMore (Some_of R) (t ∷ []))
    (no_tree : Token → A) where
  none-deep : begins_too_deep begins [] → ⊥
  none-deep (t, is, e) = absurd (cc)

  no-front : Shallow (begins_too_deep begins) []
  no-front p q is z = none-deep (subst (begins_too_deep begins) (empty-parts p q is).0 z)

  begun-seen : (w : Tokens) → begins_too_deep begins w → HasMore (Some_of R) w
  begun-seen w (t, is, e) =
      let u = begun t e in
      (u.0, (u.1.0, subst (λ (v : Tokens). R (v ++ u.0) u.1.0) (sym is) u.1.1))

  meets-none : (ts : Tokens)
      → IsExactAnswer R (begins_too_deep begins) ts (read_tok true (any begins) no_tree ts)
  meets-none [] = record {
    front = [];
    is = refl;
    viable = sample;
    none = λ z. trees.full z.0 z.1;
    barred = λ t more e at z. absurd (cc);
    shallow = no-front;
  }
  meets-none (t ∷ ts) = go (any begins t) refl
    where
      go : (b : Bool) → any begins t ≡ b
          → IsExactAnswer R (begins_too_deep begins) (t ∷ ts)
          (if b then (if true then stop true (t ∷ ts) else done (no_tree t) ts)
          else stop false (t ∷ ts))
      go true e =
          record {
            front = [];
            next = t;
            more = ts;
            at = refl;
            is = refl;
            deep = (t, refl, e);
            shallow = no-front;
          }
      go false e = record {
        front = [];
        is = refl;
        viable = sample;
        none = λ z. trees.full z.0 z.1;
        barred = λ y more w at z.
            let hd : t ≡ y = cc in let u = trees.first y w z.0 z.1 in absurd (cc (e, hd, u));
        shallow = no-front;
      }

  pub zero-known : KnownReader R (begins_too_deep begins) begins goes_on
      (read_tok true (any begins) no_tree)
  zero-known = record {
    trees = trees;
    sample = sample;
    begun = begun;
    no_deep = none-deep;
    seen = begun-seen;
    takes = tok-takes true (any begins) no_tree;
    meets = meets-none;
  }
