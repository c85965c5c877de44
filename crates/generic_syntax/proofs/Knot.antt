-- Values in values: the reader meets what is asked of it, and tokens have one tree.
--
-- The theorem on grammars speaks of one layer, and asks the same of the nonterminals. Here it is
-- tied into a knot, by how deep values nest.
use Rattle.std.proofs.Common.{◌≡◌, ℕ, zero, suc, ◌≤◌, ◌==◌, true, List, [], ◌∷◌, ◌++◌, subst, sym, arith}
use Rattle.generic_syntax.specs.declared.cst.ValueCst.{ValueCst}
use Rattle.grammar.specs.Exact.{HasMore}
use Rattle.grammar.specs.Front.{Some_of}
use Rattle.grammar.specs.Grammar.{Tokens, Derives, starts}
use Rattle.grammar.specs.Looks.{Look, any}
use Rattle.grammar.specs.OneToken.{by_looks}
use Rattle.grammar.proofs.Begun.{Samples, IsOneToken}
use Rattle.grammar.proofs.Check.{starts-in, starts-back}
use Rattle.grammar.proofs.Firsts.{Kids}
use Rattle.grammar.proofs.Height.{derives-in, bounded}
use Rattle.grammar.proofs.Known.{Trees, Known, kids-of, grammar-trees, grammar-known, known-fits}
use Rattle.grammar.proofs.Knots.{no-trees, trees-as, heights-trees, guarded-begun, reader-as, zero-known}
use Rattle.grammar.proofs.More.{Checks, one-token}
use Rattle.grammar.proofs.Repeats.{Fits}
use Rattle.ir_lexer.specs.Tokens.{Token}
use Rattle.generic_syntax.specs.Values.{Sort, OfValues, rule}
use Rattle.generic_syntax.specs.Nested.{derived, IsValue, value_looks, value_more_looks, deep, no_tree, value_at, values_within}
use Rattle.generic_syntax.proofs.OneToken.{decided, full, guards, firsts, mores, met}
use Rattle.generic_syntax.proofs.Short.{short}

-- ---- the table of first tokens

-- what a rule starts with is in the table
pub starts-rule : (x : Sort) (t : Token) → starts (by_looks value_looks) (rule x) t ≡ true
    → any (value_looks x) t ≡ true
starts-rule x t e =
    subst (λ (l : List Look). any l t ≡ true) (firsts x)
    (starts-in value_looks value_more_looks (rule x) t e)

-- and what is in the table, the rule starts with
pub rule-starts : (x : Sort) (t : Token) → any (value_looks x) t ≡ true
    → starts (by_looks value_looks) (rule x) t ≡ true
rule-starts x t e =
    starts-back value_looks value_more_looks (rule x) t
    (subst (λ (l : List Look). any l t ≡ true) (sym (firsts x)) e)

-- ---- trees, by height

up : (n m : ℕ) → n ≤ m → (x : Sort) (ts : Tokens) (v : ValueCst) → derived n x ts v
    → derived m x ts v
up zero m le x ts v d = absurd d
up (suc n) zero le x ts v d = absurd (omega arith)
up (suc n) (suc m) le x ts v d =
    derives-in (derived n) (derived m) (up n m (omega arith)) (rule x) ts v d

-- what the rule derives is a value
pub fold : (x : Sort) (ts : Tokens) (v : ValueCst) → Derives IsValue (rule x) ts v → IsValue x ts v
fold x ts v d = let u = bounded derived up (rule x) ts v d in (suc u.0, u.1)

-- and what is a value, its rule derives
unfold-value : (x : Sort) (ts : Tokens) (v : ValueCst) → IsValue x ts v
    → Derives IsValue (rule x) ts v
unfold-value x ts v (zero, d) = absurd d
unfold-value x ts v (suc n, d) =
    derives-in (derived n) IsValue (λ y w b z. (n, z)) (rule x) ts v d

trees-at : (n : ℕ) → Trees (derived n) value_looks value_more_looks
trees-at zero = record { each = λ x. no-trees (value_looks x) (value_more_looks x) }
trees-at (suc n) = record {
  each = λ x. trees-as (Derives (derived n) (rule x)) (derived (suc n) x) (firsts x) (mores x)
      (λ ts v d. d) (λ ts v d. d)
      (grammar-trees (trees-at n) (rule x) (decided x) (full x) (met x));
}

-- values, of any height
trees : Trees IsValue value_looks value_more_looks
trees = record {
  each = λ x. heights-trees (λ n. derived n x) (λ n m le. up n m le x) (λ n. (trees-at n).each x);
}

-- tokens are one value
pub one-value : (x : Sort) (d : Tokens) (a b : ValueCst) → IsValue x d a → IsValue x d b → a ≡ b
one-value x = (trees.each x).one

-- what goes on with a whole value is in the table
pub value-goes : (x : Sort) (d : Tokens) (y : Token) (e : Tokens) (a b : ValueCst) → IsValue x d a
    → IsValue x (d ++ y ∷ e) b → any (value_more_looks x) y ≡ true
value-goes x = (trees.each x).goes

-- ---- readers, by depth

-- each nonterminal has a value
sample : (x : Sort) → (ts : Tokens) × Some_of (IsValue x) ts
sample x = let u = short IsValue x in (u.0, (u.1.0, fold x u.0 u.1.0 u.1.1))

-- a token with which a value begins is the first of one
pub begun : (x : Sort) (t : Token) → any (value_looks x) t ≡ true
    → HasMore (Some_of (IsValue x)) (t ∷ [])
begun x t e =
    let u = guarded-begun trees sample (rule x) (decided x) (guards x) t
    (subst (λ (l : List Look). any l t ≡ true) (sym (firsts x)) e) in
    (u.0, (u.1.0, fold x (t ∷ u.0) u.1.0 u.1.1))

-- What a grammar over values asks of them is known, at each depth.
pub values-known : (n : ℕ) → Known IsValue (deep n) value_looks value_more_looks (value_at n)
unfolding value_at
values-known zero =
    record { each = λ x. zero-known (IsValue x) (trees.each x) (sample x) (begun x) no_tree }
values-known (suc n) = record {
  each = λ x. reader-as (Derives IsValue (rule x)) (IsValue x) (firsts x) (mores x) (fold x)
      (unfold-value x)
      (grammar-known (values-known n) (n == 0) (rule x) (decided x) (full x) (met x));
}

-- values take tokens
pub values-fit : (n : ℕ) → Fits (values_within n)
values-fit n = known-fits (values-known n) (n == 0)

-- ---- the same facts one by one, as the general lemmas take them

pub kids : Kids IsValue (by_looks value_looks)
kids = kids-of trees

pub samples : Samples IsValue (by_looks value_looks)
samples = record { sample = sample }

-- nothing is too deep before the first token
pub deep-some : (n : ℕ) (x : Sort) → deep n x [] → ⊥
deep-some n x = ((values-known n).each x).no_deep

-- what is too deep begins a value
pub deep-seen : (n : ℕ) (x : Sort) (p : Tokens) → deep n x p → HasMore (Some_of (IsValue x)) p
deep-seen n x = ((values-known n).each x).seen

-- a grammar over values that passes the check is decided by one token
pub one-of-checks : {A : Type 0} (g : OfValues A)
    → Checks (by_looks value_looks) (by_looks value_more_looks) g
    → IsOneToken IsValue (by_looks value_looks) g
one-of-checks g l =
    one-token (by_looks value_looks) (by_looks value_more_looks) IsValue kids
    (λ x. (trees.each x).goes) g l
