-- Values in values: what is derived at any depth, and what is too deep.
--
--   IsValue x ts v     the tokens ts are spelled with the tree v
--   deep n x p         the last of p begins a value too deep, where values may nest n deep
--   value_looks, value_more_looks
--                      tables: with which tokens a value begins, and which go on with a whole one
--   value_at n x       the reader of a value that may nest n deep
--   values_within n    how values are read that may nest n deep
use Rattle.std.specs.Prelude.{ℕ, zero, suc, ◌==◌, true, List, []}
use Rattle.generic_syntax.specs.declared.cst.ValueCst.{ValueCst}
use Rattle.grammar.specs.Front.{Lists}
use Rattle.grammar.specs.Grammar.{Tokens, Parser, Derives, Deep, reads, read_tok}
use Rattle.grammar.specs.Looks.{Look, any}
use Rattle.grammar.specs.OneToken.{first_looks, more_looks, by_looks, begins_too_deep}
use Rattle.grammar.specs.Ran.{Env}
use Rattle.ir_lexer.specs.Tokens.{Token}
use Rattle.generic_syntax.specs.Values.{Sort, plain, Sem, node_at, rule}
use Rattle.generic_syntax.specs.declared.cst.ValueNode.TheVariants as node

-- the tokens are spelled with this tree, in which values nest less than n deep
abbrev pub derived : ℕ → (x : Sort) → Tokens → ValueCst → Type 0
derived zero x ts v = ⊥
derived (suc n) x ts v = Derives (derived n) (rule x) ts v

-- the tokens are spelled with this tree
abbrev pub IsValue : (x : Sort) → Tokens → ValueCst → Type 0
IsValue x ts v = (n : ℕ) × derived n x ts v

-- with which tokens a value begins: no nonterminal stands at the front of a rule
abbrev pub value_looks : Sort → List Look
value_looks x = first_looks (λ y. []) (rule x)

-- Which tokens go on with a whole value. One alone may end with another value, and that is a type
-- without parentheses.
abbrev pub plain_more_looks : Sort → List Look
plain_more_looks x = more_looks value_looks (λ y. []) (rule plain)

-- which tokens go on with a whole value
abbrev pub value_more_looks : Sort → List Look
value_more_looks x = more_looks value_looks plain_more_looks (rule x)

-- The last of the tokens begins a value nested too deep, where values may nest n deep.
abbrev pub deep : ℕ → Sort → Lists
deep zero x p = begins_too_deep (value_looks x) p
deep (suc n) x p = Deep IsValue (deep n) (n == 0) (rule x) p

-- a tree that is never given
abbrev pub no_tree : Token → ValueCst
no_tree t = node_at t.place (node.Word [])

-- reading a value that may nest n deep
unfoldable pub value_at : ℕ → (x : Sort) → Parser ValueCst
value_at zero x = read_tok true (any (value_looks x)) no_tree
value_at (suc n) x = reads (by_looks value_looks) (value_at n) (n == 0) (rule x)

-- how values are read that may nest n deep
abbrev pub values_within : ℕ → Env Sort Sem
values_within n = record { begins = by_looks value_looks; inside = value_at n; none = n == 0 }
