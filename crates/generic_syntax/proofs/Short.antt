-- A short text of each nonterminal: the name of an integer type.
use Rattle.std.proofs.Common.{inl, refl, [], ◌∷◌}
use Rattle.generic_syntax.specs.declared.cst.ValueNode.TheVariants as node
use Rattle.grammar.specs.Front.{Some_of}
use Rattle.grammar.specs.Grammar.{Tokens, Derives}
use Rattle.grammar.specs.Looks.{int_word}
use Rattle.grammar.proofs.Meet.{a-token, passes-some}
use Rattle.ir_lexer.specs.Tokens.{Token}
use Rattle.generic_syntax.specs.Values.{Sort, a_type, plain, an_attr, Sem, node_at, rule}

-- the name of an integer type
abbrev an_int : Token
an_int = a-token int_word

-- it is a piece of each rule
pub short : (Derived : (x : Sort) → Tokens → Sem x → Type 0) (x : Sort)
    → (ts : Tokens) × Some_of (Derives Derived (rule x)) ts
short Derived a_type = (
  an_int ∷ [],
  (
    node_at an_int.place (node.Word an_int.text),
    (
      node.Word an_int.text,
      (inl (inl (an_int.text, inl (an_int, refl, passes-some int_word, refl), refl))),
      refl,
    ),
  ),
)
short Derived plain = (
  an_int ∷ [],
  (
    node_at an_int.place (node.Word an_int.text),
    (
      node.Word an_int.text,
      (inl (an_int.text, inl (an_int, refl, passes-some int_word, refl), refl)),
      refl,
    ),
  ),
)
short Derived an_attr = (
  an_int ∷ [],
  (
    node_at an_int.place (node.Word an_int.text),
    (
      node.Word an_int.text,
      (inl (inl (inl (an_int.text, inl (an_int, refl, passes-some int_word, refl), refl)))),
      refl,
    ),
  ),
)
