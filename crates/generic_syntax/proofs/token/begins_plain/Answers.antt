use Rattle.std.proofs.Math.Bool.{or-false}
use Rattle.std.proofs.Common.{◌≡◌, Bool, true, false, ◌||◌, ◌&&◌, refl, sym, ◌∙◌, codes}
use Rattle.ir_lexer.specs.Classes.{same_class}
use Rattle.ir_lexer.specs.declared.class.Class.TheVariants.{TypeName}
use Rattle.ir_lexer.specs.Tokens.{Token}
use Rattle.grammar.specs.Looks.{any_of, word, passes}
use Rattle.generic_syntax.specs.Begins.{Begins}
use Rattle.generic_syntax.specs.Values as spec
use Rattle.generic_syntax.proofs.token.begins_plain.Goals as goal

no-name : (t : Token) → passes (any_of TypeName) t ≡ false → same_class t.class TypeName ≡ false
no-name t e = go (same_class t.class TypeName) e
  where
    go : (b : Bool) → (b && true) ≡ false → b ≡ false
    go true e = e
    go false e = refl

-- neither a word that is a type nor a name
nests : (t : Token) → Begins spec.type_word t ≡ false → passes (any_of TypeName) t ≡ false
    → (passes (word (codes "tuple")) t || (passes (word (codes "complex")) t
    || (passes (word (codes "vector")) t || (passes (word (codes "tensor")) t
    || passes (word (codes "memref")) t))))
    ≡ Begins spec.plain_node t
nests t e n = rw (e, no-name t n) (simp or-false)

pub returns-else-is_class : goal.returns-else-is_class
returns-else-is_class g c =
    c.begins_nest.ensures
    ∙ nests (g.T.TokenSource.state c.args.t.now).now
    (sym c.is_type_word.ensures ∙ c.if-is_type_word.false)
    (sym c.is_class.ensures.passes ∙ c.if-is_class.false)
