-- What a call that read a value answers, in the words of the grammar.
use Rattle.std.proofs.Common.{ℕ, ◌∷◌, Result}
use Rattle.generic_syntax.specs.declared.cst.ValueCst.{ValueCst}
use Rattle.grammar.specs.Answers.{Told, Accepts, ReadsFront}
use Rattle.grammar.specs.declared.stop.SyntaxStop.{SyntaxStop}
use Rattle.grammar.specs.Ran.{Reads}
use Rattle.grammar.proofs.Inside.{kid-went}
use Rattle.grammar.proofs.Wholes.{accepts, front-answered, told-front}
use Rattle.ir_lexer.specs.Source.{Source}
use Rattle.generic_syntax.specs.Nested.{IsValue, deep, value_at, values_within}
use Rattle.generic_syntax.specs.Values.{Sort, inner}
use Rattle.generic_syntax.proofs.Knot.{values-known, one-value}

-- the tree of the front, or the refusal, over every source
pub parsed : (n : ℕ) (x : Sort) (s s' : Source) (r : Result ValueCst SyntaxStop)
    → Reads (values_within n) (inner x) s r s' → ReadsFront (IsValue x) (deep n x) s r s'
parsed n x s s' r h =
    front-answered (IsValue x) (deep n x) (value_at n x) ((values-known n).each x).meets
    ((values-known n).each x).trees.respelled s s' r
    (kid-went x h)

-- where there is a front, its tree
pub all-parsed : (n : ℕ) (x : Sort) (s s' : Source) (r : Result ValueCst SyntaxStop)
    → Reads (values_within n) (inner x) s r s' → Told s (λ ts. Accepts (IsValue x) (deep n x) ts r)
all-parsed n x s s' r h ts is =
    accepts (IsValue x) (deep n x) ((values-known n).each x).seen (one-value x) (s.now ∷ ts) r
    (told-front (IsValue x) (deep n x) s s' r (parsed n x s s' r h) ts is)
