use Rattle.std.proofs.Common.{ℕ}
use Rattle.grammar.specs.Rules.{◌>>◌, punct}
use Rattle.ir_lexer.specs.declared.class.Class.TheVariants as c
use Rattle.generic_syntax.specs.Nested.{values_within}
use Rattle.generic_syntax.specs.Values as spec
use Rattle.generic_syntax.proofs.Rows.{Builds}
use Rattle.generic_syntax.proofs.leaf.items.Given as goal

abbrev pub invariant-each : goal.invariant-each
invariant-each g l = (n : ℕ) → Builds (values_within n) (punct c.Comma >> spec.item) (spec.list1 spec.item) (λ l. l) l.found (g.T.TokenSource.state l.fn.t) (g.T.TokenSource.state l.t)

abbrev pub decreases-each : goal.decreases-each
decreases-each g l = (g.T.TokenSource.state l.t).left
