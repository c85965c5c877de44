-- With which tokens a piece of a grammar over values begins.
use Rattle.std.specs.Prelude.{Bool}
use Rattle.grammar.specs.Grammar.{starts}
use Rattle.grammar.specs.OneToken.{by_looks}
use Rattle.ir_lexer.specs.Tokens.{Token}
use Rattle.generic_syntax.specs.Values.{OfValues}
use Rattle.generic_syntax.specs.Nested.{value_looks}

-- a piece of the grammar begins with this token
abbrev pub Begins : {A : Type 0} → OfValues A → Token → Bool
Begins g t = starts (by_looks value_looks) g t
