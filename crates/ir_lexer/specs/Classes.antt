-- Classes of tokens, compared.
--
--   same_class a b       whether the two classes are one
--   same_class-equal     it is true exactly where they are equal
use Rattle.std.specs.Prelude.{◌≡◌, ◌↔◌, Bool, true}
use denote.Enum.Bare.{sameb, same_true, true_same}
use Rattle.ir_lexer.specs.contracts.class.Class.{the_type}
use Rattle.ir_lexer.specs.declared.class.Class.{Class}

-- whether the two classes are one, by the test of equality that enums without fields have
unfoldable pub same_class : Class → Class → Bool
same_class = sameb the_type

-- it is true exactly where they are equal
pub same_class-equal : (a b : Class) → (same_class a b ≡ true) ↔ (a ≡ b)
unfolding same_class
same_class-equal a b = (same_true the_type tt a b, true_same the_type a b)
