-- One token decides at each place of the grammar of values, and its tables are right: each is
-- computed from the grammar.
use Rattle.std.proofs.Common.{◌≡◌, true, false, refl}
use Rattle.ir_lexer.specs.Classes.{same_class}
use Rattle.ir_lexer.specs.Scan.{step, is_whole, class_at}
use Rattle.grammar.specs.Grammar.{nullable}
use Rattle.grammar.specs.OneToken.{check, first_looks, more_looks}
use Rattle.grammar.proofs.Begun.{guarded}
use Rattle.grammar.proofs.Respelled.{all_met}
use Rattle.generic_syntax.specs.Values.{Sort, a_type, plain, an_attr, rule}
use Rattle.generic_syntax.specs.Nested.{value_looks, value_more_looks}

-- one token decides at each place of a rule
pub decided : (x : Sort) → check value_looks value_more_looks (rule x) ≡ true
unfolding same_class
decided a_type = refl
decided plain = refl
decided an_attr = refl

-- no rule has an empty piece
pub full : (x : Sort) → nullable (rule x) ≡ false
full a_type = refl
full plain = refl
full an_attr = refl

-- no nonterminal stands at the front of a rule
pub guards : (x : Sort) → guarded (rule x) ≡ true
guards a_type = refl
guards plain = refl
guards an_attr = refl

-- the table of first tokens is that of the rules
pub firsts : (x : Sort) → first_looks value_looks (rule x) ≡ value_looks x
firsts a_type = refl
firsts plain = refl
firsts an_attr = refl

-- and so is the table of those that go on
pub mores : (x : Sort) → more_looks value_looks value_more_looks (rule x) ≡ value_more_looks x
mores a_type = refl
mores plain = refl
mores an_attr = refl

-- bytes can give a token for each look of a rule
pub met : (x : Sort) → all_met (rule x) ≡ true
unfolding step is_whole class_at same_class
met a_type = refl
met plain = refl
met an_attr = refl
