-- The sorts of values, as a reader is told them.
use Rattle.generic_syntax.specs.declared.token.ValueSort.{ValueSort}
use Rattle.generic_syntax.specs.declared.token.ValueSort.TheVariants.{AnyType, PlainType, Attribute}
use Rattle.generic_syntax.specs.Values.{Sort, a_type, plain, an_attr}

-- the nonterminal that a reader is to read
abbrev pub sort_of : ValueSort → Sort
sort_of AnyType = a_type
sort_of PlainType = plain
sort_of Attribute = an_attr
