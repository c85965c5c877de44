-- The trees of single tokens.
use Rattle.ir_lexer.specs.Names.{name_bytes}
use Rattle.ir_lexer.specs.Tokens.{Token}
use Rattle.generic_syntax.specs.declared.cst.NameCst.{NameCst}

-- a name, without its sign
unfoldable pub name_of : Token → NameCst
name_of t = record { place = t.place; name = name_bytes t.text }

-- a word that is a name
unfoldable pub word_name : Token → NameCst
word_name t = record { place = t.place; name = t.text }
