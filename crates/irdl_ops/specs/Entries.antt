-- Entries, and the names of which they are made.
--
--   named_entry = (Word `:`)? ValueName
--   entry       = (Word `:`)? (`single` | `optional` | `variadic`)? ValueName
--   attr_entry  = Str `=` `optional`? ValueName
--
-- A word of an arity is a name where a colon follows it. So the rule of an entry is written by its
-- first token: such a word, any other word, or a value name.
--
-- A rule whose tree needs what stands before it gives a function of that.
use Rattle.std.specs.Prelude.{ℕ, Bool, true, false, List, [], ◌∷◌, Option, Some, None, codes}
use Rattle.dialect_defs.specs.declared.entry.Arity.{Arity}
use Rattle.dialect_defs.specs.declared.entry.Arity.TheVariants.{Single, Optional, Variadic}
use Rattle.ir_lexer.specs.declared.class.Class.TheVariants.{Word, Str, ValueName, SymbolName, Colon, Equal}
use Rattle.ir_lexer.specs.Names.{literal_bytes}
use Rattle.ir_lexer.specs.Spelling.{Text}
use Rattle.ir_lexer.specs.Tokens.{Token}
use Rattle.grammar.specs.Grammar.{ret, tok, both, alt, made}
use Rattle.grammar.specs.Looks.{any_of, word, other_word}
use Rattle.grammar.specs.Rules.{punct, keyword, ◌>>◌, list}
use Rattle.generic_syntax.specs.declared.cst.NameCst.{NameCst}
use Rattle.generic_syntax.specs.Names.{name_of, word_name}
use Rattle.irdl_ops.specs.declared.raw.RawAttr.{RawAttr}
use Rattle.irdl_ops.specs.declared.raw.RawEntry.{RawEntry}
use Rattle.irdl_ops.specs.declared.raw.RawText.{RawText}
use Rattle.irdl_ops.specs.Forms.{OfDefs, list1}

-- ---- names and strings

-- `%0`
abbrev pub variable : OfDefs NameCst
variable = tok false (any_of ValueName) name_of

-- `%0, %1`, or none
abbrev pub variables : OfDefs (List NameCst)
variables = list variable

-- `%0, %1`
abbrev pub some_variables : OfDefs (List NameCst)
some_variables = list1 variable

-- `@a`
abbrev pub symbol : OfDefs NameCst
symbol = tok false (any_of SymbolName) name_of

-- a word that is a name
abbrev pub plain_name : OfDefs NameCst
plain_name = tok false (any_of Word) word_name

-- the bytes of a string, with its place
unfoldable pub text_of : Token → RawText
text_of t = record { place = t.place; text = literal_bytes t.text }

-- `"a"`
abbrev pub string : OfDefs RawText
string = tok false (any_of Str) text_of

-- ---- entries of parameters and regions

-- an entry; its place is that of its first token
abbrev pub entry_of : ℕ → Option NameCst → Arity → NameCst → RawEntry
entry_of place name arity var = record { place = place; name = name; arity = arity; var = var }

-- an entry that begins with its name, and then has this arity and this variable
abbrev pub with_name : NameCst → Arity × NameCst → RawEntry
with_name name x = entry_of name.place (Some name) x.0 x.1

-- `%0`
abbrev pub bare_entry : OfDefs RawEntry
bare_entry = made (λ var. entry_of var.place None Single var) variable

-- `%0` or `x: %0`
abbrev pub named_entry : OfDefs RawEntry
named_entry =
    alt bare_entry
    (both (λ name var. with_name name (Single, var)) plain_name (punct Colon >> variable))

-- ---- entries of operands and results

-- an arity, or that of an entry where none is written
abbrev pub arity : OfDefs Arity
arity =
    alt (made (λ _. Single) (keyword (codes "single")))
    (alt (made (λ _. Optional) (keyword (codes "optional")))
    (alt (made (λ _. Variadic) (keyword (codes "variadic"))) (ret Single)))

-- what stands behind the name of an entry
abbrev pub behind_name : OfDefs (Arity × NameCst)
behind_name = both (λ a var. (a, var)) (punct Colon >> arity) variable

-- What stands behind a word that says this arity: where a colon follows, the word is a name.
abbrev pub behind_arity : Arity → OfDefs (NameCst → RawEntry)
behind_arity a =
    alt (made (λ x name. with_name name x) behind_name)
    (made (λ var first. entry_of first.place None a var) variable)

-- an entry that begins with this word, which says this arity
abbrev pub arity_entry : Text → Arity → OfDefs RawEntry
arity_entry w a = both (λ first rest. rest first) (tok false (word w) word_name) (behind_arity a)

-- the words that say an arity
abbrev pub arity_words : List Text
arity_words = codes "single" ∷ codes "optional" ∷ codes "variadic" ∷ []

-- an entry that begins with any other word, which is its name
abbrev pub other_entry : OfDefs RawEntry
other_entry = both with_name (tok false (other_word arity_words) word_name) behind_name

-- `%0`, `x: %0`, `optional %0` or `x: optional %0`
abbrev pub entry : OfDefs RawEntry
entry =
    alt bare_entry
    (alt (arity_entry (codes "single") Single)
    (alt (arity_entry (codes "optional") Optional)
    (alt (arity_entry (codes "variadic") Variadic) other_entry)))

-- ---- entries of attributes

-- whether an entry is optional
abbrev pub is_optional : OfDefs Bool
is_optional = alt (made (λ _. true) (keyword (codes "optional"))) (ret false)

-- an entry of attributes
abbrev pub attr_of : RawText → Bool × NameCst → RawAttr
attr_of name x = record { name = name; optional = x.0; var = x.1 }

-- `"a" = %0` or `"a" = optional %0`
abbrev pub attr_entry : OfDefs RawAttr
attr_entry = both attr_of string (punct Equal >> both (λ o var. (o, var)) is_optional variable)
