-- What stands behind the name of a rule in a report.
--
-- Of a format that is refused it is the byte of its text, ` at 5`, and where one token doesn't
-- decide, the look that meets another, ` at 5 on :`. Where a type isn't shown it is the entry,
-- ` of operand 0`, counted from 0. Of all else nothing is told.
--
--   look_text look       a look as it is printed: its sign, its name, or the word
--   detail code r        what is told of a refusal by this rule
use Rattle.std.specs.Prelude.{ℕ, List, [], ◌++◌, codes, decimal}
use Rattle.std.specs.declared.option.Option.{Option}
use Rattle.std.specs.declared.option.Option.TheVariants.{Some, None}
use Rattle.format_checker.specs.declared.look.Look.{Look}
use Rattle.format_checker.specs.declared.look.Look.TheVariants as look
use Rattle.format_checker.specs.declared.stop.EntryRef.{EntryRef}
use Rattle.format_checker.specs.declared.stop.EntryRef.TheVariants as entry
use Rattle.ir_lexer.specs.declared.class.Class.{Class}
use Rattle.ir_lexer.specs.declared.class.Class.TheVariants as c
use Rattle.ir_lexer.specs.Spelling.{Text}
use Rattle.dialect_registry.specs.declared.code.DefCode.{DefCode}
use Rattle.dialect_registry.specs.declared.code.DefCode.TheVariants as rule
use Rattle.dialect_registry.specs.declared.refusal.DefRefusal.{DefRefusal}

-- a sign as it is written; other classes are no signs
abbrev pub sign_text : Class → Text
sign_text c.Colon = codes ":"
sign_text c.ColonColon = codes "::"
sign_text c.Comma = codes ","
sign_text c.Equal = codes "="
sign_text c.Less = codes "<"
sign_text c.Greater = codes ">"
sign_text c.LParen = codes "("
sign_text c.RParen = codes ")"
sign_text c.LBrace = codes "{"
sign_text c.RBrace = codes "}"
sign_text c.LSquare = codes "["
sign_text c.RSquare = codes "]"
sign_text c.Arrow = codes "->"
sign_text c.Minus = codes "-"
sign_text c.Question = codes "?"
sign_text c.Plus = codes "+"
sign_text c.Star = codes "*"
sign_text _ = []

-- a look as it is printed
abbrev pub look_text : Look → Text
look_text (look.Punct class) = sign_text class
look_text look.Value = codes "value"
look_text look.Block = codes "block"
look_text look.Symbol = codes "symbol"
look_text look.TypeName = codes "typename"
look_text look.AttrName = codes "attrname"
look_text look.Integer = codes "integer"
look_text look.Str = codes "string"
look_text look.IntWord = codes "intword"
look_text look.Dotted = codes "dotted"
look_text look.End = codes "end"
look_text (look.Word w) = w

-- the byte of a format text
abbrev pub byte_detail : ℕ → Text
byte_detail at = codes " at " ++ decimal at

-- a look that meets another, where it is told
abbrev pub look_detail : Option Look → Text
look_detail None = []
look_detail (Some l) = codes " on " ++ look_text l

-- an entry, where it is told
abbrev pub entry_detail : Option EntryRef → Text
entry_detail None = []
entry_detail (Some (entry.Operand i)) = codes " of operand " ++ decimal i
entry_detail (Some (entry.Result i)) = codes " of result " ++ decimal i

-- what is told of a refusal by this rule
abbrev pub detail : DefCode → DefRefusal → Text
detail rule.FormatSyntax r = byte_detail r.at
detail rule.FormatUnknown r = byte_detail r.at
detail rule.FormatMissing r = byte_detail r.at
detail rule.FormatRepeated r = byte_detail r.at
detail rule.FormatGroup r = byte_detail r.at
detail rule.FormatAmbiguous r = byte_detail r.at ++ look_detail r.look
detail rule.FormatNoType r = entry_detail r.entry
detail _ r = []
