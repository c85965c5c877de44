-- The numbers and the names of the rules of definition files.
--
--   code_number code     the number of a rule, as reports write it
--   code_name code       the name of a rule, as reports write it
--   IsRule number        a rule has this number
--   refusal place code   the refusal at this place, by this rule
--   Breaks B place code  the rule is broken at this place, where B holds: the set of this one fault
use Rattle.std.specs.Prelude.{◌≡◌, ℕ, [], codes}
use Rattle.ir_lexer.specs.Spelling.{Text}
use Rattle.first_fault.specs.declared.fault.Fault.{Fault}
use Rattle.dialect_registry.specs.declared.code.DefCode.{DefCode}
use Rattle.dialect_registry.specs.declared.code.DefCode.TheVariants.{Syntax, Nesting, NameRepeated}
use Rattle.dialect_registry.specs.declared.code.DefCode.TheVariants.{RefUnknown, ParamCount}
use Rattle.dialect_registry.specs.declared.code.DefCode.TheVariants.{PredicateUnknown, ChoiceLimit}
use Rattle.dialect_registry.specs.declared.code.DefCode.TheVariants.{ConstantBad, FormatSyntax}
use Rattle.dialect_registry.specs.declared.code.DefCode.TheVariants.{FormatUnknown, FormatMissing}
use Rattle.dialect_registry.specs.declared.code.DefCode.TheVariants.{FormatRepeated, FormatGroup}
use Rattle.dialect_registry.specs.declared.code.DefCode.TheVariants.{FormatAmbiguous, FormatNoType}
use Rattle.dialect_registry.specs.declared.code.DefCode.TheVariants.{BaseUnknown, StatementRepeated}
use Rattle.dialect_registry.specs.declared.code.DefCode.TheVariants.{ReservedName, VarLimit}

-- the number of a rule, as reports write it
abbrev pub code_number : DefCode → ℕ
code_number Syntax = 1
code_number Nesting = 2
code_number NameRepeated = 3
code_number RefUnknown = 4
code_number ParamCount = 5
code_number PredicateUnknown = 6
code_number ChoiceLimit = 7
code_number ConstantBad = 8
code_number FormatSyntax = 9
code_number FormatUnknown = 10
code_number FormatMissing = 11
code_number FormatRepeated = 12
code_number FormatGroup = 13
code_number FormatAmbiguous = 14
code_number FormatNoType = 15
code_number BaseUnknown = 16
code_number StatementRepeated = 17
code_number ReservedName = 18
code_number VarLimit = 19

-- the name of a rule, as reports write it
abbrev pub code_name : DefCode → Text
code_name Syntax = codes "Syntax"
code_name Nesting = codes "Nesting"
code_name NameRepeated = codes "NameRepeated"
code_name RefUnknown = codes "RefUnknown"
code_name ParamCount = codes "ParamCount"
code_name PredicateUnknown = codes "PredicateUnknown"
code_name ChoiceLimit = codes "ChoiceLimit"
code_name ConstantBad = codes "ConstantBad"
code_name FormatSyntax = codes "FormatSyntax"
code_name FormatUnknown = codes "FormatUnknown"
code_name FormatMissing = codes "FormatMissing"
code_name FormatRepeated = codes "FormatRepeated"
code_name FormatGroup = codes "FormatGroup"
code_name FormatAmbiguous = codes "FormatAmbiguous"
code_name FormatNoType = codes "FormatNoType"
code_name BaseUnknown = codes "BaseUnknown"
code_name StatementRepeated = codes "StatementRepeated"
code_name ReservedName = codes "ReservedName"
code_name VarLimit = codes "VarLimit"

-- a rule has this number
abbrev pub IsRule : ℕ → Type 0
IsRule number = (code : DefCode) × (number ≡ code_number code)

-- the refusal at this place, by this rule
abbrev pub refusal : ℕ → DefCode → Fault
refusal place code = record { place = place; code = code_number code }

-- the rule is broken at this place, where B holds
abbrev pub Breaks : Type 0 → ℕ → DefCode → Fault → Type 0
Breaks B place code f = B × (f ≡ refusal place code)
