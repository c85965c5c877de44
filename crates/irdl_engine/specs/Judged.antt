-- What the texts of definition files are judged to be: definition files, or refused at a place.
--
-- Syntax comes first: where each text spells a definition file, the rules are judged, over all
-- files together.
--
--   Predicates, predicates names tests
--                              what is known of the predicates that a program is given
--   AreAccepted natives defs   these definition files keep all rules
--   IsRefusedBy natives defs r r is the first rule that they break, with its file and place
--   IsToldAs r file place code told
--                              the refusal is by this rule, in this file, at this place, and this
--                              is told of it
--   rule_of syntax             the rule that a refused token breaks
--   SpellsFile src defs        the tokens of src are this definition file, whatever it breaks
--   IsOfForm src               src spells some definition file
--   IsTokenRefusal src place code
--                              the token at this place is the first that no file has there
--   SpellFiles texts defs      each text spells the file at its place
--   AreDefinitions natives texts
--                              the texts spell definition files that keep all rules
--   IsSyntaxRefusal texts file place code
--                              the first text that spells no file is this, and is refused there
--   IsRuleRefusal natives texts file place code told
--                              all texts spell files, which break this rule first
--   AreRefusedAt natives texts file place code told
--                              the texts are refused by this rule, at this place of the text with
--                              this number, counted from 0, and this is told of the refusal
use Rattle.std.specs.Prelude.{◌≡◌, ◌⊎◌, ℕ, List, []}
use Rattle.std.specs.List.{AllZip}
use Rattle.attr_value.specs.Values.{Value}
use Rattle.dialect_defs.specs.declared.definition.OpDef.{OpDef}
use Rattle.dialect_defs.specs.declared.definition.TypeDef.{TypeDef}
use Rattle.dialect_defs.specs.Assignments.{Tests}
use Rattle.ir_lexer.specs.Spelling.{Text}
use Rattle.ir_lexer.specs.Tokens.{AreTokens}
use Rattle.grammar.specs.declared.stop.SyntaxCode.{SyntaxCode}
use Rattle.grammar.specs.declared.stop.SyntaxCode.TheVariants.{Syntax, Float, Bad, Nesting}
use Rattle.grammar.specs.Answers.{IsRefusal}
use Rattle.grammar.specs.Grammar.{Tokens}
use Rattle.irdl_ops.specs.declared.raw.RawDefs.{RawDefs}
use Rattle.irdl_ops.specs.Definitions.{DefText, TooDeepDef, IsFile}
use Rattle.dialect_registry.specs.declared.code.DefCode.{DefCode}
use Rattle.dialect_registry.specs.declared.code.DefCode.TheVariants as code
use Rattle.dialect_registry.specs.declared.refusal.DefRefusal.{DefRefusal}
use Rattle.dialect_registry.specs.Codes.{code_number}
use Rattle.dialect_registry.specs.Details.{detail}
use Rattle.dialect_registry.specs.Loaded.{AreLoaded, IsRefusedBy as Refused}
use Rattle.irdl_engine.specs.InOrder.{IsReached}

-- ---- the rules

-- What is known of the predicates that a program is given: their names, in order, and what each says
-- of a value.
pub record Predicates : Type 0 where
  pub names : List Text
  pub tests : Tests

-- the predicates of these names, which say this
abbrev pub predicates : List Text → Tests → Predicates
predicates names tests = record { names = names; tests = tests }

-- The definition files keep all rules: they are loaded, over some table of values.
pub record AreAccepted (natives : Predicates) (defs : List RawDefs) : Type 0 where
  pub values : List Value
  pub types : List TypeDef
  pub ops : List OpDef
  pub loaded : AreLoaded defs natives.names natives.tests values types ops

-- of all rules that they break this one is the first: in this file, at this place
pub record IsRefusedBy (natives : Predicates) (defs : List RawDefs) (r : DefRefusal) : Type 0 where
  pub refused : Refused defs natives.names natives.tests r

-- a refusal by this rule, in the file with this number, at this place, of which this is told
pub record IsToldAs (r : DefRefusal) (file place : ℕ) (code : DefCode) (told : Text)
    : Type 0 where
  pub in_file : r.file ≡ file
  pub at : r.place ≡ place
  pub rule : r.code ≡ code_number code
  pub told_is : told ≡ detail code r

-- ---- syntax

-- the rule that a refused token breaks: a value nested too deep is a rule of its own
abbrev pub rule_of : SyntaxCode → DefCode
rule_of Syntax = code.Syntax
rule_of Float = code.Syntax
rule_of Bad = code.Syntax
rule_of Nesting = code.Nesting

-- The tokens of a text, which spell this definition file.
pub record SpellsFile (src : Text) (defs : RawDefs) : Type 0 where
  pub tokens : Tokens
  pub are_tokens : AreTokens src tokens
  pub is_file : IsFile tokens defs

-- the text spells a definition file
abbrev pub IsOfForm : Text → Type 0
IsOfForm src = (defs : RawDefs) × SpellsFile src defs

-- The tokens of a text, the first of them that no definition file has there, and its rule.
pub record IsTokenRefusal (src : Text) (place : ℕ) (code : DefCode) : Type 0 where
  pub tokens : Tokens
  pub are_tokens : AreTokens src tokens
  pub syntax : SyntaxCode
  pub refusal : IsRefusal DefText TooDeepDef tokens place syntax
  pub rule : code ≡ rule_of syntax

-- ---- texts

-- each text spells the file at its place, and there are as many
abbrev pub SpellFiles : List Text → List RawDefs → Type 0
SpellFiles texts defs = AllZip SpellsFile texts defs

-- Texts that spell definition files, which keep all rules.
pub record AreDefinitions (natives : Predicates) (texts : List Text) : Type 0 where
  pub defs : List RawDefs
  pub spelled : SpellFiles texts defs
  pub accepted : AreAccepted natives defs

-- The first text that spells no definition file, and where it is refused.
pub record IsSyntaxRefusal (texts : List Text) (file place : ℕ) (code : DefCode) : Type 0 where
  pub text : Text
  pub reached : IsReached IsOfForm texts file text
  pub refused : IsTokenRefusal text place code

-- Texts that spell definition files, and the first rule that these break.
pub record IsRuleRefusal (natives : Predicates) (texts : List Text) (file place : ℕ)
    (code : DefCode) (told : Text) : Type 0 where
  pub defs : List RawDefs
  pub spelled : SpellFiles texts defs
  pub refusal : DefRefusal
  pub refused : IsRefusedBy natives defs refusal
  pub is : IsToldAs refusal file place code told

-- The texts are refused by this rule in this file, at this place: for a token, of which no more is
-- told, or for what the files say.
abbrev pub AreRefusedAt : Predicates → List Text → ℕ → ℕ → DefCode → Text → Type 0
AreRefusedAt natives texts file place code told =
    (IsSyntaxRefusal texts file place code × (told ≡ []))
    ⊎ IsRuleRefusal natives texts file place code told
