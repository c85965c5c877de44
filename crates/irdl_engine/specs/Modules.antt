-- Which module the bytes of a text denote, and for what the text of a module is refused.
--
-- The bytes denote a module where the grammar of modules derives their tokens, with a tree in which
-- no value and no region is too deep, and the module completes the tree. Else the text is refused:
-- at the first token that no module has there, or for the first fault of the first stage that has
-- one (names, values, operations, types of uses).
--
--   loaded_as values natives types ops     what definition files define
--   IsLoadedFrom natives texts loaded      the texts are definition files that keep all rules, and
--                                          define this, over some table of values
--   SpellsModule src tree     the tokens of src are this tree of a module
--   code_of_syntax syntax     the rule that a refused token breaks, by its number
--   IsTokenFault src f        f is at the first token that no module has there
--   Denotes loaded src m      the bytes denote the module m
--   IsModuleFault loaded src f     the text is refused for f
--   module_code_texts, module_code_names, module_code_text code, module_code_name code
--                             the numbers of the rules as they are told, and their names
--   canonical_text form ops m the canonical text of a module
--   IsReadBack loaded m       its canonical text, in whatever form, denotes the module again
use Rattle.std.specs.Prelude.{◌≡◌, ◌⊎◌, ℕ, List, [], ◌∷◌, codes, slice_index_or}
use Rattle.attr_value.specs.Values.{Value}
use Rattle.derived_printer.specs.declared.form.Form.{Form}
use Rattle.derived_printer.specs.ModuleMarks.{form_marks, module_marks}
use Rattle.dialect_defs.specs.declared.definition.OpDef.{OpDef}
use Rattle.dialect_defs.specs.declared.definition.TypeDef.{TypeDef}
use Rattle.dialect_registry.specs.Loaded.{AreLoaded}
use Rattle.first_fault.specs.declared.fault.Fault.{Fault}
use Rattle.generic_syntax.specs.declared.module_cst.ModuleCst.{ModuleCst}
use Rattle.generic_syntax.specs.ModuleText.{IsModule, ModText, TooDeepMod}
use Rattle.generic_syntax.specs.Operations.{no_customs}
use Rattle.grammar.specs.declared.stop.SyntaxCode.{SyntaxCode}
use Rattle.grammar.specs.declared.stop.SyntaxCode.TheVariants.{Syntax, Float, Bad, Nesting}
use Rattle.grammar.specs.Answers.{IsRefusal}
use Rattle.grammar.specs.Grammar.{Tokens}
use Rattle.ir_lexer.specs.Spelling.{Text}
use Rattle.ir_lexer.specs.Tokens.{AreTokens}
use Rattle.irdl_ops.specs.declared.raw.RawDefs.{RawDefs}
use Rattle.module_faults.specs.ModuleFaults as faults
use Rattle.module_meaning.specs.Completes.{Completes}
use Rattle.module_meaning.specs.Facts.{no_forms}
use Rattle.module_meaning.specs.WholeModules.{Loaded, WholeModule}
use Rattle.text_layout.specs.Lines.{layout}
use Rattle.irdl_engine.specs.Judged.{Predicates, SpellFiles}

-- ---- definitions

-- what definition files define, by these predicates, over a table of values
abbrev pub loaded_as : List Value → Predicates → List TypeDef → List OpDef → Loaded
loaded_as values natives types ops =
    record { values = values; tests = natives.tests; types = types; ops = ops }

-- The texts spell definition files that keep all rules, and define this. Constants are ids of some
-- table of values.
pub record IsLoadedFrom (natives : Predicates) (texts : List Text) (loaded : Loaded) : Type 0 where
  pub defs : List RawDefs
  pub spelled : SpellFiles texts defs
  pub tests : loaded.tests ≡ natives.tests
  pub are : AreLoaded defs natives.names natives.tests loaded.values loaded.types loaded.ops

-- ---- the text of a module

-- The tokens of a text, which spell this tree, with nothing in it too deep.
pub record SpellsModule (src : Text) (tree : ModuleCst) : Type 0 where
  pub tokens : Tokens
  pub are_tokens : AreTokens src tokens
  pub is_module : IsModule no_customs tokens tree

-- the number of the rule that a refused token breaks
abbrev pub code_of_syntax : SyntaxCode → ℕ
code_of_syntax Syntax = 1
code_of_syntax Float = 2
code_of_syntax Bad = 3
code_of_syntax Nesting = 4

-- The tokens of a text, and the first of them that no module has there, or that begins a value or a
-- region too deep.
pub record IsTokenFault (src : Text) (f : Fault) : Type 0 where
  pub tokens : Tokens
  pub are_tokens : AreTokens src tokens
  pub syntax : SyntaxCode
  pub refusal : IsRefusal (ModText no_customs) (TooDeepMod no_customs) tokens f.place syntax
  pub code : f.code ≡ code_of_syntax syntax

-- ---- what it means

-- The bytes denote the module: they spell a tree, and the module completes it.
pub record Denotes (loaded : Loaded) (src : Text) (m : WholeModule) : Type 0 where
  pub tree : ModuleCst
  pub spelled : SpellsModule src tree
  pub completes : Completes loaded no_forms tree m

-- The bytes spell a tree, which is refused for this fault.
pub record IsTreeFault (loaded : Loaded) (src : Text) (f : Fault) : Type 0 where
  pub tree : ModuleCst
  pub spelled : SpellsModule src tree
  pub refused : faults.IsRefusal loaded no_forms tree f

-- the text is refused for a token, or for what its tree says
abbrev pub IsModuleFault : Loaded → Text → Fault → Type 0
IsModuleFault loaded src f = IsTokenFault src f ⊎ IsTreeFault loaded src f

-- ---- rules as they are told

-- the numbers of the rules on modules, as a refusal shows them; there is no rule 0
abbrev pub module_code_texts : List Text
module_code_texts =
    codes "" ∷ codes "M1" ∷ codes "M2" ∷ codes "M3" ∷ codes "M4" ∷ codes "M5" ∷ codes "M6" ∷
    codes "M7" ∷ codes "M8" ∷ codes "M9" ∷ codes "M10" ∷ codes "M11" ∷ codes "M12" ∷ codes "M13" ∷
    codes "M14" ∷ codes "M15" ∷ codes "M16" ∷ codes "M17" ∷ codes "M18" ∷ codes "M19" ∷
    codes "M20" ∷ codes "M21" ∷ []

-- and their names
abbrev pub module_code_names : List Text
module_code_names =
    codes "" ∷ codes "Syntax" ∷ codes "FloatLiteral" ∷ codes "BadToken" ∷ codes "Nesting" ∷
    codes "AliasUnknown" ∷ codes "AliasRepeated" ∷ codes "ValueUnknown" ∷ codes "ValueRepeated" ∷
    codes "ResultNumber" ∷ codes "BlockUnknown" ∷ codes "BlockRepeated" ∷ codes "EntryTarget" ∷
    codes "KeyRepeated" ∷ codes "NameUnknown" ∷ codes "Parameters" ∷ codes "IntRange" ∷
    codes "OpUnknown" ∷ codes "Arity" ∷ codes "Unsatisfied" ∷ codes "UseType" ∷ codes "NotLast" ∷
    []

-- those of one rule
abbrev pub module_code_text : ℕ → Text
module_code_text code = slice_index_or module_code_texts code []

abbrev pub module_code_name : ℕ → Text
module_code_name code = slice_index_or module_code_names code []

-- ---- what is printed

-- the canonical text of a module in a form, where these operations are defined
abbrev pub canonical_text : Form → List OpDef → WholeModule → Text
canonical_text form ops m = layout (module_marks (form_marks form ops) m)

-- the canonical text of the module, in whatever form, denotes it
pub record IsReadBack (loaded : Loaded) (m : WholeModule) : Type 0 where
  pub each : (form : Form) → Denotes loaded (canonical_text form loaded.ops m) m
