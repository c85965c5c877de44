-- What it is that tokens and texts are read as a module.
--
--   text_marks loaded m          the marks of the module's canonical text in generic form
--   IsReadAsModule loaded m ts   the tokens ts spell a tree that the module completes, and nothing
--                                in them nests too deep
--   IsTextOfModule loaded m text the tokens of the text are so
use Rattle.derived_printer.specs.declared.form.Form.TheVariants.{Generic}
use Rattle.derived_printer.specs.ModuleMarks.{form_marks, module_marks}
use Rattle.derived_printer.specs.ValueMarks.{Marks}
use Rattle.generic_syntax.specs.declared.module_cst.ModuleCst.{ModuleCst}
use Rattle.generic_syntax.specs.ModuleText.{IsModule}
use Rattle.generic_syntax.specs.Operations.{no_customs}
use Rattle.grammar.specs.Grammar.{Tokens}
use Rattle.ir_lexer.specs.Spelling.{Text}
use Rattle.ir_lexer.specs.Tokens.{AreTokens}
use Rattle.module_meaning.specs.Completes.{Completes}
use Rattle.module_meaning.specs.Facts.{CustomForms}
use Rattle.module_meaning.specs.WholeModules.{Loaded, WholeModule}

-- what is printed of a module in generic form, where these definitions are loaded
abbrev pub text_marks : Loaded → WholeModule → Marks
text_marks loaded m = module_marks (form_marks Generic loaded.ops) m

-- The tokens, up to and with the end, spell a tree in which nothing nests too deep, and the module
-- completes it, whatever custom forms operations may have elsewhere.
pub record IsReadAsModule (loaded : Loaded) (m : WholeModule) (ts : Tokens) : Type 0 where
  pub tree : ModuleCst
  pub read : IsModule no_customs ts tree
  pub completes : (forms : CustomForms) → Completes loaded forms tree m

-- the tokens of the text are read as the module
pub record IsTextOfModule (loaded : Loaded) (m : WholeModule) (text : Text) : Type 0 where
  pub tokens : Tokens
  pub are : AreTokens text tokens
  pub read : IsReadAsModule loaded m tokens
