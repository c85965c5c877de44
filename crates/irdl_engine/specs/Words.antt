-- The words of the command line, as texts.
--
--   texts words       the text of each word
--   spelled command   the command that the code's command stands for
use Rattle.std.specs.Prelude.{List, map}
use denote.Ref.{Bor}
use Rattle.ir_lexer.specs.Spelling.{Text}
use Rattle.irdl_engine.specs.Command as spec
use Rattle.irdl_engine.specs.declared.command.Command.{Command}
use Rattle.irdl_engine.specs.declared.command.Command.TheVariants.{Check, Verify, Print}

-- the text of each word
abbrev pub texts : List (Bor Text) → List Text
texts words = map (λ w. w.now) words

-- the command of the definitions that the code's command stands for
abbrev pub spelled : Command → spec.Command
spelled (Check defs) = spec.Check (texts defs.now)
spelled (Verify name defs) = spec.Verify name.now (texts defs.now)
spelled (Print form name defs) = spec.Print form name.now (texts defs.now)
