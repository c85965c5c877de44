-- What is printed is read again.
--
--   IsPrinted natives files command out
--                        the command printed the module that it names: standard output got the
--                        module's canonical text, and these bytes denote the same module
use Rattle.std.specs.Prelude.{◌≡◌}
use Rattle.std.specs.declared.option.Option.{Option}
use Rattle.std.specs.declared.option.Option.TheVariants.{Some}
use Rattle.derived_printer.specs.declared.form.Form.{Form}
use Rattle.irdl_bytes.specs.Outside.{FileMap}
use Rattle.irdl_engine.specs.Answer.{IsDenoted}
use Rattle.irdl_engine.specs.Command.{Command, printed_by}
use Rattle.irdl_engine.specs.Judged.{Predicates}
use Rattle.irdl_engine.specs.Modules.{Denotes, canonical_text}
use Rattle.irdl_engine.specs.Writes.{Change, Got}

-- The command prints a module in some form, and names files by which its module file denotes this
-- module. Standard output got the module's canonical text, and this denotes the same module.
pub record IsPrinted (natives : Predicates) (files : FileMap) (command : Option Command)
    (out : Change) : Type 0 where
  pub form : Form
  pub asked : printed_by command ≡ Some form
  pub module_is : IsDenoted natives files command
  pub got : Got out (canonical_text form module_is.loaded.ops module_is.denoted)
  pub again : Denotes module_is.loaded
      (canonical_text form module_is.loaded.ops module_is.denoted) module_is.denoted
