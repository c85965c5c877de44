-- What the words of the command line ask for.
--
--   Command           what can be asked for
--   command_of words  what the words ask for, or nothing where they fit no form
--   files_of command  the names of the files that it names, in order
--   printed_by command     the form in which it writes a module, if it does
use Rattle.std.specs.Prelude.{List, [], ◌∷◌, ◌++◌, length, nat_le, codes, bytes_eq, if◌then◌else◌}
use Rattle.std.specs.declared.option.Option.{Option}
use Rattle.std.specs.declared.option.Option.TheVariants.{Some, None}
use Rattle.derived_printer.specs.declared.form.Form.{Form}
use Rattle.derived_printer.specs.declared.form.Form.TheVariants.{Generic}
use Rattle.ir_lexer.specs.Spelling.{Text}
use Rattle.irdl_engine.specs.declared.command.TheConstants.{DEF_LIMIT}

-- what can be asked for
pub data Command : Type 0 where
  -- read and judge the definition files of these names, in this order
  Check : List Text → Command
  -- read and judge them, and then the module of this name
  Verify : Text → List Text → Command
  -- read and judge all of them, and write the module in this form
  Print : Form → Text → List Text → Command

-- the command, if so many definition files may stand in it
abbrev pub within_limit : List Text → Command → Option Command
within_limit defs command = if nat_le (length defs) DEF_LIMIT then Some command else None

-- behind `verify`: the name of a module, and those of definition files
abbrev pub verify_of : List Text → Option Command
verify_of [] = None
verify_of (name ∷ defs) = within_limit defs (Verify name defs)

-- behind `print` and the word of a form: the same
abbrev pub print_as : Form → List Text → Option Command
print_as form [] = None
print_as form (name ∷ defs) = within_limit defs (Print form name defs)

-- behind `print`
abbrev pub print_of : List Text → Option Command
print_of [] = None
print_of (form ∷ names) =
    if bytes_eq form (codes "generic") then print_as Generic names else None

-- `check DEF..`, `verify MODULE DEF..` or `print generic MODULE DEF..`, and no other words
abbrev pub command_of : List Text → Option Command
command_of [] = None
command_of (verb ∷ names) =
    if bytes_eq verb (codes "check") then within_limit names (Check names) else
    (if bytes_eq verb (codes "verify") then verify_of names else
    (if bytes_eq verb (codes "print") then print_of names else None))

-- the names of the files that a command names, in the order in which they are read
abbrev pub files_of : Command → List Text
files_of (Check defs) = defs
files_of (Verify name defs) = defs ++ name ∷ []
files_of (Print form name defs) = defs ++ name ∷ []

-- what the command writes to standard output where all is well: nothing, or a module in a form
abbrev pub printed_by : Option Command → Option Form
printed_by (Some (Print form name defs)) = Some form
printed_by _ = None
