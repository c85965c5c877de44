-- What files hold that are read.
--
--   IsTextOf files name text    the file of this name is there, and has this text, within the limit
--   AreTextsOf files names texts
--                               the same of each of some names and its text, in order
--   IsRead files name           the file of this name is there, within the limit
use Rattle.std.specs.Prelude.{◌≡◌, ◌≤◌, List, length}
use Rattle.std.specs.List.{AllZip}
use Rattle.std.specs.declared.option.Option.TheVariants.{Some}
use Rattle.irdl_bytes.specs.Outside.{FileMap}
use Rattle.irdl_bytes.specs.declared.whole.TheConstants.{FILE_LIMIT}
use Rattle.ir_lexer.specs.Spelling.{Text}

-- The file of this name is there, and this text, which is within the limit, is all of it.
pub record IsTextOf (files : FileMap) (name text : Text) : Type 0 where
  pub has : files name ≡ Some text
  pub within : length text ≤ FILE_LIMIT

-- each text is that of the name at its place, and there are as many
abbrev pub AreTextsOf : FileMap → List Text → List Text → Type 0
AreTextsOf files names texts = AllZip (IsTextOf files) names texts

-- the file of this name is there, within the limit
abbrev pub IsRead : FileMap → Text → Type 0
IsRead files name = (text : Text) × IsTextOf files name text
