-- The open file of files in memory as the code keeps it: its index among them and its place.
--
--   name_at files at      the name of the file at an index
--   IsFirstNamed files at the file there is the first of its name
--   SameFirst old new at  a file that is the first of its name in both of two lists
--   opened files cursor   the open file of a cursor, if there is one
--   moved_by count        a cursor that many bytes further
use Rattle.std.specs.Prelude.{◌≡◌, ℕ, ◌+◌, List, [], slice_get, position}
use Rattle.std.specs.declared.option.Option.{Option}
use Rattle.std.specs.declared.option.Option.TheVariants.{Some}
use Rattle.std.specs.Option.{option_map, unwrap_or}
use Rattle.irdl_bytes.specs.declared.mem_file.MemFile.{MemFile}
use Rattle.irdl_bytes.specs.declared.mem_files.Cursor.{Cursor}
use Rattle.irdl_bytes.specs.MemFiles.{is_named}
use Rattle.irdl_bytes.specs.Outside.{OpenFile}

-- the name of the file at an index, none past the last
abbrev pub name_at : List MemFile → ℕ → List ℕ
name_at files at = unwrap_or (option_map (λ file. file.name) (slice_get files at)) []

-- the file at an index is the first of its name
abbrev pub IsFirstNamed : List MemFile → ℕ → Type 0
IsFirstNamed files at = position (is_named (name_at files at)) files ≡ Some at

-- an index has the first file of its name in two lists, and that name is the same
pub record SameFirst (old new : List MemFile) (at : ℕ) : Type 0 where
  pub first : IsFirstNamed new at
  pub name_is : name_at new at ≡ name_at old at

-- the open file of a cursor, if there is one
abbrev pub opened : List MemFile → Option Cursor → Option OpenFile
opened files cursor =
    option_map (λ c. record { name = name_at files c.file; place = c.place }) cursor

-- a cursor that many bytes further
abbrev pub moved_by : ℕ → Cursor → Cursor
moved_by count cursor = record cursor { place = cursor.place + count }
