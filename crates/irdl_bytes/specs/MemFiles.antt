-- Files in memory, and what their calls do.
--
--   FilesState               what contracts see of them
--   is_named name file       the file has this name
--   map_of files             the bytes of each name
--   rest_of files file       what is left of the open file
--   open_fails s name        a call of `open` with this name fails
--   after_open s name        the files after that call
--   read_fails s             a call of `read` fails
--   further count file       the open file, so many bytes further
--   after_read s count       the files after a call of `read` that gives so many bytes
use Rattle.std.specs.Prelude.{
  ℕ,
  ◌+◌,
  ◌||◌,
  Bool,
  List,
  [],
  drop,
  nat_eq,
  find,
  is_none,
  if◌then◌else◌,
}
use Rattle.std.specs.declared.option.Option.{Option}
use Rattle.std.specs.declared.option.Option.TheVariants.{Some, None}
use Rattle.std.specs.Option.{option_map, unwrap_or}
use Rattle.std.specs.Cmp.Lexicographic.{pointwise}
use Rattle.irdl_bytes.specs.declared.mem_file.MemFile.{MemFile}
use Rattle.irdl_bytes.specs.Outside.{FileMap, OpenFile, first_byte, next_count}
use Rattle.irdl_bytes.specs.Planned.{is_planned}

-- The files; the open one; how many calls of `open` and `read` were made; the numbers of those
-- planned to fail; how many failed.
pub record FilesState : Type 0 where
  pub files : List MemFile
  pub open_file : Option OpenFile
  pub calls : ℕ
  pub planned : List ℕ
  pub faults : ℕ

-- a file has this name
abbrev pub is_named : List ℕ → MemFile → Bool
is_named name file = pointwise nat_eq file.name name

-- a name has the bytes of the first file of that name
abbrev pub map_of : List MemFile → FileMap
map_of files name = option_map (λ file. file.bytes) (find (is_named name) files)

-- The bytes of the open file from its place on: none past its end, or where no file is open.
abbrev pub rest_of : List MemFile → Option OpenFile → List ℕ
rest_of files None = []
rest_of files (Some file) = drop file.place (unwrap_or (map_of files file.name) [])

-- `open` fails where it is planned to, and on a name that isn't there
abbrev pub open_fails : FilesState → List ℕ → Bool
open_fails s name = is_planned s.calls s.planned || is_none (map_of s.files name)

-- The file of the name is open at its first byte, or none where the call fails. Each call is
-- counted, and where it fails, so is a fault.
abbrev pub after_open : FilesState → List ℕ → FilesState
after_open s name = record s {
  open_file = if open_fails s name then None else Some (first_byte name);
  calls = next_count s.calls;
  faults = if open_fails s name then next_count s.faults else s.faults;
}

-- `read` fails where it is planned to
abbrev pub read_fails : FilesState → Bool
read_fails s = is_planned s.calls s.planned

-- so many bytes further
abbrev pub further : ℕ → OpenFile → OpenFile
further count file = record file { place = file.place + count }

-- The open file is so many bytes further, or where it was if the call fails. Each call is
-- counted, and where it fails, so is a fault.
abbrev pub after_read : FilesState → ℕ → FilesState
after_read s count = record s {
  open_file = if read_fails s then s.open_file else option_map (further count) s.open_file;
  calls = next_count s.calls;
  faults = if read_fails s then next_count s.faults else s.faults;
}
