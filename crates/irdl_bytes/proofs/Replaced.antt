-- A file in memory gets other bytes: its name has them, no other name's bytes change, and each
-- file that is the first of its name is still so.
use Rattle.std.proofs.Common.{◌≡◌, ◌≢◌, ℕ, true, false, List, get_or, set, map, refl, sym, ap}
use Rattle.std.specs.Prelude.{position}
use Rattle.std.specs.declared.option.Option.TheVariants.{Some}
use Rattle.std.specs.List.{position_or_len}
use Rattle.std.proofs.Math.Seq.{map-set_same}
use Rattle.std.proofs.lemmas.List.{length-set}
use Rattle.std.proofs.lemmas.List.Folds.{find-set, find_past, position_or_len-set}
use Rattle.std.proofs.lemmas.Option.{slice_get-map}
use Rattle.irdl_bytes.specs.declared.mem_file.MemFile.{MemFile}
use Rattle.irdl_bytes.specs.MemFiles.{is_named, map_of}
use Rattle.irdl_bytes.specs.OpenAt.{name_at, IsFirstNamed, SameFirst}
use Rattle.irdl_bytes.proofs.FirstPlaces.{pointwise-refl, pointwise-other, position-is, name-of-first}

-- a file's name
abbrev file_name : MemFile → List ℕ
file_name file = file.name

module _ (files : List MemFile) (at : ℕ) (file : MemFile) (bytes : List ℕ)
    (first : IsFirstNamed files at) (is : file ≡ get_or files at file) where
  -- the file with its other bytes
  abbrev changed : MemFile
  changed = record file { bytes = bytes }

  -- the files with it
  abbrev pub replaced : List MemFile
  replaced = set files at changed

  -- its name is that of the index
  named : (name : List ℕ) → name_at files at ≡ name → file.name ≡ name
  named name at_name = name-of-first files name at file (rw at_name at first) is

  -- its name has the other bytes
  pub replaced-has : (name : List ℕ) → name_at files at ≡ name → map_of replaced name ≡ Some bytes
  replaced-has name at_name =
      let place : position (is_named name) files ≡ Some at = rw at_name at first in
      let index = position-is (is_named name) files at place in
      let passes : is_named name changed ≡ true = rw (named name at_name) (pointwise-refl name) in
      rw (find-set (is_named name) files at changed (sym index.0) index.1 passes)

  -- no other name has other bytes
  pub replaced-others : (name other : List ℕ) → name_at files at ≡ name → other ≢ name →
      map_of replaced other ≡ map_of files other
  replaced-others name other at_name differ =
      let fails : is_named other changed ≡ false =
      rw (named name at_name) (pointwise-other name other differ) in
      let failed : is_named other (get_or files at file) ≡ false = rw (← is) fails in
      rw (find_past (is_named other) files at changed file failed fails)

  -- the names stand where they stood
  names : map file_name replaced ≡ map file_name files
  names = map-set_same file_name files at changed file (ap file_name is)

  -- a first file is still one
  pub replaced-firsts : (k : ℕ) → IsFirstNamed files k → SameFirst files replaced k
  replaced-firsts k is-first =
      let test = is_named (name_at files k) in
      let name_is : name_at replaced k ≡ name_at files k =
      rw (← slice_get-map file_name replaced k, names, slice_get-map file_name files k) refl in
      let place : position_or_len test replaced ≡ position_or_len test files =
      position_or_len-set test files at changed file (ap test is) in
      record {
        first = rw (name_is, place, length-set files at changed) is-first;
        name_is = name_is;
      }
