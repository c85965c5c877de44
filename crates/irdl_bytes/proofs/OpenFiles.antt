-- The open file of files in memory by its index: what is left of it, and what a read gives of it.
use Rattle.std.proofs.Common.{◌≡◌, ℕ, ◌<◌, List, length, get_or, take, drop, arith, refl}
use Rattle.std.specs.Prelude.{min, IfSome}
use Rattle.std.specs.declared.option.Option.{Option}
use Rattle.std.specs.declared.option.Option.TheVariants.{Some}
use Rattle.std.proofs.lemmas.List.{length-drop}
use Rattle.irdl_bytes.specs.declared.mem_file.MemFile.{MemFile}
use Rattle.irdl_bytes.specs.declared.mem_files.Cursor.{Cursor}
use Rattle.irdl_bytes.specs.MemFiles.{map_of, rest_of}
use Rattle.irdl_bytes.specs.Outside.{ReadsTold}
use Rattle.irdl_bytes.specs.OpenAt.{opened, moved_by, IsFirstNamed}
use Rattle.irdl_bytes.proofs.FirstPlaces.{bytes-of-first}

module _ (files : List MemFile) (cursor : Option Cursor) (c : Cursor) (file : MemFile)
    (at_c : cursor ≡ Some c) (first : IfSome cursor (λ c. IsFirstNamed files c.file))
    (is : file ≡ get_or files c.file file) where
  -- the file of the cursor is the first of its name
  is-first : IsFirstNamed files c.file
  is-first = rw at_c at first

  -- what is left of it
  pub rest-is : rest_of files (opened files cursor) ≡ drop c.place file.bytes
  rest-is = rw (at_c, bytes-of-first files c.file file is-first is)

  -- a read that copies as much of that as there is room for gives its next bytes
  pub reads-told : (n room : ℕ) (into : List ℕ) → 0 < room →
      n ≡ min room (length (drop c.place file.bytes)) →
      take n into ≡ take n (drop c.place file.bytes) →
      ReadsTold (Some (map_of files))
      (opened files cursor) (opened files (Some (moved_by n c))) n into
  reads-told n room into has_room count front =
      rw at_c (record {
        bytes = file.bytes;
        has = bytes-of-first files c.file file is-first is;
        next = front;
        moved = refl;
        at_end = λ none. omega (arith, length-drop {A = ℕ});
      })
