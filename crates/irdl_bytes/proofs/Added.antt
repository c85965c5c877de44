-- A file of a new name is put behind the files in memory: the name has its bytes, no other name's
-- bytes change, and each file that is the first of its name is still so.
use Rattle.std.proofs.Common.{◌≡◌, ◌≢◌, ℕ, List, [], ◌∷◌, ◌++◌, arith, refl}
use Rattle.std.specs.Prelude.{find}
use Rattle.std.specs.declared.option.Option.{Option}
use Rattle.std.specs.declared.option.Option.TheVariants.{Some, None}
use Rattle.std.specs.Option.{option_map, option_or}
use Rattle.std.proofs.lemmas.Grind.{common_steps}
use Rattle.std.proofs.lemmas.List.{get_or_append_left, length-append}
use Rattle.std.proofs.lemmas.List.Folds.{find-append}
use Rattle.std.proofs.lemmas.Option.{slice_get-get_or}
use Rattle.irdl_bytes.specs.declared.mem_file.MemFile.{MemFile}
use Rattle.irdl_bytes.specs.MemFiles.{is_named, map_of}
use Rattle.irdl_bytes.specs.OpenAt.{name_at, IsFirstNamed, SameFirst}
use Rattle.irdl_bytes.proofs.FirstPlaces.{pointwise-refl, pointwise-other, position-is, no-file}

-- nothing stands behind what was found
bytes-or-none : (found : Option MemFile) →
    option_map (λ f. f.bytes) (option_or found None) ≡ option_map (λ f. f.bytes) found
bytes-or-none None = refl
bytes-or-none (Some file) = refl

module _ (files : List MemFile) (name bytes : List ℕ) (new : map_of files name ≡ None) where
  -- the new file, alone
  abbrev last : List MemFile
  last = record { name = name; bytes = bytes } ∷ []

  -- no file has the name
  not-found : find (is_named name) files ≡ None
  not-found = told (find (is_named name) files) refl
    where
      told : (found : Option MemFile) → find (is_named name) files ≡ found →
          find (is_named name) files ≡ None
      told None e = e
      told (Some file) e = let some : Some file.bytes ≡ None = rw e at new in cc

  -- the name has the new bytes
  pub added-has : map_of (files ++ last) name ≡ Some bytes
  added-has = rw (find-append (is_named name) files last, not-found, pointwise-refl name)

  -- no other name has other bytes
  pub added-others : (other : List ℕ) → other ≢ name →
      map_of (files ++ last) other ≡ map_of files other
  added-others other differ =
      rw (find-append (is_named other) files last, pointwise-other name other differ)
      (bytes-or-none (find (is_named other) files))

  -- a first file is still one
  pub added-firsts : (k : ℕ) → IsFirstNamed files k → SameFirst files (files ++ last) k
  added-firsts k is-first =
      let index = position-is (is_named (name_at files k)) files k is-first in
      let name_is : name_at (files ++ last) k ≡ name_at files k =
      rw (
        slice_get-get_or (files ++ last) k no-file (omega (arith, length-append {A = MemFile})),
        slice_get-get_or files k no-file index.1,
        get_or_append_left files last no-file k index.1,
      ) in
      record { first = rw name_is (grind (arith, common_steps, index)); name_is = name_is }
