-- The first file of a name among files in memory: where it stands, and that it is the one found.
use Rattle.std.proofs.Common.{◌≡◌, ◌≢◌, ℕ, zero, suc, ◌<◌, ◌≤◌, Bool, true, false, List, [], ◌∷◌, length, get_or, nat_eq, arith, refl, sym, ◌∙◌}
use Rattle.std.specs.Prelude.{find, position, slice_get, IfSome}
use Rattle.std.specs.declared.option.Option.{Option}
use Rattle.std.specs.declared.option.Option.TheVariants.{Some, None}
use Rattle.std.specs.Option.{option_map, is_some}
use Rattle.std.specs.List.{position_or_len}
use Rattle.std.specs.Cmp.Lexicographic.{pointwise, same_text, other_text}
use Rattle.std.proofs.lemmas.Grind.{common_steps}
use Rattle.std.proofs.lemmas.List.Folds.{find_at}
use Rattle.std.proofs.lemmas.List.Quantifiers.{position-Some}
use Rattle.std.proofs.lemmas.Option.{slice_get-get_or, slice_get_past, slice_get_read}
use Rattle.irdl_bytes.specs.declared.mem_file.MemFile.{MemFile}
use Rattle.irdl_bytes.specs.MemFiles.{is_named, map_of}
use Rattle.irdl_bytes.specs.OpenAt.{name_at, IsFirstNamed}

-- a text is found equal to itself
pub pointwise-refl : (name : List ℕ) → pointwise nat_eq name name ≡ true
pointwise-refl name = told (pointwise nat_eq name name) refl
  where
    told : (same : Bool) → same ≡ pointwise nat_eq name name → same ≡ true
    told true is = refl
    told false is = absurd (other_text name name is refl)

-- texts that differ aren't found equal
pub pointwise-other : (name other : List ℕ) → other ≢ name → pointwise nat_eq name other ≡ false
pointwise-other name other differ = told (pointwise nat_eq name other) refl
  where
    told : (same : Bool) → same ≡ pointwise nat_eq name other → same ≡ false
    told true is = absurd (differ (sym (same_text name other is)))
    told false is = refl

-- a value that is there is one
pub none-from : {X : Type 0} (o : Option X) → false ≡ is_some o → o ≡ None
none-from None e = refl
none-from (Some x) e = cc

module _ {X : Type 0} (p : X → Bool) where
  -- the place of the first is an index of the list
  pub position-is : (xs : List X) (i : ℕ) → position p xs ≡ Some i →
      (position_or_len p xs ≡ i) × (i < length xs)
  position-is xs i e = (grind (arith, common_steps), grind (arith, common_steps))

  -- what is found stands at the first place
  find-position : (xs : List X) (i : ℕ) (x : X) → position p xs ≡ Some i →
      x ≡ get_or xs i x → find p xs ≡ Some x
  find-position xs i x e is =
      rw (find_at p xs, (position-is xs i e).0)
      (slice_get_read xs (length xs) i x refl (position-is xs i e).1 is)

  -- nothing is found where there is no place
  find-none : (xs : List X) → position p xs ≡ None → find p xs ≡ None
  find-none xs e =
      let past : length xs ≤ position_or_len p xs = grind (arith, common_steps) in
      rw (find_at p xs, slice_get_past xs (position_or_len p xs) past)

  -- an index within a list has an element
  is-some-slice-get : (xs : List X) (i : ℕ) → i < length xs → true ≡ is_some (slice_get xs i)
  is-some-slice-get [] i lt = absurd (omega arith)
  is-some-slice-get (x ∷ xs) i lt = rw (slice_get-get_or (x ∷ xs) i x lt)

  -- a place is there exactly where something is found
  is-some-position : (xs : List X) → is_some (position p xs) ≡ is_some (find p xs)
  is-some-position xs = told (position p xs) refl
    where
      told : (place : Option ℕ) → position p xs ≡ place →
          is_some (position p xs) ≡ is_some (find p xs)
      told None e = rw (e, find-none xs e)
      told (Some i) e =
          rw (e, find_at p xs, (position-is xs i e).0)
          (is-some-slice-get xs i (position-is xs i e).1)

-- a name has a place exactly where it has bytes
pub is-some-map-of : (files : List MemFile) (name : List ℕ) →
    is_some (position (is_named name) files) ≡ is_some (map_of files name)
is-some-map-of files name =
    is-some-position (is_named name) files ∙ bytes-too (find (is_named name) files)
  where
    bytes-too : (found : Option MemFile) → is_some found ≡ is_some (option_map (λ f. f.bytes) found)
    bytes-too None = refl
    bytes-too (Some file) = refl

-- some file, which is read past the end of a list
pub no-file : MemFile
no-file = record { name = []; bytes = [] }

-- the first place of a name has a file of that name
pub name-of-first : (files : List MemFile) (name : List ℕ) (at : ℕ) (file : MemFile) →
    position (is_named name) files ≡ Some at → file ≡ get_or files at file → file.name ≡ name
name-of-first files name at file place is =
    let passes : is_named name file ≡ true =
    rw is (position-Some (is_named name) files at file place).1 in
    same_text file.name name (sym passes)

-- the bytes of a file that is the first of its name
pub bytes-of-first : (files : List MemFile) (at : ℕ) (file : MemFile) → IsFirstNamed files at →
    file ≡ get_or files at file → map_of files (name_at files at) ≡ Some file.bytes
bytes-of-first files at file first is =
    rw (find-position (is_named (name_at files at)) files at file first is)

-- an element within a list is read whatever stands for one past it
get-or-get-or : (files : List MemFile) (at : ℕ) (other : MemFile) → at < length files →
    get_or files at other ≡ get_or files at (get_or files at other)
get-or-get-or [] at other lt = absurd (omega arith)
get-or-get-or (f ∷ fs) zero other lt = refl
get-or-get-or (f ∷ fs) (suc at) other lt = get-or-get-or fs at other (omega arith)

-- the first place of a name has that name
name-at-position : (files : List MemFile) (name : List ℕ) (at : ℕ) →
    position (is_named name) files ≡ Some at → name_at files at ≡ name
name-at-position files name at place =
    let within : at < length files = (position-is (is_named name) files at place).1 in
    rw (slice_get-get_or files at no-file within)
    (name-of-first files name at (get_or files at no-file) place
    (get-or-get-or files at no-file within))

-- the place of a name, if there is one, has that name
pub named-found : (files : List MemFile) (name : List ℕ) (place : Option ℕ) →
    place ≡ position (is_named name) files → IfSome place (λ at. name_at files at ≡ name)
named-found files name None e = tt
named-found files name (Some at) e = name-at-position files name at (sym e)

-- and it is the first place of its own name
pub first-found : (files : List MemFile) (name : List ℕ) (place : Option ℕ) →
    place ≡ position (is_named name) files → IfSome place (λ at. IsFirstNamed files at)
first-found files name None e = tt
first-found files name (Some at) e = rw (name-at-position files name at (sym e)) (sym e)
