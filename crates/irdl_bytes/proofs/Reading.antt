-- A file of which the front was read. By cases on whether the map is told and a file is open.
use Rattle.std.proofs.Common.{◌≡◌, ℕ, ◌≤◌, List, [], ◌++◌, length, take, drop, refl, append_assoc, ◌∙◌, length-append}
use Rattle.std.specs.Prelude.{⊤, IsSome, IfSome}
use Rattle.std.specs.declared.option.Option.{Option}
use Rattle.std.specs.declared.option.Option.TheVariants.{Some, None}
use Rattle.std.proofs.lemmas.List.{length-take-le, take-append-drop}
use Rattle.std.proofs.Math.Seq.{drop-append_seam}
use Rattle.irdl_bytes.specs.Outside.{FileMap, OpenFile, first_byte, ReadsNext, ReadsTold}

-- the bytes told of a name are those read and those that come, and the place is past those read
pub record Front (files : FileMap) (name read : List ℕ) (file : Option OpenFile) : Type 0 where
  pub rest : List ℕ
  pub has : files name ≡ Some (read ++ rest)
  pub file_is : file ≡ Some (record { name = name; place = length read })

-- the same, where the map is told
abbrev pub Reading : Option FileMap → List ℕ → List ℕ → Option OpenFile → Type 0
Reading None name read file = ⊤
Reading (Some files) name read file = Front files name read file

-- nothing is read of a file that was opened
pub reading-start : (told : Option FileMap) (name : List ℕ) (file : Option OpenFile) →
    IfSome told (λ files. IsSome (files name)) → IfSome told (λ _. file ≡ Some (first_byte name)) →
    Reading told name [] file
reading-start None name file has first = tt
reading-start (Some files) name file has first = started (files name) refl has
  where
    started : (bytes : Option (List ℕ)) → files name ≡ bytes → IsSome bytes →
        Front files name [] file
    started None is some = cc
    started (Some bytes) is some = record { rest = bytes; has = is; file_is = first }

-- no file is open, so none was read
none-open : (files : FileMap) (name read : List ℕ) → ¬ Front files name read None
none-open files name read reading =
    let open_file : OpenFile = record { name = name; place = length read } in
    let closed : None ≡ Some open_file = reading.file_is in
    cc

-- a read moves its bytes from those to come to those read
read-next : (files : FileMap) (name read : List ℕ) (file : OpenFile) (new : Option OpenFile)
    (n : ℕ) (into : List ℕ) → Front files name read (Some file) → n ≤ length into →
    ReadsNext files file new n into → Front files name (read ++ take n into) new
read-next files name read file new n into reading fits next =
    let file_is : file ≡ record { name = name; place = length read } = cc in
    let bytes_are : next.bytes ≡ read ++ reading.rest = cc in
    let taken : take n into ≡ take n reading.rest =
    next.next ∙ rw (file_is, bytes_are, drop-append_seam read reading.rest) in
    record {
      rest = drop n reading.rest;
      has = rw (taken, append_assoc, take-append-drop n reading.rest) reading.has;
      file_is = next.moved ∙ rw (file_is, length-append, length-take-le n into fits);
    }

-- the same, where the map is told and a file is open
pub reading-more : (told : Option FileMap) (name read : List ℕ) (old new : Option OpenFile)
    (n : ℕ) (into : List ℕ) → Reading told name read old → n ≤ length into →
    ReadsTold told old new n into → Reading told name (read ++ take n into) new
reading-more None name read old new n into reading fits next = tt
reading-more (Some files) name read None new n into reading fits next =
    absurd (none-open files name read reading)
reading-more (Some files) name read (Some file) new n into reading fits next =
    read-next files name read file new n into reading fits next

pub ruleset reading = (reading-start, reading-more)
