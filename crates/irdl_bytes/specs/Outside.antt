-- What a program sees of the files that it reads and of the streams that it writes.
--
-- Files may tell the bytes of each name, and which of them is open; a stream may tell the bytes
-- written to it. Both count the calls that failed by a fault from outside. The count is kept in
-- 64 bits and never falls, so an answer that blames the outside is checked against it: the count
-- rose.
--
--   FileMap                          the bytes of each name that has a file
--   OpenFile                         the name of the open file, and the place read to
--   greatest_count                   the greatest count, which is kept in 64 bits
--   next_count n                     the count after one more, which stops at the greatest
--   Rose before now                  a count went up, or stands at the greatest
--   FaultsByItself steady before now the files aren't steady, and their count rose
--   Lacks told name                  the map is told, and has no such name
--   first_byte name                  the file of this name, open at its first byte
--   ReadsNext files file now n into  a read gave the next n bytes of the open file
--   ReadsTold told file now n into   the same, where the map is told and a file is open
--   AppendsPrefix old new piece      the bytes told grew by a front of a piece
use Rattle.std.specs.Prelude.{
  ◌≡◌,
  ℕ,
  ◌+◌,
  ◌-◌,
  ◌^◌,
  ◌≤◌,
  min,
  Bool,
  false,
  List,
  take,
  drop,
  length,
  ⊤,
}
use Rattle.std.specs.declared.option.Option.{Option}
use Rattle.std.specs.declared.option.Option.TheVariants.{Some, None}
use Rattle.std.specs.Io.KnownBytes.{Appends}

-- the bytes of each name that has a file
abbrev pub FileMap : Type 0
FileMap = List ℕ → Option (List ℕ)

-- a file that is open: its name, and how many of its bytes were read
pub record OpenFile : Type 0 where
  pub name : List ℕ
  pub place : ℕ

-- the file of this name, open at its first byte
abbrev pub first_byte : List ℕ → OpenFile
first_byte name = record { name = name; place = 0 }

-- the greatest count, which is the greatest number of 64 bits
abbrev pub greatest_count : ℕ
greatest_count = 2 ^ 64 - 1

-- the count after one more, which stands still at the greatest
abbrev pub next_count : ℕ → ℕ
next_count n = min (n + 1) greatest_count

-- a count went up, or stands at the greatest
abbrev pub Rose : ℕ → ℕ → Type 0
Rose before now = next_count before ≤ now

-- files that aren't steady fail by themselves, and then their count rose
abbrev pub FaultsByItself : Bool → ℕ → ℕ → Type 0
FaultsByItself steady before now = (steady ≡ false) × Rose before now

-- the map is told, and has no such name
abbrev pub Lacks : Option FileMap → List ℕ → Type 0
Lacks None name = ⊥
Lacks (Some files) name = files name ≡ None

-- A read of n bytes into a buffer took the next n bytes of the open file. They stand at the
-- buffer's front, the place moved past them, and none were read only at the file's end.
pub record ReadsNext (files : FileMap) (file : OpenFile) (now : Option OpenFile)
    (n : ℕ) (into : List ℕ) : Type 0 where
  pub bytes : List ℕ
  pub has : files file.name ≡ Some bytes
  pub next : take n into ≡ take n (drop file.place bytes)
  pub moved : now ≡ Some (record file { place = file.place + n })
  pub at_end : n ≡ 0 → length bytes ≤ file.place

-- A read gave the next bytes, where the map is told and a file is open.
abbrev pub ReadsTold : Option FileMap → Option OpenFile → Option OpenFile → ℕ → List ℕ → Type 0
ReadsTold None file now n into = ⊤
ReadsTold (Some files) None now n into = ⊤
ReadsTold (Some files) (Some file) now n into = ReadsNext files file now n into

-- the bytes told grew by the first n of a piece, for some n
abbrev pub AppendsPrefix : Option (List ℕ) → Option (List ℕ) → List ℕ → Type 0
AppendsPrefix old new piece = (n : ℕ) × Appends old new (take n piece)
