-- What the reading of a whole file tells of its bytes.
--
--   TellsBytes told name result    what an answer of `read_whole` says of the bytes of a name
--   IsPastLimit told name file     the open file is that of the name, one byte past the limit
use Rattle.std.specs.Prelude.{◌≡◌, ℕ, ◌+◌, ◌<◌, List, length, ⊤}
use Rattle.std.specs.declared.option.Option.{Option}
use Rattle.std.specs.declared.option.Option.TheVariants.{Some, None}
use Rattle.std.specs.declared.result.Result.{Result}
use Rattle.std.specs.declared.result.Result.TheVariants.{Ok, Err}
use Rattle.std.specs.declared.vec.Vec.{Vec}
use Rattle.std.specs.declared.alloc.Global.{Global}
use Rattle.irdl_bytes.specs.Outside.{FileMap, OpenFile}
use Rattle.irdl_bytes.specs.declared.whole.TheConstants.{FILE_LIMIT}
use Rattle.irdl_bytes.specs.declared.whole.ReadError.{ReadError}
use Rattle.irdl_bytes.specs.declared.whole.ReadError.TheVariants.{ReadFault, InputLimit, OutOfMemory}

-- Where the bytes of names are told: those given are the name's, and a name whose file is too
-- long has more bytes than the limit. An answer that isn't about the bytes says nothing of them.
abbrev pub TellsBytes : Option FileMap → List ℕ → Result (Vec ℕ Global) ReadError → Type 0
TellsBytes None name result = ⊤
TellsBytes (Some files) name (Ok read) = files name ≡ Some read.items
TellsBytes (Some files) name (Err InputLimit) =
    (bytes : List ℕ) × (files name ≡ Some bytes) × (FILE_LIMIT < length bytes)
TellsBytes (Some files) name (Err ReadFault) = ⊤
TellsBytes (Some files) name (Err OutOfMemory) = ⊤

-- Where the bytes of names are told: so far the file of this name was read, and no further.
abbrev pub IsPastLimit : Option FileMap → List ℕ → Option OpenFile → Type 0
IsPastLimit None name file = ⊤
IsPastLimit (Some files) name file = file ≡ Some (record { name = name; place = FILE_LIMIT + 1 })
