-- What a text says of names: a list of marks, in the order of the text.
--
-- A region of an operation begins and ends, a name is defined or used, a block is labelled or led
-- to, an alias is defined or mentioned. Regions are numbered in the order in which they are
-- entered; the top level is region 0, and is open throughout. The definitions of value names are
-- numbered from 0 in the order of the text, and so are the uses and the successors.
--
--   ScopeMark            one thing that a text says of names
--   Definition, Use, Label, Successor, AliasName
--                        what the marks of each sort say
--   Standing             how many regions were entered, and which are open
--   top                  where a text begins
--   standing ms          behind these marks
--   along f s ms         what f says of each mark, by the regions that are open there
--   Binding              a defined name, with the region that it is defined in
--   bindings k ms        the names of one kind that the marks define, in order
--   uses_in ms           the uses of value names, in order
--   successors_in ms     the successors, in order
use Rattle.std.specs.Prelude.{ℕ, ◌+◌, Bool, List, [], ◌∷◌, ◌++◌}
use Rattle.std.specs.List.{flat_map}
use Rattle.symbol_scopes.specs.declared.call.NameKind.{NameKind}
use Rattle.symbol_scopes.specs.declared.call.NameKind.TheVariants.{Values, Labels}

-- a name is its bytes
abbrev pub Name : Type 0
Name = List ℕ

-- a name that stands for a pack of so many values; the count is 0 where the text gives the pack a
-- wrong size, whose uses aren't judged
pub record Definition : Type 0 where
  pub name : Name
  pub place : ℕ
  pub count : ℕ

-- a use of the value with this number, from 0, of the pack of a name; the number's own place
pub record Use : Type 0 where
  pub name : Name
  pub place : ℕ
  pub number : ℕ
  pub number_place : ℕ

-- the label of the block with this number in its region, the entry block being 0
pub record Label : Type 0 where
  pub name : Name
  pub place : ℕ
  pub block : ℕ

-- a block that is led to by its label
pub record Successor : Type 0 where
  pub name : Name
  pub place : ℕ

-- an alias of types, or else of attributes
pub record AliasName : Type 0 where
  pub is_type : Bool
  pub name : Name
  pub place : ℕ

-- one thing that a text says of names
pub data ScopeMark : Type 0 where
  -- a region begins
  enters : ScopeMark
  -- the innermost region ends
  leaves : ScopeMark
  -- a value name is defined
  defines : Definition → ScopeMark
  -- a value name is used
  uses : Use → ScopeMark
  -- a block of the innermost region has a label
  labels : Label → ScopeMark
  -- a block of the innermost region is led to
  leads_to : Successor → ScopeMark
  -- a pack has a wrong size, at this place
  bad_pack : ℕ → ScopeMark
  -- an alias is defined
  defines_alias : AliasName → ScopeMark
  -- an alias is mentioned
  mentions_alias : AliasName → ScopeMark

-- ---- regions

-- how many regions were entered, and the numbers of those that are open, the innermost first
pub record Standing : Type 0 where
  pub entered : ℕ
  pub round : List ℕ

-- where a text begins: the top level alone is open
abbrev pub top : Standing
top = record { entered = 0; round = 0 ∷ [] }

-- the open regions once the innermost one ends; the top level stays open
abbrev pub outside : List ℕ → List ℕ
outside [] = []
outside (r ∷ []) = r ∷ []
outside (r ∷ q ∷ round) = q ∷ round

-- the regions round the innermost one
abbrev pub behind_own : List ℕ → List ℕ
behind_own [] = []
behind_own (r ∷ round) = round

-- the innermost region
abbrev pub own : List ℕ → ℕ
own [] = 0
own (r ∷ round) = r

-- the standing behind a mark: a region that begins has the next number
abbrev pub passed : Standing → ScopeMark → Standing
passed s enters = record { entered = s.entered + 1; round = (s.entered + 1) ∷ s.round }
passed s leaves = record { entered = s.entered; round = outside s.round }
passed s (defines d) = s
passed s (uses u) = s
passed s (labels l) = s
passed s (leads_to t) = s
passed s (bad_pack p) = s
passed s (defines_alias a) = s
passed s (mentions_alias a) = s

-- the standing behind marks
abbrev pub after : Standing → List ScopeMark → Standing
after s [] = s
after s (m ∷ ms) = after (passed s m) ms

-- the standing behind the first marks of a text
abbrev pub standing : List ScopeMark → Standing
standing ms = after top ms

-- what f says of each mark, by the regions that are open there, the innermost first
abbrev pub along : {A : Type 0} → (List ℕ → ScopeMark → List A) → Standing → List ScopeMark → List A
along f s [] = []
along f s (m ∷ ms) = f s.round m ++ along f (passed s m) ms

-- ---- what is defined

-- a defined name, the region that it is defined in, and the size of its pack or the number of its
-- block
pub record Binding : Type 0 where
  pub name : Name
  pub region : ℕ
  pub number : ℕ

-- the name of this kind that a mark defines, in the innermost of these regions
abbrev pub bindings_of : NameKind → List ℕ → ScopeMark → List Binding
bindings_of Values round (defines d) =
    record { name = d.name; region = own round; number = d.count } ∷ []
bindings_of Labels round (labels l) =
    record { name = l.name; region = own round; number = l.block } ∷ []
bindings_of _ round _ = []

-- the names of this kind that the marks define, in order
abbrev pub bindings : NameKind → List ScopeMark → List Binding
bindings k ms = along (bindings_of k) top ms

-- ---- what is used

-- the use that a mark is
abbrev pub use_of : ScopeMark → List Use
use_of (uses u) = u ∷ []
use_of _ = []

-- the uses of value names, in order
abbrev pub uses_in : List ScopeMark → List Use
uses_in ms = flat_map use_of ms

-- the successor that a mark is
abbrev pub successor_of : ScopeMark → List Successor
successor_of (leads_to t) = t ∷ []
successor_of _ = []

-- the successors, in order
abbrev pub successors_in : List ScopeMark → List Successor
successors_in ms = flat_map successor_of ms
