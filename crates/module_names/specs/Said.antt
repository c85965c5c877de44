-- Notes that follow one another, and the calls that said them.
--
--   Said old new ns    the scopes have, behind what they had, the marks of exactly these notes
--   joined a b         the notes a and then the notes b
--   all_joined         all of these notes, one behind another
--   noted f xs         what f says of each item, in order
--   one x              a note alone
use Rattle.std.specs.Prelude.{◌≡◌, List, [], ◌∷◌, ◌++◌, map}
use Rattle.symbol_scopes.specs.Regions.{Note, Notes, no_notes, note, in_region, marks}
use Rattle.symbol_scopes.specs.ScopeMarks.{ScopeMark}

-- the new marks are the old ones and then those of the notes
pub record Said (old new : List ScopeMark) (ns : Notes) : Type 0 where
  pub is : new ≡ old ++ marks ns

-- some notes, and then others
abbrev pub joined : Notes → Notes → Notes
joined no_notes later = later
joined (note x ns) later = note x (joined ns later)
joined (in_region inner ns) later = in_region inner (joined ns later)

-- all of these notes, one behind another
abbrev pub all_joined : List Notes → Notes
all_joined [] = no_notes
all_joined (n ∷ ns) = joined n (all_joined ns)

-- what f says of each item, in order
abbrev pub noted : {A : Type 0} → (A → Notes) → List A → Notes
noted f xs = all_joined (map f xs)

-- a note alone
abbrev pub one : Note → Notes
one x = note x no_notes
