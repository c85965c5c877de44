-- What a text says of names, with each region as one whole, and what the names mean region by
-- region. The marks of such notes are those that a caller makes of a text whose regions all end;
-- the law of `by_regions` ties the two.
--
--   Note                   one thing that a text says of names, other than that a region begins or
--                          ends
--   Notes                  what a text says: one note before others, or a region before others
--   marks ns               the marks of notes: a region's between its begin and its end
--   RegionScope            the names that a region defines itself
--   own k n ns             those of notes, where the first definition has the number n
--   found scope name       the first definition of the name in a scope
--   looked scopes name     the first in the innermost of these scopes that has one
--   told k g scopes n ns   what g says of each note, by the scopes round it and how many
--                          definitions stand before
--   told_in k g ns         the same of a whole text
--   value_meant, block_meant, value_wrong, block_wrong
--                          what a note means, and what is wrong with it
--   IsWrong ns f           f is a fault of the notes
use Rattle.std.specs.Prelude.{
  ℕ,
  ◌+◌,
  ◌==◌,
  Bool,
  false,
  not,
  ◌&&◌,
  ◌||◌,
  List,
  [],
  ◌∷◌,
  ◌++◌,
  length,
  bytes_eq,
  if◌then◌else◌,
  nat_lt,
  option_map,
  option_to_list,
  ◌⊎◌,
  Contains,
}
use Rattle.std.specs.declared.option.Option.{Option}
use Rattle.std.specs.declared.option.Option.TheVariants.{Some, None}
use Rattle.first_fault.specs.declared.fault.Fault.{Fault}
use Rattle.symbol_scopes.specs.declared.call.NameKind.{NameKind}
use Rattle.symbol_scopes.specs.declared.call.NameKind.TheVariants.{Values, Labels}
use Rattle.symbol_scopes.specs.ScopeMarks.{
  Name,
  ScopeMark,
  Definition,
  Use,
  Label,
  Successor,
  AliasName,
}
use Rattle.symbol_scopes.specs.ScopeMarks as mark
use Rattle.symbol_scopes.specs.Meanings.{or_else}
use Rattle.first_fault.specs.Firsts.{IsFaultBy}
use Rattle.symbol_scopes.specs.Faults.{fault, fault_if, alias_fault}

-- one thing that a text says of names
pub data Note : Type 0 where
  defines : Definition → Note
  uses : Use → Note
  labels : Label → Note
  leads_to : Successor → Note
  bad_pack : ℕ → Note
  defines_alias : AliasName → Note
  mentions_alias : AliasName → Note

-- what a text says of names: nothing, a note before others, or a region before others
pub data Notes : Type 0 where
  no_notes : Notes
  note : Note → Notes → Notes
  in_region : Notes → Notes → Notes

-- the mark of a note
abbrev pub mark_of_note : Note → ScopeMark
mark_of_note (defines d) = mark.defines d
mark_of_note (uses u) = mark.uses u
mark_of_note (labels l) = mark.labels l
mark_of_note (leads_to t) = mark.leads_to t
mark_of_note (bad_pack p) = mark.bad_pack p
mark_of_note (defines_alias a) = mark.defines_alias a
mark_of_note (mentions_alias a) = mark.mentions_alias a

-- the marks of notes: a region's stand between its begin and its end
abbrev pub marks : Notes → List ScopeMark
marks no_notes = []
marks (note x ns) = mark_of_note x ∷ marks ns
marks (in_region inner ns) = mark.enters ∷ (marks inner ++ (mark.leaves ∷ marks ns))

-- ---- regions

-- a defined name: the number of its definition, and the size of its pack or the number of its block
pub record ScopeName : Type 0 where
  pub name : Name
  pub at : ℕ
  pub number : ℕ

-- the names that a region defines itself, in the order of the text
abbrev pub RegionScope : Type 0
RegionScope = List ScopeName

-- the name of this kind that a note defines, as the n-th definition
abbrev pub known_of : NameKind → ℕ → Note → RegionScope
known_of Values n (defines d) = record { name = d.name; at = n; number = d.count } ∷ []
known_of Labels n (labels l) = record { name = l.name; at = n; number = l.block } ∷ []
known_of _ n _ = []

-- how many names of this kind a note defines
abbrev pub count_of : NameKind → Note → ℕ
count_of k x = length (known_of k 0 x)

-- how many definitions there are, those in regions included
abbrev pub count : NameKind → Notes → ℕ
count k no_notes = 0
count k (note x ns) = count_of k x + count k ns
count k (in_region inner ns) = count k inner + count k ns

-- the names of this kind that a region defines itself, where its first definition is the n-th
abbrev pub own : NameKind → ℕ → Notes → RegionScope
own k n no_notes = []
own k n (note x ns) = known_of k n x ++ own k (n + count_of k x) ns
own k n (in_region inner ns) = own k (n + count k inner) ns

-- the first of a name: the definition's number, and its size or block
abbrev pub found : RegionScope → Name → Option (ℕ × ℕ)
found [] name = None
found (d ∷ ds) name = if bytes_eq d.name name then Some (d.at, d.number) else found ds name

-- the first in the innermost of these scopes that has the name
abbrev pub looked : List RegionScope → Name → Option (ℕ × ℕ)
looked [] name = None
looked (s ∷ ss) name = or_else (found s name) (looked ss name)

-- the innermost of these scopes
abbrev pub innermost : List RegionScope → RegionScope
innermost [] = []
innermost (s ∷ ss) = s

-- what g says of each note, by the scopes round it and the count of definitions before it; inside
-- a region its own scope is the innermost
abbrev pub told : {A : Type 0} → NameKind → (List RegionScope → ℕ → Note → List A)
    → List RegionScope → ℕ → Notes → List A
told k g ss n no_notes = []
told k g ss n (note x ns) = g ss n x ++ told k g ss (n + count_of k x) ns
told k g ss n (in_region inner ns) =
    told k g (own k n inner ∷ ss) n inner ++ told k g ss (n + count k inner) ns

-- the same of a whole text, with the top level round all notes
abbrev pub told_in : {A : Type 0} → NameKind → (List RegionScope → ℕ → Note → List A) → Notes
    → List A
told_in k g ns = told k g (own k 0 ns ∷ []) 0 ns

-- ---- what is meant, and what is at fault

-- what a use means: a definition's number, and a number in its pack
abbrev pub value_meant : List RegionScope → ℕ → Note → List (Option (ℕ × ℕ))
value_meant ss n (uses u) = option_map (λ d. (d.0, u.number)) (looked ss u.name) ∷ []
value_meant ss n _ = []

-- what a successor means: the number of a block
abbrev pub block_meant : List RegionScope → ℕ → Note → List (Option ℕ)
block_meant ss n (leads_to t) = option_map (λ d. d.1) (found (innermost ss) t.name) ∷ []
block_meant ss n _ = []

-- the first definition is earlier than that of the number n
abbrev pub is_earlier : Option (ℕ × ℕ) → ℕ → Bool
is_earlier None n = false
is_earlier (Some d) n = nat_lt d.0 n

-- one of these scopes has the name, defined before the n-th definition
abbrev pub is_repeated : List RegionScope → Name → ℕ → Bool
is_repeated [] name n = false
is_repeated (s ∷ ss) name n = is_earlier (found s name) n || is_repeated ss name n

-- what is wrong with a use, by what its name means
abbrev pub use_wrong : Use → Option (ℕ × ℕ) → Option Fault
use_wrong u None = Some (fault u.place 7)
use_wrong u (Some d) = fault_if (nat_lt 0 d.1 && not (nat_lt u.number d.1)) u.number_place 9

-- what is wrong with a note among value names
abbrev pub value_wrong : List RegionScope → ℕ → Note → Option Fault
value_wrong ss n (defines d) = fault_if (is_repeated ss d.name n) d.place 8
value_wrong ss n (uses u) = use_wrong u (looked ss u.name)
value_wrong ss n _ = None

-- what is wrong with a successor, by what its name means
abbrev pub target_wrong : Successor → Option (ℕ × ℕ) → Option Fault
target_wrong t None = Some (fault t.place 10)
target_wrong t (Some d) = fault_if (d.1 == 0) t.place 12

-- what is wrong with a note among labels
abbrev pub block_wrong : List RegionScope → ℕ → Note → Option Fault
block_wrong ss n (labels l) = fault_if (is_earlier (found (innermost ss) l.name) n) l.place 11
block_wrong ss n (leads_to t) = target_wrong t (found (innermost ss) t.name)
block_wrong ss n _ = None

-- a fault of the notes; aliases and sizes of packs go by the order of the text alone
abbrev pub IsWrong : Notes → Fault → Type 0
IsWrong ns f =
    (Contains (told_in Values (λ ss n x. option_to_list (value_wrong ss n x)) ns) f
    ⊎ Contains (told_in Labels (λ ss n x. option_to_list (block_wrong ss n x)) ns) f)
    ⊎ IsFaultBy alias_fault (marks ns) f
