-- Values known by their places in a table, which are their ids.
--
--   at vs i          the value of the id i
--   kids_at vs ids   the values of a list of ids
--   AreKnown n ids   each id is that of a value of a table of n
--   AreDistinct vs   no value stands twice
use Rattle.std.specs.Prelude.{◌≡◌, ℕ, ◌<◌, List, [], ◌∷◌, length, slice_index_or}
use Rattle.attr_value.specs.declared.head.Head.TheVariants as h
use Rattle.attr_value.specs.declared.head.ValueId.{ValueId}
use Rattle.attr_value.specs.Values.{Value, Values, none, more, value}

-- the value of an id, and the unit attribute where no value has it
abbrev pub at : List Value → ℕ → Value
at vs i = slice_index_or vs i (value h.Unit none)

-- the values of these ids, as the kids of one
abbrev pub kids_at : List Value → List ValueId → Values
kids_at vs [] = none
kids_at vs (id ∷ ids) = more (at vs id.0).head (at vs id.0).kids (kids_at vs ids)

-- each id is below n
abbrev pub AreKnown : ℕ → List ValueId → Type 0
AreKnown n [] = Unit {0}
AreKnown n (id ∷ ids) = (id.0 < n) × AreKnown n ids

-- values at two places differ
abbrev pub AreDistinct : List Value → Type 0
AreDistinct vs =
    (i j : ℕ) → i < length vs → j < length vs → at vs i ≡ at vs j → i ≡ j
