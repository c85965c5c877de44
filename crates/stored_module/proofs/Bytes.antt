-- The texts of a value have bytes, by those of its head and of the values before it in the table.
--
--   kids-bytes, at-bytes       kids, and values by their ids
use Rattle.std.proofs.Common.{ℕ, zero, suc, ◌<◌, List, [], ◌∷◌}
use Rattle.std.specs.List.{AllByRecursion}
use Rattle.attr_value.specs.declared.head.ValueId.{ValueId}
use Rattle.attr_value.specs.Ids.{at, kids_at, AreKnown}
use Rattle.attr_value.specs.Values.{Value}
use Rattle.derived_printer.specs.Spellable.{HasBytes, HaveBytes}

-- the kids of a value, where those of all ids before it do
pub kids-bytes : (vs : List Value) (n : ℕ) (ids : List ValueId) → AreKnown n ids
    → ((i : ℕ) → i < n → HasBytes (at vs i)) → HaveBytes (kids_at vs ids)
kids-bytes vs n [] known h = tt
kids-bytes vs n (id ∷ ids) (k, known) h =
    let first = h id.0 k in (first.head, first.kids, kids-bytes vs n ids known h)

-- whatever its id, the value of a table does
pub at-bytes : (vs : List Value) → AllByRecursion HasBytes vs → (i : ℕ) → HasBytes (at vs i)
at-bytes [] h i = record { head = tt; kids = tt }
at-bytes (v ∷ vs) (p, h) zero = p
at-bytes (v ∷ vs) (p, h) (suc i) = at-bytes vs h i
