-- Ids that come in another order: they are known as before.
use Rattle.std.proofs.Common.{ℕ, ◌<◌, ◌↔◌, List, [], ◌∷◌}
use Rattle.std.proofs.lemmas.List.Elements.{All-from_recursion, recursion_from_All}
use Rattle.std.proofs.lemmas.List.Sorted.{All-permutation}
use Rattle.std.specs.List.{AllByRecursion}
use Rattle.std.specs.List.Sorted.{IsPermutation}
use Rattle.attr_value.specs.declared.head.ValueId.{ValueId}
use Rattle.attr_value.specs.Ids.{AreKnown}

-- ids are known where each is
known-each : (n : ℕ) (ids : List ValueId) → AreKnown n ids ↔ AllByRecursion (λ id. id.0 < n) ids
known-each n [] = (λ known. tt, λ all. tt)
known-each n (id ∷ ids) =
    let rest = known-each n ids in
    (λ known. (known.0, rest.0 known.1), λ all. (all.0, rest.1 all.1))

-- in any order
pub known-permuted : (n : ℕ) (ids moved : List ValueId) → IsPermutation ids moved
    → AreKnown n ids → AreKnown n moved
known-permuted n ids moved p known =
    (known-each n moved).1 (recursion_from_All (λ id. id.0 < n) moved
    (All-permutation (λ id. id.0 < n) ids moved p
    (All-from_recursion (λ id. id.0 < n) ids ((known-each n ids).0 known))))
