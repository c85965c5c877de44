-- Calls that are not planned to fail. Where each planned call is past, the next isn't planned,
-- and they are past after it too. By the list of planned calls.
use Rattle.std.proofs.Common.{◌≡◌, ℕ, ◌+◌, ◌≤◌, true, false, ◌&&◌, List, [], ◌∷◌, nat_eq, nat_lt, arith, refl}
use Rattle.std.specs.List.{list_any}
use Rattle.std.proofs.lemmas.Bool.Decides.{nat_tests}
use Rattle.irdl_bytes.specs.Outside.{greatest_count}
use Rattle.irdl_bytes.specs.Planned.{is_planned, none_later}

-- no planned call is the next one
pub none-next : (calls : ℕ) (planned : List ℕ) → none_later calls planned ≡ true →
    list_any (λ k. nat_eq k (calls + 1)) planned ≡ false
none-next calls [] h = refl
none-next calls (k ∷ ks) h = grind (arith, nat_tests, none-next calls ks)

-- where each planned call is past, the next isn't planned
pub not-planned : (calls : ℕ) (planned : List ℕ) → none_later calls planned ≡ true →
    is_planned calls planned ≡ false
not-planned calls planned h =
    rw (none-next calls planned h)
    (elim (nat_lt calls greatest_count) as (λ b. (b && false) ≡ false)
    [ true ↦ refl | false ↦ refl ])

-- where each planned call is past, it is past after more calls
pub none-later-le : (calls more : ℕ) (planned : List ℕ) → calls ≤ more →
    none_later calls planned ≡ true → none_later more planned ≡ true
none-later-le calls more [] le h = refl
none-later-le calls more (k ∷ ks) le h = grind (arith, nat_tests, none-later-le calls more ks)

pub ruleset passing = (not-planned, none-later-le)
