-- What names mean where a region has been gone over in part: of its definitions those from a number
-- on are seen.
use Rattle.std.proofs.Common.{◌≡◌, ℕ, suc, ◌≤◌, ◌&&◌, ◌==◌, List, [], ◌∷◌, ◌++◌, length, min, refl, ap, ◌∙◌, arith, slice_get, bytes_eq, if◌then◌else◌, replicate}
use Rattle.std.specs.declared.option.Option.{Option}
use Rattle.std.specs.declared.option.Option.TheVariants.{Some, None}
use Rattle.symbol_scopes.specs.declared.slots.NameSlot.{NameSlot}
use Rattle.symbol_scopes.specs.declared.slots.NameSlots.{NameSlots}
use Rattle.symbol_scopes.specs.ScopeMarks.{Name, Binding}
use Rattle.symbol_scopes.specs.Meanings.{is_of, found_at, meant, or_else}
use Rattle.symbol_scopes.specs.Listed.{last_own}
use Rattle.symbol_scopes.specs.Slots.{at_or, least_of, slot_of, AreSlots}
use Rattle.symbol_scopes.proofs.Lists.{map-one}
use Rattle.symbol_scopes.proofs.Finds.{bound, from, from-here, from-bound, IsOwn, last-is, least-most, itself}

-- the definition that is to be visited next is in the region
abbrev pub IsNext : List Binding → ℕ → Option ℕ → Type 0
IsNext ds r None = Unit {0}
IsNext ds r (Some d) = IsOwn ds r (length ds) d

-- the definition that comes next is in the region
pub next-is : (ds : List Binding) (r k : ℕ) → k ≤ length ds → IsNext ds r (last_own ds r k)
next-is ds r k most = by (last_own ds r k) refl
  where
    by : (o : Option ℕ) → last_own ds r k ≡ o → IsNext ds r o
    by None e = tt
    by (Some d) e =
        let h = last-is ds r k d e in
        let less = h.within in
        record { below = less; within = less; binding = h.binding; there = h.there; region = h.region }

-- what a name means where only the definitions of the region r from b on are seen, in other regions
-- all
abbrev pub slot_from : List Binding → List ℕ → ℕ → ℕ → Name → NameSlot
slot_from ds rest r b x = record {
  found = at_or (length ds) (or_else (from ds b r x) (meant ds rest x));
  least = min (at_or (length ds) (from ds b r x)) (least_of ds rest x);
}

pub slot-same : (a b : NameSlot) → a.found ≡ b.found → a.least ≡ b.least → a ≡ b
slot-same a b f l = λ i. record { found = f i; least = l i }

min-right : (a b : ℕ) → b ≤ a → min a b ≡ b
min-right a b le = omega arith

-- where the region has no such definition the name means what it means outside
pub unseen : (ds : List Binding) (rest : List ℕ) (r b : ℕ) (x : Name) → from ds b r x ≡ None
    → slot_from ds rest r b x ≡ slot_of ds rest x
unseen ds rest r b x e =
    slot-same (slot_from ds rest r b x) (slot_of ds rest x)
    (ap (λ o. at_or (length ds) (or_else o (meant ds rest x))) e)
    (ap (λ o. min (at_or (length ds) o) (least_of ds rest x)) e
    ∙ min-right (length ds) (least_of ds rest x) (least-most ds rest x))

-- with the definition d of the region visited, the first of a name is d itself or what it was before
pub first-stepped : (ds : List Binding) (r d : ℕ) (s : Binding) (next : Option ℕ)
    → slice_get ds d ≡ Some s → s.region ≡ r → next ≡ last_own ds r d
    → (x : Name) → from ds (bound next) r x
    ≡ (if bytes_eq s.name x then Some (found_at d s) else from ds (suc d) r x)
first-stepped ds r d s next there region follows x =
    ap (λ o. from ds (bound o) r x) follows ∙ from-bound ds d r x ∙ from-here ds d r x s there
    ∙ ap (λ b. if b then Some (found_at d s) else from ds (suc d) r x) tests
  where
    tests : is_of r x s ≡ bytes_eq s.name x
    tests = ap (λ q. (q == r) && bytes_eq s.name x) region
        ∙ ap (λ b. b && bytes_eq s.name x) (itself r)

-- where no region is open no name means anything
pub no-region : (ns : List Name) (ds : List Binding) (t : NameSlots) (v : NameSlot) → v ≡ slot_of ds [] []
    → t.slots.items ≡ replicate (length ns) v → length t.saved.items ≡ length ds
    → AreSlots ns ds [] t
no-region ns ds t v is slots room = record {
  slots = slots ∙ ap (replicate (length ns)) is ∙ map-one (slot_of ds [] []) ns;
  room = room;
  saved = λ inner rest r cut. absurd (none inner rest r cut);
}
  where
    none : (inner rest : List ℕ) (r : ℕ) → [] ≡ inner ++ r ∷ rest → ⊥
    none [] rest r e = cc
    none (x ∷ inner) rest r e = cc
