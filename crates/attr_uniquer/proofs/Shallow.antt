-- A value is no deeper than its place and one, since its kids stand before it.
use Rattle.std.proofs.Common.{◌≡◌, ℕ, ◌+◌, ◌<◌, ◌≤◌, ◌⊎◌, inl, inr, List, [], ◌∷◌, ◌++◌, length}
use Rattle.std.proofs.Common.{get_or, drop, max, ap, subst, arith, length-append, add-one}
use Rattle.std.proofs.Math.Seq.{drop-cons, get_or-append_seam}
use Rattle.std.proofs.lemmas.Bool.{cases_lt}
use Rattle.attr_value.specs.declared.head.Head.TheVariants as h
use Rattle.attr_value.specs.declared.head.ValueId.{ValueId}
use Rattle.attr_value.specs.Values.{Value, none, value, depth, greatest_depth}
use Rattle.attr_value.specs.Ids.{at, kids_at, AreKnown}
use Rattle.attr_uniquer.specs.declared.row.Row.{Row}
use Rattle.attr_uniquer.specs.Rows.{value_of, grow, values, AreSound}
use Rattle.attr_uniquer.proofs.Grown.{at-push}

-- each value is no deeper than its place and one
abbrev AreShallow : List Value → Type 0
AreShallow vs = (i : ℕ) → i < length vs → depth (at vs i) ≤ i + 1

shallow-kids : (vs : List Value) (ids : List ValueId) (n : ℕ) → AreShallow vs → n ≤ length vs
    → AreKnown n ids → greatest_depth (kids_at vs ids) ≤ n
shallow-kids vs [] n shallow within known = omega arith
shallow-kids vs (id ∷ ids) n shallow within known =
    let first = shallow id.0 (omega (arith, known.0)) in
    omega (arith, first, shallow-kids vs ids n shallow within known.1, known.0)

shallow-push : (vs : List Value) (v : Value) → AreShallow vs → depth v ≤ length vs + 1
    → AreShallow (vs ++ v ∷ [])
shallow-push vs v shallow deep i within = by (cases_lt i (length vs))
  where
    by : (i < length vs) ⊎ (length vs ≤ i) → depth (at (vs ++ v ∷ []) i) ≤ i + 1
    by (inl before) = rw (at-push vs v i before) (shallow i before)
    by (inr behind) =
        let last : i ≡ length vs = omega (arith, length-append vs (v ∷ [])) in
        let seam : at (vs ++ v ∷ []) (length vs) ≡ v =
        get_or-append_seam vs v [] (value h.Unit none) in
        rw (last, seam) deep

shallow-grow : (vs : List Value) (rows : List Row) → AreSound vs rows → AreShallow vs
    → AreShallow (grow vs rows)
shallow-grow vs [] sound shallow = shallow
shallow-grow vs (row ∷ rows) sound shallow =
    let kids = shallow-kids vs row.kids (length vs) shallow (omega arith) sound.0 in
    let more = shallow-push vs (value_of vs row) shallow (omega (arith, kids)) in
    shallow-grow (vs ++ value_of vs row ∷ []) rows sound.2 more

-- the values of sound rows are shallow
pub shallow-rows : (rows : List Row) → AreSound [] rows → AreShallow (values rows)
shallow-rows rows sound = shallow-grow [] rows sound (λ i within. absurd (omega arith))

-- the ids from a place on are the one there, and those behind it
next-id : (ids : List ValueId) (i : ℕ) (d : ValueId) → i < length ids
    → drop i ids ≡ get_or ids i d ∷ drop (i + 1) ids
next-id ids i d within = rw add-one (drop-cons ids i d within)

-- where the ids from a place on are known, so are the one there and those behind it
pub next-known : (n : ℕ) (ids : List ValueId) (i : ℕ) (d : ValueId) → i < length ids
    → AreKnown n (drop i ids) → ((get_or ids i d).0 < n) × AreKnown n (drop (i + 1) ids)
next-known n ids i d within known = subst (AreKnown n) (next-id ids i d within) known

-- the greatest depth from a place on is that of the value there, or of those behind it
pub next-depth : (vs : List Value) (ids : List ValueId) (i : ℕ) (d : ValueId) → i < length ids
    → greatest_depth (kids_at vs (drop i ids))
    ≡ max (depth (at vs (get_or ids i d).0)) (greatest_depth (kids_at vs (drop (i + 1) ids)))
next-depth vs ids i d within =
    ap (λ l. greatest_depth (kids_at vs l)) (next-id ids i d within)
