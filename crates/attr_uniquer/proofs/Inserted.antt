-- Inserting a row keeps its value.
use Rattle.std.proofs.Common.{◌≡◌, ◌⊎◌, inl, inr, ℕ, ◌<◌, ◌≤◌, List, [], ◌∷◌, ◌++◌, length, get_or}
use Rattle.std.proofs.Common.{refl, ap, sym, ◌∙◌, subst, arith, Some, Bool, true, false}
use Rattle.std.proofs.Common.{length-append}
use Rattle.std.proofs.Common.{if◌then◌else◌, Result, Ok, Err}
use Rattle.std.specs.Prelude.{IfOk}
use Rattle.std.specs.List.{list_any, slice_get}
use Rattle.std.proofs.lemmas.Option.{slice_get_within, slice_get-get_or, get_or_from_slice_get}
use Rattle.indexmap.specs.IndexSet.{insert_key}
use Rattle.attr_value.specs.declared.head.Head.TheVariants as h
use Rattle.attr_value.specs.declared.head.ValueId.{ValueId}
use Rattle.attr_value.specs.Values.{Value, none, value, depth}
use Rattle.attr_value.specs.Ids.{at, kids_at, AreKnown}
use Rattle.attr_uniquer.specs.contracts.row.RowPartialEq.TheImpl as row
use Rattle.attr_uniquer.specs.declared.row.Row.{Row}
use Rattle.attr_uniquer.specs.Interned.{Interned}
use Rattle.attr_uniquer.specs.Rows.{value_of, values, AreSound}
use Rattle.attr_uniquer.proofs.Grown.{length-values, at-push, kids-at-same, grow-push}
use Rattle.attr_uniquer.proofs.Grown.{sound-push, row-at-grow}
use Rattle.attr_uniquer.proofs.Once.{same-row}

-- the values of the new rows are the old ones, or those and the row's
abbrev Keeps : List Row → List Row → Row → Type 0
Keeps old new r =
    (values new ≡ values old) ⊎ (values new ≡ values old ++ value_of (values old) r ∷ [])

-- what inserting a row does
pub record Inserts (old new : List Row) (r : Row) (i : ℕ) : Type 0 where
  pub interned : Interned (values old) (values new) (value_of (values old) r) i
  pub sound : AreSound [] new

-- the row's kids are what they were
kept-kids : (old new : List Row) (r : Row) → Keeps old new r
    → AreKnown (length (values old)) r.kids
    → kids_at (values new) r.kids ≡ kids_at (values old) r.kids
kept-kids old new r (inl same) known = ap (λ vs. kids_at vs r.kids) same
kept-kids old new r (inr longer) known =
    let v = value_of (values old) r in
    ap (λ vs. kids_at vs r.kids) longer
    ∙ kids-at-same (values old) (values old ++ v ∷ []) r.kids (at-push (values old) v) known

inserts-at : (old new : List Row) (r : Row) (i : ℕ) → AreSound [] new
    → AreKnown (length old) r.kids → Keeps old new r → slice_get new i ≡ Some r
    → Inserts old new r i
inserts-at old new r i sound known kept there =
    let within : i < length new = slice_get_within new i r there in
    let here : get_or new i r ≡ r = get_or_from_slice_get new i r r there in
    let row = row-at-grow [] new i i r sound within (omega arith) in
    let stands : at (values new) i ≡ value_of (values new) r =
    subst (λ q. at (values new) i ≡ value_of (values new) q) here row.stands in
    let was_known : AreKnown (length (values old)) r.kids =
    subst (λ n. AreKnown n r.kids) (sym (length-values old)) known in
    let kids = kept-kids old new r kept was_known in
    let found : slice_get (values new) i ≡ Some (at (values new) i) =
    slice_get-get_or (values new) i (value h.Unit none)
    (omega (arith, length-values new)) in
    record {
      interned = record {
        stands = found ∙ ap Some (stands ∙ ap (value r.head) kids);
        kept = kept;
      };
      sound = sound;
    }

-- inserting a row keeps its value
pub inserts : (old new : List Row) (r : Row) (i : ℕ) → AreSound [] old
    → AreKnown (length old) r.kids → r.depth ≡ depth (value_of (values old) r)
    → new ≡ insert_key row.ghosts.eq old r
    → ((k : Row) × (slice_get new i ≡ Some k) × (row.ghosts.eq r k ≡ true))
    → Inserts old new r i
inserts old new r i sound known deep keys stored = by (list_any (row.ghosts.eq r) old) refl
  where
    there : slice_get new i ≡ Some r
    there = stored.1 ∙ ap Some (sym (same-row r stored.0 stored.2))

    by : (found : Bool) → list_any (row.ghosts.eq r) old ≡ found → Inserts old new r i
    by true is =
        let stays : new ≡ old = keys ∙ ap (λ b. if b then old else old ++ r ∷ []) is in
        let new_sound : AreSound [] new = subst (AreSound []) (sym stays) sound in
        inserts-at old new r i new_sound known (inl (ap values stays)) there
    by false is =
        let grows : new ≡ old ++ r ∷ [] =
        keys ∙ ap (λ b. if b then old else old ++ r ∷ []) is in
        let longer : values new ≡ values old ++ value_of (values old) r ∷ [] =
        ap values grows ∙ grow-push [] old r in
        let was_known : AreKnown (length (values old)) r.kids =
        subst (λ n. AreKnown n r.kids) (sym (length-values old)) known in
        let new_sound : AreSound [] new =
        subst (AreSound []) (sym grows) (sound-push [] old r sound was_known deep) in
        inserts-at old new r i new_sound known (inr longer) there

-- what is kept has an id, and nothing was lost
pub interned-within : (old new : List Value) (v : Value) (i : ℕ) → Interned old new v i
    → (i < length new) × (length old ≤ length new)
interned-within old new v i interned =
    (slice_get_within new i v interned.stands, by interned.kept)
  where
    by : ((new ≡ old) ⊎ (new ≡ old ++ v ∷ [])) → length old ≤ length new
    by (inl same) = omega (arith, ap length same)
    by (inr longer) = omega (arith, ap length longer, length-append old (v ∷ []))

-- an id that is answered is that of a value of the new table
pub known-if-ok : {E : Type 0} (old new : List Value) (v : Value) (r : Result ValueId E)
    → IfOk r (λ id. Interned old new v id.0) → IfOk r (λ id. id.0 < length new)
known-if-ok old new v (Ok id) interned = (interned-within old new v id.0 interned).0
known-if-ok old new v (Err e) interned = tt
