-- Rows and the values that they stand for, as more rows come.
use Rattle.std.proofs.Common.{◌≡◌, ℕ, zero, suc, ◌+◌, ◌<◌, ◌≤◌, List, [], ◌∷◌, ◌++◌, length, get_or}
use Rattle.std.proofs.Common.{refl, ap, sym, ◌∙◌, subst, arith, length-append}
use Rattle.std.proofs.Math.ListN.{get_or-append}
use Rattle.std.proofs.Math.Seq.{get_or-append_seam}
use Rattle.attr_value.specs.declared.head.Head.TheVariants as h
use Rattle.attr_value.specs.declared.head.ValueId.{ValueId}
use Rattle.attr_value.specs.Values.{Value, none, value, depth}
use Rattle.attr_value.specs.Ids.{at, kids_at, AreKnown}
use Rattle.attr_uniquer.specs.declared.row.Row.{Row}
use Rattle.attr_uniquer.specs.Rows.{value_of, grow, values, AreSound, IsRowAt}

-- as many values as there were, and one for each row
pub length-grow : (vs : List Value) (rows : List Row)
    → length (grow vs rows) ≡ length vs + length rows
length-grow vs [] = omega arith
length-grow vs (row ∷ rows) =
    let longer = length-append vs (value_of vs row ∷ []) in
    omega (arith, length-grow (vs ++ value_of vs row ∷ []) rows, longer)

-- as many values as rows
pub length-values : (rows : List Row) → length (values rows) ≡ length rows
length-values rows = omega (arith, length-grow [] rows)

-- as many rows as values, where the values have a name
pub as-many : (rows : List Row) (vs : List Value) → values rows ≡ vs → length rows ≡ length vs
as-many rows vs same = sym (length-values rows) ∙ ap length same

-- where a value is added, earlier ones stay
pub at-push : (vs : List Value) (v : Value) (i : ℕ) → i < length vs
    → at (vs ++ v ∷ []) i ≡ at vs i
at-push vs v i within = get_or-append vs (v ∷ []) (value h.Unit none) i within

-- where rows are added, earlier values stay
pub at-grow : (vs : List Value) (rows : List Row) (i : ℕ) → i < length vs
    → at (grow vs rows) i ≡ at vs i
at-grow vs [] i within = refl
at-grow vs (row ∷ rows) i within =
    let longer = length-append vs (value_of vs row ∷ []) in
    at-grow (vs ++ value_of vs row ∷ []) rows i (omega (arith, longer))
    ∙ at-push vs (value_of vs row) i within

-- where earlier values stay, so do the kids that they are
pub kids-at-same : (vs ws : List Value) (ids : List ValueId)
    → ((i : ℕ) → i < length vs → at ws i ≡ at vs i) → AreKnown (length vs) ids
    → kids_at ws ids ≡ kids_at vs ids
kids-at-same vs ws [] same known = refl
kids-at-same vs ws (id ∷ ids) same known =
    let first = same id.0 known.0 in
    let rest = kids-at-same vs ws ids same known.1 in
    cc

kids-at-grow : (vs : List Value) (rows : List Row) (ids : List ValueId)
    → AreKnown (length vs) ids → kids_at (grow vs rows) ids ≡ kids_at vs ids
kids-at-grow vs rows ids known = kids-at-same vs (grow vs rows) ids (at-grow vs rows) known

-- ids that are known stay known in a longer table
pub known-more : (m n : ℕ) (ids : List ValueId) → m ≤ n → AreKnown m ids → AreKnown n ids
known-more m n [] more known = tt
known-more m n (id ∷ ids) more known = (omega arith, known-more m n ids more known.1)

-- one more row adds its value
pub grow-push : (vs : List Value) (rows : List Row) (row : Row)
    → grow vs (rows ++ row ∷ []) ≡ grow vs rows ++ value_of (grow vs rows) row ∷ []
grow-push vs [] row = refl
grow-push vs (first ∷ rows) row = grow-push (vs ++ value_of vs first ∷ []) rows row

-- rows stay sound with one more that may come behind them
pub sound-push : (vs : List Value) (rows : List Row) (row : Row) → AreSound vs rows
    → AreKnown (length (grow vs rows)) row.kids
    → row.depth ≡ depth (value_of (grow vs rows) row) → AreSound vs (rows ++ row ∷ [])
sound-push vs [] row sound known deep = (known, deep, tt)
sound-push vs (first ∷ rows) row sound known deep =
    (sound.0, sound.1, sound-push (vs ++ value_of vs first ∷ []) rows row sound.2 known deep)

-- the row at a place, behind the values vs
pub row-at-grow : (vs : List Value) (rows : List Row) (i n : ℕ) (d : Row) → AreSound vs rows
    → i < length rows → n ≡ length vs + i → IsRowAt (grow vs rows) n (get_or rows i d)
row-at-grow vs [] i n d sound within place = absurd (omega arith)
row-at-grow vs (row ∷ rows) zero n d sound within place =
    let v = value_of vs row in
    let ws = vs ++ v ∷ [] in
    let longer = length-append vs (v ∷ []) in
    let here : n ≡ length vs = omega arith in
    let seam : at ws (length vs) ≡ v = get_or-append_seam vs v [] (value h.Unit none) in
    let stays : at (grow ws rows) (length vs) ≡ v =
    at-grow ws rows (length vs) (omega (arith, longer)) ∙ seam in
    let kids : kids_at (grow vs (row ∷ rows)) row.kids ≡ kids_at vs row.kids =
    kids-at-grow vs (row ∷ rows) row.kids sound.0 in
    record {
      known = subst (λ m. AreKnown m row.kids) (sym here) sound.0;
      deep = sound.1 ∙ ap depth (sym stays ∙ ap (at (grow ws rows)) (sym here));
      stands = ap (at (grow ws rows)) here ∙ stays ∙ ap (value row.head) (sym kids);
    }
row-at-grow vs (row ∷ rows) (suc i) n d sound within place =
    let longer = length-append vs (value_of vs row ∷ []) in
    row-at-grow (vs ++ value_of vs row ∷ []) rows i n d sound.2 (omega arith)
    (omega (arith, longer))
