-- Distinct rows stand for distinct values.
use Rattle.std.proofs.Common.{◌≡◌, ℕ, ◌<◌, List, [], ◌∷◌, length, get_or, refl, ap, sym, ◌∙◌, subst}
use Rattle.std.proofs.Common.{arith, true, false, true≢false, ◌+◌}
use Rattle.std.specs.List.{IsDistinct}
use Rattle.std.proofs.lemmas.Map.Keys.{apart_from_distinct}
use Rattle.std.proofs.lemmas.Map.Views.{exact_unsigned_eq}
use Rattle.attr_value.specs.declared.head.ValueId.{ValueId}
use Rattle.attr_value.specs.contracts.head.ValueIdPartialEq.TheImpl as value_id
use Rattle.attr_value.specs.Values.{Values, none, more, greatest_depth}
use Rattle.attr_value.specs.Ids.{at, kids_at, AreKnown, AreDistinct}
use Rattle.attr_value.proofs.Same.{TellsApart, both-true, same-list}
use Rattle.attr_value.proofs.SameHead.{same-head}
use Rattle.attr_uniquer.specs.contracts.row.RowPartialEq.TheImpl as row
use Rattle.attr_uniquer.specs.contracts.row.RowEq.TheImpl.Laws as row_eq
use Rattle.attr_uniquer.specs.declared.row.Row.{Row}
use Rattle.attr_uniquer.specs.Rows.{values, AreSound, IsRowAt}
use Rattle.attr_uniquer.proofs.Grown.{length-values, known-more, row-at-grow}

-- ids that `==` finds equal are equal
pub same-id : TellsApart value_id.ghosts.eq
same-id a b same = let number = exact_unsigned_eq a.0 b.0 same in λ i. record { 0 = number i }

-- rows that `==` finds equal are equal
pub same-row : TellsApart row.ghosts.eq
same-row a b same =
    let first = both-true _ _ same in
    let second = both-true _ _ first.1 in
    let heads : a.head ≡ b.head = same-head a.head b.head first.0 in
    let kids : a.kids ≡ b.kids =
    same-list value_id.ghosts.eq same-id a.kids b.kids second.0 in
    let depths : a.depth ≡ b.depth = exact_unsigned_eq a.depth b.depth second.1 in
    λ i. record { head = heads i; kids = kids i; depth = depths i }

-- a row at two places makes the rows not distinct
apart : (rows : List Row) (i j : ℕ) (d : Row) → IsDistinct row.ghosts.eq rows → i < j
    → j < length rows → get_or rows i d ≡ get_or rows j d → ⊥
apart rows i j d unique before within same =
    let at_j = get_or rows j d in
    let differ = apart_from_distinct row.ghosts.eq rows i j d unique before within in
    let alike : row.ghosts.eq at_j at_j ≡ true = row_eq.laws-law.refl at_j in
    let unlike : row.ghosts.eq at_j at_j ≡ false =
    subst (λ x. row.ghosts.eq x at_j ≡ false) same differ in
    true≢false (sym alike ∙ unlike)

row-once : (rows : List Row) (i j : ℕ) (d : Row) → IsDistinct row.ghosts.eq rows
    → i < length rows → j < length rows → get_or rows i d ≡ get_or rows j d → i ≡ j
row-once rows i j d unique i_within j_within same =
    let below : i < j → ⊥ = λ before. apart rows i j d unique before j_within same in
    let above : j < i → ⊥ = λ before. apart rows j i d unique before i_within (sym same) in
    omega (arith, below, above)

-- in sound rows that are distinct, ids of equal values are equal
module _ (rows : List Row) (d : Row) (sound : AreSound [] rows)
    (unique : IsDistinct row.ghosts.eq rows) where
  row-of : (i : ℕ) → i < length rows → IsRowAt (values rows) i (get_or rows i d)
  row-of i within = row-at-grow [] rows i i d sound within (omega arith)

  -- The first ids name rows of one head and of kids with equal values, which by the same are equal
  -- kids. So these rows are one.
  same-ids : (vs : Values) (is js : List ValueId)
      → AreKnown (length rows) is → AreKnown (length rows) js
      → kids_at (values rows) is ≡ vs → kids_at (values rows) js ≡ vs → is ≡ js
  same-ids none [] [] i_known j_known i_is j_is = refl
  same-ids none (i ∷ is) js i_known j_known i_is j_is = cc
  same-ids none [] (j ∷ js) i_known j_known i_is j_is = cc
  same-ids (more head kids rest) [] js i_known j_known i_is j_is = cc
  same-ids (more head kids rest) (i ∷ is) [] i_known j_known i_is j_is = cc
  same-ids (more head kids rest) (i ∷ is) (j ∷ js) i_known j_known i_is j_is =
      let at_i = row-of i.0 i_known.0 in
      let at_j = row-of j.0 j_known.0 in
      let row_i = get_or rows i.0 d in
      let row_j = get_or rows j.0 d in
      let i_rest : kids_at (values rows) is ≡ rest = cc in
      let j_rest : kids_at (values rows) js ≡ rest = cc in
      let i_head : (at (values rows) i.0).head ≡ head = cc in
      let j_head : (at (values rows) j.0).head ≡ head = cc in
      let i_kids : (at (values rows) i.0).kids ≡ kids = cc in
      let j_kids : (at (values rows) j.0).kids ≡ kids = cc in
      let tails : is ≡ js = same-ids rest is js i_known.1 j_known.1 i_rest j_rest in
      let one_kids : row_i.kids ≡ row_j.kids = same-ids kids row_i.kids row_j.kids
      (known-more i.0 (length rows) row_i.kids (omega arith) at_i.known)
      (known-more j.0 (length rows) row_j.kids (omega arith) at_j.known)
      (sym (ap (λ v. v.kids) at_i.stands) ∙ i_kids)
      (sym (ap (λ v. v.kids) at_j.stands) ∙ j_kids) in
      let one_head : row_i.head ≡ row_j.head =
      sym (ap (λ v. v.head) at_i.stands) ∙ i_head
      ∙ sym j_head ∙ ap (λ v. v.head) at_j.stands in
      let one_depth : row_i.depth ≡ row_j.depth =
      at_i.deep ∙ ap (λ vs. greatest_depth vs + 1) (i_kids ∙ sym j_kids)
      ∙ sym at_j.deep in
      let one_row : row_i ≡ row_j =
      λ n. record { head = one_head n; kids = one_kids n; depth = one_depth n } in
      let one_place : i.0 ≡ j.0 = row-once rows i.0 j.0 d unique i_known.0 j_known.0 one_row in
      let one_id : i ≡ j = λ n. record { 0 = one_place n } in
      cc

  -- no two of the rows have one value
  pub values-distinct : AreDistinct (values rows)
  values-distinct i j i_within j_within same =
      let long = length-values rows in
      let one : ValueId = record { 0 = i } in
      let two : ValueId = record { 0 = j } in
      let alike : kids_at (values rows) (two ∷ []) ≡ kids_at (values rows) (one ∷ []) =
      ap (λ v. more v.head v.kids none) (sym same) in
      let ids : (one ∷ []) ≡ (two ∷ []) =
      same-ids (kids_at (values rows) (one ∷ [])) (one ∷ []) (two ∷ [])
      (omega arith, tt) (omega arith, tt) refl alike in
      ap (λ l. (get_or l 0 one).0) ids
