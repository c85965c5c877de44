-- The kids of a value, by their ids.
use Rattle.std.proofs.Common.{◌≡◌, ◌≢◌, ℕ, zero, suc, ◌+◌, ◌<◌, ◌≤◌, List, [], ◌∷◌, refl, sym, ◌∙◌, ap, subst, arith, length, take, drop, get_or}
use Rattle.attr_value.specs.declared.head.Head.{Head}
use Rattle.attr_value.specs.declared.head.Head.TheVariants as h
use Rattle.attr_value.specs.declared.head.ValueId.{ValueId}
use Rattle.attr_value.specs.Heads.{MayHaveKids}
use Rattle.attr_value.specs.Ids.{at, kids_at}
use Rattle.attr_value.specs.Values.{Value, greatest_depth, depth, list_of}
use Rattle.ir_lexer.specs.Spelling.{Text}
use Rattle.derived_printer.specs.Parts.{CanPrint}
use Rattle.derived_printer.specs.Spellable.{NodeIsSpellable}
use Rattle.derived_printer.specs.ValueMarks.{Marks, kid_marks, value_marks, unless_empty}
use Rattle.derived_printer.proofs.Loops.{drop-at}

-- as many kids as ids
pub length-kids : (vs : List Value) (ids : List ValueId)
    → length (list_of (kids_at vs ids)) ≡ length ids
length-kids vs [] = refl
length-kids vs (id ∷ ids) = ap suc (length-kids vs ids)

-- the first and the others
pub can-first : (vs : List Value) (id : ValueId) (ids : List ValueId) → CanPrint vs (id ∷ ids)
    → CanPrint vs (id ∷ [])
can-first vs id ids can = record {
  known = (can.known.0, tt);
  spellable = (can.spellable.0, can.spellable.1, tt);
}

can-others : (vs : List Value) (id : ValueId) (ids : List ValueId) → CanPrint vs (id ∷ ids)
    → CanPrint vs ids
can-others vs id ids can = record { known = can.known.1; spellable = can.spellable.2 }

can-none : (vs : List Value) → CanPrint vs []
can-none vs = record { known = tt; spellable = tt }

-- those from a place on
pub can-drop : (vs : List Value) (n : ℕ) (ids : List ValueId) → CanPrint vs ids
    → CanPrint vs (drop n ids)
can-drop vs zero ids can = can
can-drop vs (suc n) [] can = can
can-drop vs (suc n) (id ∷ ids) can = can-drop vs n ids (can-others vs id ids can)

-- those up to a place
pub can-take : (vs : List Value) (n : ℕ) (ids : List ValueId) → CanPrint vs ids
    → CanPrint vs (take n ids)
can-take vs zero ids can = can-none vs
can-take vs (suc n) [] can = can
can-take vs (suc n) (id ∷ ids) can =
    let more = can-take vs n ids (can-others vs id ids can) in
    record {
      known = (can.known.0, more.known);
      spellable = (can.spellable.0, can.spellable.1, more.spellable);
    }

-- what the kids from a place on give
pub kids-drop : (vs : List Value) (n : ℕ) (ids : List ValueId)
    → kid_marks (kids_at vs (drop n ids)) ≡ drop n (kid_marks (kids_at vs ids))
kids-drop vs zero ids = refl
kids-drop vs (suc n) [] = refl
kids-drop vs (suc n) (id ∷ ids) = kids-drop vs n ids

-- what the kids up to a place give
pub kids-take : (vs : List Value) (n : ℕ) (ids : List ValueId)
    → kid_marks (kids_at vs (take n ids)) ≡ take n (kid_marks (kids_at vs ids))
kids-take vs zero ids = refl
kids-take vs (suc n) [] = refl
kids-take vs (suc n) (id ∷ ids) =
    let v = at vs id.0 in
    ap (λ ks. (v.head, value_marks v) ∷ ks) (kids-take vs n ids)

-- where there are ids, there are kids
pub some-kids : (vs : List Value) (ids : List ValueId) (ms : Marks) → ids ≢ []
    → unless_empty (kid_marks (kids_at vs ids)) ms ≡ ms
some-kids vs [] ms some = absurd (some refl)
some-kids vs (id ∷ ids) ms some = refl

-- ---- depths

-- the kids from a place on are no deeper
pub deep-drop : (vs : List Value) (n : ℕ) (ids : List ValueId)
    → greatest_depth (kids_at vs (drop n ids)) ≤ greatest_depth (kids_at vs ids)
deep-drop vs zero ids = omega arith
deep-drop vs (suc n) [] = omega arith
deep-drop vs (suc n) (id ∷ ids) = let less = deep-drop vs n ids in omega (arith, less)

-- the kids up to a place are no deeper
pub deep-take : (vs : List Value) (n : ℕ) (ids : List ValueId)
    → greatest_depth (kids_at vs (take n ids)) ≤ greatest_depth (kids_at vs ids)
deep-take vs zero ids = omega arith
deep-take vs (suc n) [] = omega arith
deep-take vs (suc n) (id ∷ ids) = let less = deep-take vs n ids in omega (arith, less)

-- the kid at a place is no deeper
pub deep-at : (vs : List Value) (n : ℕ) (ids more : List ValueId) (id : ValueId)
    → drop n ids ≡ id ∷ more → depth (at vs id.0) ≤ greatest_depth (kids_at vs ids)
deep-at vs n ids more id is =
    let less = deep-drop vs n ids in
    let first : depth (at vs id.0) ≤ greatest_depth (kids_at vs (drop n ids)) =
    rw is (omega arith) in
    omega (arith, less, first)

-- ---- the kid at a place

-- it can be spelled
pub can-at : (vs : List Value) (ids : List ValueId) (i : ℕ) (d : ValueId) → i < length ids
    → CanPrint vs ids → CanPrint vs (get_or ids i d ∷ [])
can-at vs ids i d less can =
    let x = get_or ids i d in
    let here = drop-at ids i (i + 1) x d less refl refl in
    can-first vs x (drop (i + 1) ids) (subst (CanPrint vs) here (can-drop vs i ids can))

-- it nests one less deep
pub deep-kid : (vs : List Value) (ids : List ValueId) (i : ℕ) (d : ValueId) → i < length ids
    → depth (at vs (get_or ids i d).0) ≤ greatest_depth (kids_at vs ids)
deep-kid vs ids i d less =
    let x = get_or ids i d in
    deep-at vs i ids (drop (i + 1) ids) x (drop-at ids i (i + 1) x d less refl refl)

-- ---- how many kids a head has

-- a function type has its inputs at least
pub function-count : (vs : List Value) (ids : List ValueId) (head : Head) (n : ℕ)
    → head ≡ h.Function n → NodeIsSpellable head (kids_at vs ids) → n ≤ length ids
function-count vs ids head n is node =
    let count : n ≤ length (list_of (kids_at vs ids)) =
    subst (λ x. MayHaveKids x (length (list_of (kids_at vs ids)))) is node.rule.count in
    omega (arith, count, length-kids vs ids)

-- a dictionary has one for each key
pub dict-count : (vs : List Value) (ids : List ValueId) (head : Head) (keys texts : List Text)
    → head ≡ h.Dict keys → texts ≡ keys → NodeIsSpellable head (kids_at vs ids)
    → length ids ≡ length texts
dict-count vs ids head keys texts is same node =
    let count : length (list_of (kids_at vs ids)) ≡ length keys =
    subst (λ x. MayHaveKids x (length (list_of (kids_at vs ids)))) is node.rule.count in
    sym (length-kids vs ids) ∙ count ∙ sym (ap length same)
