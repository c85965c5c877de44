-- What is spelled keeps to its head's rule: widths, kept numbers and dimensions are right.
use Rattle.std.proofs.Common.{◌≡◌, ℕ, ◌+◌, ◌-◌, ◌*◌, ◌^◌, ◌==◌, Bool, true, false, ◌&&◌, ◌||◌, nat_le, nat_lt, List, [], ◌∷◌, map, length, take, drop, refl, sym, ◌∙◌, subst, arith, ℤ, pos, neg_ℤ, rules, if◌then◌else◌}
use Rattle.std.specs.Prelude.{Option, Some, None, bytes_eq, codes, cond}
use Rattle.std.specs.List.{AllByRecursion}
use Rattle.std.proofs.lemmas.Bool.{eqb-true}
use Rattle.std.proofs.lemmas.Bool.Decides.{nat_tests}
use Rattle.std.proofs.lemmas.Int.{ints}
use Rattle.std.proofs.lemmas.Slice.Eq.{bytes_eq-Decides}
use Rattle.attr_value.specs.declared.head.Head.{Head}
use Rattle.attr_value.specs.declared.head.Head.TheVariants as h
use Rattle.attr_value.specs.declared.kind.Dim.{Dim}
use Rattle.attr_value.specs.declared.kind.Dim.TheVariants.{Known, Unknown}
use Rattle.attr_value.specs.declared.kind.IntKind.{IntKind}
use Rattle.attr_value.specs.declared.kind.IntKind.TheVariants.{Signless}
use Rattle.attr_value.specs.declared.kind.ShapeKind.{ShapeKind}
use Rattle.attr_value.specs.declared.kind.ShapeKind.TheVariants as shape
use Rattle.attr_value.specs.Heads.{HeadIsRight, IsDenseWidth, IsDim, IsIntType, IsTypeWidth, MayHaveKids}
use Rattle.attr_value.specs.Numbers.{IsKept}
use Rattle.generic_syntax.specs.declared.cst.ItemCst.{ItemCst}
use Rattle.grammar.specs.Looks.{decimal, is_integer_word, is_width, is_width_after}
use Rattle.ir_lexer.specs.Spelling.{Text}
use Rattle.value_meaning.proofs.Capped.{decimal-grows}
use Rattle.value_meaning.proofs.Gathered.{all_some-split}
use Rattle.value_meaning.proofs.Kept.{residue-kept}
use Rattle.value_meaning.specs.Spelled.{is_dense_width}
use Rattle.value_meaning.specs.Spelled.{all_some, dense_item, dim_of, int_kind_of, looked_up, residue, signed_number, truths, word_head, words}

-- ---- lists and tables

-- what holds of each that is spelled holds of all
all-right : {A B : Type 0} (f : A → Option B) (P : B → Type 0)
    → ((x : A) (y : B) → f x ≡ Some y → P y)
    → (xs : List A) (ys : List B) → all_some (map f xs) ≡ Some ys → AllByRecursion P ys
all-right f P each [] [] e = tt
all-right f P each [] (y ∷ ys) e = absurd (cc)
all-right f P each (x ∷ xs) ys e =
    let split = all_some-split (f x) (map f xs) ys e in
    rw split.all (each x split.first split.is, all-right f P each xs split.rest split.others)

-- what holds of each row of a table holds of what is found there
pub looked_up-right : {A : Type 0} (P : A → Type 0) (es : List (Text × A)) (key : Text) (x : A)
    → AllByRecursion (λ e. P e.1) es → looked_up es key ≡ Some x → P x
looked_up-right P [] key x all e = absurd (cc)
looked_up-right {A = A} P (row ∷ es) key x all e =
    go (bytes_eq row.0 key) (looked_up-right P es key x all.1) e
  where
    go : (same : Bool) → (looked_up es key ≡ Some x → P x)
        → cond same (Some row.1) (looked_up es key) ≡ Some x → P x
    go true others e = let same : row.1 ≡ x = cc in subst P same all.0
    go false others e = others e

-- ---- words

-- a head that is right, and that may stand alone
abbrev IsLeaf : Head → Type 0
IsLeaf head = HeadIsRight head × MayHaveKids head 0

-- digits of a width spell one
width-right : (t : Text) → is_width t ≡ true → IsTypeWidth (decimal 0 t)
width-right [] e = absurd (cc)
width-right (b ∷ t) e =
    let grows = decimal-grows (0 * 10 + (b - 48)) t in
    (grind (arith, nat_tests), grind (arith, nat_tests))

-- behind a prefix stands a width
after-prefix : (prefix t : Text) → is_width_after prefix t ≡ true
    → (take (length prefix) t ≡ prefix) × (is_width (drop (length prefix) t) ≡ true)
after-prefix prefix t e = go (bytes_eq (take (length prefix) t) prefix) refl e
  where
    go : (same : Bool) → bytes_eq (take (length prefix) t) prefix ≡ same
        → (same && is_width (drop (length prefix) t)) ≡ true
        → (take (length prefix) t ≡ prefix) × (is_width (drop (length prefix) t) ≡ true)
    go true same e = ((bytes_eq-Decides (take (length prefix) t) prefix).0 same, e)
    go false same e = absurd (cc)

-- the kind by which an integer type is named
kind-right : (w : Text) → is_integer_word w ≡ true → IsIntType (int_kind_of w)
kind-right [] e = tt
kind-right (b ∷ t) e =
    go (is_width_after (codes "i") (b ∷ t)) (is_width_after (codes "si") (b ∷ t)) refl refl e
  where
    go : (signless signed : Bool) → is_width_after (codes "i") (b ∷ t) ≡ signless
        → is_width_after (codes "si") (b ∷ t) ≡ signed
        → (signless || (signed || is_width_after (codes "ui") (b ∷ t))) ≡ true
        → IsIntType (int_kind_of (b ∷ t))
    go true signed i si e =
        let parts = after-prefix (codes "i") (b ∷ t) i in
        let first : b ≡ 105 = cc in rw first (width-right t parts.1)
    go false true i si e =
        let parts = after-prefix (codes "si") (b ∷ t) si in
        let first : b ≡ 115 = cc in rw first (width-right (drop 1 t) parts.1)
    go false false i si e =
        let parts = after-prefix (codes "ui") (b ∷ t) e in
        let first : b ≡ 117 = cc in rw first (width-right (drop 1 t) parts.1)

-- truth values are kept at a width of 1
kept-true : IsKept (Signless 1) (neg_ℤ (pos 1))
kept-true = ((omega arith, omega arith), (omega (arith, ints), omega (arith, ints)))

kept-false : IsKept (Signless 1) (pos 0)
kept-false = ((omega arith, omega arith), (omega (arith, ints), omega (arith, ints)))

-- the words of the table
words-right : AllByRecursion (λ e. IsLeaf e.1) words
words-right = search (rules, kept-true, kept-false)

-- the head of a word is right, and may stand alone
pub word-right : (w : Text) (head : Head) → word_head w ≡ Some head
    → HeadIsRight head × MayHaveKids head 0
unfolding word_head
word-right w head e = go (is_integer_word w) refl e
  where
    go : (named : Bool) → is_integer_word w ≡ named
        → cond named (Some (h.Int (int_kind_of w))) (looked_up words w) ≡ Some head
        → HeadIsRight head × MayHaveKids head 0
    go true named e =
        let is : h.Int (int_kind_of w) ≡ head = cc in
        subst IsLeaf is (kind-right w named, refl)
    go false named e = looked_up-right IsLeaf words w head words-right e

-- ---- numbers

-- a number that is kept is right
pub number-right : (kind : IntKind) (m n : ℤ) → residue kind m ≡ Some n
    → HeadIsRight (h.Number kind n)
number-right kind m n e = residue-kept kind m n e

-- ---- shapes

dim-right : (kind : ShapeKind) (t : Text) (d : Dim) → dim_of kind t ≡ Some d → IsDim kind d
dim-right shape.Vector [] d e = absurd (cc)
dim-right shape.Tensor [] d e = let is : Unknown ≡ d = cc in subst (IsDim shape.Tensor) is tt
dim-right shape.Memref [] d e = let is : Unknown ≡ d = cc in subst (IsDim shape.Memref) is tt
dim-right kind (b ∷ t) d e = go (nat_le 1 n) (nat_lt n (2 ^ 63)) refl refl e
  where
    n : ℕ
    n = decimal 0 (b ∷ t)

    go : (low high : Bool) → nat_le 1 n ≡ low → nat_lt n (2 ^ 63) ≡ high
        → (if low && high then Some (Known n) else None) ≡ Some d → IsDim kind d
    go true true low high e =
        let is : Known n ≡ d = cc in
        subst (IsDim kind) is (grind (arith, nat_tests), grind (arith, nat_tests))
    go true false low high e = absurd (cc)
    go false high low is e = absurd (cc)

-- dimensions of a shape of this kind are right
pub shape-right : (kind : ShapeKind) (dims : List Text) (ds : List Dim)
    → all_some (map (dim_of kind) dims) ≡ Some ds → HeadIsRight (h.Shaped kind ds)
shape-right kind dims ds e = all-right (dim_of kind) (IsDim kind) (dim-right kind) dims ds e

-- ---- dense arrays

width-dense : (width : ℕ) → is_dense_width width ≡ true → IsDenseWidth width
width-dense width e = grind (arith, nat_tests)

truths-right : AllByRecursion (λ e. IsKept (Signless 1) e.1) truths
truths-right = (kept-true, (kept-false, tt))

item-right : (width : ℕ) (item : ItemCst) (n : ℤ) → dense_item width item ≡ Some n
    → IsKept (Signless width) n
item-right width item n e = go (width == 1) (looked_up truths item.spelling) refl refl e
  where
    kept : Option ℤ
    kept = residue (Signless width) (signed_number item.negative item.spelling)

    go : (one : Bool) (truth : Option ℤ) → (width == 1) ≡ one
        → looked_up truths item.spelling ≡ truth
        → (if one then truth else elim truth [ Some t ↦ None | None ↦ kept ]) ≡ Some n
        → IsKept (Signless width) n
    go true truth one found e =
        let is : 1 ≡ width = sym (eqb-true width 1 one) in
        subst (λ w. IsKept (Signless w) n) is
        (looked_up-right (IsKept (Signless 1)) truths item.spelling n truths-right (found ∙ e))
    go false (Some t) one found e = absurd (cc)
    go false None one found e =
        residue-kept (Signless width) (signed_number item.negative item.spelling) n e

-- items of a width that dense arrays may have are right
pub dense-right : (width : ℕ) (items : List ItemCst) (ns : List ℤ) → is_dense_width width ≡ true
    → all_some (map (dense_item width) items) ≡ Some ns → HeadIsRight (h.Dense width ns)
dense-right width items ns is e = (
  width-dense width is,
  all-right (dense_item width) (IsKept (Signless width)) (item-right width) items ns e,
)
