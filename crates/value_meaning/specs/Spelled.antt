-- What the small parts of a value's tree spell: words, numbers, items, dimensions and keys.
--
--   word_head w                the head that a word spells, or none
--   signed_number neg digits   the number, with its minus or without
--   residue kind n             the number that is kept of n at an integer type, or none
--   number_head ..             the head of a number of some type, or none
--   is_dense_width width       the items of dense arrays may be so wide
--   dense_item width item      the number that is kept of an item of a dense array, or none
--   dim_of kind text           a dimension of a shape of this kind, or none
--   all_some xs                what each is, where each is something
--   sorted_entries es          entries by ascending key, or none where a key stands twice
use Rattle.std.specs.Prelude.{ℕ, ◌^◌, Bool, true, false, ◌&&◌, ◌||◌, not, ◌==◌, cond}
use Rattle.std.specs.Prelude.{List, [], ◌∷◌, drop, ℤ, pos, neg_ℤ, int_le, nat_le, nat_lt}
use Rattle.std.specs.Prelude.{bytes_eq, codes, if◌then◌else◌, option_map, option_and_then}
use Rattle.std.specs.declared.option.Option.{Option}
use Rattle.std.specs.declared.option.Option.TheVariants.{Some, None}
use Rattle.attr_value.specs.declared.head.Head.{Head}
use Rattle.attr_value.specs.declared.head.Head.TheVariants as h
use Rattle.attr_value.specs.declared.kind.Dim.{Dim}
use Rattle.attr_value.specs.declared.kind.Dim.TheVariants.{Known, Unknown}
use Rattle.attr_value.specs.declared.kind.FloatKind.TheVariants as f
use Rattle.attr_value.specs.declared.kind.IntKind.{IntKind}
use Rattle.attr_value.specs.declared.kind.IntKind.TheVariants.{Index, Signless, Signed, Unsigned}
use Rattle.attr_value.specs.declared.kind.ShapeKind.{ShapeKind}
use Rattle.attr_value.specs.declared.kind.ShapeKind.TheVariants as shape
use Rattle.attr_value.specs.declared.number.TheConstants.{NUMBER_WIDTH_LIMIT}
use Rattle.attr_value.specs.Heads.{text_lt}
use Rattle.attr_value.specs.Numbers.{lowest, limit, kept}
use Rattle.attr_value.specs.Values.{Value}
use Rattle.generic_syntax.specs.declared.cst.ItemCst.{ItemCst}
use Rattle.grammar.specs.Looks.{decimal, is_integer_word, number_in}
use Rattle.ir_lexer.specs.Spelling.{Text}

-- ---- words

-- the kind that the name of an integer type says: `si8`, `ui8` or `i8`
abbrev pub int_kind_of : Text → IntKind
int_kind_of [] = Index
int_kind_of (b ∷ t) =
    if b == 115 then Signed (decimal 0 (drop 1 t))
    else (if b == 117 then Unsigned (decimal 0 (drop 1 t)) else Signless (decimal 0 t))

-- The other types and attributes of one word. `true` and `false` are the numbers -1 and 0 of `i1`.
abbrev pub words : List (Text × Head)
words =
    (codes "index", h.Int Index) ∷ (codes "none", h.NoneType)
    ∷ (codes "bf16", h.Float f.Bf16) ∷ (codes "f16", h.Float f.F16)
    ∷ (codes "tf32", h.Float f.Tf32) ∷ (codes "f32", h.Float f.F32)
    ∷ (codes "f64", h.Float f.F64) ∷ (codes "f80", h.Float f.F80)
    ∷ (codes "f128", h.Float f.F128)
    ∷ (codes "true", h.Number (Signless 1) (neg_ℤ (pos 1)))
    ∷ (codes "false", h.Number (Signless 1) (pos 0)) ∷ (codes "unit", h.Unit) ∷ []

-- what stands beside the first key that is this one
abbrev pub looked_up : {A : Type 0} → List (Text × A) → Text → Option A
looked_up [] key = None
looked_up (e ∷ es) key = cond (bytes_eq e.0 key) (Some e.1) (looked_up es key)

-- the head that a word spells
unfoldable pub word_head : Text → Option Head
word_head w = cond (is_integer_word w) (Some (h.Int (int_kind_of w))) (looked_up words w)

-- ---- numbers

-- the number, below 0 where a minus stands
abbrev pub signed_number : Bool → Text → ℤ
signed_number negative digits =
    if negative then neg_ℤ (pos (number_in digits)) else pos (number_in digits)

-- numbers may have an integer type of this kind
abbrev pub is_number_kind : IntKind → Bool
is_number_kind Index = true
is_number_kind (Signless width) = nat_le 1 width && nat_le width NUMBER_WIDTH_LIMIT
is_number_kind (Signed width) = nat_le 1 width && nat_le width NUMBER_WIDTH_LIMIT
is_number_kind (Unsigned width) = nat_le 1 width && nat_le width NUMBER_WIDTH_LIMIT

-- the number may be written at the kind
abbrev pub is_in_range : IntKind → ℤ → Bool
is_in_range kind n = int_le (lowest kind) n && not (int_le (limit kind) n)

-- the number that is kept, where it may be written
unfoldable pub residue : IntKind → ℤ → Option ℤ
residue kind n = cond (is_number_kind kind && is_in_range kind n) (Some (kept kind n)) None

-- the kind of an integer type
abbrev pub kind_of_head : Head → Option IntKind
kind_of_head (h.Int kind) = Some kind
kind_of_head _ = None

-- The kind of a number: `i64` where no type stands, and none where what stands is no integer type.
abbrev pub kind_of_number : Option (Option Value) → Option IntKind
kind_of_number None = Some (Signless 64)
kind_of_number (Some type) = option_and_then (λ v. kind_of_head v.head) type

-- the head of a number, where it may be written at its type
abbrev pub number_head : Bool → Text → Option (Option Value) → Option Head
number_head negative digits type =
    option_and_then (λ kind. option_map (λ n. h.Number kind n)
    (residue kind (signed_number negative digits))) (kind_of_number type)

-- ---- items of dense arrays

-- the items of dense arrays have one of five widths
abbrev pub is_dense_width : ℕ → Bool
is_dense_width width =
    (width == 1) || ((width == 8) || ((width == 16) || ((width == 32) || (width == 64))))

-- the truth values of items, by their words
abbrev pub truths : List (Text × ℤ)
truths = (codes "true", neg_ℤ (pos 1)) ∷ (codes "false", pos 0) ∷ []

-- An item of `i1` is `true` or `false`. An item of another width is a number in the signless range.
abbrev pub dense_item : ℕ → ItemCst → Option ℤ
dense_item width item =
    if width == 1 then looked_up truths item.spelling
    else elim (looked_up truths item.spelling) [
      | Some truth ↦ None
      | None ↦ residue (Signless width) (signed_number item.negative item.spelling)
    ]

-- ---- dimensions

-- shapes of this kind may have unknown dimensions
abbrev pub may_be_unknown : ShapeKind → Bool
may_be_unknown shape.Vector = false
may_be_unknown shape.Tensor = true
may_be_unknown shape.Memref = true

-- A dimension: an unknown one is an empty text, and a known one lies from 1 to 2^63 - 1.
abbrev pub dim_of : ShapeKind → Text → Option Dim
dim_of kind [] = if may_be_unknown kind then Some Unknown else None
dim_of kind (d ∷ ds) =
    let n = decimal 0 (d ∷ ds) in
    if nat_le 1 n && nat_lt n (2 ^ 63) then Some (Known n) else None

-- ---- lists

-- what each is, where each is something
abbrev pub all_some : {A : Type 0} → List (Option A) → Option (List A)
all_some [] = Some []
all_some (None ∷ xs) = None
all_some (Some x ∷ xs) = option_map (λ ys. x ∷ ys) (all_some xs)

-- entries with one more at the place of its key, or none where the key stands there
abbrev pub with_entry : {A : Type 0} → Text × A → List (Text × A) → Option (List (Text × A))
with_entry e [] = Some (e ∷ [])
with_entry e (g ∷ gs) =
    cond (text_lt e.0 g.0) (Some (e ∷ g ∷ gs))
    (cond (bytes_eq e.0 g.0) None (option_map (λ es. g ∷ es) (with_entry e gs)))

-- entries by ascending key, or none where a key stands twice
abbrev pub sorted_entries : {A : Type 0} → List (Text × A) → Option (List (Text × A))
sorted_entries [] = Some []
sorted_entries (e ∷ es) = option_and_then (λ more. with_entry e more) (sorted_entries es)
