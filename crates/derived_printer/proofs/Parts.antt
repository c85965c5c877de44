-- The marks of a value are those of its parts, one behind the other.
use Rattle.std.proofs.Common.{◌≡◌, ℕ, Bool, false, List, [], ◌∷◌, ◌++◌, refl, ℤ, pos, negsuc, decimal, SFits, to_z, of_z, length, ◌==◌, ◌≢◌, ◌-◌, arith, length-drop, map, take, drop, sym, ◌∙◌, ap, append_assoc}
use Rattle.std.specs.Int.{w128}
use Rattle.std.proofs.lemmas.List.{take_all}
use Rattle.std.proofs.lemmas.Int.{to_z-of_z}
use Rattle.std.specs.Int.RustNames.{unsigned_abs}
use Rattle.attr_value.specs.declared.kind.Dim.{Dim}
use Rattle.attr_value.specs.declared.kind.IntKind.{IntKind}
use Rattle.attr_value.specs.declared.kind.ShapeKind.{ShapeKind}
use Rattle.attr_value.specs.declared.head.ValueId.{ValueId}
use Rattle.attr_value.specs.Ids.{kids_at}
use Rattle.attr_value.specs.Values.{Value}
use Rattle.ir_lexer.specs.declared.class.Class.TheVariants as c
use Rattle.ir_lexer.specs.Spelling.{Text}
use Rattle.text_layout.specs.Lines.{token}
use Rattle.derived_printer.specs.Parts.{minus_marks, enclosed_marks, entry_of}
use Rattle.derived_printer.specs.Spelling.{is_truth_kind, int_text, shape_text, name_class, name_text, key_class, key_text}
use Rattle.derived_printer.proofs.Kids.{kids-take, kids-drop, some-kids}
use Rattle.derived_printer.specs.ValueMarks.{a_sign, a_word, number_marks, typed_number_marks, items_behind, item_marks, commas, marks_of, dims_marks, shaped_marks, function_marks, dialect_marks, entry_marks, is_unit_head, kid_marks, value_marks, Kid}

-- a number that went through a call is the same
pub passed : (n : ℤ) → SFits w128 n → to_z w128 (of_z w128 n) ≡ n
passed n fits = to_z-of_z w128 n fits

-- a number is its sign and its digits
pub number-parts : (n : ℤ) (m : ℕ) → m ≡ unsigned_abs n
    → number_marks n ≡ minus_marks n ++ (token c.Integer (decimal m) ∷ [])
number-parts (pos n) m is = rw is refl
number-parts (negsuc n) m is = rw is refl

-- a number that is no truth value has its type
pub typed-parts : (kind : IntKind) (n : ℤ) → is_truth_kind kind ≡ false
    → typed_number_marks kind n ≡ number_marks n ++ (a_sign c.Colon ++ a_word (int_text kind))
typed-parts kind n other = rw other refl

-- a list that isn't empty, by the test
pub not-empty : {A : Type 0} (xs : List A) (r : Bool) → r ≡ (length xs == 0) → r ≡ false → xs ≢ []
not-empty [] r is other = λ none. absurd (cc)
not-empty (x ∷ xs) r is other = λ none. absurd (cc)

-- items, where there are some
pub some-items : (width : ℕ) (items : List ℤ) → items ≢ []
    → items_behind width items
    ≡ a_sign c.Colon ++ commas (map (item_marks width) items)
some-items width [] some = absurd (some refl)
some-items width (n ∷ items) some = refl

-- a shaped type, one part behind the other
pub shaped-parts : (kind : ShapeKind) (dims : List Dim) (kids : List Kid) (w : Text)
    → w ≡ shape_text kind
    → shaped_marks kind dims kids
    ≡ a_word w
    ++ (a_sign c.Less ++ (dims_marks dims ++ (commas (marks_of kids) ++ a_sign c.Greater)))
shaped-parts kind dims kids w is =
    let rest = dims_marks dims ++ (commas (marks_of kids) ++ a_sign c.Greater) in
    ap (λ ms. a_word (shape_text kind) ++ (a_sign c.Less ++ ms))
    (append_assoc (dims_marks dims) (commas (marks_of kids)) (a_sign c.Greater))
    ∙ ap (λ t. a_word t ++ (a_sign c.Less ++ rest)) (sym is)

-- a function type, by the ids of its inputs and its results
pub function-parts : (vs : List Value) (n : ℕ) (ids ins outs : List ValueId)
    → ins ≡ take n ids → outs ≡ drop n ids
    → function_marks n (kid_marks (kids_at vs ids))
    ≡ enclosed_marks c.LParen c.RParen (kid_marks (kids_at vs ins))
    ++ (a_sign c.Arrow ++ enclosed_marks c.LParen c.RParen (kid_marks (kids_at vs outs)))
function-parts vs n ids ins outs first second =
    let front : kid_marks (kids_at vs ins) ≡ take n (kid_marks (kids_at vs ids)) =
    ap (λ l. kid_marks (kids_at vs l)) first ∙ kids-take vs n ids in
    let back : kid_marks (kids_at vs outs) ≡ drop n (kid_marks (kids_at vs ids)) =
    ap (λ l. kid_marks (kids_at vs l)) second ∙ kids-drop vs n ids in
    rw (front, back) refl

-- a dialect's value that has parameters
pub dialect-parts : (is_type : Bool) (name : Text) (vs : List Value) (ids : List ValueId)
    → ids ≢ []
    → dialect_marks is_type name (kid_marks (kids_at vs ids))
    ≡ (token (name_class is_type) (name_text is_type name) ∷ [])
    ++ enclosed_marks c.Less c.Greater (kid_marks (kids_at vs ids))
dialect-parts is_type name vs ids some =
    ap (λ ms. token (name_class is_type) (name_text is_type name) ∷ ms) (some-kids vs ids _ some)

-- an entry whose value is written
pub entry-parts : (key : Text) (v : Value) → is_unit_head v.head ≡ false
    → entry_marks (entry_of key v)
    ≡ (token (key_class key) (key_text key) ∷ []) ++ (a_sign c.Equal ++ value_marks v)
entry-parts key v other = rw other refl

-- the rest of a list is no longer than what is left of it
pub whole-rest : {A : Type 0} (n : ℕ) (xs : List A) → take (length xs - n) (drop n xs) ≡ drop n xs
whole-rest n xs = take_all (length xs - n) (drop n xs) (omega (arith, length-drop n xs))
