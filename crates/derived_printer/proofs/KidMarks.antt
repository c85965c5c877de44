-- The kids of a value, as a list, and their marks.
use Rattle.std.proofs.Common.{◌≡◌, ℕ, zero, suc, List, [], ◌∷◌, length, map, take, drop, refl, sym, ◌∙◌, ap, arith, Some, option_and_then}
use Rattle.std.proofs.lemmas.List.{take-map}
use Rattle.std.proofs.lemmas.Slice.Zip.{firsts-zip, seconds-zip}
use Rattle.std.specs.List.{AllByRecursion, zip}
use Rattle.attr_value.specs.declared.head.Head.TheVariants as h
use Rattle.attr_value.specs.Heads.{Ascend}
use Rattle.attr_value.specs.Values.{Value, Values, none, more, value, list_of}
use Rattle.ir_lexer.specs.Spelling.{Text}
use Rattle.value_meaning.specs.Meaning.{kids_of, made_of, dict_of}
use Rattle.value_meaning.specs.Spelled.{sorted_entries, with_entry}
use Rattle.derived_printer.specs.ValueMarks.{Kid, marks_of, entry_marks, head_marks, kid_marks, value_marks}

-- ---- lists of values

-- a list is that of its values
pub kids-of-list : (vs : Values) → kids_of (list_of vs) ≡ vs
kids-of-list none = refl
kids-of-list (more head kids rest) = ap (more head kids) (kids-of-list rest)

-- a list of no values has none
pub no-kids : (vs : Values) → length (list_of vs) ≡ 0 → vs ≡ none
no-kids none e = refl
no-kids (more head kids rest) e = absurd (omega arith)

pub all-take : {A : Type 0} (P : A → Type 0) (n : ℕ) (xs : List A) → AllByRecursion P xs
    → AllByRecursion P (take n xs)
all-take P zero xs h = tt
all-take P (suc n) [] h = tt
all-take P (suc n) (x ∷ xs) (p, h) = (p, all-take P n xs h)

pub all-drop : {A : Type 0} (P : A → Type 0) (n : ℕ) (xs : List A) → AllByRecursion P xs
    → AllByRecursion P (drop n xs)
all-drop P zero xs h = h
all-drop P (suc n) [] h = tt
all-drop P (suc n) (x ∷ xs) (p, h) = all-drop P n xs h

-- ---- their marks

-- a value as a kid
abbrev pub shown_kid : Value → Kid
shown_kid v = (v.head, value_marks v)

-- what kids give is what each gives
pub kids-shown : (vs : Values) → kid_marks vs ≡ map shown_kid (list_of vs)
kids-shown none = refl
kids-shown (more head kids rest) = ap (λ l. (head, head_marks head (kid_marks kids)) ∷ l)
    (kids-shown rest)

marks-shown : (vs : List Value) → marks_of (map shown_kid vs) ≡ map value_marks vs
marks-shown [] = refl
marks-shown (v ∷ vs) = ap (λ l. value_marks v ∷ l) (marks-shown vs)

drop-map : {A B : Type 0} (f : A → B) (n : ℕ) (xs : List A) → drop n (map f xs) ≡ map f (drop n xs)
drop-map f zero xs = refl
drop-map f (suc n) [] = refl
drop-map f (suc n) (x ∷ xs) = drop-map f n xs

-- the marks of all kids, of the first n, and of those behind them
pub all-marks : (vs : Values) → map value_marks (list_of vs) ≡ marks_of (kid_marks vs)
all-marks vs = sym (ap marks_of (kids-shown vs) ∙ marks-shown (list_of vs))

pub take-marks : (n : ℕ) (vs : Values)
    → map value_marks (take n (list_of vs)) ≡ marks_of (take n (kid_marks vs))
take-marks n vs =
    sym (ap (λ l. marks_of (take n l)) (kids-shown vs)
    ∙ ap marks_of (take-map shown_kid n (list_of vs)) ∙ marks-shown (take n (list_of vs)))

pub drop-marks : (n : ℕ) (vs : Values)
    → map value_marks (drop n (list_of vs)) ≡ marks_of (drop n (kid_marks vs))
drop-marks n vs =
    sym (ap (λ l. marks_of (drop n l)) (kids-shown vs)
    ∙ ap marks_of (drop-map shown_kid n (list_of vs)) ∙ marks-shown (drop n (list_of vs)))

-- ---- dictionaries

keyed-list : (keys : List Text) (vs : List Value)
    → map (λ e. entry_marks (e.0, shown_kid e.1)) (zip keys vs) ≡ map entry_marks
    (zip keys (map shown_kid vs))
keyed-list [] vs = refl
keyed-list (k ∷ ks) [] = refl
keyed-list (k ∷ ks) (v ∷ vs) = ap (λ l. entry_marks (k, shown_kid v) ∷ l) (keyed-list ks vs)

-- the marks of entries
pub keyed-marks : (keys : List Text) (kids : Values)
    → map (λ e. entry_marks (e.0, shown_kid e.1)) (zip keys (list_of kids)) ≡ map entry_marks
    (zip keys (kid_marks kids))
keyed-marks keys kids =
    keyed-list keys (list_of kids) ∙ sym (ap (λ l. map entry_marks (zip keys l)) (kids-shown kids))

-- keys with their values are the dictionary
pub dict-of-zip : (keys : List Text) (kids : Values) → length (list_of kids) ≡ length keys
    → dict_of (zip keys (list_of kids)) ≡ value (h.Dict keys) kids
dict-of-zip keys kids e =
    ap (λ l. made_of (h.Dict l) (map (λ e. e.1) (zip keys (list_of kids))))
    (firsts-zip keys (list_of kids) e)
    ∙ ap (λ l. made_of (h.Dict keys) l) (seconds-zip keys (list_of kids) e)
    ∙ ap (λ k. value (h.Dict keys) k) (kids-of-list kids)

-- entries whose keys ascend are sorted
pub sorted-ascend : (es : List (Text × Value)) → Ascend (map (λ e. e.0) es)
    → sorted_entries es ≡ Some es
sorted-ascend [] a = refl
sorted-ascend (e ∷ []) a = refl
sorted-ascend (e ∷ g ∷ gs) (lt, a) = ap (option_and_then (λ more. with_entry e more))
    (sorted-ascend (g ∷ gs) a) ∙ rw lt refl
