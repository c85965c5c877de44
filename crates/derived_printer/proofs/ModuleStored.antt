-- What is known of the parts of a stored module that can be printed: its types and attributes can
-- be spelled, and what the calls of the store lend is what the definitions speak of.
--
--   can-one, can-all                  values that can be spelled
--   op-printable, type-printable, results-printable, attrs-printable      parts of a module
--   type-seen                         the type of a value
--   outs-same, attrs-same, list-same  marks of values by their ids
--   arguments-same                    the arguments of a label by their numbers
use Rattle.std.proofs.Common.{◌≡◌, ◌≢◌, ℕ, zero, suc, ◌+◌, ◌<◌, ◌≤◌, List, [], ◌∷◌, ◌++◌, length, map, drop, slice_get, get_or, refl, sym, ◌∙◌, ap, subst, arith, max, Some}
use Rattle.std.proofs.lemmas.Option.{slice_get-get_or, get_or_from_slice_get, slice_get_within}
use Rattle.std.proofs.Math.ListN.{drop_of_length-le}
use Rattle.std.specs.List.{AllByRecursion, zip}
use Rattle.attr_value.specs.declared.head.ValueId.{ValueId}
use Rattle.attr_value.specs.Ids.{at, kids_at}
use Rattle.attr_value.specs.Values.{Value}
use Rattle.dialect_defs.specs.declared.definition.OpDef.{OpDef}
use Rattle.ir_lexer.specs.declared.class.Class.{Class}
use Rattle.ir_lexer.specs.Spelling.{Text}
use Rattle.ir_store.specs.declared.rows.OpId.{OpId}
use Rattle.ir_store.specs.Modules.{types_in}
use Rattle.ir_store.specs.Named.{HaveTypes}
use Rattle.ir_store.specs.Numbering.{OpSite, ops_in}
use Rattle.ir_store.specs.Store.{OpName, Module}
use Rattle.ir_store.proofs.Inside.{op-placed}
use Rattle.ir_store.proofs.Sites.{types-mapped}
use Rattle.derived_printer.specs.declared.form.Form.{Form}
use Rattle.derived_printer.specs.ModuleMarks.{name_in, attr_marks, argument_marks, numbered}
use Rattle.derived_printer.specs.ModuleMarks.{count_from, arguments_marks}
use Rattle.derived_printer.specs.ModuleParts.{op_here, type_in, value_of_id, all_types}
use Rattle.derived_printer.specs.ModuleParts.{argument_at, arguments_from}
use Rattle.derived_printer.specs.Parts.{CanPrint, separator, from_place}
use Rattle.derived_printer.specs.Printable.{CanBeSpelled, OpIsPrintable, IsPrintable}
use Rattle.derived_printer.specs.ValueMarks.{Marks, in_parens, commas, marks_of, kid_marks, value_marks, entry_marks}
use Rattle.derived_printer.proofs.Loops.{drop-at, from-next, from-end}
use Rattle.derived_printer.proofs.ModuleWalk.{op-is}

-- ---- lists

-- what holds of all items of a list holds at a place
pub all-at : {A : Type 0} (P : A → Type 0) (xs : List A) (i : ℕ) (d : A) → i < length xs
    → AllByRecursion P xs → P (get_or xs i d)
all-at P [] i d less all = absurd (omega (arith, less))
all-at P (x ∷ xs) zero d less all = all.0
all-at P (x ∷ xs) (suc i) d less all = all-at P xs i d (omega (arith, less)) all.1

-- it holds of all items that stand in the list
all-found : {A : Type 0} (P : A → Type 0) (all : List A) → AllByRecursion P all → (xs : List A)
    → ((i : ℕ) (x : A) → slice_get xs i ≡ Some x → (j : ℕ) × (slice_get all j ≡ Some x))
    → AllByRecursion P xs
all-found P all each [] found = tt
all-found P all each (x ∷ xs) found =
    let first = found 0 x refl in
    let here : P (get_or all first.0 x) =
    all-at P all first.0 x (slice_get_within all first.0 x first.1) each in (
      subst P (get_or_from_slice_get all first.0 x x first.1) here,
      all-found P all each xs (λ i y e. found (suc i) y e),
    )

-- an item of a list that a function was applied to
at-map : {A B : Type 0} (f : A → B) (xs : List A) (n : ℕ) (d : A) (e : B) → n < length xs
    → get_or (map f xs) n e ≡ f (get_or xs n d)
at-map f [] n d e less = absurd (omega (arith, less))
at-map f (x ∷ xs) zero d e less = refl
at-map f (x ∷ xs) (suc n) d e less = at-map f xs n d e (omega (arith, less))

-- pieces that are made of items in two steps
pub next-twice : {A B : Type 0} (class : Class) (f : B → Marks) (h : A → B) (xs : List A) (i j : ℕ)
    (x d : A) → i < length xs → j ≡ i + 1 → x ≡ get_or xs i d
    → from_place class i (map f (map h (drop i xs)))
    ≡ separator class i ++ (f (h x) ++ from_place class j (map f (map h (drop j xs))))
next-twice class f h xs i j x d less next is =
    ap (λ ys. from_place class i (map f (map h ys))) (drop-at xs i j x d less next is)
    ∙ from-next class i j (f (h x)) (map f (map h (drop j xs))) next

-- none are left
pub end-twice : {A B : Type 0} (class : Class) (f : B → Marks) (h : A → B) (xs : List A) (i : ℕ)
    → length xs ≤ i → from_place class i (map f (map h (drop i xs))) ≡ []
end-twice class f h xs i le =
    from-end class i _ (ap (λ ys. map f (map h ys)) (drop_of_length-le xs le))

-- ---- what can be spelled

-- one value
pub can-one : (vs : List Value) (id : ValueId) → CanBeSpelled vs id → CanPrint vs (id ∷ [])
can-one vs id x = record {
  known = (x.known, tt);
  spellable = (x.spellable.node, x.spellable.kids, tt);
}

-- several
pub can-all : (vs : List Value) (ids : List ValueId) → AllByRecursion (CanBeSpelled vs) ids
    → CanPrint vs ids
can-all vs [] all = record { known = tt; spellable = tt }
can-all vs (id ∷ ids) all =
    let rest = can-all vs ids all.1 in
    record {
      known = (all.0.known, rest.known);
      spellable = (all.0.spellable.node, all.0.spellable.kids, rest.spellable);
    }

module _ (defs : List OpDef) (vs : List Value) (m : Module) where
  -- an operation
  pub op-printable : (id : OpId) → IsPrintable defs vs m → id.0 < length (ops_in m)
      → OpIsPrintable (length defs) (length (types_in m)) vs (op_here m id).head
  op-printable id p less =
      all-at (λ (x : OpSite OpName ValueId).
      OpIsPrintable (length defs) (length (types_in m)) vs x.head) (ops_in m) id.0 _ less p.ops

  -- the type of a value
  pub type-printable : (n : ℕ) → IsPrintable defs vs m → n < length (types_in m)
      → CanPrint vs (type_in m n ∷ [])
  type-printable n p less =
      can-one vs (type_in m n) (all-at (CanBeSpelled vs) (types_in m) n _ less p.types)

  -- the types of results
  pub results-printable : (id : OpId) → IsPrintable defs vs m → id.0 < length (ops_in m)
      → CanPrint vs (op_here m id).head.results
  results-printable id p less =
      let x = op_here m id in
      let have : HaveTypes m x.at.values x.head.results = (op-placed m id x (op-is m id less)).1 in
      can-all vs x.head.results
      (all-found (CanBeSpelled vs) (types_in m) p.types x.head.results
      (λ i t e. (x.at.values + i, have i t e)))

  -- the values of attributes
  pub attrs-printable : (id : OpId) → IsPrintable defs vs m → id.0 < length (ops_in m)
      → CanPrint vs (op_here m id).head.values
  attrs-printable id p less = can-all vs (op_here m id).head.values (op-printable id p less).attrs

-- ---- names and types

-- the type of a value of the module with values
pub type-seen : (form : Form) (defs : List OpDef) (vs : List Value) (m : Module) (n : ℕ)
    → n < length (types_in m) → at (all_types form defs vs m) n ≡ at vs (type_in m n).0
type-seen form defs vs m n less =
    ap (λ ts. at ts n) (types-mapped (name_in defs) (value_of_id vs) m)
    ∙ at-map (value_of_id vs) (types_in m) n (record { 0 = 0 }) _ less

-- ---- marks of values by their ids

-- types one by one
pub list-same : (vs : List Value) (ids : List ValueId)
    → map value_marks (map (value_of_id vs) ids) ≡ marks_of (kid_marks (kids_at vs ids))
list-same vs [] = refl
list-same vs (id ∷ ids) = ap (λ l. value_marks (at vs id.0) ∷ l) (list-same vs ids)

-- attributes one by one
pub attrs-same : (vs : List Value) (keys : List Text) (ids : List ValueId)
    → map attr_marks (zip keys (map (value_of_id vs) ids))
    ≡ map entry_marks (zip keys (kid_marks (kids_at vs ids)))
attrs-same vs [] ids = refl
attrs-same vs (key ∷ keys) [] = refl
attrs-same vs (key ∷ keys) (id ∷ ids) =
    ap (λ l. attr_marks (key, at vs id.0) ∷ l) (attrs-same vs keys ids)

-- there are some attributes where there are some keys
pub some-attrs : (vs : List Value) (keys : List Text) (ids : List ValueId)
    → length ids ≡ length keys → keys ≢ [] → zip keys (map (value_of_id vs) ids) ≢ []
some-attrs vs [] ids count some = absurd (some refl)
some-attrs vs (key ∷ keys) [] count some = λ none. absurd (omega (arith, count))
some-attrs vs (key ∷ keys) (id ∷ ids) count some = λ none. absurd (cc)

-- ---- the arguments of a label

-- the values from n on have the types of these ids
abbrev pub HaveTypesSeen : List Value → List Value → ℕ → List ValueId → Type 0
HaveTypesSeen types vs n args =
    (i j : ℕ) (t : ValueId) → slice_get args i ≡ Some t → j ≡ n + i → at types j ≡ at vs t.0

pub have-seen : (form : Form) (defs : List OpDef) (vs : List Value) (m : Module) (n : ℕ)
    (args : List ValueId) → HaveTypes m n args
    → HaveTypesSeen (all_types form defs vs m) vs n args
have-seen form defs vs m n args have i j t e is =
    let there : slice_get (types_in m) j ≡ Some t = rw is (have i t e) in
    type-seen form defs vs m j (slice_get_within (types_in m) j t there)
    ∙ ap (λ (id : ValueId). at vs id.0) (get_or_from_slice_get (types_in m) j t _ there)

arguments-list : (types vs : List Value) (n : ℕ) (args : List ValueId)
    → HaveTypesSeen types vs n args
    → map (argument_at types) (count_from n (length args))
    ≡ map argument_marks (numbered n (map (value_of_id vs) args))
arguments-list types vs n [] have = refl
arguments-list types vs n (t ∷ args) have =
    let first : at types n ≡ at vs t.0 = have 0 n t refl (omega arith) in
    let rest =
    arguments-list types vs (suc n) args (λ i j u e is. have (suc i) j u e (omega (arith, is))) in
    ap (λ v. argument_marks (n, v) ∷ map (argument_at types) (count_from (suc n) (length args)))
    first
    ∙ ap (λ l. argument_marks (n, at vs t.0) ∷ l) rest

-- the arguments by their numbers are those by their types
pub arguments-same : (types vs : List Value) (n : ℕ) (args : List ValueId)
    → HaveTypesSeen types vs n args
    → arguments_marks n (map (value_of_id vs) args) ≡ arguments_from types n (length args)
arguments-same types vs n [] have = refl
arguments-same types vs n (t ∷ args) have =
    ap (λ l. in_parens (commas l)) (sym (arguments-list types vs n (t ∷ args) have))

-- ---- room for numbers

-- the numbers of values that have types are those of the module
pub have-within : (m : Module) (n : ℕ) (ts : List ValueId) → HaveTypes m n ts → (i : ℕ)
    → i < length ts → n + i < length (types_in m)
have-within m n ts have i less =
    let t = get_or ts i (record { 0 = 0 }) in
    slice_get_within (types_in m) (n + i) t
    (have i t (slice_get-get_or ts i (record { 0 = 0 }) less))

-- so there are no more behind them
pub have-most : (m : Module) (n : ℕ) (ts : List ValueId) → HaveTypes m n ts
    → n + length ts ≤ max n (length (types_in m))
have-most m n [] have = omega arith
have-most m n (t ∷ ts) have =
    let last = have-within m n (t ∷ ts) have (length ts) (omega arith) in omega (arith, last)
