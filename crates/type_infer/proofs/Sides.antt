-- The operands, or the results, of an operation: entries with the lists of their types.
use Rattle.std.proofs.Common.{◌≡◌, ◌∙◌, ℕ, List, [], ◌∷◌, length, Option, Some, None}
use Rattle.std.proofs.Common.{refl, ap, sym, subst, arith, slice_get}
use Rattle.std.proofs.lemmas.Option.{slice_get_within}
use Rattle.std.specs.List.{AllByRecursion}
use Rattle.attr_value.specs.declared.head.ValueId.{ValueId}
use Rattle.attr_value.specs.Values.{Value}
use Rattle.dialect_defs.specs.declared.definition.TypeDef.{TypeDef}
use Rattle.dialect_defs.specs.declared.entry.Arity.TheVariants.{Single}
use Rattle.dialect_defs.specs.declared.entry.Entry.{Entry}
use Rattle.dialect_defs.specs.declared.body.VarId.{VarId}
use Rattle.dialect_defs.specs.Assignments.{Tests, Assignment, Has}
use Rattle.dialect_defs.specs.Operations.{EntriesHave}
use Rattle.dialect_defs.specs.Segments.{FitsArity, FitEach}
use Rattle.constraint_solver.proofs.Given.{has-one}
use Rattle.type_infer.specs.Asked.{TypesFrom}
use Rattle.type_infer.specs.Completes.{EachStandFor, StandFor, values_at}
use Rattle.type_infer.proofs.Agree.{SameAt}
use Rattle.type_infer.proofs.Lists.{get-there, same-items, length-mapped, entries-length}
use Rattle.type_infer.proofs.Lists.{entries-get, fit-length, fit-get, all-get}

-- what is known of the entries of one side before their types are
pub record Side (entries : List Entry) (shown : List (Option (List ValueId))) (counts : List ℕ)
    : Type 0 where
  pub fit : FitEach entries counts
  pub as_many : length shown ≡ length entries
  pub as_long : (k : ℕ) (ids : List ValueId) (n : ℕ) → slice_get shown k ≡ Some (Some ids)
      → slice_get counts k ≡ Some n → length ids ≡ n

-- a list of one
pub record OnlyOne (a : Assignment) (v : VarId) (xs : List Value) : Type 0 where
  pub value : Value
  pub is : slice_get xs 0 ≡ Some value
  pub has : Has a v value

only-one : (a : Assignment) (v : VarId) (xs : List Value) → length xs ≡ 1
    → AllByRecursion (Has a v) xs → OnlyOne a v xs
only-one a v [] one have = absurd (omega arith)
only-one a v (x ∷ xs) one have = record { value = x; is = refl; has = have.0 }

-- two lists of one length, of a variable for which both assignments have the same value
same-lists : (a b : Assignment) (v : VarId) (xs ys : List Value) → SameAt a b v
    → length xs ≡ length ys → AllByRecursion (Has a v) xs → AllByRecursion (Has b v) ys → xs ≡ ys
same-lists a b v xs ys same long first second = same-items xs ys long
    (λ k x y is other. same x y (all-get (Has a v) xs k x first is)
    (all-get (Has b v) ys k y second other))

module _ (values : List Value) (tests : Tests) (types : List TypeDef) (entries : List Entry)
    (shown : List (Option (List ValueId))) (counts : List ℕ) (side : Side entries shown counts) where
  -- the types of an entry
  pub record At (lists : List (List Value)) (a : Assignment) (k : ℕ) (e : Entry) : Type 0 where
    pub ids : Option (List ValueId)
    pub count : ℕ
    pub list : List Value
    pub shows : slice_get shown k ≡ Some ids
    pub counted : slice_get counts k ≡ Some count
    pub listed : slice_get lists k ≡ Some list
    pub fits : FitsArity e.arity count
    pub stands : StandFor values tests types ids count list
    pub have : AllByRecursion (Has a e.var) list

  pub at-entry : (lists : List (List Value)) (a : Assignment) (k : ℕ) (e : Entry)
      → EachStandFor values tests types shown counts lists → EntriesHave a entries lists
      → slice_get entries k ≡ Some e → At lists a k e
  at-entry lists a k e stand have is =
      let within = slice_get_within entries k e is in
      let ids = get-there shown k (omega (arith, within, side.as_many)) in
      let count = get-there counts k (omega (arith, within, fit-length entries counts side.fit)) in
      let list = get-there lists k
      (omega (arith, within, entries-length a entries lists have)) in
      record {
        ids = ids.0;
        count = count.0;
        list = list.0;
        shows = ids.1;
        counted = count.1;
        listed = list.1;
        fits = fit-get entries counts k e count.0 side.fit is count.1;
        stands = stand k ids.0 count.0 list.0 ids.1 count.1 list.1;
        have = entries-get a entries lists k e list.0 have is list.1;
      }

  -- the types that are shown are the value of their entry's variable
  pub shown-have : (lists : List (List Value)) (a : Assignment)
      → EachStandFor values tests types shown counts lists → EntriesHave a entries lists
      → TypesFrom 0 values entries shown a
  shown-have lists a stand have k e None from is told = tt
  shown-have lists a stand have k e (Some ids) from is told =
      let there = at-entry lists a k e stand have is in
      let same : there.ids ≡ Some ids = let s = there.shows in cc in
      let list : there.list ≡ values_at values ids =
      subst (λ o. StandFor values tests types o there.count there.list) same there.stands in
      subst (AllByRecursion (Has a e.var)) list there.have

  -- as many types as values
  pub stand-length : (k : ℕ) (ids : Option (List ValueId)) (n : ℕ) (xs : List Value)
      → slice_get shown k ≡ Some ids → slice_get counts k ≡ Some n
      → StandFor values tests types ids n xs → length xs ≡ n
  stand-length k (Some ids) n xs is count stands =
      ap length stands ∙ length-mapped _ ids ∙ side.as_long k ids n is count
  stand-length k None n xs is count stands = stands.0

  fits-one : (e : Entry) (n : ℕ) → e.arity ≡ Single → FitsArity e.arity n → n ≡ 1
  fits-one e n single fits = subst (λ arity. FitsArity arity n) single fits

  -- a single entry has one value
  pub single-has : (lists : List (List Value)) (a : Assignment) (k : ℕ) (e : Entry)
      → EachStandFor values tests types shown counts lists → EntriesHave a entries lists
      → slice_get entries k ≡ Some e → e.arity ≡ Single → (x : Value) × Has a e.var x
  single-has lists a k e stand have is single =
      let there = at-entry lists a k e stand have is in
      let long = stand-length k there.ids there.count there.list there.shows there.counted
      there.stands in
      let one = only-one a e.var there.list (long ∙ fits-one e there.count single there.fits)
      there.have in
      (one.value, one.has)

  module _ (lists others : List (List Value)) (a b : Assignment)
      (stand : EachStandFor values tests types shown counts lists)
      (have : EntriesHave a entries lists)
      (stand_too : EachStandFor values tests types shown counts others)
      (have_too : EntriesHave b entries others) where
    -- where its type is shown, it is the same one
    pub single-same : (k : ℕ) (e : Entry) (ids : List ValueId) → slice_get entries k ≡ Some e
        → e.arity ≡ Single → slice_get shown k ≡ Some (Some ids) → SameAt a b e.var
    single-same k e ids is single told x y has other =
        let one = at-entry lists a k e stand have is in
        let two = at-entry others b k e stand_too have_too is in
        let first = only-one a e.var one.list
        (stand-length k one.ids one.count one.list one.shows one.counted one.stands
        ∙ fits-one e one.count single one.fits) one.have in
        let second = only-one b e.var two.list
        (stand-length k two.ids two.count two.list two.shows two.counted two.stands
        ∙ fits-one e two.count single two.fits) two.have in
        let ids_one : one.ids ≡ Some ids = let s = one.shows in cc in
        let ids_two : two.ids ≡ Some ids = let s = two.shows in cc in
        let list_one : one.list ≡ values_at values ids =
        subst (λ o. StandFor values tests types o one.count one.list) ids_one one.stands in
        let list_two : two.list ≡ values_at values ids =
        subst (λ o. StandFor values tests types o two.count two.list) ids_two two.stands in
        let here : slice_get (values_at values ids) 0 ≡ Some first.value =
        subst (λ l. slice_get l 0 ≡ Some first.value) list_one first.is in
        let there : slice_get (values_at values ids) 0 ≡ Some second.value =
        subst (λ l. slice_get l 0 ≡ Some second.value) list_two second.is in
        let mid : first.value ≡ second.value = cc in
        has-one a e.var x first.value has first.has ∙ mid
        ∙ sym (has-one b e.var y second.value other second.has)

    -- where both have the same value for the variable of each hidden entry, all types are the same
    pub sides-same : ((k : ℕ) (e : Entry) → slice_get entries k ≡ Some e
        → slice_get shown k ≡ Some None → SameAt a b e.var) → lists ≡ others
    sides-same told = same-items lists others
        (sym (entries-length a entries lists have) ∙ entries-length b entries others have_too)
        (λ k xs ys is other.
        let within = slice_get_within lists k xs is in
        let e = get-there entries k (omega (arith, within, entries-length a entries lists have)) in
        let one = at-entry lists a k e.0 stand have e.1 in
        let two = at-entry others b k e.0 stand_too have_too e.1 in
        let first : one.list ≡ xs = let l = one.listed in cc in
        let second : two.list ≡ ys = let l = two.listed in cc in
        let ids : two.ids ≡ one.ids = let l = one.shows in let m = two.shows in cc in
        let count : two.count ≡ one.count = let l = one.counted in let m = two.counted in cc in
        sym first
        ∙ at-both k e.0 e.1 one.ids one.count one.list two.list one.shows one.counted one.stands
        (subst (λ n. StandFor values tests types one.ids n two.list) count
        (subst (λ o. StandFor values tests types o two.count two.list) ids two.stands))
        one.have two.have
        ∙ second)
      where
        at-both : (k : ℕ) (e : Entry) → slice_get entries k ≡ Some e
            → (ids : Option (List ValueId)) (n : ℕ) (xs ys : List Value)
            → slice_get shown k ≡ Some ids → slice_get counts k ≡ Some n
            → StandFor values tests types ids n xs → StandFor values tests types ids n ys
            → AllByRecursion (Has a e.var) xs → AllByRecursion (Has b e.var) ys → xs ≡ ys
        at-both k e is (Some ids) n xs ys shows count first second have_xs have_ys =
            first ∙ sym second
        at-both k e is None n xs ys shows count first second have_xs have_ys =
            same-lists a b e.var xs ys (told k e is shows) (first.0 ∙ sym second.0) have_xs have_ys
