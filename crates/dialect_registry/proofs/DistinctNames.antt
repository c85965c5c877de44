-- The definitions of files have distinct names, where no rule on names is broken.
use Rattle.std.proofs.Common.{◌≡◌, ◌∙◌, ℕ, zero, suc, ◌<◌, ◌⊎◌, inl, inr, Bool, true, false, not, ◌&&◌, ◌||◌, List, [], ◌∷◌, ◌++◌, length, take, map, refl, sym, ap, subst, arith, append_assoc, append-nil, bytes_eq}
use Rattle.std.specs.Prelude.{slice_get}
use Rattle.std.specs.List.{flat_map, Contains, list_any}
use Rattle.std.specs.declared.option.Option.TheVariants.{Some}
use Rattle.std.proofs.lemmas.Grind.{flat_map-append}
use Rattle.std.proofs.lemmas.Slice.Eq.{bytes_eq-Decides}
use Rattle.std.proofs.lemmas.List.Elements.{Contains-append_left, Contains-append_right, Contains-append_cases}
use Rattle.first_fault.specs.declared.fault.Fault.{Fault}
use Rattle.ir_lexer.specs.Spelling.{Text}
use Rattle.irdl_ops.specs.declared.raw.DefKind.{DefKind}
use Rattle.irdl_ops.specs.declared.raw.DefKind.TheVariants.{OfType, OfAttr, OfOp}
use Rattle.irdl_ops.specs.declared.raw.RawDef.{RawDef}
use Rattle.irdl_ops.specs.declared.raw.RawDefs.{RawDefs}
use Rattle.irdl_ops.specs.declared.raw.RawDialect.{RawDialect}
use Rattle.dialect_registry.specs.declared.code.DefCode.TheVariants.{NameRepeated, ReservedName}
use Rattle.dialect_registry.specs.Codes.{refusal}
use Rattle.dialect_registry.specs.DefFaults.{IsFault, IsDefFault, IsDialectFault, dialects_of, world_of, is_def, is_dialect}
use Rattle.dialect_registry.specs.Parts.{Behind}
use Rattle.dialect_registry.specs.Resolved.{Located, located, located_of, located_in, full_name, op_by, ops_among, type_by, types_among}
use Rattle.dialect_registry.specs.NameShapes.{is_sign, is_bare_id, is_dialect_name, is_one_of, reserved_dialects}
use Rattle.dialect_registry.proofs.Faultless.{clean-dialect, not-false, not-true, stands-at}
use Rattle.dialect_registry.proofs.Members.{contains-head, contains-tail, contains-cases, of-flat_map, of-map}

-- ---- lists without a pair

-- no item is related to a later one
abbrev pub Apart : {A : Type 0} → (A → A → Type 0) → List A → Type 0
Apart R [] = Unit {0}
Apart {A} R (x ∷ xs) = ((y : A) → Contains xs y → R x y → ⊥) × Apart R xs

apart-append : {A : Type 0} (R : A → A → Type 0) (xs ys : List A) → Apart R xs → Apart R ys
    → ((x y : A) → Contains xs x → Contains ys y → R x y → ⊥) → Apart R (xs ++ ys)
apart-append R [] ys first next cross = next
apart-append {A} R (x ∷ xs) ys first next cross = (
  here,
  apart-append R xs ys first.1 next (λ a b has. cross a b (contains-tail x a xs has)),
)
  where
    here : (y : A) → Contains (xs ++ ys) y → R x y → ⊥
    here y has r = elim (Contains-append_cases xs ys y has) [
      | inl in_xs ↦ first.0 y in_xs r
      | inr in_ys ↦ cross x y (contains-head x xs) in_ys r
    ]

apart-map : {A B : Type 0} (R : B → B → Type 0) (g : A → B) (xs : List A)
    → Apart (λ a b. R (g a) (g b)) xs → Apart R (map g xs)
apart-map R g [] apart = tt
apart-map {A} {B} R g (x ∷ xs) apart = (here, apart-map R g xs apart.1)
  where
    here : (y : B) → Contains (map g xs) y → R (g x) y → ⊥
    here y has r =
        let found = of-map g xs y has in
        apart.0 found.0 found.1 (subst (λ z. R (g x) z) (sym found.2) r)

-- items at two places of such a list are unrelated
pub apart-at : {A : Type 0} (R : A → A → Type 0) (xs : List A) → Apart R xs → (i j : ℕ) (x y : A)
    → i < j → slice_get xs i ≡ Some x → slice_get xs j ≡ Some y → R x y → ⊥
apart-at R [] apart i j x y less here there r = absurd (cc)
apart-at {A} R (z ∷ xs) apart zero zero x y less here there r = absurd (omega (arith, less))
apart-at {A} R (z ∷ xs) apart zero (suc j) x y less here there r =
    let same : z ≡ x = cc in
    apart.0 y (member xs j there) (subst (λ w. R w y) (sym same) r)
  where
    member : (ys : List A) (n : ℕ) → slice_get ys n ≡ Some y → Contains ys y
    member [] n e = absurd (cc)
    member (w ∷ ys) zero e = let same : w ≡ y = cc in (0, omega arith, same)
    member (w ∷ ys) (suc n) e = contains-tail w y ys (member ys n e)
apart-at R (z ∷ xs) apart (suc i) zero x y less here there r = absurd (omega (arith, less))
apart-at R (z ∷ xs) apart (suc i) (suc j) x y less here there r =
    apart-at R xs apart.1 i j x y (omega (arith, less)) here there r

-- ---- names that don't come again

-- no item has the name of one before it
abbrev pub NoneAgain : {A : Type 0} → (A → Text) → List A → List A → Type 0
NoneAgain name before [] = Unit {0}
NoneAgain name before (x ∷ xs) =
    (list_any (λ y. bytes_eq (name y) (name x)) before ≡ false)
    × NoneAgain name (before ++ x ∷ []) xs

none-then : {A : Type 0} (name : A → Text) (before xs ys : List A) → NoneAgain name before xs
    → NoneAgain name (before ++ xs) ys → NoneAgain name before (xs ++ ys)
none-then name before [] ys first next =
    subst (λ l. NoneAgain name l ys) (append-nil before) next
none-then name before (x ∷ xs) ys first next = (
  first.0,
  none-then name (before ++ x ∷ []) xs ys first.1
      (subst (λ l. NoneAgain name l ys) (sym (append_assoc before (x ∷ []) xs)) next),
)

same-bytes : (a b : Text) → a ≡ b → bytes_eq a b ≡ true
same-bytes a b e = (bytes_eq-Decides a b).1 e

not-any : {A : Type 0} (p : A → Bool) (xs : List A) (x : A) → list_any p xs ≡ false
    → Contains xs x → p x ≡ true → ⊥
not-any p [] x none (k, less, is) holds = omega (arith, less)
not-any {A} p (y ∷ xs) x none has holds = elim (contains-cases y x xs has) [
  | inl same ↦ by (p y) (ap p same ∙ holds) none
  | inr later ↦ not-any p xs x (rest (p y) none) later holds
]
  where
    by : (b : Bool) → b ≡ true → (b || list_any p xs) ≡ false → ⊥
    by true e f = cc
    by false e f = cc

    rest : (b : Bool) → (b || list_any p xs) ≡ false → list_any p xs ≡ false
    rest true e = absurd (cc)
    rest false e = e

none-apart : {A : Type 0} (name : A → Text) (before xs : List A) → NoneAgain name before xs
    → (b x : A) → Contains before b → Contains xs x → name b ≡ name x → ⊥
none-apart name before [] none b x has (k, less, is) e = omega (arith, less)
none-apart name before (y ∷ xs) none b x has member e = elim (contains-cases y x xs member) [
  | inl same ↦ not-any (λ z. bytes_eq (name z) (name y)) before b none.0 has
      (same-bytes (name b) (name y) (e ∙ ap name (sym same)))
  | inr later ↦ none-apart name (before ++ y ∷ []) xs none.1 b x
      (Contains-append_left before (y ∷ []) b has) later e
]

apart-of-none : {A : Type 0} (name : A → Text) (before xs : List A) → NoneAgain name before xs
    → Apart (λ a b. name a ≡ name b) xs
apart-of-none name before [] none = tt
apart-of-none name before (x ∷ xs) none = (
  λ y has e. none-apart name (before ++ x ∷ []) xs none.1 x y
      (Contains-append_right before (x ∷ []) x (contains-head x [])) has e,
  apart-of-none name (before ++ x ∷ []) xs none.1,
)

-- ---- full names

-- a text without a dot
pub no-dot : (t : Text) → list_any is_sign t ≡ false → Contains t 46 → ⊥
no-dot t none has = not-any is_sign t 46 none has refl

pub full-name-same : (a b x y : Text) → (Contains a 46 → ⊥) → (Contains b 46 → ⊥)
    → full_name a x ≡ full_name b y → (a ≡ b) × (x ≡ y)
full-name-same [] [] x y na nb e = (refl, let same : x ≡ y = cc in same)
full-name-same [] (c ∷ b) x y na nb e =
    let dot : 46 ≡ c = cc in absurd (nb (0, omega arith, sym dot))
full-name-same (c ∷ a) [] x y na nb e =
    let dot : c ≡ 46 = cc in absurd (na (0, omega arith, dot))
full-name-same (c ∷ a) (d ∷ b) x y na nb e =
    let head : c ≡ d = cc in
    let tail : full_name a x ≡ full_name b y = cc in
    let both = full-name-same a b x y (λ has. na (contains-tail c 46 a has))
    (λ has. nb (contains-tail d 46 b has)) tail in
    (ap (λ z. z ∷ a) head ∙ ap (λ z. d ∷ z) both.0, both.1)

pub no-sign : (t : Text) → is_dialect_name t ≡ true → list_any is_sign t ≡ false
no-sign t e = by (is_bare_id t) (list_any is_sign t) e
  where
    by : (a b : Bool) → (a && not b) ≡ true → b ≡ false
    by true true e = absurd (cc)
    by true false e = refl
    by false b e = absurd (cc)

apart-weaker : {A : Type 0} (R S : A → A → Type 0) → ((x y : A) → R x y → S x y) → (xs : List A)
    → Apart S xs → Apart R xs
apart-weaker R S weaker [] apart = tt
apart-weaker R S weaker (x ∷ xs) apart =
    (λ y has r. apart.0 y has (weaker x y r), apart-weaker R S weaker xs apart.1)

-- ---- a list cut at an item

at-middle : {A : Type 0} (xs : List A) (x : A) (ys : List A)
    → slice_get (xs ++ x ∷ ys) (length xs) ≡ Some x
at-middle [] x ys = refl
at-middle (z ∷ xs) x ys = at-middle xs x ys

take-front : {A : Type 0} (xs ys : List A) → take (length xs) (xs ++ ys) ≡ xs
take-front [] ys = refl
take-front (z ∷ xs) ys = ap (λ l. z ∷ l) (take-front xs ys)

longer : {A : Type 0} (xs : List A) (x : A) (ys : List A) → length xs < length (xs ++ x ∷ ys)
longer [] x ys = omega arith
longer (z ∷ xs) x ys = let less = longer xs x ys in omega (arith, less)

-- what is known of the item at which a list is cut
record Middle {A : Type 0} (whole done : List A) (x : A) : Type 0 where
  pub here : slice_get whole (length done) ≡ Some x
  pub below : length done < length whole
  pub front : take (length done) whole ≡ done

middle : {A : Type 0} (whole done : List A) (x : A) (rest : List A) → whole ≡ done ++ x ∷ rest
    → Middle whole done x
middle whole done x rest is = record {
  here = ap (λ l. slice_get l (length done)) is ∙ at-middle done x rest;
  below = subst (λ l. length done < length l) (sym is) (longer done x rest);
  front = ap (take (length done)) is ∙ take-front done (x ∷ rest);
}

-- ---- the definitions of files

-- two definitions have the same dialect and the same name
abbrev pub SameName : Located → Located → Type 0
SameName a b = (a.dialect ≡ b.dialect) × (a.def.name ≡ b.def.name)

-- a definition alone, or nothing
abbrev IsPick : (Located → List Located) → Type 0
IsPick pick = (d : Located) → (pick d ≡ []) ⊎ (pick d ≡ d ∷ [])

-- what is picked among definitions is some of them
pub picked-among : (pick : Located → List Located) → IsPick pick → (ds : List Located) (x : Located)
    → Contains (flat_map pick ds) x → Contains ds x
picked-among pick is ds x has =
    let found = of-flat_map pick ds x has in
    subst (Contains ds) (one found.0 (is found.0) found.2) found.1
  where
    one : (d : Located) → (pick d ≡ []) ⊎ (pick d ≡ d ∷ []) → Contains (pick d) x → d ≡ x
    one d (inl none) has = none-there (subst (λ l. Contains l x) none has)
      where
        none-there : Contains [] x → d ≡ x
        none-there (k, less, is) = absurd (omega (arith, less))
    one d (inr own) has = elim (contains-cases d x [] (subst (λ l. Contains l x) own has)) [
      | inl same ↦ same
      | inr (k, less, is) ↦ absurd (omega (arith, less))
    ]

-- so they are apart where the definitions are
apart-picked : (pick : Located → List Located) → IsPick pick → (ds : List Located)
    → Apart SameName ds → Apart SameName (flat_map pick ds)
apart-picked pick is [] apart = tt
apart-picked pick is (d ∷ ds) apart =
    by (is d) (apart-picked pick is ds apart.1)
  where
    by : (pick d ≡ []) ⊎ (pick d ≡ d ∷ []) → Apart SameName (flat_map pick ds)
        → Apart SameName (pick d ++ flat_map pick ds)
    by (inl none) rest =
        subst (λ l. Apart SameName (l ++ flat_map pick ds)) (sym none) rest
    by (inr own) rest =
        subst (λ l. Apart SameName (l ++ flat_map pick ds)) (sym own)
        (λ y has. apart.0 y (picked-among pick is ds y has), rest)

picks-type : IsPick (λ d. type_by d d.def.kind)
picks-type d = by d.def.kind
  where
    by : (k : DefKind) → (type_by d k ≡ []) ⊎ (type_by d k ≡ d ∷ [])
    by OfType = inr refl
    by OfAttr = inr refl
    by OfOp = inl refl

picks-op : IsPick (λ d. op_by d d.def.kind)
picks-op d = by d.def.kind
  where
    by : (k : DefKind) → (op_by d k ≡ []) ⊎ (op_by d k ≡ d ∷ [])
    by OfType = inl refl
    by OfAttr = inl refl
    by OfOp = inr refl

pub type-among : (ds : List Located) (x : Located) → Contains (types_among ds) x → Contains ds x
type-among ds x has = picked-among (λ d. type_by d d.def.kind) picks-type ds x has

pub op-among : (ds : List Located) (x : Located) → Contains (ops_among ds) x → Contains ds x
op-among ds x has = picked-among (λ d. op_by d d.def.kind) picks-op ds x has

module _ (files : List RawDefs) (natives : List Text)
    (none : (n : ℕ) (f : Fault) → IsFault files natives n f → ⊥) where
  -- the dialects of a file, from one of them on
  dialects-from : (n : ℕ) (file : RawDefs) → slice_get files n ≡ Some file
      → (done rest : List RawDialect) → file.dialects ≡ done ++ rest
      → NoneAgain (λ d. d.name) (dialects_of (take n files) ++ done) rest
  dialects-from n file at done [] is = tt
  dialects-from n file at done (d ∷ rest) is =
      let m = middle file.dialects done d rest is in (
        not-true (is_dialect (dialects_of (take n files) ++ done) d.name)
            (λ again. clean-dialect files natives none n file (length done) d at m.below m.here
            (refusal d.place NameRepeated)
            (subst (λ l. IsDialectFault (world_of files natives)
            (dialects_of (take n files) ++ l) d (refusal d.place NameRepeated)) (sym m.front)
            (inl (inl (again, refl))))),
        subst (λ l. NoneAgain (λ x. x.name) l rest)
            (sym (append_assoc (dialects_of (take n files)) done (d ∷ [])))
            (dialects-from n file at (done ++ d ∷ []) rest
            (is ∙ sym (append_assoc done (d ∷ []) rest))),
      )

  -- the dialects of the files, from one of them on
  files-from : (done rest : List RawDefs) → files ≡ done ++ rest
      → NoneAgain (λ d. d.name) (dialects_of done) (dialects_of rest)
  files-from done [] is = tt
  files-from done (file ∷ rest) is =
      let m = middle files done file rest is in
      let more : dialects_of (done ++ file ∷ []) ≡ dialects_of done ++ file.dialects =
      flat_map-append (λ d. d.dialects) done (file ∷ [])
      ∙ ap (λ l. dialects_of done ++ l) (append-nil file.dialects) in
      none-then (λ d. d.name) (dialects_of done) file.dialects (dialects_of rest)
      (subst (λ l. NoneAgain (λ x. x.name) l file.dialects)
      (append-nil (dialects_of (take (length done) files)) ∙ ap dialects_of m.front)
      (dialects-from (length done) file m.here [] file.dialects refl))
      (subst (λ l. NoneAgain (λ x. x.name) l (dialects_of rest)) more
      (files-from (done ++ file ∷ []) rest (is ∙ sym (append_assoc done (file ∷ []) rest))))

  -- what is known of a dialect of the files
  record IsClean (dialect : RawDialect) : Type 0 where
    pub shape : is_dialect_name dialect.name ≡ true
    pub unreserved : is_one_of reserved_dialects dialect.name ≡ true → ⊥
    pub defs : (f : Fault) → Behind (IsDefFault (world_of files natives) dialect.name) []
        dialect.defs f → ⊥

  clean-of : (dialect : RawDialect) → Contains (dialects_of files) dialect → IsClean dialect
  clean-of dialect has =
      let file = of-flat_map (λ x. x.dialects) files dialect has in
      let n = stands-at files file.0 file.1 in
      let i = stands-at file.0.dialects dialect file.2 in
      let clean = clean-dialect files natives none n.place file.0 i.place dialect n.is i.below i.is in
      record {
        shape = not-false (is_dialect_name dialect.name)
            (λ bad. clean (refusal dialect.place ReservedName) (inl (inr (inl bad, refl))));
        unreserved = λ bad. clean (refusal dialect.place ReservedName) (inl (inr (inr bad, refl)));
        defs = λ f p. clean f (inr p);
      }

  -- the definitions of a dialect, from one of them on
  defs-from : (dialect : RawDialect) → IsClean dialect → (done rest : List RawDef)
      → dialect.defs ≡ done ++ rest → NoneAgain (λ d. d.name) done rest
  defs-from dialect clean done [] is = tt
  defs-from dialect clean done (d ∷ rest) is =
      let m = middle dialect.defs done d rest is in (
        not-true (is_def done d.name)
            (λ again. clean.defs (refusal d.place NameRepeated) (
              length done,
              m.below,
              d,
              m.here,
              subst (λ l. IsDefFault (world_of files natives) dialect.name l d
                  (refusal d.place NameRepeated)) (sym m.front) (inl (inl (again, refl))),
            )),
        defs-from dialect clean (done ++ d ∷ []) rest
            (is ∙ sym (append_assoc done (d ∷ []) rest)),
      )

  -- two definitions of one name in one dialect are one
  located-apart : (dialects : List RawDialect)
      → ((d : RawDialect) → Contains dialects d → IsClean d)
      → Apart (λ a b. a.name ≡ b.name) dialects → Apart SameName (located_in dialects)
  located-apart [] clean apart = tt
  located-apart (d ∷ dialects) clean apart =
      apart-append SameName (located_of d) (located_in dialects)
      (apart-map SameName (located d.name) d.defs
      (apart-weaker (λ a b. SameName (located d.name a) (located d.name b))
      (λ a b. a.name ≡ b.name) (λ a b same. same.1) d.defs
      (apart-of-none (λ x. x.name) [] d.defs
      (defs-from d (clean d (contains-head d dialects)) [] d.defs refl))))
      (located-apart dialects (λ x has. clean x (contains-tail d x dialects has)) apart.1)
      (λ a b in_d later same.
      let first = of-map (located d.name) d.defs a in_d in
      let found = of-flat_map located_of dialects b later in
      let second = of-map (located found.0.name) found.0.defs b found.2 in
      apart.0 found.0 found.1
      (ap (λ z. z.dialect) first.2 ∙ same.0 ∙ ap (λ z. z.dialect) (sym second.2)))

  -- the definitions of the files have distinct names
  all-apart : Apart SameName (located_in (dialects_of files))
  all-apart =
      located-apart (dialects_of files) clean-of
      (apart-of-none (λ d. d.name) [] (dialects_of files) (files-from [] files refl))

  -- so have the types and attributes, and the operations
  pub types-apart : Apart SameName (types_among (located_in (dialects_of files)))
  types-apart =
      apart-picked (λ d. type_by d d.def.kind) picks-type (located_in (dialects_of files)) all-apart

  pub ops-apart : Apart SameName (ops_among (located_in (dialects_of files)))
  ops-apart =
      apart-picked (λ d. op_by d d.def.kind) picks-op (located_in (dialects_of files)) all-apart

  -- the name of the dialect of a definition has its shape, and isn't reserved
  pub dialect-shape : (d : Located) → Contains (located_in (dialects_of files)) d
      → is_dialect_name d.dialect ≡ true
  dialect-shape d has =
      let found = of-flat_map located_of (dialects_of files) d has in
      let def = of-map (located found.0.name) found.0.defs d found.2 in
      subst (λ t. is_dialect_name t ≡ true) (ap (λ z. z.dialect) def.2)
      (clean-of found.0 found.1).shape

  pub dialect-open : (d : Located) → Contains (located_in (dialects_of files)) d
      → is_one_of reserved_dialects d.dialect ≡ true → ⊥
  dialect-open d has reserved =
      let found = of-flat_map located_of (dialects_of files) d has in
      let def = of-map (located found.0.name) found.0.defs d found.2 in
      (clean-of found.0 found.1).unreserved
      (subst (λ t. is_one_of reserved_dialects t ≡ true) (sym (ap (λ z. z.dialect) def.2)) reserved)

  -- and has no dot
  pub no-dot-of : (d : Located) → Contains (located_in (dialects_of files)) d
      → Contains d.dialect 46 → ⊥
  no-dot-of d has = no-dot d.dialect (no-sign d.dialect (dialect-shape d has))
