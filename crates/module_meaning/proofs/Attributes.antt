-- Two lists of attributes with strictly ascending keys are the same where each key has the same
-- attribute. By the first keys: a key below the first of a list stands nowhere in it.
use Rattle.std.proofs.Common.{◌≡◌, Bool, true, false, List, [], ◌∷◌, map, refl, sym, ◌∙◌}
use Rattle.std.proofs.Common.{ap, subst, Some, None, bytes_eq}
use Rattle.std.proofs.lemmas.Slice.Eq.{bytes_eq-Decides}
use Rattle.std.proofs.lemmas.Slice.Zip.{firsts-zip, seconds-zip}
use Rattle.std.specs.List.{AllByRecursion, zip}
use Rattle.attr_value.specs.Heads.{text_lt, Ascend}
use Rattle.attr_value.specs.Values.{Value}
use Rattle.dialect_defs.specs.Operations.{Attrs, attr_at}
use Rattle.ir_lexer.specs.Spelling.{Text}
use Rattle.ir_store.specs.Named.{AttrsAreRight}
use Rattle.module_meaning.proofs.Places.{some-same}
use Rattle.module_meaning.specs.WholeModules.{WholeHead}
use Rattle.value_meaning.proofs.TextOrder.{Rank, before, same, behind, rank, lt-itself, lt-trans}
use Rattle.value_meaning.proofs.TextOrder.{eq-itself}

-- the keys of attributes
abbrev keys_of : Attrs → List Text
keys_of attrs = map (λ attr. attr.0) attrs

-- all of these stand behind a text
abbrev pub Above : Text → List Text → Type 0
Above k ks = AllByRecursion (λ j. text_lt k j ≡ true) ks

above-lower : (k j : Text) (ks : List Text) → text_lt k j ≡ true → Above j ks → Above k ks
above-lower k j [] less h = tt
above-lower k j (i ∷ ks) less (p, h) = (lt-trans k j i less p, above-lower k j ks less h)

-- behind the first key all are above it, and ascend
pub ascend-rest : (k : Text) (ks : List Text) → Ascend (k ∷ ks) → Above k ks × Ascend ks
ascend-rest k [] h = (tt, tt)
ascend-rest k (j ∷ ks) (less, h) =
    let first : text_lt k j ≡ true = search less in
    ((first, above-lower k j ks first (ascend-rest j ks h).0), h)

-- a key below all others has no attribute
attr_at-above : (k : Text) (attrs : Attrs) → Above k (keys_of attrs) → attr_at attrs k ≡ None
attr_at-above k [] h = refl
attr_at-above k (x ∷ attrs) (less, h) = go (bytes_eq x.0 k) refl (attr_at-above k attrs h)
  where
    differ : bytes_eq x.0 k ≡ true → ⊥
    differ e =
        let same : x.0 ≡ k = (bytes_eq-Decides x.0 k).0 e in
        let itself : text_lt k k ≡ true = subst (λ (j : Text). text_lt k j ≡ true) same less in
        let never : text_lt k k ≡ false = lt-itself k in
        cc

    go : (b : Bool) → bytes_eq x.0 k ≡ b → attr_at attrs k ≡ None → attr_at (x ∷ attrs) k ≡ None
    go true e later = absurd (differ e)
    go false e later = rw e later

-- the first key has the first attribute
attr_at-first : (x : Text × Value) (attrs : Attrs) → attr_at (x ∷ attrs) x.0 ≡ Some x.1
attr_at-first x attrs = rw (eq-itself x.0) refl

-- attributes with the same key and value
attr-same : (x y : Text × Value) → x.0 ≡ y.0 → x.1 ≡ y.1 → x ≡ y
attr-same (k, v) (j, w) e f = ap (λ a. (a, v)) e ∙ ap (λ a. (j, a)) f

-- lists with ascending keys that have the same at each key are the same
pub attr_at-exact : (xs ys : Attrs) → Ascend (keys_of xs) → Ascend (keys_of ys)
    → ((key : Text) → attr_at xs key ≡ attr_at ys key) → xs ≡ ys
attr_at-exact [] [] a b h = refl
attr_at-exact [] (y ∷ ys) a b h =
    let there : None ≡ Some y.1 = h y.0 ∙ attr_at-first y ys in absurd (cc)
attr_at-exact (x ∷ xs) [] a b h =
    let there : Some x.1 ≡ None = sym (attr_at-first x xs) ∙ h x.0 in absurd (cc)
attr_at-exact (x ∷ xs) (y ∷ ys) a b h = by (rank x.0 y.0)
    (λ e. attr_at-exact xs ys (ascend-rest x.0 (keys_of xs) a).1
    (ascend-rest y.0 (keys_of ys) b).1 (others e))
  where
    above : Above x.0 (keys_of xs)
    above = (ascend-rest x.0 (keys_of xs) a).0

    above2 : Above y.0 (keys_of ys)
    above2 = (ascend-rest y.0 (keys_of ys) b).0

    other : x.0 ≡ y.0 → (key : Text) (c : Bool) → bytes_eq x.0 key ≡ c
        → attr_at xs key ≡ attr_at ys key
    other e key true is =
        let key_is : x.0 ≡ key = (bytes_eq-Decides x.0 key).0 is in
        let key_is2 : y.0 ≡ key = sym e ∙ key_is in
        attr_at-above key xs (subst (λ (k : Text). Above k (keys_of xs)) key_is above)
        ∙ sym (attr_at-above key ys (subst (λ (k : Text). Above k (keys_of ys)) key_is2 above2))
    other e key false is =
        let is2 : bytes_eq y.0 key ≡ false = ap (λ (k : Text). bytes_eq k key) (sym e) ∙ is in
        let left : attr_at (x ∷ xs) key ≡ attr_at xs key = rw is refl in
        let right : attr_at (y ∷ ys) key ≡ attr_at ys key = rw is2 refl in
        sym left ∙ (h key ∙ right)

    others : x.0 ≡ y.0 → (key : Text) → attr_at xs key ≡ attr_at ys key
    others e key = other e key (bytes_eq x.0 key) refl

    by : Rank x.0 y.0 → (x.0 ≡ y.0 → xs ≡ ys) → (x ∷ xs) ≡ (y ∷ ys)
    by (before less _ _ _) rest =
        let missing : attr_at (y ∷ ys) x.0 ≡ None =
        attr_at-above x.0 (y ∷ ys) (less, above-lower x.0 y.0 (keys_of ys) less above2) in
        let there : Some x.1 ≡ None = sym (attr_at-first x xs) ∙ (h x.0 ∙ missing) in
        absurd (cc)
    by (behind less _ _ _) rest =
        let missing : attr_at (x ∷ xs) y.0 ≡ None =
        attr_at-above y.0 (x ∷ xs) (less, above-lower y.0 x.0 (keys_of xs) less above) in
        let there : None ≡ Some y.1 = sym missing ∙ (h y.0 ∙ attr_at-first y ys) in
        absurd (cc)
    by (same e) rest =
        let second : attr_at (y ∷ ys) x.0 ≡ Some y.1 =
        subst (λ (k : Text). attr_at (y ∷ ys) k ≡ Some y.1) (sym e) (attr_at-first y ys) in
        let values : Some x.1 ≡ Some y.1 = sym (attr_at-first x xs) ∙ (h x.0 ∙ second) in
        let value : x.1 ≡ y.1 = some-same x.1 y.1 values in
        let first : x ≡ y = attr-same x y e value in
        let later : xs ≡ ys = rest e in
        cc

-- ---- keys and values apart

-- operations whose attributes are right have the same keys and values where each key has the same
-- attribute
pub attrs-exact : (a b : WholeHead) → AttrsAreRight a → AttrsAreRight b
    → ((key : Text) → attr_at (zip a.keys a.values) key ≡ attr_at (zip b.keys b.values) key)
    → (a.keys ≡ b.keys) × (a.values ≡ b.values)
attrs-exact a b right right2 h =
    let keys : keys_of (zip a.keys a.values) ≡ a.keys = firsts-zip a.keys a.values right.counts in
    let keys2 : keys_of (zip b.keys b.values) ≡ b.keys = firsts-zip b.keys b.values right2.counts in
    let exact : zip a.keys a.values ≡ zip b.keys b.values =
    attr_at-exact _ _ (subst Ascend (sym keys) right.ascend)
    (subst Ascend (sym keys2) right2.ascend) h in (
      sym keys ∙ (ap keys_of exact ∙ keys2),
      sym (seconds-zip a.keys a.values right.counts)
          ∙ (ap (λ (l : Attrs). map (λ (attr : Text × Value). attr.1) l) exact
          ∙ seconds-zip b.keys b.values right2.counts),
    )
