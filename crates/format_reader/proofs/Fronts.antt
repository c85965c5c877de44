-- What the code finds by the first byte is the longest prefix that spells a class.
--
-- A token of each form begins with bytes of its own: `$`, a back-quote, a letter or `_`, a sign. So
-- one form is left to look at, and for each it is found how long a prefix can be.
use Rattle.std.proofs.Common.{◌≡◌, ◌≢◌, ℕ, zero, suc, ◌+◌, ◌-◌, ◌<◌, ◌≤◌, ◌==◌, Bool, true, false, ◌||◌, [], ◌∷◌, length, take, drop, get_or, max, Option, Some, None, ◌⊎◌, inl, inr, refl, sym, ◌∙◌, ap, subst, arith, if◌then◌else◌, bytes_eq, codes, eqb-true, add-one, length-take}
use Rattle.std.specs.List.{list_all, prefix_len}
use Rattle.std.proofs.Math.Dec.{eqb-suc-zero}
use Rattle.std.proofs.lemmas.Bool.{ne_eqb}
use Rattle.std.proofs.lemmas.List.{take_rest}
use Rattle.std.proofs.lemmas.List.Sums.{prefix_len-le-length}
use Rattle.ir_lexer.specs.declared.class.Class.{Class}
use Rattle.ir_lexer.specs.declared.class.Class.TheVariants as c
use Rattle.ir_lexer.specs.Spelling.{Text}
use Rattle.grammar.specs.Looks.{is_among}
use Rattle.grammar.proofs.Meet.{or-true, or-first, true-or, same-text}
use Rattle.format_reader.specs.Spelling.{is_name_byte, begins_id, goes_on_id, is_variable, keywords, word_class, sign, sign_class, class_of}
use Rattle.format_reader.specs.Tokens.{NoneBeyond, IsFront}
use Rattle.format_reader.specs.Scan.{variable_front, literal_front, keyword_len, word_len, word_front, sign_or_bad, front}
use Rattle.format_reader.proofs.Bytes.{At, false-if, within-run, run-passes, taken-len}
use Rattle.format_reader.proofs.Literals.{literal-is}

-- ---- variables

-- what begins with `$` is a variable or nothing
dollar-class : (u : Text)
    → class_of (36 ∷ u) ≡ (if is_variable (36 ∷ u) then Some c.ValueName else None)
dollar-class [] = refl
dollar-class (x ∷ u) = refl

variable-true : (k : ℕ) (t : Text) → 0 < k → k ≤ prefix_len is_name_byte t
    → is_variable (36 ∷ take k t) ≡ true
variable-true zero t some le = absurd (omega arith)
variable-true (suc k) [] some le = absurd (omega arith)
variable-true (suc k) (x ∷ t) some le = run-passes is_name_byte (suc k) (x ∷ t) le

variable-false : (k : ℕ) (t : Text) → k ≤ length t → prefix_len is_name_byte t < k
    → is_variable (36 ∷ take k t) ≡ false
variable-false zero t le more = absurd (omega arith)
variable-false (suc k) [] le more = absurd (omega arith)
variable-false (suc k) (x ∷ t) le more =
    false-if _ (λ e. let few = within-run is_name_byte (suc k) (x ∷ t) le e in absurd (omega arith))

-- behind the run, no longer prefix is a variable
no-variable : (t : Text) (n : ℕ) → prefix_len is_name_byte t ≡ n → NoneBeyond (suc n) (36 ∷ t)
no-variable t n is zero less le = absurd (omega arith)
no-variable t n is (suc k) less le =
    dollar-class (take k t) ∙ rw (variable-false k t (omega arith) (omega arith)) refl

variable-is : (t : Text) → At (36 ∷ t) (variable_front t)
unfolding IsFront
variable-is t = go (prefix_len is_name_byte t) refl
  where
    go : (n : ℕ) → prefix_len is_name_byte t ≡ n
        → At (36 ∷ t) (if n == 0 then (c.Bad, 1) else (c.ValueName, n + 1))
    go zero is = inr (refl, refl, none)
      where
        none : NoneBeyond 0 (36 ∷ t)
        none zero less le = absurd (omega arith)
        none (suc zero) less le = refl
        none (suc (suc k)) less le = no-variable t zero is (suc (suc k)) (omega arith) le
    go (suc n) is =
        let few = prefix_len-le-length is_name_byte t in
        rw (eqb-suc-zero n, add-one) (inl (record {
          within = (omega arith, omega arith);
          spelled = dollar-class (take (suc n) t)
              ∙ rw (variable-true (suc n) t (omega arith) (omega arith)) refl;
          longest = no-variable t (suc n) is;
        }))

-- ---- words

-- what begins as a bare id does is a word or nothing, where it has two bytes
word-byte : (b : ℕ) → begins_id b ≡ true → ((b == 36) ≡ false) × ((b == 96) ≡ false)
word-byte b e = (false-if _ (λ f. cc (ap begins_id (eqb-true b 36 f), e)), false-if _ (λ f. cc (ap begins_id (eqb-true b 96 f), e)))

-- the rest of a word
abbrev goes : ℕ → Text → Bool
goes b u = list_all goes_on_id u || is_among keywords (b ∷ u)

word-true : (b : ℕ) (u : Text) → begins_id b ≡ true → goes b u ≡ true
    → class_of (b ∷ u) ≡ Some (word_class (b ∷ u))
word-true b [] e f = let h = word-byte b e in rw (h.1, e) refl
word-true b (x ∷ u) e f = let h = word-byte b e in rw (h.0, h.1, e, f) refl

word-false : (b x : ℕ) (u : Text) → begins_id b ≡ true → goes b (x ∷ u) ≡ false
    → class_of (b ∷ x ∷ u) ≡ None
word-false b x u e f = let h = word-byte b e in rw (h.0, h.1, e, f) refl

-- a keyword that a prefix is
prefix-is : (w : Text) (m : ℕ) (t : Text) → m ≤ length t → take m t ≡ w
    → (take (length w) t ≡ w) × (m ≡ length w)
prefix-is w m t le e =
    let size : m ≡ length w = sym (taken-len m t le) ∙ ap length e in
    (ap (λ x. take x t) (sym size) ∙ e, size)

-- the tests of the three keywords, from the longest on
abbrev tests : Bool → Bool → Bool → ℕ
tests x y z = if x then 22 else (if y then 15 else (if z then 9 else 0))

first-test : (y z : Bool) (x : Bool) → x ≡ true → 22 ≤ tests x y z
first-test y z x e = rw e (omega arith)

second-test : (x z : Bool) (y : Bool) → y ≡ true → 15 ≤ tests x y z
second-test true z y e = omega arith
second-test false z y e = rw e (omega arith)

third-test : (x y : Bool) (z : Bool) → z ≡ true → 9 ≤ tests x y z
third-test true y z e = omega arith
third-test false true z e = omega arith
third-test false false z e = rw e (omega arith)

-- a prefix that is a keyword is no longer than the longest one
keyword-within : (m : ℕ) (t : Text) → m ≤ length t → is_among keywords (take m t) ≡ true
    → m ≤ keyword_len t
keyword-within m t le e = elim (or-true _ _ e) [
  | inl h ↦ first (prefix-is (codes "attr-dict-with-keyword") m t le (same-text _ _ h))
  | inr h ↦ elim (or-true _ _ h) [
    | inl k ↦ second (prefix-is (codes "functional-type") m t le (same-text _ _ k))
    | inr k ↦ third (prefix-is (codes "attr-dict") m t le
        (same-text _ _ (elim (or-true _ _ k) [ inl i ↦ i | inr i ↦ absurd (cc i) ])))
  ]
]
  where
    first : (take 22 t ≡ codes "attr-dict-with-keyword") × (m ≡ 22) → m ≤ keyword_len t
    first (is, size) =
        let h = first-test (bytes_eq (codes "functional-type") (take 15 t))
        (bytes_eq (codes "attr-dict") (take 9 t)) _
        (ap (λ w. bytes_eq (codes "attr-dict-with-keyword") w) is) in omega arith

    second : (take 15 t ≡ codes "functional-type") × (m ≡ 15) → m ≤ keyword_len t
    second (is, size) =
        let h = second-test (bytes_eq (codes "attr-dict-with-keyword") (take 22 t))
        (bytes_eq (codes "attr-dict") (take 9 t)) _
        (ap (λ w. bytes_eq (codes "functional-type") w) is) in omega arith

    third : (take 9 t ≡ codes "attr-dict") × (m ≡ 9) → m ≤ keyword_len t
    third (is, size) =
        let h = third-test (bytes_eq (codes "attr-dict-with-keyword") (take 22 t))
        (bytes_eq (codes "functional-type") (take 15 t)) _
        (ap (λ w. bytes_eq (codes "attr-dict") w) is) in omega arith

-- what the longest keyword at the front is, where there is one
pub record HasKeyword (t : Text) (n : ℕ) : Type 0 where
  pub within : n ≤ length t
  pub is : (0 < n) → is_among keywords (take n t) ≡ true

keyword-at : (w : Text) (t : Text) → bytes_eq w (take (length w) t) ≡ true
    → is_among keywords w ≡ true → HasKeyword t (length w)
keyword-at w t e good =
    let is : w ≡ take (length w) t = same-text _ _ e in
    let size : length w ≡ length (take (length w) t) = ap length is in
    record {
      within = omega (arith, size, length-take (length w) t);
      is = λ some. subst (λ x. is_among keywords x ≡ true) is good;
    }

keyword-is : (t : Text) → HasKeyword t (keyword_len t)
keyword-is t =
    go (bytes_eq (codes "attr-dict-with-keyword") (take 22 t))
    (bytes_eq (codes "functional-type") (take 15 t)) (bytes_eq (codes "attr-dict") (take 9 t))
    refl refl refl
  where
    go : (x y z : Bool) → bytes_eq (codes "attr-dict-with-keyword") (take 22 t) ≡ x
        → bytes_eq (codes "functional-type") (take 15 t) ≡ y
        → bytes_eq (codes "attr-dict") (take 9 t) ≡ z
        → HasKeyword t (tests x y z)
    go true y z e f h = keyword-at (codes "attr-dict-with-keyword") t e refl
    go false true z e f h = keyword-at (codes "functional-type") t f refl
    go false false true e f h = keyword-at (codes "attr-dict") t h refl
    go false false false e f h = record { within = omega arith; is = λ some. absurd (omega arith) }

-- the word at the front, and that nothing longer is one
word-spelled : (b : ℕ) (t : Text) (n : ℕ) → begins_id b ≡ true → suc n ≡ word_len (b ∷ t)
    → goes b (take n t) ≡ true
word-spelled b t n e is = elim which [
  | inl h ↦ or-first _ _ (run-passes goes_on_id n t (omega arith))
  | inr h ↦ true-or (list_all goes_on_id (take n t)) _
      (subst (λ x. is_among keywords (take x (b ∷ t)) ≡ true) (sym h)
      ((keyword-is (b ∷ t)).is (omega arith)))
]
  where
    one-of : (x y : ℕ) → suc n ≡ max (1 + x) y → (n ≡ x) ⊎ (suc n ≡ y)
    one-of x y e = grind arith

    which : (n ≡ prefix_len goes_on_id t) ⊎ (suc n ≡ keyword_len (b ∷ t))
    which = one-of (prefix_len goes_on_id t) (keyword_len (b ∷ t)) is

word-longest : (b : ℕ) (t : Text) → begins_id b ≡ true
    → NoneBeyond (word_len (b ∷ t)) (b ∷ t)
word-longest b t e zero less le = absurd (omega arith)
word-longest b [] e (suc zero) less le = absurd (omega arith)
word-longest b [] e (suc (suc k)) less le = absurd (omega arith)
word-longest b (x ∷ t) e (suc zero) less le = absurd (omega arith)
word-longest b (x ∷ t) e (suc (suc k)) less le =
    word-false b x (take k t) e
    (false-if (goes b (x ∷ take k t)) (λ h. elim (or-true (list_all goes_on_id (x ∷ take k t)) (is_among keywords (b ∷ x ∷ take k t)) h) [
      | inl f ↦ let few = within-run goes_on_id (suc k) (x ∷ t) (omega arith) f in
          absurd (omega arith)
      | inr f ↦ let few = keyword-within (suc (suc k)) (b ∷ x ∷ t) le f in absurd (omega arith)
    ]))

word-is : (b : ℕ) (t : Text) → begins_id b ≡ true → At (b ∷ t) (word_front (b ∷ t))
unfolding IsFront
word-is b t e = go (word_len (b ∷ t)) refl
  where
    go : (n : ℕ) → n ≡ word_len (b ∷ t)
        → IsFront (b ∷ t) (word_class (take n (b ∷ t))) n
    go zero is = absurd (omega arith)
    go (suc n) is =
        let few = prefix_len-le-length goes_on_id t in
        let key = (keyword-is (b ∷ t)).within in
        inl (record {
          within = (omega arith, omega arith);
          spelled = word-true b (take n t) e (word-spelled b t n e is);
          longest = subst (λ x. NoneBeyond x (b ∷ t)) (sym is) (word-longest b t e);
        })

-- ---- signs

-- what begins with another byte is a sign or nothing
other-class : (b : ℕ) (u : Text) → (b == 36) ≡ false → (b == 96) ≡ false → begins_id b ≡ false
    → class_of (b ∷ u) ≡ sign_class (b ∷ u)
other-class b [] e f g = rw (f, g) refl
other-class b (x ∷ u) e f g = rw (e, f, g) refl

no-sign : (b : ℕ) (t : Text) → (b == 36) ≡ false → (b == 96) ≡ false → begins_id b ≡ false
    → NoneBeyond 1 (b ∷ t)
no-sign b t e f g zero less le = absurd (omega arith)
no-sign b t e f g (suc zero) less le = absurd (omega arith)
no-sign b [] e f g (suc (suc k)) less le = absurd (omega arith)
no-sign b (x ∷ t) e f g (suc (suc k)) less le = other-class b (x ∷ take k t) e f g

sign-is : (b : ℕ) (t : Text) → (b == 36) ≡ false → (b == 96) ≡ false → begins_id b ≡ false
    → IsFront (b ∷ t) (sign_or_bad (sign b)) 1
unfolding IsFront
sign-is b t e f g = go (sign b) refl
  where
    one : class_of (take 1 (b ∷ t)) ≡ sign b
    one = byte t
      where
        byte : (t : Text) → class_of (take 1 (b ∷ t)) ≡ sign b
        byte [] = other-class b [] e f g
        byte (x ∷ t) = other-class b [] e f g

    go : (s : Option Class) → sign b ≡ s → IsFront (b ∷ t) (sign_or_bad s) 1
    go (Some class) is = inl (record {
      within = (omega arith, omega arith);
      spelled = one ∙ is;
      longest = no-sign b t e f g;
    })
    go None is = inr (refl, refl, none)
      where
        none : NoneBeyond 0 (b ∷ t)
        none zero less le = absurd (omega arith)
        none (suc zero) less le = one ∙ is
        none (suc (suc k)) less le = no-sign b t e f g (suc (suc k)) (omega arith) le

-- ---- all

-- by the first byte of a text, and what stands behind it
abbrev pub chosen : ℕ → Text → Text → Class × ℕ
chosen b t rest =
    if b == 36 then variable_front rest
    else (if b == 96 then literal_front rest
    else (if begins_id b then word_front t else (sign_or_bad (sign b), 1)))

-- for the code
pub front-is : (t : Text) → 0 < length t
    → front t ≡ chosen (get_or t 0 0) t (take (length t - 1) (drop 1 t))
unfolding front
front-is [] less = absurd (omega arith)
front-is (b ∷ t) less = ap (chosen b (b ∷ t)) (sym (take_rest (b ∷ t) 1))

-- a text that has bytes
pub not-empty : (t : Text) → (length t == 0) ≡ false → 0 < length t
not-empty [] e = absurd (cc)
not-empty (b ∷ t) e = omega arith

-- what stands behind the first byte
abbrev rest_of : Text → Text
rest_of t = take (length t - 1) (drop 1 t)

pub at-dollar : (t : Text) → 0 < length t → get_or t 0 0 ≡ 36 → variable_front (rest_of t) ≡ front t
at-dollar t some e = sym (front-is t some ∙ ap (λ b. chosen b t (rest_of t)) e)

pub at-quote : (t : Text) → 0 < length t → get_or t 0 0 ≡ 96 → literal_front (rest_of t) ≡ front t
at-quote t some e = sym (front-is t some ∙ ap (λ b. chosen b t (rest_of t)) e)

pub at-word : (t : Text) → 0 < length t → get_or t 0 0 ≢ 36 → get_or t 0 0 ≢ 96
    → begins_id (get_or t 0 0) ≡ true → word_front t ≡ front t
at-word t some e f g = sym (front-is t some ∙ go (get_or t 0 0) e f g)
  where
    go : (b : ℕ) → b ≢ 36 → b ≢ 96 → begins_id b ≡ true → chosen b t (rest_of t) ≡ word_front t
    go b e f g = rw (ne_eqb b 36 e, ne_eqb b 96 f, g) refl

pub at-sign : (t : Text) → 0 < length t → get_or t 0 0 ≢ 36 → get_or t 0 0 ≢ 96
    → begins_id (get_or t 0 0) ≡ false → (sign_or_bad (sign (get_or t 0 0)), 1) ≡ front t
at-sign t some e f g = sym (front-is t some ∙ go (get_or t 0 0) e f g)
  where
    go : (b : ℕ) → b ≢ 36 → b ≢ 96 → begins_id b ≡ false
        → chosen b t (rest_of t) ≡ (sign_or_bad (sign b), 1)
    go b e f g = rw (ne_eqb b 36 e, ne_eqb b 96 f, g) refl

-- at the end of a text stands the end
pub front-end : (t : Text) → length t ≡ 0 → (c.End, 0) ≡ front t
unfolding front
front-end [] e = refl
front-end (b ∷ t) e = absurd (cc)

-- what is found by the first byte is the token at the front
pub is-front : (t : Text) → IsFront t (front t).0 (front t).1
unfolding front IsFront
is-front [] = (refl, refl)
is-front (b ∷ t) = go (b == 36) (b == 96) (begins_id b) refl refl refl
  where
    go : (x y z : Bool) → (b == 36) ≡ x → (b == 96) ≡ y → begins_id b ≡ z
        → At (b ∷ t) (if x then variable_front t
        else (if y then literal_front t
        else (if z then word_front (b ∷ t) else (sign_or_bad (sign b), 1))))
    go true y z e f g = rw (eqb-true b 36 e) (variable-is t)
    go false true z e f g = rw (eqb-true b 96 f) (literal-is t)
    go false false true e f g = word-is b t g
    go false false false e f g = sign-is b t e f g
