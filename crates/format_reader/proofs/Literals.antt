-- Of literals, the longest prefix that is one is found: it ends at the first back-quote.
use Rattle.std.proofs.Common.{◌≡◌, ℕ, zero, suc, ◌+◌, ◌-◌, ◌<◌, ◌≤◌, ◌==◌, Bool, true, false, not, ◌&&◌, [], ◌∷◌, ◌++◌, length, take, get_or, Some, None, ◌⊎◌, inl, inr, refl, sym, ◌∙◌, ap, subst, arith, if◌then◌else◌, eqb-true, length-append}
use Rattle.std.specs.Prelude.{is_some, nat_lt}
use Rattle.std.specs.List.{list_all, prefix_len}
use Rattle.std.proofs.Math.Seq.{take-suc}
use Rattle.std.proofs.lemmas.List.{get_or-take}
use Rattle.dialect_defs.specs.declared.raw_format.RawKind.{RawKind}
use Rattle.dialect_defs.specs.declared.raw_format.RawKind.TheVariants as kind
use Rattle.std.proofs.lemmas.List.Sums.{prefix_len_passes, prefix_len_stops}
use Rattle.ir_lexer.specs.declared.class.Class.TheVariants as c
use Rattle.ir_lexer.specs.Spelling.{Text}
use Rattle.grammar.proofs.Meet.{and-true, or-true, same-text, text-same}
use Rattle.format_reader.specs.Spelling.{begins_id, goes_on_id, is_bare_id, is_content, is_closed, mark, byte_mark, pair_mark, class_of}
use Rattle.format_reader.specs.Tokens.{NoneBeyond, IsFront}
use Rattle.format_reader.specs.Scan.{is_inside, literal_front}
use Rattle.format_reader.proofs.Bytes.{At, false-if, within-run, taken-len}

-- what begins with a back-quote is a literal or nothing
quote-class : (u : Text) → class_of (96 ∷ u) ≡ (if is_closed u then Some c.Str else None)
quote-class [] = refl
quote-class (x ∷ u) = refl

-- a byte of a bare id is no back-quote
goes-inside : (b : ℕ) → goes_on_id b ≡ true → is_inside b ≡ true
goes-inside b e = go (b == 96) refl
  where
    go : (x : Bool) → (b == 96) ≡ x → not x ≡ true
    go true is = absurd (cc (ap goes_on_id (eqb-true b 96 is), e))
    go false is = refl

begins-inside : (b : ℕ) → begins_id b ≡ true → is_inside b ≡ true
begins-inside b e = go (b == 96) refl
  where
    go : (x : Bool) → (b == 96) ≡ x → not x ≡ true
    go true is = absurd (cc (ap begins_id (eqb-true b 96 is), e))
    go false is = refl

all-inside : (t : Text) → list_all goes_on_id t ≡ true → list_all is_inside t ≡ true
all-inside [] e = refl
all-inside (b ∷ t) e =
    let both = and-true (goes_on_id b) (list_all goes_on_id t) e in
    rw (goes-inside b both.0) (all-inside t both.1)

byte-inside : (b : ℕ) → is_some (byte_mark b) ≡ true → is_inside b ≡ true
byte-inside b e = go (b == 96) refl
  where
    go : (x : Bool) → (b == 96) ≡ x → not x ≡ true
    go true is = absurd (cc (ap (λ y. is_some (byte_mark y)) (eqb-true b 96 is), e))
    go false is = refl

no-pair : (x y : Bool) (u v : RawKind)
    → is_some {T = RawKind} (if x && false then Some u else (if y && false then Some v else None)) ≡ true
    → ⊥
no-pair true true u v e = absurd (cc)
no-pair true false u v e = absurd (cc)
no-pair false true u v e = absurd (cc)
no-pair false false u v e = absurd (cc)

pair-inside : (a b : ℕ) → is_some (pair_mark a b) ≡ true
    → (is_inside a && (is_inside b && true)) ≡ true
pair-inside a b e = go (a == 96) (b == 96) refl refl
  where
    go : (x y : Bool) → (a == 96) ≡ x → (b == 96) ≡ y → (not x && (not y && true)) ≡ true
    go true y is at = absurd (cc (ap (λ z. is_some (pair_mark z b)) (eqb-true a 96 is), e))
    go false true is at =
        let f = ap (λ z. is_some (pair_mark a z)) (eqb-true b 96 at) in
        absurd (no-pair (a == 92) (a == 45) kind.Newline (kind.Punct c.Arrow) (sym f ∙ e))
    go false false is at = refl

mark-inside : (t : Text) → is_some (mark t) ≡ true → list_all is_inside t ≡ true
mark-inside [] e = refl
mark-inside (a ∷ []) e = rw (byte-inside a e) refl
mark-inside (a ∷ b ∷ []) e = pair-inside a b e
mark-inside (a ∷ b ∷ d ∷ t) e = absurd (cc)

bare-inside : (t : Text) → is_bare_id t ≡ true → list_all is_inside t ≡ true
bare-inside [] e = refl
bare-inside (b ∷ t) e =
    let both = and-true (begins_id b) (list_all goes_on_id t) e in
    rw (begins-inside b both.0) (all-inside t both.1)

-- no back-quote stands in what may stand between back-quotes
content-inside : (t : Text) → is_content t ≡ true → list_all is_inside t ≡ true
content-inside t e = elim (or-true (is_bare_id t) (is_some (mark t)) e) [
  | inl h ↦ bare-inside t h
  | inr h ↦ mark-inside t h
]

take-shorter : (k : ℕ) (t : Text) → k ≤ length t → take (k - 1) (take k t) ≡ take (k - 1) t
take-shorter zero [] le = refl
take-shorter zero (x ∷ t) le = refl
take-shorter (suc k) t le = rw (pred k) (inner k t)
  where
    pred : (k : ℕ) → suc k - 1 ≡ k
    pred k = omega arith

    inner : (k : ℕ) (t : Text) → take k (take (suc k) t) ≡ take k t
    inner zero [] = refl
    inner zero (x ∷ t) = refl
    inner (suc k) [] = refl
    inner (suc k) (x ∷ t) = ap (λ u. x ∷ u) (inner k t)

-- what a prefix that closes a literal is
pub record Closes (t : Text) (k : ℕ) : Type 0 where
  pub len : k ≡ prefix_len is_inside t + 1
  pub content : is_content (take (prefix_len is_inside t) t) ≡ true

inside-not : (b : ℕ) → is_inside b ≡ false → b ≡ 96
inside-not b e = go (b == 96) refl
  where
    go : (x : Bool) → (b == 96) ≡ x → b ≡ 96
    go true is = eqb-true b 96 is
    go false is = absurd (cc (ap not is, e))

closed-is : (k : ℕ) (t : Text) → k ≤ length t → is_closed (take k t) ≡ true → Closes t k
closed-is k t le e =
    let n = prefix_len is_inside t in
    let size = taken-len k t le in
    let shape = ap (λ x. take (x - 1) (take k t)) size ∙ take-shorter k t le in
    let both = and-true _ _ e in
    let is : take k t ≡ take (k - 1) t ++ 96 ∷ [] =
    same-text _ _ both.0 ∙ ap (λ w. w ++ 96 ∷ []) shape in
    let good : is_content (take (k - 1) t) ≡ true = subst (λ w. is_content w ≡ true) shape both.1 in
    let short = taken-len (k - 1) t (omega arith) in
    let more : k ≡ k - 1 + 1 =
    sym size ∙ ap length is ∙ length-append (take (k - 1) t) (96 ∷ []) ∙ ap (λ x. x + 1) short in
    let low = within-run is_inside (k - 1) t (omega arith) (content-inside (take (k - 1) t) good) in
    let byte : get_or t (k - 1) 0 ≡ 96 =
    sym (get_or-take k t (k - 1) 0 (omega arith))
    ∙ ap (λ w. get_or w (k - 1) 0) is
    ∙ ap (λ x. get_or (take (k - 1) t ++ 96 ∷ []) x 0) (sym short)
    ∙ seam (take (k - 1) t) in
    let high : prefix_len is_inside t ≤ k - 1 = not-more (k - 1) byte in
    let same : k - 1 ≡ n = omega arith in
    record { len = omega arith; content = subst (λ x. is_content (take x t) ≡ true) same good }
  where
    seam : (w : Text) → get_or (w ++ 96 ∷ []) (length w) 0 ≡ 96
    seam [] = refl
    seam (x ∷ w) = seam w

    le-or : (a b : ℕ) → (a ≤ b) ⊎ (b < a)
    le-or a b = grind arith

    not-more : (j : ℕ) → get_or t j 0 ≡ 96 → prefix_len is_inside t ≤ j
    not-more j at = elim (le-or (prefix_len is_inside t) j) [
      | inl h ↦ h
      | inr h ↦ absurd (cc (prefix_len_passes is_inside t j 0 h, ap is_inside at))
    ]

closed-back : (t : Text) → prefix_len is_inside t < length t
    → is_content (take (prefix_len is_inside t) t) ≡ true
    → is_closed (take (suc (prefix_len is_inside t)) t) ≡ true
closed-back t less good =
    let n = prefix_len is_inside t in
    let last = inside-not _ (prefix_len_stops is_inside t 0 less) in
    let is : take (suc n) t ≡ take n t ++ 96 ∷ [] =
    take-suc t n 0 less ∙ ap (λ b. take n t ++ b ∷ []) last in
    let size = taken-len (suc n) t (omega arith) in
    let shape : take (length (take (suc n) t) - 1) (take (suc n) t) ≡ take n t =
    ap (λ x. take (x - 1) (take (suc n) t)) size ∙ take-shorter (suc n) t (omega arith)
    ∙ ap (λ x. take x t) (pred n) in
    rw shape (rw is (rw (text-same (take n t ++ 96 ∷ []), good) refl))
  where
    pred : (k : ℕ) → suc k - 1 ≡ k
    pred k = omega arith

no-literal : (t : Text) (n : ℕ) → prefix_len is_inside t + 2 ≤ n → NoneBeyond n (96 ∷ t)
no-literal t n few zero less le = absurd (omega arith)
no-literal t n few (suc k) less le =
    quote-class (take k t)
    ∙ rw (false-if (is_closed (take k t))
    (λ e. let h = closed-is k t (omega arith) e in absurd (omega (arith, h.len)))) refl

none-closed : (t : Text) → (nat_lt (prefix_len is_inside t) (length t)
    && is_content (take (prefix_len is_inside t) t)) ≡ false
    → NoneBeyond 0 (96 ∷ t)
none-closed t none zero less le = absurd (omega arith)
none-closed t none (suc k) less le =
    quote-class (take k t)
    ∙ rw (false-if (is_closed (take k t)) (λ e. let h = closed-is k t (omega arith) e in
    let low : nat_lt (prefix_len is_inside t) (length t) ≡ true = grind (arith, h.len) in
    absurd (cc (none, low, h.content)))) refl

-- what stands behind a back-quote is found
pub literal-is : (t : Text) → At (96 ∷ t) (literal_front t)
unfolding IsFront
literal-is t =
    let n = prefix_len is_inside t in go (nat_lt n (length t) && is_content (take n t)) refl
  where
    go : (b : Bool) → (nat_lt (prefix_len is_inside t) (length t)
        && is_content (take (prefix_len is_inside t) t)) ≡ b
        → At (96 ∷ t) (if b then (c.Str, prefix_len is_inside t + 2) else (c.Bad, 1))
    go true e =
        let n = prefix_len is_inside t in
        let both = and-true (nat_lt n (length t)) (is_content (take n t)) e in
        let less : n < length t = grind (arith, both.0) in
        let two : n + 2 ≡ suc (suc n) = omega arith in
        inl (rw two (record {
          within = (omega arith, omega arith);
          spelled = quote-class (take (suc n) t) ∙ rw (closed-back t less both.1) refl;
          longest = no-literal t (suc (suc n)) (omega arith);
        }))
    go false e = inr (refl, refl, none-closed t e)
