-- What the lexer says of one spelling, and of two put together.
use Rattle.std.proofs.Common.{◌≡◌, ◌≢◌, ◌⊎◌, inl, inr, ℕ, suc, ◌+◌, ◌-◌, ◌<◌, ◌≤◌, Bool, true, false, ◌&&◌, List, [], ◌∷◌, ◌++◌, length, take, get_or, refl, sym, ◌∙◌, ap, subst, arith, nat_eq, eqb-true, length-append, append_assoc}
use Rattle.std.proofs.lemmas.List.{append-nil, length-take, take-take}
use Rattle.std.proofs.Math.Seq.{take-append-add, take-suc}
use Rattle.ir_lexer.specs.declared.class.Class.{Class}
use Rattle.ir_lexer.specs.declared.class.Class.TheVariants as c
use Rattle.ir_lexer.specs.Scan.{front}
use Rattle.ir_lexer.specs.Slice.{Tells}
use Rattle.ir_lexer.specs.Source.{Source}
use Rattle.ir_lexer.specs.Spelling.{Text, Spells}
use Rattle.ir_lexer.specs.Tokens.{Token, AreTokens}
use Rattle.ir_lexer.specs.Written.{NoneLonger, Piece}
use Rattle.ir_lexer.proofs.Apart.{ends-longest, front-stays, stays-front, pieces-back}
use Rattle.ir_lexer.proofs.Longest.{is-front}
use Rattle.ir_lexer.proofs.Machine.{same-class-refl}
use Rattle.ir_lexer.proofs.Once.{one-list}
use Rattle.ir_lexer.proofs.Texts.{three-bytes}
use Rattle.grammar.specs.Looks.{passes, int_word, is_integer_word}
use Rattle.text_layout.specs.Lines.{stays_apart}
use Rattle.text_layout.proofs.Appending.{cut-behind}

-- the first token of a spelling is all of it
only-token : (a : Class) (x : Text) (now : Token) (ts : List Token) → Spells a x
    → AreTokens x (now ∷ ts) → now ≡ record { class = a; text = x; place = 0 }
only-token a x now ts spelled tokens =
    let piece : Piece = record { gap = []; class = a; text = x } in
    let only : Token = record { class = a; text = x; place = 0 } in
    let end : Token = record { class = c.End; text = []; place = 0 + length x + 0 } in
    let back : AreTokens x (only ∷ end ∷ []) = pieces-back (piece ∷ []) [] x 0 (sym (append-nil x))
    (tt, spelled, ends-longest a x [] spelled tt, tt) in
    cc (one-list x 0 (now ∷ ts) (only ∷ end ∷ []) tokens back)

-- a source of a word's tokens stands at an integer type exactly where the word names one
pub reads-integer-word : (x : Text) (s : Source) → Spells c.Word x → Tells s x
    → passes int_word s.now ≡ is_integer_word x
reads-integer-word x s spelled tells =
    ap (passes int_word) (only-token c.Word x s.now tells.tokens.0 spelled tells.tokens.2)
    ∙ ap (λ b. b && is_integer_word x) (same-class-refl c.Word)

-- the test passes where no spelling is longer than the first text
pub apart-is : (a : Class) (x y : Text) → Spells a x → NoneLonger x y → stays_apart x y ≡ true
apart-is a x y spelled none =
    let f = front (x ++ y) in
    same-numbers _ _ (stays-front a x y f.0 f.1 spelled (is-front (x ++ y)) none)
  where
    same-numbers : (n m : ℕ) → n ≡ m → nat_eq n m ≡ true
    same-numbers n m e = grind (arith, e)

-- where the test passes, no spelling is longer than the first text
pub is-apart : (a : Class) (x y : Text) → Spells a x → stays_apart x y ≡ true → NoneLonger x y
is-apart a x y spelled e =
    let f = front (x ++ y) in
    front-stays a x y f.0 f.1 spelled (is-front (x ++ y)) (eqb-true _ _ e)

-- ---- for the loop over the second text's first bytes

-- none of the first n bytes of the second text ends a spelling
abbrev pub NoneYet : Text → Text → ℕ → Type 0
NoneYet x y n = (k : ℕ) (class : Class) → 0 < k → k ≤ n → Spells class (x ++ take k y) → ⊥

-- none of no bytes ends a spelling
pub none-yet : (x y : Text) → NoneYet x y 0
none-yet x y k class more le = absurd (omega arith)

-- one byte more that ends none
pub none-more : (x y : Text) (n : ℕ) → NoneYet x y n
    → ((class : Class) → Spells class (x ++ take (n + 1) y) → ⊥) → NoneYet x y (n + 1)
none-more x y n none last k class more le spelled = elim (before-or-at k n le) [
  | inl less ↦ none k class more less spelled
  | inr is ↦ last class (subst (λ (j : ℕ). Spells class (x ++ take j y)) is spelled)
]
  where
    before-or-at : (k n : ℕ) → k ≤ n + 1 → (k ≤ n) ⊎ (k ≡ n + 1)
    before-or-at k n le = grind arith

-- the first text and one byte more of the second
pub one-byte-more : (joined x y : Text) (i d : ℕ) → i < length y → joined ≡ x ++ take i y
    → joined ++ get_or y i d ∷ [] ≡ x ++ take (i + 1) y
one-byte-more joined x y i d less e =
    ap (λ t. t ++ get_or y i d ∷ []) e ∙ append_assoc x (take i y) (get_or y i d ∷ [])
    ∙ ap (λ t. x ++ t) (sym (ap (λ n. take n y) add-one ∙ take-suc y i d less))
  where
    add-one : i + 1 ≡ suc i
    add-one = omega arith

-- a longer spelling fails the test
pub joins : (a class : Class) (x y : Text) (i : ℕ) → Spells a x → 0 < i → i ≤ length (take 3 y)
    → Spells class (x ++ take i (take 3 y)) → false ≡ stays_apart x y
joins a class x y i spelled more le longer = sym (not-true (stays_apart x y) (λ e.
    is-apart a x y spelled e (length x + i) class (omega arith)
    (omega (arith, length-append x y, length-take 3 y))
    (subst (Spells class) (sym (take-append-add x y i ∙ ap (λ t. x ++ t) (sym again))) longer)))
  where
    not-true : (b : Bool) → (b ≡ true → ⊥) → b ≡ false
    not-true true f = absurd (f refl)
    not-true false f = refl

    within : i ≤ 3
    within = omega (arith, length-take 3 y)

    again : take i (take 3 y) ≡ take i y
    again = take-take i 3 y within

-- where none of the first three bytes ends a spelling, the test passes
pub no-join : (a : Class) (x y : Text) → Spells a x → a ≢ c.Dims
    → NoneYet x (take 3 y) (length (take 3 y)) → true ≡ stays_apart x y
no-join a x y spelled other none =
    sym (apart-is a x y spelled (three-bytes a x y spelled other short))
  where
    short : NoneLonger x (take 3 y)
    short m class more le longer =
        none (m - length x) class (omega arith) (omega (arith, length-append x (take 3 y)))
        (subst (Spells class) (cut-behind x (take 3 y) m (omega arith)) longer)

-- the texts of the loop are those of the lemmas
pub spells-with : (class : Class) (joined x front y : Text) (i : ℕ) → joined ≡ x ++ take i front
    → front ≡ take 3 y → Spells class joined → Spells class (x ++ take i (take 3 y))
spells-with class joined x front y i e is spelled =
    subst (Spells class) (e ∙ ap (λ t. x ++ take i t) is) spelled
