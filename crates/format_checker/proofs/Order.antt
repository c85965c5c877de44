-- The look that is told is the first, in the order of looks, that meets one of the others.
--
-- The order of looks is one of numbers, and of bytes where both are words: no look precedes itself,
-- of two at most one precedes the other, and where p precedes r, p precedes q or q precedes r.
use Rattle.std.proofs.Common.{◌≡◌, ℕ, zero, suc, ◌<◌, ◌≤◌, Bool, true, false, ◌&&◌, ◌||◌, ◌==◌, List, [], ◌∷◌, ◌⊎◌, inl, inr, slice_get, refl, sym, ◌∙◌, ap, subst, arith, Option, Some, None, if◌then◌else◌, nat_lt}
use Rattle.std.proofs.lemmas.Bool.{eqb-true}
use Rattle.attr_value.specs.Heads.{text_lt}
use Rattle.ir_lexer.specs.declared.class.Class.{Class}
use Rattle.ir_lexer.specs.declared.class.Class.TheVariants as c
use Rattle.ir_lexer.specs.Spelling.{Text}
use Rattle.grammar.proofs.Meet.{and-true, or-true, true-or}
use Rattle.format_checker.specs.declared.look.Look.{Look}
use Rattle.format_checker.specs.declared.look.Look.TheVariants as look
use Rattle.format_checker.specs.Meeting.{meets_some, sign_rank, rank, words_ascend, precedes, sooner, first_meeting, IsFirstMeeting}

-- ---- numbers

less-is : (a b : ℕ) → nat_lt a b ≡ true → a < b
less-is a b e = grind arith

not-less : (a b : ℕ) → nat_lt a b ≡ false → b ≤ a
not-less a b e = grind arith

less-false : (a b : ℕ) → b ≤ a → nat_lt a b ≡ false
less-false a b h = grind arith

false-if : (b : Bool) → (b ≡ true → ⊥) → b ≡ false
false-if true never = absurd (never refl)
false-if false never = refl

-- ---- texts

text-self : (a : Text) → text_lt a a ≡ true → ⊥
text-self [] e = absurd (cc)
text-self (x ∷ a) e = go (or-true (nat_lt x x) ((x == x) && text_lt a a) e) (text-self a)
  where
    go : (nat_lt x x ≡ true) ⊎ (((x == x) && text_lt a a) ≡ true) → (text_lt a a ≡ true → ⊥) → ⊥
    go (inl h) never = let less = less-is x x h in absurd (omega arith)
    go (inr h) never = never (and-true (x == x) (text_lt a a) h).1

text-both : (a b : Text) → text_lt a b ≡ true → text_lt b a ≡ true → ⊥
text-both [] [] e f = absurd (cc)
text-both [] (y ∷ b) e f = absurd (cc)
text-both (x ∷ a) [] e f = absurd (cc)
text-both (x ∷ a) (y ∷ b) e f =
    go (or-true (nat_lt x y) ((x == y) && text_lt a b) e)
    (or-true (nat_lt y x) ((y == x) && text_lt b a) f) (text-both a b)
  where
    go : (nat_lt x y ≡ true) ⊎ (((x == y) && text_lt a b) ≡ true)
        → (nat_lt y x ≡ true) ⊎ (((y == x) && text_lt b a) ≡ true)
        → (text_lt a b ≡ true → text_lt b a ≡ true → ⊥) → ⊥
    go (inl h) (inl g) never =
        let p = less-is x y h in let q = less-is y x g in absurd (omega arith)
    go (inl h) (inr g) never =
        let p = less-is x y h in
        let q = eqb-true y x (and-true (y == x) (text_lt b a) g).0 in absurd (omega arith)
    go (inr h) (inl g) never =
        let p = eqb-true x y (and-true (x == y) (text_lt a b) h).0 in
        let q = less-is y x g in absurd (omega arith)
    go (inr h) (inr g) never =
        never (and-true (x == y) (text_lt a b) h).1 (and-true (y == x) (text_lt b a) g).1

-- what stands between
text-through : (a b d : Text) → text_lt a d ≡ true → (text_lt a b || text_lt b d) ≡ true
text-through [] b [] e = absurd (cc)
text-through [] [] (z ∷ d) e = refl
text-through [] (y ∷ b) (z ∷ d) e = refl
text-through (x ∷ a) b [] e = absurd (cc)
text-through (x ∷ a) [] (z ∷ d) e = refl
text-through (x ∷ a) (y ∷ b) (z ∷ d) e =
    go (nat_lt x y) refl (nat_lt y z) refl (text-through a b d)
  where
    same : (a b : ℕ) → a ≡ b → (a == b) ≡ true
    same a b h = grind arith

    go : (p : Bool) → nat_lt x y ≡ p → (q : Bool) → nat_lt y z ≡ q
        → (text_lt a d ≡ true → (text_lt a b || text_lt b d) ≡ true)
        → ((p || ((x == y) && text_lt a b)) || (q || ((y == z) && text_lt b d))) ≡ true
    go true h q g later = refl
    go false h true g later = true-or ((x == y) && text_lt a b) true refl
    go false h false g later =
        let u = not-less x y h in
        let v = not-less y z g in
        let w = less-false x z (omega arith) in
        let parts = and-true (x == z) (text_lt a d)
        (ap (λ r. r || ((x == z) && text_lt a d)) (sym w) ∙ e) in
        let one = eqb-true x z parts.0 in
        let first : (x == y) ≡ true = same x y (omega arith) in
        let second : (y == z) ≡ true = same y z (omega arith) in
        ap (λ r. (r && text_lt a b) || ((y == z) && text_lt b d)) first
        ∙ ap (λ r. text_lt a b || (r && text_lt b d)) second
        ∙ later parts.1

-- ---- looks

sign-low : (class : Class) → nat_lt (sign_rank class) 28 ≡ true
sign-low c.Colon = refl
sign-low c.ColonColon = refl
sign-low c.Comma = refl
sign-low c.Equal = refl
sign-low c.Less = refl
sign-low c.Greater = refl
sign-low c.LParen = refl
sign-low c.RParen = refl
sign-low c.LBrace = refl
sign-low c.RBrace = refl
sign-low c.LSquare = refl
sign-low c.RSquare = refl
sign-low c.Arrow = refl
sign-low c.Minus = refl
sign-low c.Question = refl
sign-low c.Plus = refl
sign-low c.Star = refl
sign-low _ = refl

-- words share a number
words-rank : (p q : Look) → words_ascend p q ≡ true → rank p ≡ rank q
words-rank (look.Word v) (look.Word w) e = refl
words-rank _ _ e = absurd (cc)

words-self : (p : Look) → words_ascend p p ≡ true → ⊥
words-self (look.Word v) e = text-self v e
words-self _ e = absurd (cc)

words-both : (p q : Look) → words_ascend p q ≡ true → words_ascend q p ≡ true → ⊥
words-both (look.Word v) (look.Word w) e f = text-both v w e f
words-both _ _ e f = absurd (cc)

words-through : (p q r : Look) → words_ascend p r ≡ true → nat_lt (rank q) (rank r) ≡ false
    → (words_ascend p q || words_ascend q r) ≡ true
words-through (look.Word v) (look.Word u) (look.Word w) e low = text-through v u w e
words-through (look.Word v) (look.Punct class) (look.Word w) e low =
    absurd (cc (sign-low class, low))
words-through (look.Word v) _ (look.Word w) e low = absurd (cc)
words-through _ _ _ e low = absurd (cc)

self-no : (p : Look) → precedes p p ≡ true → ⊥
self-no p e = go (or-true (nat_lt (rank p) (rank p)) (words_ascend p p) e)
  where
    go : (nat_lt (rank p) (rank p) ≡ true) ⊎ (words_ascend p p ≡ true) → ⊥
    go (inl h) = let less = less-is (rank p) (rank p) h in absurd (omega arith)
    go (inr h) = words-self p h

both-no : (p q : Look) → precedes p q ≡ true → precedes q p ≡ true → ⊥
both-no p q e f =
    go (or-true (nat_lt (rank p) (rank q)) (words_ascend p q) e)
    (or-true (nat_lt (rank q) (rank p)) (words_ascend q p) f)
  where
    go : (nat_lt (rank p) (rank q) ≡ true) ⊎ (words_ascend p q ≡ true)
        → (nat_lt (rank q) (rank p) ≡ true) ⊎ (words_ascend q p ≡ true) → ⊥
    go (inl h) (inl g) =
        let u = less-is (rank p) (rank q) h in
        let v = less-is (rank q) (rank p) g in absurd (omega arith)
    go (inl h) (inr g) =
        let u = less-is (rank p) (rank q) h in let v = words-rank q p g in absurd (omega arith)
    go (inr h) (inl g) =
        let u = words-rank p q h in
        let v = less-is (rank q) (rank p) g in absurd (omega arith)
    go (inr h) (inr g) = words-both p q h g

through : (p q r : Look) → precedes p r ≡ true → (precedes p q || precedes q r) ≡ true
through p q r e = go (nat_lt (rank p) (rank q)) refl (nat_lt (rank q) (rank r)) refl
  where
    go : (a : Bool) → nat_lt (rank p) (rank q) ≡ a → (b : Bool) → nat_lt (rank q) (rank r) ≡ b
        → ((a || words_ascend p q) || (b || words_ascend q r)) ≡ true
    go true x b y = refl
    go false x true y = true-or (words_ascend p q) true refl
    go false x false y =
        let u = not-less (rank p) (rank q) x in
        let v = not-less (rank q) (rank r) y in
        let w = less-false (rank p) (rank r) (omega arith) in
        words-through p q r (ap (λ t. t || words_ascend p r) (sym w) ∙ e) y

-- ---- which is told

-- what doesn't come before q doesn't come before p, where q doesn't either
not-before : (p q m : Look) → precedes q p ≡ false → precedes m q ≡ false → precedes m p ≡ false
not-before p q m e h = false-if (precedes m p) (λ t. go (or-true (precedes m q) (precedes q p) (through m q p t)))
  where
    go : (precedes m q ≡ true) ⊎ (precedes q p ≡ true) → ⊥
    go (inl x) = absurd (cc (x, h))
    go (inr x) = absurd (cc (x, e))

one-more : (p : Look) (own others : List Look) (l : Look) → IsFirstMeeting own others l
    → (meets_some p others ≡ true → precedes p l ≡ false) → IsFirstMeeting (p ∷ own) others l
one-more p own others l x h = record {
  place = suc x.place;
  there = x.there;
  met = x.met;
  first = λ i m there met. go i m there met;
}
  where
    go : (i : ℕ) (m : Look) → slice_get (p ∷ own) i ≡ Some m → meets_some m others ≡ true
        → precedes m l ≡ false
    go zero m there met =
        let is : p ≡ m = cc (there) in
        subst (λ z. precedes z l ≡ false) is (h (ap (λ z. meets_some z others) is ∙ met))
    go (suc i) m there met = x.first i m there met

first-here : (p : Look) (own others : List Look) → meets_some p others ≡ true
    → ((i : ℕ) (m : Look) → slice_get own i ≡ Some m → meets_some m others ≡ true
    → precedes m p ≡ false)
    → IsFirstMeeting (p ∷ own) others p
first-here p own others e rest = record {
  place = 0;
  there = refl;
  met = e;
  first = λ i m there met. go i m there met;
}
  where
    go : (i : ℕ) (m : Look) → slice_get (p ∷ own) i ≡ Some m → meets_some m others ≡ true
        → precedes m p ≡ false
    go zero m there met =
        let is : p ≡ m = cc (there) in
        subst (λ z. precedes z p ≡ false) is (false-if (precedes p p) (self-no p))
    go (suc i) m there met = rest i m there met

-- none is told where none meets
pub none-told : (own others : List Look) → first_meeting own others ≡ None → (i : ℕ) (m : Look)
    → slice_get own i ≡ Some m → meets_some m others ≡ false
none-told [] others e i m there = absurd (cc)
none-told (p ∷ own) others e i m there =
    go (meets_some p others) refl e i there (none-told own others)
  where
    go : (b : Bool) → meets_some p others ≡ b
        → (if b then Some (sooner p (first_meeting own others)) else first_meeting own others) ≡ None
        → (i : ℕ) → slice_get (p ∷ own) i ≡ Some m
        → (first_meeting own others ≡ None → (i : ℕ) (m : Look) → slice_get own i ≡ Some m
        → meets_some m others ≡ false)
        → meets_some m others ≡ false
    go true x h i at later = absurd (cc)
    go false x h zero at later =
        let is : p ≡ m = cc (at) in ap (λ z. meets_some z others) (sym is) ∙ x
    go false x h (suc i) at later = later h i m at

-- the one that is told is the first
pub told-first : (own others : List Look) (l : Look) → first_meeting own others ≡ Some l
    → IsFirstMeeting own others l
told-first [] others l e = absurd (cc)
told-first (p ∷ own) others l e =
    go (meets_some p others) refl (first_meeting own others) refl e (told-first own others)
  where
    here : meets_some p others ≡ true → p ≡ l
        → ((i : ℕ) (m : Look) → slice_get own i ≡ Some m → meets_some m others ≡ true
        → precedes m p ≡ false)
        → IsFirstMeeting (p ∷ own) others l
    here x is rest = subst (IsFirstMeeting (p ∷ own) others) is (first-here p own others x rest)

    pick : (q : Look) (b : Bool) → meets_some p others ≡ true → precedes q p ≡ b
        → IsFirstMeeting own others q → Some (if b then q else p) ≡ Some l
        → IsFirstMeeting (p ∷ own) others l
    pick q true x before known h =
        let is : q ≡ l = cc (h) in
        subst (IsFirstMeeting (p ∷ own) others) is (one-more p own others q known
        (λ met. false-if (precedes p q) (λ t. both-no p q t before)))
    pick q false x before known h =
        here x (cc (h)) (λ i m there met. not-before p q m before (known.first i m there met))

    go : (b : Bool) → meets_some p others ≡ b → (r : Option Look) → first_meeting own others ≡ r
        → (if b then Some (sooner p r) else r) ≡ Some l
        → ((z : Look) → first_meeting own others ≡ Some z → IsFirstMeeting own others z)
        → IsFirstMeeting (p ∷ own) others l
    go false x r y h known =
        one-more p own others l (known l (y ∙ h)) (λ met. absurd (cc (x, met)))
    go true x None y h known =
        here x (cc (h)) (λ i m there met. absurd (cc (none-told own others y i m there, met)))
    go true x (Some q) y h known = pick q (precedes q p) x refl (known q y) h
