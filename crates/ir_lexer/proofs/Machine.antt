-- The table meets the definition of the spellings.
--
-- Each state has a text that leads to it, and what may follow there is what the classes'
-- expressions leave open behind that text. The tests compare this for each step of the table, and
-- are computed: for each state, class and column. A byte is read as the sample of its column. So a
-- text spells a class exactly where the table, run over it, ends in a whole state of that class
-- (`accepted`, `spelled`). No proof looks at a single class.
use Rattle.std.proofs.Common.{◌≡◌, ℕ, zero, suc, ◌<◌, ◌≤◌, Bool, true, false, ◌&&◌, not, List, [], ◌∷◌, get_or, refl, sym, ◌∙◌, ap, subst, inl, inr, arith, ◌⊎◌, eqb, eqb-true, codes, nat_le, nat_lt, nat_eq, lit<, ltb-true}
use Rattle.std.specs.List.{list_all}
use Rattle.std.proofs.lemmas.List.{get_or_past}
use Rattle.std.proofs.lemmas.Bool.{lt-leb}
use Rattle.std.proofs.lemmas.List.Sums.{AllPass-from_list_all}
use denote.Enum.Bare.{same_true, true_same}
use Rattle.ir_lexer.specs.contracts.class.Class.{the_type}
use Rattle.ir_lexer.specs.declared.class.Class.{Class}
use Rattle.ir_lexer.specs.declared.class.Class.TheVariants as c
use Rattle.ir_lexer.specs.declared.table.TheConstants.{COLUMN, COLUMNS, STATES, START}
use Rattle.ir_lexer.specs.Spelling.{Text, Spelling, never, empty, between, both, either, many, Fits, Spells, spelling}
use Rattle.ir_lexer.specs.Scan.{column, next, step, is_whole, class_at}
use Rattle.ir_lexer.specs.Classes.{same_class}
use Rattle.ir_lexer.proofs.Derive.{takes_none, behind, behind_all, is_alike, same_truth, same-truth-is, and-left, and-right, and-both, behind-alike, alike-behind-all, none-in, none-out, behind-in, behind-out}

-- ---- the tests that compute

-- a text that leads to each state, in the order of the table's rows
abbrev pub ways : List Text
ways =
    codes "/" ∷ [] ∷ codes "!" ∷ codes "\"" ∷ codes "#" ∷ codes "%" ∷ codes "@" ∷ codes "^"
    ∷ codes "\"\\" ∷ codes "0x" ∷ codes "@\"" ∷ codes "\"\\0" ∷ codes "0.E" ∷ codes "1x1"
    ∷ codes "1x?" ∷ codes "@\"\\" ∷ codes "0.E+" ∷ codes "@\"\\0" ∷ codes "A" ∷ codes "0"
    ∷ codes "1" ∷ codes "00" ∷ codes "0x0" ∷ codes "0." ∷ codes "0.E0" ∷ codes "1x"
    ∷ codes "\"\"" ∷ codes "%$" ∷ codes "%0" ∷ codes "^$" ∷ codes "^0" ∷ codes "@$" ∷ codes "@0"
    ∷ codes "@\"\"" ∷ codes "!$" ∷ codes "!0" ∷ codes "#$" ∷ codes "#0" ∷ codes ":" ∷ codes "::"
    ∷ codes "," ∷ codes "=" ∷ codes "<" ∷ codes ">" ∷ codes "(" ∷ codes ")" ∷ codes "{"
    ∷ codes "}" ∷ codes "[" ∷ codes "]" ∷ codes "->" ∷ codes "-" ∷ codes "?" ∷ codes "+"
    ∷ codes "*" ∷ []

-- a byte of each column, in the order of the columns
abbrev pub samples : Text
samples =
    10 ∷ 0 ∷ 14 ∷ 33 ∷ 34 ∷ 35 ∷ 36 ∷ 37 ∷ 38 ∷ 40 ∷ 41 ∷ 42 ∷ 43 ∷ 44 ∷ 45 ∷ 46 ∷ 48 ∷ 49 ∷ 58
    ∷ 60 ∷ 61 ∷ 62 ∷ 63 ∷ 64 ∷ 65 ∷ 69 ∷ 71 ∷ 91 ∷ 92 ∷ 93 ∷ 94 ∷ 95 ∷ 96 ∷ 97 ∷ 101 ∷ 103 ∷ 110
    ∷ 116 ∷ 120 ∷ 123 ∷ 125 ∷ []

-- all classes
abbrev pub classes : List Class
classes =
    c.Word ∷ c.Integer ∷ c.Float ∷ c.Dims ∷ c.Str ∷ c.ValueName ∷ c.BlockName ∷ c.SymbolName
    ∷ c.TypeName ∷ c.AttrName ∷ c.ResultNumber ∷ c.Colon ∷ c.ColonColon ∷ c.Comma ∷ c.Equal
    ∷ c.Less ∷ c.Greater ∷ c.LParen ∷ c.RParen ∷ c.LBrace ∷ c.RBrace ∷ c.LSquare ∷ c.RSquare
    ∷ c.Arrow ∷ c.Minus ∷ c.Question ∷ c.Plus ∷ c.Star ∷ c.Bad ∷ c.End ∷ []

-- what may follow in a state
abbrev pub left : ℕ → Class → Spelling
left s class = behind_all (get_or ways s []) (spelling class)

-- whether two expressions are written the same way
abbrev pub same : Spelling → Spelling → Bool
same never never = true
same empty empty = true
same (between a b) (between x y) = eqb a x && eqb b y
same (both r s) (both x y) = same r x && same s y
same (either r s) (either x y) = same r x && same s y
same (many r) (many x) = same r x
same _ _ = false

-- each number below the bound passes the test
abbrev pub upto : ℕ → (ℕ → Bool) → Bool
upto zero p = true
upto (suc n) p = upto n p && p n

-- the state behind a state and a column leaves open what the sample of the column does
abbrev pub steps_at : ℕ → Class → ℕ → Bool
steps_at s class k = same (behind (get_or samples k 0) (left s class)) (left (next s k) class)

-- each column leads from a state to what is left behind its bytes, for each class
abbrev pub row_steps : ℕ → Bool
row_steps s = list_all (λ class. upto COLUMNS (steps_at s class)) classes

steps-right : upto STATES row_steps ≡ true
steps-right = refl

-- a row leads to states of the table
abbrev pub row_within : ℕ → Bool
row_within s = upto COLUMNS (λ k. nat_lt (next s k) STATES)

steps-within : upto STATES row_within ≡ true
steps-within = refl

-- no class tells a byte from the sample of its column
abbrev pub sample_like : ℕ → Class → Bool
sample_like b class = is_alike b (get_or samples (column b) 0) (spelling class)

-- the sample of a byte's column is taken as the byte, for each class
abbrev pub column_like : ℕ → Bool
column_like b = list_all (sample_like b) classes

columns-right : upto 256 column_like ≡ true
columns-right = refl

columns-within : upto 256 (λ b. nat_lt (column b) COLUMNS) ≡ true
columns-within = refl

-- no number past a byte stands in a spelling, nor does a line feed, the sample of column 0
abbrev pub avoids : Spelling → Bool
avoids never = true
avoids empty = true
avoids (between low high) = nat_lt high 256 && not (nat_le low 10 && nat_le 10 high)
avoids (both r s) = avoids r && avoids s
avoids (either r s) = avoids r && avoids s
avoids (many r) = avoids r

all-avoid : list_all (λ class. avoids (spelling class)) classes ≡ true
all-avoid = refl

-- a state leaves nothing open where it is whole, for its own class alone
abbrev pub whole_at : ℕ → Class → Bool
whole_at s class =
    same_truth (takes_none (left s class)) (is_whole s && same_class (class_at s) class)

-- a state is whole for the class that the table has there, and for no other
abbrev pub row_whole : ℕ → Bool
row_whole s = list_all (whole_at s) classes

wholes-right : upto STATES row_whole ≡ true
unfolding is_whole same_class class_at
wholes-right = refl

dead-stays : upto COLUMNS (λ k. nat_eq (next 0 k) 0) ≡ true
dead-stays = refl

-- ---- what these tests say of any state, class and byte

-- expressions that compare as equal are one
pub same-is : (r s : Spelling) → same r s ≡ true → r ≡ s
same-is never never e = refl
same-is empty empty e = refl
same-is (between a b) (between x y) e =
    let first : a ≡ x = eqb-true _ _ (and-left (eqb a x) (eqb b y) e) in
    let second : b ≡ y = eqb-true _ _ (and-right (eqb a x) (eqb b y) e) in
    cc
same-is (both r s) (both x y) e =
    let first : r ≡ x = same-is r x (and-left (same r x) (same s y) e) in
    let second : s ≡ y = same-is s y (and-right (same r x) (same s y) e) in
    cc
same-is (either r s) (either x y) e =
    let first : r ≡ x = same-is r x (and-left (same r x) (same s y) e) in
    let second : s ≡ y = same-is s y (and-right (same r x) (same s y) e) in
    cc
same-is (many r) (many x) e = ap (λ z. many z) (same-is r x e)
same-is _ _ e = absurd (cc)

-- what a test of all numbers below n says, each of them has
pub below : (n : ℕ) (p : ℕ → Bool) → upto n p ≡ true → (k : ℕ) → k < n → p k ≡ true
below zero p e k h = absurd (omega arith)
below (suc n) p e k h = elim (last-or n k h) [
  | inl less ↦ below n p (and-left _ _ e) k less
  | inr is ↦ rw is (and-right _ _ e)
]
  where
    last-or : (n k : ℕ) → k < suc n → (k < n) ⊎ (k ≡ n)
    last-or n k h = grind arith

at-place : (f : Class → Bool) → list_all f classes ≡ true → (k : ℕ) → k < 30
    → f (get_or classes k c.Bad) ≡ true
at-place f e k h = AllPass-from_list_all f classes e k c.Bad h

-- what a test of all classes says, each of them has
pub every : (f : Class → Bool) → list_all f classes ≡ true → (class : Class) → f class ≡ true
every f e c.Word = at-place f e 0 (lit< tt)
every f e c.Integer = at-place f e 1 (lit< tt)
every f e c.Float = at-place f e 2 (lit< tt)
every f e c.Dims = at-place f e 3 (lit< tt)
every f e c.Str = at-place f e 4 (lit< tt)
every f e c.ValueName = at-place f e 5 (lit< tt)
every f e c.BlockName = at-place f e 6 (lit< tt)
every f e c.SymbolName = at-place f e 7 (lit< tt)
every f e c.TypeName = at-place f e 8 (lit< tt)
every f e c.AttrName = at-place f e 9 (lit< tt)
every f e c.ResultNumber = at-place f e 10 (lit< tt)
every f e c.Colon = at-place f e 11 (lit< tt)
every f e c.ColonColon = at-place f e 12 (lit< tt)
every f e c.Comma = at-place f e 13 (lit< tt)
every f e c.Equal = at-place f e 14 (lit< tt)
every f e c.Less = at-place f e 15 (lit< tt)
every f e c.Greater = at-place f e 16 (lit< tt)
every f e c.LParen = at-place f e 17 (lit< tt)
every f e c.RParen = at-place f e 18 (lit< tt)
every f e c.LBrace = at-place f e 19 (lit< tt)
every f e c.RBrace = at-place f e 20 (lit< tt)
every f e c.LSquare = at-place f e 21 (lit< tt)
every f e c.RSquare = at-place f e 22 (lit< tt)
every f e c.Arrow = at-place f e 23 (lit< tt)
every f e c.Minus = at-place f e 24 (lit< tt)
every f e c.Question = at-place f e 25 (lit< tt)
every f e c.Plus = at-place f e 26 (lit< tt)
every f e c.Star = at-place f e 27 (lit< tt)
every f e c.Bad = at-place f e 28 (lit< tt)
every f e c.End = at-place f e 29 (lit< tt)

near-or-far : (b : ℕ) → (b < 256) ⊎ (256 ≤ b)
near-or-far b = grind arith

alike-range : (b low high : ℕ) → 256 ≤ b → high < 256 → not (nat_le low 10 && nat_le 10 high) ≡ true
    → same_truth (nat_le low b && nat_le b high) (nat_le low 10 && nat_le 10 high) ≡ true
alike-range b low high far h e =
    let beyond : nat_le b high ≡ false = lt-leb b high (omega arith) in
    rw beyond (both-false (nat_le low b) (nat_le low 10 && nat_le 10 high) e)
  where
    both-false : (x y : Bool) → not y ≡ true → same_truth (x && false) y ≡ true
    both-false true y e = e
    both-false false y e = e

-- each byte has a column of the table
pub column-within : (b : ℕ) → column b < COLUMNS
column-within b = elim (near-or-far b) [
  | inl near ↦ ltb-true _ _ (below 256 (λ x. nat_lt (column x) COLUMNS) columns-within b near)
  | inr far ↦ rw (get_or_past COLUMN b 0 far) (lit< tt)
]

alike-far : (b : ℕ) → 256 ≤ b → (r : Spelling) → avoids r ≡ true → is_alike b 10 r ≡ true
alike-far b far never e = refl
alike-far b far empty e = refl
alike-far b far (between low high) e =
    alike-range b low high far (ltb-true _ _ (and-left (nat_lt high 256) _ e))
    (and-right (nat_lt high 256) _ e)
alike-far b far (both r s) e =
    and-both _ _ (alike-far b far r (and-left _ _ e)) (alike-far b far s (and-right _ _ e))
alike-far b far (either r s) e =
    and-both _ _ (alike-far b far r (and-left _ _ e)) (alike-far b far s (and-right _ _ e))
alike-far b far (many r) e = alike-far b far r e

-- the sample of its column is taken as each byte is
pub like-sample : (b : ℕ) (class : Class) → sample_like b class ≡ true
like-sample b class = elim (near-or-far b) [
  | inl near ↦ every (sample_like b) (below 256 column_like columns-right b near) class
  | inr far ↦ rw (get_or_past COLUMN b 0 far) (alike-far b far (spelling class) (avoided class))
]
  where
    avoided : (class : Class) → avoids (spelling class) ≡ true
    avoided class = every (λ x. avoids (spelling x)) all-avoid class

-- a step of the table leads to what is left behind the byte
pub step-right : (s b : ℕ) (class : Class) → s < STATES
    → behind b (left s class) ≡ left (next s (column b)) class
step-right s b class h =
    let k = column b in
    let like : is_alike b (get_or samples k 0) (left s class) ≡ true =
    alike-behind-all b _ (get_or ways s []) (spelling class) (like-sample b class) in
    let row : upto COLUMNS (steps_at s class) ≡ true =
    every (λ x. upto COLUMNS (steps_at s x)) (below STATES row_steps steps-right s h) class in
    behind-alike b (get_or samples k 0) (left s class) like
    ∙ same-is _ _ (below COLUMNS (steps_at s class) row k (column-within b))

-- ---- runs of the table

-- the state behind a text
abbrev pub run : ℕ → Text → ℕ
run s [] = s
run s (b ∷ t) = run (step s b) t

-- a step leads to a state of the table
pub step-within : (s b : ℕ) → s < STATES → step s b < STATES
unfolding step
step-within s b h =
    let row : row_within s ≡ true = below STATES row_within steps-within s h in
    ltb-true _ _ (below COLUMNS (λ k. nat_lt (next s k) STATES) row (column b) (column-within b))

-- and so does a text
pub run-within : (t : Text) (s : ℕ) → s < STATES → run s t < STATES
run-within [] s h = h
run-within (b ∷ t) s h = run-within t (step s b) (step-within s b h)

step-left : (s b : ℕ) (class : Class) → s < STATES → behind b (left s class) ≡ left (step s b) class
unfolding step
step-left s b class h = step-right s b class h

run-in : (t : Text) (s : ℕ) (class : Class) → s < STATES → Fits (left s class) t
    → takes_none (left (run s t) class) ≡ true
run-in [] s class h f = none-out (left s class) f
run-in (b ∷ t) s class h f =
    run-in t (step s b) class (step-within s b h)
    (subst (λ r. Fits r t) (step-left s b class h) (behind-in (left s class) b t f))

run-out : (t : Text) (s : ℕ) (class : Class) → s < STATES → takes_none (left (run s t) class) ≡ true
    → Fits (left s class) t
run-out [] s class h e = none-in (left s class) e
run-out (b ∷ t) s class h e =
    let rest : Fits (left (step s b) class) t = run-out t (step s b) class (step-within s b h) e in
    behind-out (left s class) b t (subst (λ r. Fits r t) (sym (step-left s b class h)) rest)

whole-is : (s : ℕ) (class : Class) → s < STATES
    → takes_none (left s class) ≡ (is_whole s && same_class (class_at s) class)
whole-is s class h =
    same-truth-is _ _ (every (whole_at s) (below STATES row_whole wholes-right s h) class)

-- classes that compare as one are equal
pub same-class-is : (a b : Class) → same_class a b ≡ true → a ≡ b
unfolding same_class
same-class-is a b e = same_true the_type tt a b e

-- a class compares as one with itself
pub same-class-refl : (a : Class) → same_class a a ≡ true
unfolding same_class
same-class-refl a = true_same the_type a a refl

-- a text that spells a class leads to a whole state, of that class
pub accepted : (class : Class) (t : Text) → Spells class t
    → (is_whole (run START t) ≡ true) × (class_at (run START t) ≡ class)
unfolding Spells
accepted class t f =
    let s = run START t in
    let e : (is_whole s && same_class (class_at s) class) ≡ true =
    sym (whole-is s class (run-within t START (lit< tt))) ∙ run-in t START class (lit< tt) f in
    (and-left _ _ e, same-class-is _ _ (and-right (is_whole s) _ e))

-- and a text that leads to a whole state spells its class
pub spelled : (t : Text) → is_whole (run START t) ≡ true → Spells (class_at (run START t)) t
unfolding Spells
spelled t e =
    let s = run START t in
    let none : takes_none (left s (class_at s)) ≡ true =
    whole-is s (class_at s) (run-within t START (lit< tt))
    ∙ and-both _ _ e (same-class-refl (class_at s)) in
    run-out t START (class_at s) (lit< tt) none

-- no step leads away from where no spelling goes on
pub step-dead : (b : ℕ) → step 0 b ≡ 0
unfolding step
step-dead b =
    eqb-true _ _ (below COLUMNS (λ k. nat_eq (next 0 k) 0) dead-stays (column b) (column-within b))

-- and no text does
pub run-dead : (t : Text) → run 0 t ≡ 0
run-dead [] = refl
run-dead (b ∷ t) = rw (step-dead b) (run-dead t)
