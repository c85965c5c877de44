-- Three texts without a space between them.
--
-- That two texts stay apart says nothing of what follows the second. Where the second one stays
-- apart from that in turn, so does the first, but for one case: a float, then `e` or `E`, and then
-- a sign, which is the beginning of another float. The tests on the table are computed: behind a
-- whole spelling, the table is in few states in which nothing is whole.
use Rattle.std.proofs.Common.{◌≡◌, ◌≢◌, ◌⊎◌, inl, inr, ℕ, suc, ◌+◌, ◌-◌, ◌<◌, ◌≤◌, Bool, true, false, ◌&&◌, ◌||◌, not, [], ◌∷◌, ◌++◌, length, take, refl, sym, ◌∙◌, ap, subst, arith, nat_eq, eqb-true, lit<, ◌==◌, length-append, append_assoc}
use Rattle.std.proofs.Math.Seq.{take-append-add, take-length}
use Rattle.std.proofs.lemmas.List.{take-append-le, get_or_past}
use Rattle.ir_lexer.specs.declared.class.Class.{Class}
use Rattle.ir_lexer.specs.declared.class.Class.TheVariants as c
use Rattle.ir_lexer.specs.declared.table.TheConstants.{COLUMN, COLUMNS, STATES, START}
use Rattle.ir_lexer.specs.Spelling.{Text, Spells}
use Rattle.ir_lexer.specs.Scan.{step, next, column, is_whole, class_at}
use Rattle.ir_lexer.specs.Classes.{same_class}
use Rattle.ir_lexer.specs.Written.{NoneLonger, is_exponent, begins_sign}
use Rattle.ir_lexer.proofs.Apart.{run-on, not-whole, or-either, implied}
use Rattle.ir_lexer.proofs.Derive.{and-left, and-right}
use Rattle.ir_lexer.proofs.Longest.{none-empty}
use Rattle.ir_lexer.proofs.Machine.{run, run-dead, run-within, accepted, spelled, upto, below, column-within, step-dead, same-class-is}

-- ---- the states, by the text that leads to them, and the columns

-- `0x`
abbrev hexadecimal : ℕ
hexadecimal = 9

-- `0.E`
abbrev exponent : ℕ
exponent = 12

-- `A`
abbrev word : ℕ
word = 18

-- the columns of `e` and `E`
abbrev is_exponent_column : ℕ → Bool
is_exponent_column k = nat_eq k 34 || nat_eq k 25

-- the columns of `+` and `-`
abbrev is_sign_column : ℕ → Bool
is_sign_column k = nat_eq k 12 || nat_eq k 14

-- ---- what the table does behind a whole spelling that is no dimensions

-- A byte ends it, or makes a longer one, or is the `x` of a hexadecimal number, or the `e` of a
-- float. The latter two begin a word.
abbrev steps_on : ℕ → ℕ → Bool
steps_on s k =
    nat_eq (next s k) 0
    || (is_whole (next s k)
    || ((nat_eq (next s k) hexadecimal && nat_eq (next START k) word)
    || (nat_eq (next s k) exponent && (nat_eq (next START k) word
    && (same_class (class_at s) c.Float && is_exponent_column k)))))

-- what the table does behind a whole spelling that is no dimensions
abbrev row_steps_on : ℕ → Bool
row_steps_on s =
    not (is_whole s && not (same_class (class_at s) c.Dims)) || upto COLUMNS (steps_on s)

steps-on-right : upto STATES row_steps_on ≡ true
unfolding is_whole class_at same_class
steps-on-right = refl

-- What goes on with a hexadecimal number goes on with a word, and so does what goes on with an
-- exponent, but for a sign.
abbrev ends_with_word : ℕ → Bool
ends_with_word k =
    is_whole (next word k)
    || (nat_eq (next hexadecimal k) 0 && (nat_eq (next exponent k) 0 || is_sign_column k))

ends-with-word-right : upto COLUMNS ends_with_word ≡ true
unfolding is_whole
ends-with-word-right = refl

-- One byte more makes them whole or ends them, but for a sign, with which no word goes on.
abbrev ends_soon : ℕ → Bool
ends_soon k =
    (is_whole (next hexadecimal k) || nat_eq (next hexadecimal k) 0)
    && (is_whole (next exponent k) || (nat_eq (next exponent k) 0 || nat_eq (next word k) 0))

ends-soon-right : upto COLUMNS ends_soon ≡ true
unfolding is_whole
ends-soon-right = refl

-- ---- which bytes these columns have

-- the bytes of the exponent's columns are `e` and `E`
abbrev exponent_bytes : ℕ → Bool
exponent_bytes b = not (is_exponent_column (column b)) || ((b == 101) || (b == 69))

exponent-bytes-right : upto 256 exponent_bytes ≡ true
exponent-bytes-right = refl

-- the bytes of the signs' columns are `+` and `-`
abbrev sign_bytes : ℕ → Bool
sign_bytes b = not (is_sign_column (column b)) || ((b == 43) || (b == 45))

sign-bytes-right : upto 256 sign_bytes ≡ true
sign-bytes-right = refl

second-of : (a b : Bool) → a ≡ false → (a || b) ≡ true → b ≡ true
second-of true b e f = absurd (cc)
second-of false b e f = f

near-or-far : (b : ℕ) → (b < 256) ⊎ (256 ≤ b)
near-or-far b = grind arith

past : (f : ℕ → Bool) (b : ℕ) → 256 ≤ b → f 0 ≡ false → f (column b) ≡ true → ⊥
past f b far e g = absurd (cc (e, g, ap f (get_or_past COLUMN b 0 far)))

exponent-byte : (b : ℕ) → is_exponent_column (column b) ≡ true → is_exponent (b ∷ []) ≡ true
exponent-byte b e = elim (near-or-far b) [
  | inl near ↦ implied _ _ (below 256 exponent_bytes exponent-bytes-right b near) e
  | inr far ↦ absurd (past is_exponent_column b far refl e)
]

sign-byte : (b : ℕ) (t : Text) → is_sign_column (column b) ≡ true → begins_sign (b ∷ t) ≡ true
sign-byte b t e = elim (near-or-far b) [
  | inl near ↦ implied _ _ (below 256 sign_bytes sign-bytes-right b near) e
  | inr far ↦ absurd (past is_sign_column b far refl e)
]

-- ---- the same, of states and bytes

-- the state that a byte leads to behind a whole spelling, where it makes no longer one
data Behind (s b : ℕ) : Type 0 where
  ends_here : step s b ≡ 0 → Behind s b
  hexadecimal_on : step s b ≡ hexadecimal → step START b ≡ word → Behind s b
  exponent_on : step s b ≡ exponent → step START b ≡ word → class_at s ≡ c.Float
      → is_exponent (b ∷ []) ≡ true → Behind s b

behind-whole : (s b : ℕ) → s < STATES → is_whole s ≡ true → class_at s ≢ c.Dims
    → is_whole (step s b) ≡ false → Behind s b
unfolding step
behind-whole s b h w other not_yet =
    let k = column b in
    let n = next s k in
    let row : upto COLUMNS (steps_on s) ≡ true =
    implied (is_whole s && not (same_class (class_at s) c.Dims)) (upto COLUMNS (steps_on s))
    (below STATES row_steps_on steps-on-right s h)
    (both (is_whole s) (same_class (class_at s) c.Dims) w (λ e. other (same-class-is _ _ e))) in
    let is_float = same_class (class_at s) c.Float in
    let float = is_float && is_exponent_column k in
    let to_word = nat_eq (next START k) word in
    let far = nat_eq n hexadecimal && to_word in
    let further = nat_eq n exponent && (to_word && float) in
    elim (or-either (nat_eq n 0) (is_whole n || (far || further))
    (below COLUMNS (steps_on s) row k (column-within b))) [
      | inl e ↦ ends_here (eqb-true _ _ e)
      | inr e ↦ elim (or-either far further (second-of (is_whole n) (far || further) not_yet e)) [
        | inl g ↦
            hexadecimal_on (eqb-true _ _ (and-left (nat_eq n hexadecimal) to_word g))
            (eqb-true _ _ (and-right (nat_eq n hexadecimal) to_word g))
        | inr g ↦
            let g1 = and-right (nat_eq n exponent) (to_word && float) g in
            let g2 = and-right to_word float g1 in
            exponent_on (eqb-true _ _ (and-left (nat_eq n exponent) (to_word && float) g))
            (eqb-true _ _ (and-left to_word float g1))
            (same-class-is _ _ (and-left is_float (is_exponent_column k) g2))
            (exponent-byte b (and-right is_float (is_exponent_column k) g2))
      ]
    ]
  where
    both : (p q : Bool) → p ≡ true → (q ≡ true → ⊥) → (p && not q) ≡ true
    both true true e f = absurd (f refl)
    both true false e f = refl
    both false q e f = absurd (cc)

-- a byte that doesn't go on with a word
after-word : (b : ℕ) → is_whole (step word b) ≡ false
    → (step hexadecimal b ≡ 0) × ((step exponent b ≡ 0) ⊎ (is_sign_column (column b) ≡ true))
unfolding step
after-word b not_yet =
    let k = column b in
    let dead = nat_eq (next exponent k) 0 in
    let both : (nat_eq (next hexadecimal k) 0 && (dead || is_sign_column k)) ≡ true =
    second-of (is_whole (next word k)) (nat_eq (next hexadecimal k) 0 && (dead || is_sign_column k))
    not_yet (below COLUMNS ends_with_word ends-with-word-right k (column-within b)) in (
      eqb-true _ _ (and-left (nat_eq (next hexadecimal k) 0) (dead || is_sign_column k) both),
      elim (or-either dead (is_sign_column k)
          (and-right (nat_eq (next hexadecimal k) 0) (dead || is_sign_column k) both)) [
            | inl f ↦ inl (eqb-true _ _ f)
            | inr f ↦ inr f
          ],
    )

-- what one byte more does where nothing is whole
soon : (b : ℕ) → ends_soon (column b) ≡ true
soon b = below COLUMNS ends_soon ends-soon-right (column b) (column-within b)

second-hexadecimal : (b : ℕ) → is_whole (step hexadecimal b) ≡ false → step hexadecimal b ≡ 0
unfolding step
second-hexadecimal b not_yet =
    let n = next hexadecimal (column b) in
    let m = next exponent (column b) in
    eqb-true _ _ (second-of (is_whole n) (nat_eq n 0) not_yet (and-left (is_whole n || nat_eq n 0)
    (is_whole m || (nat_eq m 0 || nat_eq (next word (column b)) 0)) (soon b)))

second-exponent : (b : ℕ) → is_whole (step exponent b) ≡ false
    → (step exponent b ≡ 0) ⊎ (step word b ≡ 0)
unfolding step
second-exponent b not_yet =
    let n = next hexadecimal (column b) in
    let m = next exponent (column b) in
    let w = next word (column b) in
    elim (or-either (nat_eq m 0) (nat_eq w 0)
    (second-of (is_whole m) (nat_eq m 0 || nat_eq w 0) not_yet
    (and-right (is_whole n || nat_eq n 0) (is_whole m || (nat_eq m 0 || nat_eq w 0)) (soon b)))) [
      | inl f ↦ inl (eqb-true _ _ f)
      | inr f ↦ inr (eqb-true _ _ f)
    ]

-- ---- runs

-- the table goes through two texts one after the other
pub run-join : (t u : Text) (s : ℕ) → run s (t ++ u) ≡ run (run s t) u
run-join [] u s = refl
run-join (b ∷ t) u s = run-join t u (step s b)

-- no prefix of the second text makes a longer spelling
none-whole : (x u v : Text) → NoneLonger x (u ++ v) → 0 < length u
    → is_whole (run (run START x) u) ≡ false
none-whole x u v none more = not-true _ (λ w.
    none (length x + length u) (class_at (run START (x ++ u))) (omega arith)
    (omega (arith, length-append x (u ++ v), length-append u v))
    (subst (Spells (class_at (run START (x ++ u)))) (sym same)
    (spelled (x ++ u) (ap is_whole (run-join x u START) ∙ w))))
  where
    not-true : (b : Bool) → (b ≡ true → ⊥) → b ≡ false
    not-true true f = absurd (f refl)
    not-true false f = refl

    same : take (length x + length u) (x ++ (u ++ v)) ≡ x ++ u
    same = take-append-add x (u ++ v) (length u)
        ∙ ap (λ t. x ++ t) (take-append-le (length u) u v (omega arith) ∙ take-length u)

moved : (s w b : ℕ) → s ≡ w → is_whole (step s b) ≡ false → is_whole (step w b) ≡ false
moved s w b e f = subst (λ z. is_whole (step z b) ≡ false) e f

-- what the table does behind the two texts, at the first byte of what follows them
dies : (a b : Class) (x y rest : Text) (k : ℕ) → Spells a x → Spells b y → a ≢ c.Dims
    → NoneLonger x y → NoneLonger y (k ∷ rest)
    → (a ≡ c.Float → is_exponent y ≡ true → begins_sign (k ∷ rest) ≡ true → ⊥)
    → step (run (run START x) y) k ≡ 0
dies a b x [] rest k f g other none then sign = absurd (none-empty b g)
dies a b x (d ∷ []) rest k f g other none then sign =
    let s = run START x in
    let is = accepted a x f in
    let first : is_whole (step s d) ≡ false = none-whole x (d ∷ []) [] none (lit< tt) in
    let second : is_whole (step (step START d) k) ≡ false =
    none-whole (d ∷ []) (k ∷ []) rest then (lit< tt) in
    elim (behind-whole s d (run-within x START (lit< tt)) is.0 (λ e. other (sym is.1 ∙ e)) first) [
      | ends_here e ↦ ap (λ z. step z k) e ∙ step-dead k
      | hexadecimal_on e w ↦ ap (λ z. step z k) e ∙ (after-word k (moved _ _ k w second)).0
      | exponent_on e w float z ↦
          elim ((after-word k (moved _ _ k w second)).1) [
            | inl h ↦ ap (λ z. step z k) e ∙ h
            | inr h ↦ absurd (sign (sym is.1 ∙ float) z (sign-byte k rest h))
          ]
    ]
dies a b x (d ∷ e ∷ y) rest k f g other none then sign =
    let s = run START x in
    let is = accepted a x f in
    let first : is_whole (step s d) ≡ false = none-whole x (d ∷ []) (e ∷ y) none (lit< tt) in
    let second : is_whole (step (step s d) e) ≡ false =
    none-whole x (d ∷ e ∷ []) y none (lit< tt) in
    let whole : is_whole (run (step (step START d) e) y) ≡ true = (accepted b (d ∷ e ∷ y) g).0 in
    elim (behind-whole s d (run-within x START (lit< tt)) is.0 (λ e. other (sym is.1 ∙ e)) first) [
      | ends_here h ↦ gone (step (step s d) e) y k (ap (λ z. step z e) h ∙ step-dead e)
      | hexadecimal_on h w ↦
          gone (step (step s d) e) y k
          (ap (λ z. step z e) h ∙ second-hexadecimal e (moved _ _ e h second))
      | exponent_on h w float z ↦
          elim (second-exponent e (moved _ _ e h second)) [
            | inl i ↦ gone (step (step s d) e) y k (ap (λ z. step z e) h ∙ i)
            | inr i ↦ absurd (not-whole (sym (ap is_whole
                (ap (λ z. run z y) (ap (λ z. step z e) w ∙ i) ∙ run-dead y)) ∙ whole))
          ]
    ]
  where
    gone : (s : ℕ) (y : Text) (k : ℕ) → s ≡ 0 → step (run s y) k ≡ 0
    gone s y k e = ap (λ z. step (run z y) k) e ∙ ap (λ z. step z k) (run-dead y) ∙ step-dead k

far-apart : (x y rest : Text) (k : ℕ) → NoneLonger x y → step (run (run START x) y) k ≡ 0
    → (m : ℕ) (class : Class) → m ≤ length (x ++ (y ++ k ∷ rest))
    → Spells class (take m (x ++ (y ++ k ∷ rest))) → length x + 1 ≤ m → ⊥
far-apart x y rest k none ends m class l spells h = go (shorter-or-longer m (length (x ++ y)))
  where
    shorter-or-longer : (m n : ℕ) → (m ≤ n) ⊎ (n < m)
    shorter-or-longer m n = grind arith

    regroup : take m (x ++ (y ++ k ∷ rest)) ≡ take m ((x ++ y) ++ k ∷ rest)
    regroup = ap (take m) (sym (append_assoc x y (k ∷ rest)))

    go : (m ≤ length (x ++ y)) ⊎ (length (x ++ y) < m) → ⊥
    go (inl near) =
        none m class h near (subst (Spells class)
        (regroup ∙ take-append-le m (x ++ y) (k ∷ rest) near) spells)
    go (inr far) =
        let j = m - length (x ++ y) - 1 in
        let is : m ≡ length (x ++ y) + suc j = omega arith in
        let cut : take m (x ++ (y ++ k ∷ rest)) ≡ (x ++ y) ++ k ∷ take j rest =
        regroup ∙ ap (λ n. take n ((x ++ y) ++ k ∷ rest)) is
        ∙ take-append-add (x ++ y) (k ∷ rest) (suc j) in
        let here : step (run START (x ++ y)) k ≡ 0 =
        ap (λ s. step s k) (run-join x y START) ∙ ends in
        let ended : run START ((x ++ y) ++ k ∷ take j rest) ≡ 0 =
        run-on (x ++ y) (take j rest) START k ∙ ap (λ s. run s (take j rest)) here
        ∙ run-dead (take j rest) in
        not-whole (sym (ap is_whole ended)
        ∙ (accepted class ((x ++ y) ++ k ∷ take j rest) (subst (Spells class) cut spells)).0)

-- The first text stays apart from the second and what follows it, where the second stays apart from
-- that, and no sign follows an exponent.
pub three-apart : (a b : Class) (x y rest : Text) → Spells a x → Spells b y → a ≢ c.Dims
    → NoneLonger x y → NoneLonger y rest
    → (a ≡ c.Float → is_exponent y ≡ true → begins_sign rest ≡ true → ⊥)
    → NoneLonger x (y ++ rest)
three-apart a b x y [] f g other none then sign = subst (NoneLonger x) (sym (append-nil y)) none
  where
    append-nil : (t : Text) → t ++ [] ≡ t
    append-nil [] = refl
    append-nil (b ∷ t) = ap (λ z. b ∷ z) (append-nil t)
three-apart a b x y (k ∷ rest) f g other none then sign = λ m class h l spells.
    far-apart x y rest k none (dies a b x y rest k f g other none then sign) m class l spells h

-- ---- how far to look

-- behind an exponent's sign comes a whole float or nothing
abbrev third_ends : ℕ → ℕ → Bool
third_ends k j =
    is_whole (next (next exponent k) j) || nat_eq (next (next exponent k) j) 0

third-ends-right : upto COLUMNS (λ k. upto COLUMNS (λ j. third_ends k j)) ≡ true
unfolding is_whole
third-ends-right = refl

third-exponent : (b d : ℕ) → is_whole (step (step exponent b) d) ≡ false
    → step (step exponent b) d ≡ 0
unfolding step
third-exponent b d not_yet =
    let n = next (next exponent (column b)) (column d) in
    eqb-true n 0 (second-of (is_whole n) (nat_eq n 0) not_yet
    (below COLUMNS (third_ends (column b))
    (below COLUMNS (λ k. upto COLUMNS (λ j. third_ends k j)) third-ends-right (column b)
    (column-within b)) (column d) (column-within d)))

three-die : (s b d e : ℕ) → s < STATES → is_whole s ≡ true → class_at s ≢ c.Dims
    → is_whole (step s b) ≡ false → is_whole (step (step s b) d) ≡ false
    → is_whole (step (step (step s b) d) e) ≡ false
    → step (step (step s b) d) e ≡ 0
three-die s b d e h w other first second third =
    elim (behind-whole s b h w other first) [
      | ends_here i ↦ dead-then (step s b) d e (ap (λ z. step z d) i ∙ step-dead d)
      | hexadecimal_on i v ↦
          dead-then (step s b) d e
          (ap (λ z. step z d) i ∙ second-hexadecimal d (moved _ _ d i second))
      | exponent_on i v float z ↦
          ap (λ q. step (step q d) e) i
          ∙ third-exponent d e (subst (λ q. is_whole (step (step q d) e) ≡ false) i third)
    ]
  where
    dead-then : (q d e : ℕ) → step q d ≡ 0 → step (step q d) e ≡ 0
    dead-then q d e i = ap (λ z. step z e) i ∙ step-dead e

-- Three bytes of what follows a spelling, but for dimensions, tell whether a longer one begins
-- where it does.
pub three-bytes : (a : Class) (x y : Text) → Spells a x → a ≢ c.Dims → NoneLonger x (take 3 y)
    → NoneLonger x y
three-bytes a x [] f other none = none
three-bytes a x (b ∷ []) f other none = none
three-bytes a x (b ∷ d ∷ []) f other none = none
three-bytes a x (b ∷ d ∷ e ∷ []) f other none = none
three-bytes a x (b ∷ d ∷ e ∷ k ∷ rest) f other none = λ m class h l spells.
    let is = accepted a x f in
    let die : step (run (run START x) (b ∷ d ∷ e ∷ [])) k ≡ 0 =
    ap (λ z. step z k) (three-die (run START x) b d e (run-within x START (lit< tt)) is.0
    (λ i. other (sym is.1 ∙ i))
    (none-whole x (b ∷ []) (d ∷ e ∷ []) none (lit< tt))
    (none-whole x (b ∷ d ∷ []) (e ∷ []) none (lit< tt))
    (none-whole x (b ∷ d ∷ e ∷ []) [] none (lit< tt)))
    ∙ step-dead k in
    far-apart x (b ∷ d ∷ e ∷ []) rest k none die m class l spells h
