-- What a regular expression leaves open behind its first byte.
--
-- `behind b r` is an expression again, the derivative of r. The texts that fit it are those that
-- fit r behind the byte b (`behind-in`, `behind-out`). Two bytes that no part of r tells apart have
-- the same derivative (`behind-alike`).
use Rattle.std.proofs.Common.{◌≡◌, ℕ, Bool, true, false, ◌&&◌, ◌||◌, not, List, [], ◌∷◌, ◌++◌, refl, sym, ◌∙◌, ap, subst, inl, inr, ◌⊎◌, leb-true, le-leb}
use Rattle.std.specs.Prelude.{nat_le}
use Rattle.std.specs.List.{concat}
use Rattle.ir_lexer.specs.Spelling.{Text, Spelling, never, empty, between, both, either, many, EachText, Fits}

-- whether the empty text fits
abbrev pub takes_none : Spelling → Bool
takes_none never = false
takes_none empty = true
takes_none (between low high) = false
takes_none (both r s) = takes_none r && takes_none s
takes_none (either r s) = takes_none r || takes_none s
takes_none (many r) = true

-- `both` and `either` without parts that say nothing
abbrev pub joined : Spelling → Spelling → Spelling
joined never s = never
joined empty s = s
joined r s = both r s

-- either of two, where one that stands for nothing is left out
abbrev pub merged : Spelling → Spelling → Spelling
merged never s = s
merged r never = r
merged r s = either r s

-- the expression, or the one that stands for nothing
abbrev pub kept : Bool → Spelling → Spelling
kept true r = r
kept false r = never

-- what may follow a byte
abbrev pub behind : ℕ → Spelling → Spelling
behind b never = never
behind b empty = never
behind b (between low high) = kept (nat_le low b && nat_le b high) empty
behind b (both r s) = merged (joined (behind b r) s) (kept (takes_none r) (behind b s))
behind b (either r s) = merged (behind b r) (behind b s)
behind b (many r) = joined (behind b r) (many r)

-- what may follow a text
abbrev pub behind_all : Text → Spelling → Spelling
behind_all [] r = r
behind_all (b ∷ t) r = behind_all t (behind b r)

-- the first side of a true `&&` is true
pub and-left : (a b : Bool) → (a && b) ≡ true → a ≡ true
and-left true b e = refl
and-left false b e = e

-- and so is the second
pub and-right : (a b : Bool) → (a && b) ≡ true → b ≡ true
and-right true b e = e
and-right false b e = absurd (cc)

-- `&&` of two that are true is true
pub and-both : (a b : Bool) → a ≡ true → b ≡ true → (a && b) ≡ true
and-both true b e f = f
and-both false b e f = absurd (cc)

or-either : (a b : Bool) → (a || b) ≡ true → (a ≡ true) ⊎ (b ≡ true)
or-either true b e = inl refl
or-either false b e = inr e

none-left : (a b : Text) → [] ≡ a ++ b → (a ≡ []) × (b ≡ [])
none-left [] b e = (refl, sym e)
none-left (x ∷ a) b e = absurd (cc)

-- an expression that takes the empty text stands for it
pub none-in : (r : Spelling) → takes_none r ≡ true → Fits r []
none-in never e = absurd (cc)
none-in empty e = refl
none-in (between low high) e = absurd (cc)
none-in (both r s) e = ([], [], refl, none-in r (and-left _ _ e), none-in s (and-right _ _ e))
none-in (either r s) e = elim (or-either (takes_none r) (takes_none s) e) [
  | inl a ↦ inl (none-in r a)
  | inr b ↦ inr (none-in s b)
]
none-in (many r) e = ([], refl, tt)

or-left : (a b : Bool) → a ≡ true → (a || b) ≡ true
or-left true b e = refl
or-left false b e = absurd (cc)

or-right : (a b : Bool) → b ≡ true → (a || b) ≡ true
or-right true b e = refl
or-right false b e = e

-- and one that stands for the empty text takes it
pub none-out : (r : Spelling) → Fits r [] → takes_none r ≡ true
none-out never f = absurd f
none-out empty f = refl
none-out (between low high) (b, e, l, h) = absurd (cc)
none-out (both r s) (front, back, e, f, g) =
    let p = none-left front back e in
    and-both _ _ (none-out r (subst (Fits r) p.0 f)) (none-out s (subst (Fits s) p.1 g))
none-out (either r s) (inl f) = or-left _ _ (none-out r f)
none-out (either r s) (inr f) = or-right _ _ (none-out s f)
none-out (many r) f = refl

-- what two expressions stand for, one after the other, they stand for joined
pub joined-in : (r s : Spelling) (t : Text) → Fits (both r s) t → Fits (joined r s) t
joined-in never s t (front, back, e, f, g) = absurd f
joined-in empty s t (front, back, e, f, g) =
    let is : back ≡ t = sym (e ∙ ap (λ x. x ++ back) f) in
    subst (Fits s) is g
joined-in _ s t f = f

-- and the other way round
pub joined-out : (r s : Spelling) (t : Text) → Fits (joined r s) t → Fits (both r s) t
joined-out never s t f = absurd f
joined-out empty s t f = ([], t, refl, refl, f)
joined-out _ s t f = f

-- what either of two stands for, they stand for merged
pub merged-in : (r s : Spelling) (t : Text) → Fits (either r s) t → Fits (merged r s) t
merged-in never s t (inl f) = absurd f
merged-in never s t (inr f) = f
merged-in _ never t (inl f) = f
merged-in _ never t (inr f) = absurd f
merged-in _ _ t f = f

-- and the other way round
pub merged-out : (r s : Spelling) (t : Text) → Fits (merged r s) t → Fits (either r s) t
merged-out never s t f = inr f
merged-out _ never t f = inl f
merged-out _ _ t f = f

kept-in : (b : Bool) (r : Spelling) (t : Text) → b ≡ true → Fits r t → Fits (kept b r) t
kept-in true r t e f = f
kept-in false r t e f = absurd (cc)

kept-out : (b : Bool) (r : Spelling) (t : Text) → Fits (kept b r) t → (b ≡ true) × Fits r t
kept-out true r t f = (refl, f)
kept-out false r t f = absurd f

in-range : (low high b : ℕ) (t : Text) → ((nat_le low b && nat_le b high) ≡ true) × (t ≡ [])
    → Fits (between low high) (b ∷ t)
in-range low high b t (e, f) =
    (b, ap (λ x. b ∷ x) f, leb-true _ _ (and-left _ _ e), leb-true _ _ (and-right _ _ e))

in-both : (r s : Spelling) (b : ℕ) (t : Text) → ((u : Text) → Fits (behind b r) u → Fits r (b ∷ u))
    → (Fits (behind b s) t → Fits s (b ∷ t))
    → Fits (joined (behind b r) s) t ⊎ Fits (kept (takes_none r) (behind b s)) t
    → Fits (both r s) (b ∷ t)
in-both r s b t first second (inl f) =
    let g = joined-out (behind b r) s t f in
    (b ∷ g.0, g.1, ap (λ x. b ∷ x) g.2, first g.0 g.3, g.4)
in-both r s b t first second (inr f) =
    let g = kept-out (takes_none r) (behind b s) t f in
    ([], b ∷ t, refl, none-in r g.0, second g.1)

in-many : (r : Spelling) (b : ℕ) (t : Text) → ((u : Text) → Fits (behind b r) u → Fits r (b ∷ u))
    → Fits (both (behind b r) (many r)) t → Fits (many r) (b ∷ t)
in-many r b t first (front, back, e, f, (pieces, is, each)) =
    ((b ∷ front) ∷ pieces, ap (λ x. b ∷ x) (e ∙ ap (λ x. front ++ x) is), (first front f, each))

-- what an expression stands for behind a byte, it stands for with the byte before it
pub behind-out : (r : Spelling) (b : ℕ) (t : Text) → Fits (behind b r) t → Fits r (b ∷ t)
behind-out never b t f = absurd f
behind-out empty b t f = absurd f
behind-out (between low high) b t f =
    in-range low high b t (kept-out (nat_le low b && nat_le b high) empty t f)
behind-out (both r s) b t f =
    in-both r s b t (behind-out r b) (behind-out s b t)
    (merged-out (joined (behind b r) s) (kept (takes_none r) (behind b s)) t f)
behind-out (either r s) b t f = elim (merged-out (behind b r) (behind b s) t f) [
  | inl g ↦ inl (behind-out r b t g)
  | inr g ↦ inr (behind-out s b t g)
]
behind-out (many r) b t f = in-many r b t (behind-out r b) (joined-out (behind b r) (many r) t f)

out-range : (low high b : ℕ) (t : Text) → Fits (between low high) (b ∷ t)
    → Fits (kept (nat_le low b && nat_le b high) empty) t
out-range low high b t (c, e, l, h) =
    let same : b ≡ c = cc in
    let none : t ≡ [] = cc in
    let from : nat_le low b ≡ true = rw same (le-leb _ _ l) in
    let to : nat_le b high ≡ true = rw same (le-leb _ _ h) in
    kept-in (nat_le low b && nat_le b high) empty t (and-both _ _ from to) none

out-both : (r s : Spelling) (b : ℕ) (t : Text) → ((u : Text) → Fits r (b ∷ u) → Fits (behind b r) u)
    → (Fits s (b ∷ t) → Fits (behind b s) t)
    → (front back : Text) → b ∷ t ≡ front ++ back → Fits r front → Fits s back
    → Fits (either (joined (behind b r) s) (kept (takes_none r) (behind b s))) t
out-both r s b t first second [] back e f g =
    inr (kept-in _ (behind b s) t (none-out r f) (second (subst (Fits s) (sym e) g)))
out-both r s b t first second (c ∷ front) back e f g =
    let same : c ≡ b = cc in
    let rest : t ≡ front ++ back = cc in
    let fits : Fits r (b ∷ front) = subst (λ x. Fits r (x ∷ front)) same f in
    inl (joined-in (behind b r) s t (front, back, rest, first front fits, g))

out-many : (r : Spelling) (b : ℕ) (t : Text) → ((u : Text) → Fits r (b ∷ u) → Fits (behind b r) u)
    → (pieces : List Text) → b ∷ t ≡ concat pieces → EachText (Fits r) pieces
    → Fits (both (behind b r) (many r)) t
out-many r b t first [] e each = absurd (cc)
out-many r b t first ([] ∷ pieces) e (f, each) = out-many r b t first pieces e each
out-many r b t first ((c ∷ front) ∷ pieces) e (f, each) =
    let same : c ≡ b = cc in
    let rest : t ≡ front ++ concat pieces = cc in
    let fits : Fits r (b ∷ front) = subst (λ x. Fits r (x ∷ front)) same f in
    (front, concat pieces, rest, first front fits, (pieces, refl, each))

-- and the other way round
pub behind-in : (r : Spelling) (b : ℕ) (t : Text) → Fits r (b ∷ t) → Fits (behind b r) t
behind-in never b t f = absurd f
behind-in empty b t f = absurd (cc)
behind-in (between low high) b t f = out-range low high b t f
behind-in (both r s) b t (front, back, e, f, g) =
    merged-in (joined (behind b r) s) (kept (takes_none r) (behind b s)) t
    (out-both r s b t (behind-in r b) (behind-in s b t) front back e f g)
behind-in (either r s) b t (inl f) = merged-in (behind b r) (behind b s) t (inl (behind-in r b t f))
behind-in (either r s) b t (inr f) = merged-in (behind b r) (behind b s) t (inr (behind-in s b t f))
behind-in (many r) b t (pieces, e, each) =
    joined-in (behind b r) (many r) t (out-many r b t (behind-in r b) pieces e each)

-- ---- bytes that a regular expression doesn't tell apart

-- whether two tests have one answer
abbrev pub same_truth : Bool → Bool → Bool
same_truth true b = b
same_truth false b = not b

-- tests with one answer are equal
pub same-truth-is : (a b : Bool) → same_truth a b ≡ true → a ≡ b
same-truth-is true b e = sym e
same-truth-is false true e = absurd (cc)
same-truth-is false false e = refl

-- whether an expression takes two bytes alike
abbrev pub is_alike : ℕ → ℕ → Spelling → Bool
is_alike b c never = true
is_alike b c empty = true
is_alike b c (between low high) =
    same_truth (nat_le low b && nat_le b high) (nat_le low c && nat_le c high)
is_alike b c (both r s) = is_alike b c r && is_alike b c s
is_alike b c (either r s) = is_alike b c r && is_alike b c s
is_alike b c (many r) = is_alike b c r

-- behind bytes that are taken alike, the same is left
pub behind-alike : (b c : ℕ) (r : Spelling) → is_alike b c r ≡ true → behind b r ≡ behind c r
behind-alike b c never e = refl
behind-alike b c empty e = refl
behind-alike b c (between low high) e =
    ap (λ x. kept x empty)
    (same-truth-is (nat_le low b && nat_le b high) (nat_le low c && nat_le c high) e)
behind-alike b c (both r s) e =
    let first : is_alike b c r ≡ true = and-left _ _ e in
    let second : is_alike b c s ≡ true = and-right _ _ e in
    rw (behind-alike b c r first, behind-alike b c s second) refl
behind-alike b c (either r s) e =
    let first : is_alike b c r ≡ true = and-left _ _ e in
    let second : is_alike b c s ≡ true = and-right _ _ e in
    rw (behind-alike b c r first, behind-alike b c s second) refl
behind-alike b c (many r) e = rw (behind-alike b c r e) refl

joined-alike : (b c : ℕ) (r s : Spelling) → is_alike b c r ≡ true → is_alike b c s ≡ true
    → is_alike b c (joined r s) ≡ true
joined-alike b c never s e f = refl
joined-alike b c empty s e f = f
joined-alike b c _ s e f = and-both _ _ e f

merged-alike : (b c : ℕ) (r s : Spelling) → is_alike b c r ≡ true → is_alike b c s ≡ true
    → is_alike b c (merged r s) ≡ true
merged-alike b c never s e f = f
merged-alike b c _ never e f = e
merged-alike b c _ _ e f = and-both _ _ e f

kept-alike : (b c : ℕ) (x : Bool) (r : Spelling) → is_alike b c r ≡ true
    → is_alike b c (kept x r) ≡ true
kept-alike b c true r e = e
kept-alike b c false r e = refl

-- and they are taken alike behind a byte
pub alike-behind : (b c x : ℕ) (r : Spelling) → is_alike b c r ≡ true
    → is_alike b c (behind x r) ≡ true
alike-behind b c x never e = refl
alike-behind b c x empty e = refl
alike-behind b c x (between low high) e = kept-alike b c (nat_le low x && nat_le x high) empty refl
alike-behind b c x (both r s) e =
    merged-alike b c (joined (behind x r) s) (kept (takes_none r) (behind x s))
    (joined-alike b c (behind x r) s (alike-behind b c x r (and-left _ _ e)) (and-right _ _ e))
    (kept-alike b c (takes_none r) (behind x s) (alike-behind b c x s (and-right _ _ e)))
alike-behind b c x (either r s) e =
    merged-alike b c (behind x r) (behind x s) (alike-behind b c x r (and-left _ _ e))
    (alike-behind b c x s (and-right _ _ e))
alike-behind b c x (many r) e = joined-alike b c (behind x r) (many r) (alike-behind b c x r e) e

-- and behind a text
pub alike-behind-all : (b c : ℕ) (t : Text) (r : Spelling) → is_alike b c r ≡ true
    → is_alike b c (behind_all t r) ≡ true
alike-behind-all b c [] r e = e
alike-behind-all b c (x ∷ t) r e = alike-behind-all b c t (behind x r) (alike-behind b c x r e)
