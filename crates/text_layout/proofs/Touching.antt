-- Tokens that stand without a gap between them.
use Rattle.std.proofs.Common.{◌≡◌, ◌⊎◌, inl, inr, ℕ, zero, suc, ◌+◌, Bool, true, false, ◌&&◌, ◌||◌, not, [], ◌∷◌, ◌++◌, refl, if◌then◌else◌, Option, Some, None}
use Rattle.std.specs.List.{list_all}
use Rattle.ir_lexer.specs.declared.class.Class.{Class}
use Rattle.ir_lexer.specs.declared.class.Class.TheVariants as c
use Rattle.ir_lexer.specs.Signs.{space}
use Rattle.ir_lexer.specs.Spelling.{Text, Spells}
use Rattle.ir_lexer.specs.Written.{NoneLonger, IsGap, may_join, is_exponent, begins_sign}
use Rattle.ir_lexer.proofs.Apart.{apart-where, ends-longest}
use Rattle.ir_lexer.proofs.Machine.{classes, every}
use Rattle.ir_lexer.proofs.Texts.{three-apart}
use Rattle.text_layout.specs.declared.gap.Gap.{Gap}
use Rattle.text_layout.specs.declared.gap.Gap.TheVariants as gap
use Rattle.text_layout.specs.Apart.{may_run_together}
use Rattle.text_layout.specs.Lines.{Row, spaces, no_space_behind, no_space_before, no_space_between, is_colon, is_tight, stays_apart, plain_gap, gap_by, line_end}
use Rattle.text_layout.proofs.Gaps.{tight-dims}
use Rattle.text_layout.proofs.Single.{is-apart}

-- ---- the gap rules that put no space

-- the rules by classes alone
abbrev is_tight_class : Class → Class → Bool
is_tight_class a b =
    no_space_behind a || (no_space_before b
    || (no_space_between a b || (is_colon b && not (is_colon a))))

-- one of two tests that passes
pub or-cases : (a b : Bool) → (a || b) ≡ true → (a ≡ true) ⊎ (b ≡ true)
or-cases true b e = inl refl
or-cases false b e = inr e

abbrev joins_none : Class → Class → Bool
joins_none a b = not (is_tight_class a b) || (may_run_together a b || not (may_join a b))

-- but for the six pairs, spellings of such classes don't run together
joins-right : list_all (λ a. list_all (λ b. joins_none a b) classes) classes ≡ true
joins-right = refl

weaker : (p q r s x y : Bool) → (p || (q || (r || (x && (y && s))))) ≡ true
    → (p || (q || (r || (x && y)))) ≡ true
weaker true q r s x y e = refl
weaker false true r s x y e = refl
weaker false false true s x y e = refl
weaker false false false s true true e = refl
weaker false false false s true false e = e
weaker false false false s false y e = e

decided : (p q r : Bool) → (not p || (q || not r)) ≡ true → p ≡ true → q ≡ false → r ≡ false
decided true true r e f g = absurd (cc)
decided true false true e f g = absurd (cc)
decided true false false e f g = refl
decided false q r e f g = absurd (cc)

-- each rule that puts no space keeps all but the six pairs apart
pub tight-apart : (first a b : Class) (text : Text) → is_tight first a text b ≡ true
    → may_run_together a b ≡ false → may_join a b ≡ false
tight-apart first a b text e f =
    decided (is_tight_class a b) (may_run_together a b) (may_join a b)
    (every (λ y. joins_none a y)
    (every (λ x. list_all (λ y. joins_none x y) classes) joins-right a) b)
    (weaker (no_space_behind a) (no_space_before b) (no_space_between a b) _ (is_colon b)
    (not (is_colon a)) e) f

-- ---- the gap itself

-- two gaps make a gap
pub append-gap : (t u : Text) → IsGap t → IsGap u → IsGap (t ++ u)
append-gap [] u h k = k
append-gap (b ∷ t) u h k = (h.0, append-gap t u h.1 k)

spaces-blank : (n : ℕ) → IsGap (spaces n)
spaces-blank zero = tt
spaces-blank (suc n) = (refl, spaces-blank n)

plain-blank : (row : Row) (b : Class) → IsGap (plain_gap row b)
plain-blank row b = go (is_tight row.first row.last row.text b)
  where
    go : (tight : Bool) → IsGap (if tight then [] else space ∷ [])
    go true = tt
    go false = (refl, tt)

-- what stands before a token is a gap
pub gap-is-blank : (asked : Gap) (indent : ℕ) (row : Option Row) (b : Class) (y : Text)
    → IsGap (gap_by asked indent row b y)
gap-is-blank asked indent None b y = spaces-blank indent
gap-is-blank gap.Plain indent (Some row) b y = plain-blank row b
gap-is-blank gap.Space indent (Some row) b y = (refl, tt)
gap-is-blank gap.Empty indent (Some row) b y = go (stays_apart row.text y)
  where
    go : (apart : Bool) → IsGap (if apart then [] else plain_gap row b)
    go true = tt
    go false = plain-blank row b
gap-is-blank gap.Newline indent (Some row) b y = (refl, spaces-blank (indent + 2))

-- what ends a line is a gap
pub end-is-blank : (row : Option Row) → IsGap (line_end row)
end-is-blank None = tt
end-is-blank (Some row) = (refl, tt)

-- why no gap stands between two tokens
plain-empty : (row : Row) (b : Class) → plain_gap row b ≡ []
    → is_tight row.first row.last row.text b ≡ true
plain-empty row b e = go (is_tight row.first row.last row.text b) e
  where
    go : (tight : Bool) → (if tight then [] else space ∷ []) ≡ [] → tight ≡ true
    go true e = refl
    go false e = absurd (cc)

-- no gap stands between two tokens by their classes, or since their texts stay apart
pub empty-gap : (asked : Gap) (indent : ℕ) (row : Row) (b : Class) (y : Text)
    → gap_by asked indent (Some row) b y ≡ []
    → (is_tight row.first row.last row.text b ≡ true) ⊎ (stays_apart row.text y ≡ true)
empty-gap gap.Plain indent row b y e = inl (plain-empty row b e)
empty-gap gap.Space indent row b y e = absurd (cc)
empty-gap gap.Empty indent row b y e = go (stays_apart row.text y) e
  where
    go : (apart : Bool) → (if apart then [] else plain_gap row b) ≡ []
        → (is_tight row.first row.last row.text b ≡ true) ⊎ (apart ≡ true)
    go true e = inr refl
    go false e = inl (plain-empty row b e)
empty-gap gap.Newline indent row b y e = absurd (cc)

-- ---- two tokens without a gap

-- The first stays apart from the second and what follows, where the second does from that, and no
-- sign follows an exponent.
pub touching : (asked : Gap) (indent : ℕ) (row : Row) (b : Class) (y rest : Text)
    → Spells row.last row.text → Spells b y → gap_by asked indent (Some row) b y ≡ []
    → may_run_together row.last b ≡ false → NoneLonger y rest
    → (row.last ≡ c.Float → is_exponent y ≡ true → begins_sign rest ≡ true → ⊥)
    → NoneLonger row.text (y ++ rest)
touching asked indent row b y rest f g e not_six next sign =
    by-tight (is_tight row.first row.last row.text b) refl
  where
    tight : is_tight row.first row.last row.text b ≡ true → NoneLonger row.text (y ++ rest)
    tight t = ends-longest row.last row.text (y ++ rest) f
        (apart-where row.last b y rest (tight-apart row.first row.last b row.text t not_six) g)

    by-tight : (t : Bool) → is_tight row.first row.last row.text b ≡ t
        → NoneLonger row.text (y ++ rest)
    by-tight true t = tight t
    by-tight false t = elim (empty-gap asked indent row b y e) [
      | inl is ↦ tight is
      | inr apart ↦
          three-apart row.last b row.text y rest f g (tight-dims row.first row.last b row.text t)
          (is-apart row.last row.text y f apart) next sign
    ]

-- classes that put no space keep two spellings apart, but for the six pairs
pub tight-texts : (first a b : Class) (x y rest : Text) → Spells a x → Spells b y
    → is_tight first a x b ≡ true → may_run_together a b ≡ false → NoneLonger x (y ++ rest)
tight-texts first a b x y rest f g t not_six =
    ends-longest a x (y ++ rest) f (apart-where a b y rest (tight-apart first a b x t not_six) g)
