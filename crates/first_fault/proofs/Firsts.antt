-- The first of faults, as they are gathered: what is first of two lots of faults is the earlier of
-- what is first of each.
use Rattle.std.proofs.Common.{◌≡◌, ◌≤◌, ◌⊎◌, inl, inr, Bool, true, false, ◌&&◌, ◌||◌, ◌==◌, nat_lt, refl, sym, ◌∙◌, subst, arith, if◌then◌else◌}
use Rattle.std.proofs.lemmas.Bool.{cases_lt, eqb-true}
use Rattle.std.proofs.lemmas.Bool.Decides.{nat_tests}
use Rattle.std.specs.declared.option.Option.{Option}
use Rattle.std.specs.declared.option.Option.TheVariants.{Some, None}
use Rattle.first_fault.specs.declared.fault.Fault.{Fault}
use Rattle.first_fault.specs.Firsts.{comes_before, earlier_of, NoLater, IsFirst}

-- what is tested to come before comes no later
comes_before-true : (a b : Fault) → comes_before a b ≡ true → NoLater a b
comes_before-true a b e = go (nat_lt a.place b.place) (a.place == b.place) refl refl e
  where
    go : (less same : Bool) → nat_lt a.place b.place ≡ less → (a.place == b.place) ≡ same
        → (less || (same && nat_lt a.code b.code)) ≡ true → NoLater a b
    go true same l s e = inl (grind (arith, nat_tests))
    go false true l s e = inr (eqb-true a.place b.place s, grind (arith, nat_tests))
    go false false l s e = absurd (cc)

-- of what doesn't come before, the other comes no later
comes_before-false : (a b : Fault) → comes_before a b ≡ false → NoLater b a
comes_before-false a b e = elim (cases_lt b.place a.place) [
  | inl less ↦ inl less
  | inr le ↦ go (nat_lt a.place b.place) (a.place == b.place) refl refl le e
]
  where
    go : (less same : Bool) → nat_lt a.place b.place ≡ less → (a.place == b.place) ≡ same
        → a.place ≤ b.place
        → (less || (same && nat_lt a.code b.code)) ≡ false → NoLater b a
    go true same l s le e = absurd (cc)
    go false true l s le e = inr (sym (eqb-true a.place b.place s), grind (arith, nat_tests))
    go false false l s le e = absurd (grind (arith, nat_tests))

-- what comes no later than something comes no later than what is behind that
NoLater-trans : (f g h : Fault) → NoLater f g → NoLater g h → NoLater f h
NoLater-trans f g h (inl x) (inl y) = inl (omega arith)
NoLater-trans f g h (inl x) (inr y) = let e = y.0 in inl (omega arith)
NoLater-trans f g h (inr x) (inl y) = let e = x.0 in inl (omega arith)
NoLater-trans f g h (inr x) (inr y) = let p = x.1 in let q = y.1 in inr (x.0 ∙ y.0, omega arith)

-- a fault comes no later than itself
NoLater-refl : (f : Fault) → NoLater f f
NoLater-refl f = inr (refl, omega arith)

-- neither of two faults comes later: they are at one place, by one rule
NoLater-both : (f g : Fault) → NoLater f g → NoLater g f
    → (f.place ≡ g.place) × (f.code ≡ g.code)
NoLater-both f g (inl x) (inl y) = absurd (omega arith)
NoLater-both f g (inl x) (inr y) = let e = y.0 in absurd (omega arith)
NoLater-both f g (inr x) (inl y) = let e = x.0 in absurd (omega arith)
NoLater-both f g (inr x) (inr y) = let p = x.1 in let q = y.1 in (x.0, omega arith)

-- the same faults have the same first one
pub first-same : (P Q : Fault → Type 0) (a : Option Fault)
    → ((f : Fault) → P f → Q f) → ((f : Fault) → Q f → P f) → IsFirst P a → IsFirst Q a
first-same P Q None to back x = λ f q. x f (back f q)
first-same P Q (Some f) to back x = (to f x.0, λ g q. x.1 g (back g q))

-- two firsts of the same faults are at one place, by one rule
pub first-once : (P : Fault → Type 0) (f g : Fault) → IsFirst P (Some f) → IsFirst P (Some g)
    → (f.place ≡ g.place) × (f.code ≡ g.code)
first-once P f g x y = NoLater-both f g (x.1 g y.0) (y.1 f x.0)

-- the earlier of two firsts is the first of both
pub first-either : (P Q : Fault → Type 0) (a b : Option Fault) → IsFirst P a → IsFirst Q b
    → IsFirst (λ f. P f ⊎ Q f) (earlier_of a b)
first-either P Q None None x y = λ f z. elim z [ inl p ↦ x f p | inr q ↦ y f q ]
first-either P Q None (Some b) x y =
    (inr y.0, λ g z. elim z as (λ _. NoLater b g) [ inl p ↦ absurd (x g p) | inr q ↦ y.1 g q ])
first-either P Q (Some a) None x y =
    (inl x.0, λ g z. elim z as (λ _. NoLater a g) [ inl p ↦ x.1 g p | inr q ↦ absurd (y g q) ])
first-either P Q (Some a) (Some b) x y = go (comes_before b a) refl
  where
    go : (c : Bool) → comes_before b a ≡ c
        → IsFirst (λ f. P f ⊎ Q f) (if c then Some b else Some a)
    go true e = (
      inr y.0,
      λ g z. elim z as (λ _. NoLater b g) [
        | inl p ↦ NoLater-trans b a g (comes_before-true b a e) (x.1 g p)
        | inr q ↦ y.1 g q
      ],
    )
    go false e = (
      inl x.0,
      λ g z. elim z as (λ _. NoLater a g) [
        | inl p ↦ x.1 g p
        | inr q ↦ NoLater-trans a b g (comes_before-false b a e) (y.1 g q)
      ],
    )

-- the first of one fault, or of none, is itself
pub first-one : (a : Option Fault) → IsFirst (λ f. a ≡ Some f) a
first-one None = λ f e. absurd (cc)
first-one (Some a) =
    (refl, λ g e. let same : a ≡ g = cc in subst (NoLater a) same (NoLater-refl a))

-- where the second of two faults is missing, the first comes first
pub earlier_of-right-none : (a : Option Fault) → earlier_of a None ≡ a
earlier_of-right-none None = refl
earlier_of-right-none (Some a) = refl

-- an earlier one that is none comes of none
pub earlier_of-both-none : (a b : Option Fault) → earlier_of a b ≡ None → (a ≡ None) × (b ≡ None)
earlier_of-both-none None b e = (refl, e)
earlier_of-both-none (Some a) None e = absurd (cc)
earlier_of-both-none (Some a) (Some b) e = absurd (go (comes_before b a) e)
  where
    go : (c : Bool) → (if c then Some b else Some a) ≡ None → ⊥
    go true e = cc
    go false e = cc
