-- How the operands or results of an operation fall into segments, one for each entry.
--
--   FitsArity arity n            an entry of this arity may stand for n values
--   FitEach entries sizes        each size fits the entry at its place
--   is_single arity              the arity is that of exactly one value
--   needs_sizes entries          the sizes have to be given
--   Segments entries n given s   s is a list of sizes of n values in all
--   parts sizes xs               a list cut into parts of these sizes
use Rattle.std.specs.Prelude.{◌≡◌, ℕ, ◌≤◌, Bool, true, false, not, List, [], ◌∷◌, map, sum}
use Rattle.std.specs.Prelude.{count_by, nat_lt, ℤ, pos, take, drop}
use Rattle.std.specs.declared.option.Option.{Option}
use Rattle.std.specs.declared.option.Option.TheVariants.{Some}
use Rattle.dialect_defs.specs.declared.entry.Arity.{Arity}
use Rattle.dialect_defs.specs.declared.entry.Arity.TheVariants.{Single, Optional, Variadic}
use Rattle.dialect_defs.specs.declared.entry.Entry.{Entry}

-- a single entry stands for one value, an optional one for at most one, a variadic one for any
-- number
abbrev pub FitsArity : Arity → ℕ → Type 0
FitsArity Single n = n ≡ 1
FitsArity Optional n = n ≤ 1
FitsArity Variadic n = Unit {0}

-- there are as many sizes as entries, and each fits the entry at its place
abbrev pub FitEach : List Entry → List ℕ → Type 0
FitEach [] [] = Unit {0}
FitEach (entry ∷ entries) (n ∷ sizes) = FitsArity entry.arity n × FitEach entries sizes
FitEach [] (n ∷ sizes) = ⊥
FitEach (entry ∷ entries) [] = ⊥

-- the entry stands for exactly one value
abbrev pub is_single : Arity → Bool
is_single Single = true
is_single _ = false

-- two or more entries aren't single
abbrev pub needs_sizes : List Entry → Bool
needs_sizes entries = nat_lt 1 (count_by (λ entry. not (is_single entry.arity)) entries)

-- The sizes fit, and are n in all. Where they have to be given, they are the given ones; else what
-- is given doesn't matter.
pub record Segments (entries : List Entry) (n : ℕ) (given : Option (List ℤ)) (sizes : List ℕ)
    : Type 0 where
  pub fit : FitEach entries sizes
  pub total : sum sizes ≡ n
  pub as_given : needs_sizes entries ≡ true → given ≡ Some (map pos sizes)

-- a list cut into parts of these sizes
abbrev pub parts : {A : Type 0} → List ℕ → List A → List (List A)
parts [] xs = []
parts (n ∷ sizes) xs = take n xs ∷ parts sizes (drop n xs)
