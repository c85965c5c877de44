-- The faults of a list's items.
--
--   Among P xs f            f is a fault of one of xs
--   Behind P earlier xs f   f is a fault of one of xs, judged by those before it: the earlier ones,
--                           and those of xs in front of it
--   BehindBelow P e xs n f  the same of the first n of xs
use Rattle.std.specs.Prelude.{◌≡◌, ℕ, ◌<◌, List, ◌++◌, take, slice_get, Contains, length}
use Rattle.std.specs.declared.option.Option.TheVariants.{Some}
use Rattle.first_fault.specs.declared.fault.Fault.{Fault}

module _ {A : Type 0} where
  -- a fault of one of these things
  abbrev pub Among : (A → Fault → Type 0) → List A → Fault → Type 0
  Among P xs f = (x : A) × Contains xs x × P x f

  -- a fault of one of the first things, each behind those before it
  abbrev pub BehindBelow : (List A → A → Fault → Type 0) → List A → List A → ℕ → Fault → Type 0
  BehindBelow P earlier xs n f =
      (i : ℕ) × (i < n) × (x : A) × (slice_get xs i ≡ Some x) × P (earlier ++ take i xs) x f

  -- a fault of one of these things, each behind those before it
  abbrev pub Behind : (List A → A → Fault → Type 0) → List A → List A → Fault → Type 0
  Behind P earlier xs = BehindBelow P earlier xs (length xs)
