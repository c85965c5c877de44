-- The marks of names, of types and of attributes, part by part.
use Rattle.std.proofs.Common.{◌≡◌, ◌≢◌, ℕ, zero, suc, ◌+◌, ◌<◌, ◌≤◌, Bool, true, false, cond, List, [], ◌∷◌, ◌++◌, length, map, drop, get_or, refl, ap, arith}
use Rattle.std.proofs.Math.ListN.{drop_of_length-le}
use Rattle.ir_lexer.specs.declared.class.Class.{Class}
use Rattle.ir_lexer.specs.declared.class.Class.TheVariants as c
use Rattle.derived_printer.specs.ModuleMarks.{value_name, count_from, results_marks}
use Rattle.derived_printer.specs.Parts.{separator, from_place}
use Rattle.derived_printer.specs.ValueMarks.{Marks, a_sign, commas, unless_empty}
use Rattle.derived_printer.proofs.Loops.{next-at, from-end}

-- what is left out of nothing alone
pub some-marks : {A : Type 0} (xs : List A) (ms : Marks) → xs ≢ [] → unless_empty xs ms ≡ ms
some-marks [] ms some = absurd (some refl)
some-marks (x ∷ xs) ms some = refl

-- marks that are there where a test holds
pub where-true : (q : Bool) (ms : Marks) → q ≡ true → cond q ms [] ≡ ms
where-true q ms e = rw e refl

-- none where it doesn't
pub where-false : (q : Bool) (ms : Marks) → q ≡ false → cond q ms [] ≡ []
where-false q ms e = rw e refl

-- ---- numbers that follow one another

pub length-count_from : (n k : ℕ) → length (count_from n k) ≡ k
length-count_from n zero = refl
length-count_from n (suc k) = ap suc (length-count_from (suc n) k)

pub get_or-count_from : (n k i d : ℕ) → i < k → n + i ≡ get_or (count_from n k) i d
get_or-count_from n zero i d less = absurd (omega (arith, less))
get_or-count_from n (suc k) zero d less = omega arith
get_or-count_from n (suc k) (suc i) d less =
    let rest : suc n + i ≡ get_or (count_from (suc n) k) i d =
    get_or-count_from (suc n) k i d (omega (arith, less)) in
    omega (arith, rest)

-- results, where there are some
pub some-results : (n k : ℕ) → k ≢ 0
    → results_marks n k ≡ commas (map value_name (count_from n k)) ++ a_sign c.Equal
some-results n zero some = absurd (some refl)
some-results n (suc k) some = refl

-- the number at a place, and those behind it
pub next-number : (class : Class) (f : ℕ → Marks) (n k i j : ℕ) → i < k → j ≡ i + 1
    → from_place class i (map f (drop i (count_from n k)))
    ≡ separator class i ++ (f (n + i) ++ from_place class j (map f (drop j (count_from n k))))
next-number class f n k i j less next =
    next-at class f (count_from n k) i j (n + i) 0
    (let all = length-count_from n k in omega (arith, less, all)) next
    (get_or-count_from n k i 0 less)

-- no number is left
pub end-numbers : (class : Class) (f : ℕ → Marks) (n k i : ℕ) → k ≤ i
    → from_place class i (map f (drop i (count_from n k))) ≡ []
end-numbers class f n k i le =
    from-end class i _
    (ap (map f) (drop_of_length-le (count_from n k)
    (let all = length-count_from n k in omega (arith, le, all))))
