-- A value as a list of heads that gives it back, so that a table of values can be a model.
--
--   encoded vs           each head with the number of heads among its kids, in order
--   decoded_in n heads   the values that are written so, in n steps at most
--   decoded heads        the value that is written so
--   value_code           the code of a value, which is `encoded`
--
-- Inside: no public clause rests on this.
use Rattle.std.specs.Prelude.{◌≡◌, ℕ, zero, suc, ◌≤◌, List, [], ◌∷◌, ◌++◌}
use Rattle.std.specs.Prelude.{length, take, drop, refl}
use Rattle.std.proofs.Common.{ap, arith, length-append}
use Rattle.std.proofs.Math.Seq.{take-append_seam, drop-append_seam}
use Rattle.std.specs.Coded.{Coded, code_by, coded×, coded_ℕ, coded_list}
use Rattle.attr_value.specs.declared.head.Head.{Head}
use Rattle.attr_value.specs.declared.head.Head.TheVariants as h
use Rattle.attr_value.specs.contracts.head.Head.{the_row}
use Rattle.attr_value.specs.Values.{Value, Values, none, more, value}

-- each head with the number of heads among its kids, the kids before the values behind it
abbrev pub encoded : Values → List (Head × ℕ)
encoded none = []
encoded (more head kids rest) =
    (head, length (encoded kids)) ∷ (encoded kids ++ encoded rest)

-- the values that are written so, in so many steps at most
abbrev pub decoded_in : ℕ → List (Head × ℕ) → Values
decoded_in zero heads = none
decoded_in (suc steps) [] = none
decoded_in (suc steps) (first ∷ heads) =
    more first.0 (decoded_in steps (take first.1 heads)) (decoded_in steps (drop first.1 heads))

-- the values are read back in as many steps as there are heads
pub decoded_in-encoded : (steps : ℕ) (vs : Values) → length (encoded vs) ≤ steps
    → decoded_in steps (encoded vs) ≡ vs
decoded_in-encoded zero none within = refl
decoded_in-encoded (suc steps) none within = refl
decoded_in-encoded zero (more head kids rest) within = absurd (omega arith)
decoded_in-encoded (suc steps) (more head kids rest) within =
    let lengths = length-append (encoded kids) (encoded rest) in
    let first : decoded_in steps (encoded kids) ≡ kids =
    decoded_in-encoded steps kids (omega (arith, lengths)) in
    let second : decoded_in steps (encoded rest) ≡ rest =
    decoded_in-encoded steps rest (omega (arith, lengths)) in
    let front = take-append_seam (encoded kids) (encoded rest) in
    let back = drop-append_seam (encoded kids) (encoded rest) in
    cc

-- the value that is written so
abbrev pub decoded : List (Head × ℕ) → Value
decoded [] = value h.Unit none
decoded (first ∷ heads) = value first.0 (decoded_in (length heads) heads)

-- a value is read back
pub decoded-encoded : (v : Value) → decoded ((v.head, 0) ∷ encoded v.kids) ≡ v
decoded-encoded v = ap (value v.head) (decoded_in-encoded _ v.kids (omega arith))

-- a value as its head and those below it
abbrev pub value_code : Coded Value
value_code = code_by (List (Head × ℕ)) (coded_list (coded× the_row.coded coded_ℕ))
    (λ v. (v.head, 0) ∷ encoded v.kids) decoded decoded-encoded
