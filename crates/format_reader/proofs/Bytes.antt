-- Runs of bytes that pass a test, and the prefixes of a text.
use Rattle.std.proofs.Common.{◌≡◌, ℕ, zero, suc, ◌+◌, ◌≤◌, Bool, true, false, ◌&&◌, [], ◌∷◌, length, take, refl, ◌∙◌, arith, length-take, cond}
use Rattle.std.specs.Prelude.{nat_eq}
use Rattle.std.specs.List.{list_all, prefix_len}
use Rattle.std.proofs.Math.Dec.{eqb-zero-suc}
use Rattle.ir_lexer.specs.declared.class.Class.{Class}
use Rattle.ir_lexer.specs.Spelling.{Text}
use Rattle.grammar.proofs.Meet.{and-true}
use Rattle.format_reader.specs.Tokens.{IsFront}

-- ---- truth values

-- what leads to nothing where it is true is false
pub false-if : (b : Bool) → (b ≡ true → ⊥) → b ≡ false
false-if true never = absurd (never refl)
false-if false never = refl

-- ---- runs of bytes

-- a prefix whose bytes all pass is no longer than the run of bytes that do
pub within-run : (p : ℕ → Bool) (k : ℕ) (t : Text) → k ≤ length t → list_all p (take k t) ≡ true
    → k ≤ prefix_len p t
within-run p zero t le e = omega arith
within-run p (suc k) [] le e = absurd (omega arith)
within-run p (suc k) (x ∷ t) le e =
    let both = and-true (p x) (list_all p (take k t)) e in
    let more = within-run p k t (omega arith) both.1 in
    rw both.0 (omega arith)

-- and all bytes of a prefix of the run pass
pub run-passes : (p : ℕ → Bool) (k : ℕ) (t : Text) → k ≤ prefix_len p t
    → list_all p (take k t) ≡ true
run-passes p zero [] le = refl
run-passes p zero (x ∷ t) le = refl
run-passes p (suc k) [] le = absurd (omega arith)
run-passes p (suc k) (x ∷ t) le = go (p x) refl le (run-passes p k t)
  where
    go : (b : Bool) → p x ≡ b → suc k ≤ cond b (1 + prefix_len p t) 0
        → (k ≤ prefix_len p t → list_all p (take k t) ≡ true)
        → (b && list_all p (take k t)) ≡ true
    go true e le more = more (omega arith)
    go false e le more = absurd (omega arith)

-- all bytes pass exactly where the run is as long as the text
pub all-is : (p : ℕ → Bool) (t : Text) → nat_eq (prefix_len p t) (length t) ≡ list_all p t
all-is p [] = refl
all-is p (x ∷ t) = go (p x) refl (all-is p t)
  where
    next : (n m : ℕ) → nat_eq (1 + n) (suc m) ≡ nat_eq n m
    next n m = grind arith

    go : (b : Bool) → p x ≡ b → nat_eq (prefix_len p t) (length t) ≡ list_all p t
        → nat_eq (cond b (1 + prefix_len p t) 0) (suc (length t)) ≡ (b && list_all p t)
    go true e more = next (prefix_len p t) (length t) ∙ more
    go false e more = eqb-zero-suc (length t)

-- the token at the front of a text, as a class and a length
abbrev pub At : Text → Class × ℕ → Type 0
At t f = IsFront t f.0 f.1

-- a prefix has as many bytes as are asked for
pub taken-len : (k : ℕ) (t : Text) → k ≤ length t → length (take k t) ≡ k
taken-len k t le = omega (arith, length-take k t)
