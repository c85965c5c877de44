-- What stands after every call, whether its source tells its tokens or not.
--
-- The count of faults, the causes of failures, the origin and the steadiness of a source go through
-- a row of calls: `kept-then` puts two calls together, and `kept-err` hands a refusal on.
use Rattle.std.proofs.Common.{◌≡◌, ◌≤◌, true, Result, Ok, Err, arith, refl, ◌∙◌}
use Rattle.ir_lexer.specs.Source.{Source}
use Rattle.grammar.specs.declared.stop.SyntaxStop.{SyntaxStop}
use Rattle.grammar.specs.declared.stop.SyntaxStop.TheVariants.{At, Failed, OutOfMemory}
use Rattle.grammar.specs.Ran.{Kept, CallHasCause, GoesOn}

-- a call that took nothing
pub kept-same : {A : Type 0} (a : A) (s : Source) → Kept s (Ok a) s
kept-same a s =
    record { faults = omega arith; cause = tt; origin = refl; steady = λ h. h; goes_on = refl }

-- the cause of the second call is one of both
cause-then : {B : Type 0} (r : Result B SyntaxStop) (s0 s1 s2 : Source) → s0.faults ≤ s1.faults
    → (s0.steady ≡ true → s1.steady ≡ true) → CallHasCause r s1 s2 → CallHasCause r s0 s2
cause-then (Ok x) s0 s1 s2 le st h = tt
cause-then (Err (At place c)) s0 s1 s2 le st h = tt
cause-then (Err Failed) s0 s1 s2 le st h = (let rose = h.0 in omega arith, λ e. h.1 (st e))
cause-then (Err OutOfMemory) s0 s1 s2 le st h = tt

-- whether a step answered an error goes through both
goes-on-then : {B : Type 0} (r : Result B SyntaxStop) (s0 s1 s2 : Source) → s1.stopped ≡ s0.stopped
    → GoesOn r s1 s2 → GoesOn r s0 s2
goes-on-then (Ok x) s0 s1 s2 e h = h ∙ e
goes-on-then (Err (At place c)) s0 s1 s2 e h = h ∙ e
goes-on-then (Err Failed) s0 s1 s2 e h = tt
goes-on-then (Err OutOfMemory) s0 s1 s2 e h = tt

-- a call that went well, and then another
pub kept-then : {A B : Type 0} {a : A} {r : Result B SyntaxStop} {s0 s1 s2 : Source}
    → Kept s0 (Ok a) s1 → Kept s1 r s2 → Kept s0 r s2
kept-then {r = r} {s0 = s0} {s1 = s1} {s2 = s2} x y = record {
  faults = let u = x.faults in let v = y.faults in omega arith;
  cause = cause-then r s0 s1 s2 x.faults x.steady y.cause;
  origin = y.origin ∙ x.origin;
  steady = λ h. y.steady (x.steady h);
  goes_on = goes-on-then r s0 s1 s2 x.goes_on y.goes_on;
}

-- a cause does not depend on the tree
cause-err : (A B : Type 0) (e : SyntaxStop) (s0 s1 : Source) → CallHasCause {A = A} (Err e) s0 s1
    → CallHasCause {A = B} (Err e) s0 s1
cause-err A B (At place c) s0 s1 h = tt
cause-err A B Failed s0 s1 h = h
cause-err A B OutOfMemory s0 s1 h = tt

-- nor does whether a step answered an error
goes-on-err : (A B : Type 0) (e : SyntaxStop) (s0 s1 : Source) → GoesOn {A = A} (Err e) s0 s1
    → GoesOn {A = B} (Err e) s0 s1
goes-on-err A B (At place c) s0 s1 h = h
goes-on-err A B Failed s0 s1 h = tt
goes-on-err A B OutOfMemory s0 s1 h = tt

-- a refusal that is handed on
pub kept-err : {A B : Type 0} {e : SyntaxStop} {s0 s1 : Source} → Kept {A = A} s0 (Err e) s1
    → Kept {A = B} s0 (Err e) s1
kept-err {A = A} {B = B} {e = e} {s0 = s0} {s1 = s1} x = record {
  faults = x.faults;
  cause = cause-err A B e s0 s1 x.cause;
  origin = x.origin;
  steady = x.steady;
  goes_on = goes-on-err A B e s0 s1 x.goes_on;
}

-- the same, with another tree
pub kept-ok : {A B : Type 0} {a : A} (b : B) {s s' : Source} → Kept s (Ok a) s' → Kept s (Ok b) s'
kept-ok b x =
    record {
      faults = x.faults;
      cause = tt;
      origin = x.origin;
      steady = x.steady;
      goes_on = x.goes_on;
    }
