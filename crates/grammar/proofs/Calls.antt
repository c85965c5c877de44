-- What one step of a call did, and what two did together, in the words of readers.
--
-- A call's step takes a token, refuses it, or fails; `Ran` says what the call did of a reader. These
-- lemmas speak of readers alone; `Runs` says the same of the pieces of a grammar.
use Rattle.std.proofs.Common.{◌≡◌, ◌≢◌, ℕ, ◌+◌, ◌≤◌, ◌<◌, Bool, true, false, [], ◌∷◌, ◌++◌, Some, Result, Ok, Err, OnOk, arith, refl, sym, ◌∙◌, ap, append_assoc}
use Rattle.ir_lexer.specs.declared.class.Class.TheVariants as class
use Rattle.ir_lexer.specs.declared.source.TokenStop.{TokenStop}
use Rattle.ir_lexer.specs.declared.source.TokenStop.TheVariants as source
use Rattle.ir_lexer.specs.Source.{Source, IsInOrder, Advances}
use Rattle.ir_lexer.specs.Tokens.{Token}
use Rattle.grammar.specs.declared.stop.SyntaxStop.{SyntaxStop}
use Rattle.grammar.specs.declared.stop.SyntaxStop.TheVariants.{At, Failed, OutOfMemory}
use Rattle.grammar.specs.Grammar.{Tokens, Parser, done, and_then, ◌>>=◌, pure, read_tok}
use Rattle.grammar.specs.Ran.{GoneOver, HasRead, Went, Ran, CallHasCause, GoesOn, handed_on, code_by_class}
use Rattle.grammar.proofs.Gone.{gone-none, gone-one, gone-then}
use Rattle.grammar.proofs.Kept.{kept-same, kept-then, kept-err}

-- ---- the same on other readers

-- a reader that does the same on the tokens gone over answers the same
pub went-as : {A : Type 0} (p q : Parser A) {s s' : Source} (r : Result A SyntaxStop)
    → ((front : Tokens) → GoneOver s front s' → (rest : Tokens)
    → q (front ++ s'.now ∷ rest) ≡ p (front ++ s'.now ∷ rest))
    → Went p s r s' → Went q s r s'
went-as p q (Ok a) same x = record {
  front = x.front;
  gone = x.gone;
  reads = λ rest. same x.front x.gone rest ∙ x.reads rest;
}
went-as p q (Err (At place c)) same x = record {
  front = x.front;
  gone = x.gone;
  deep = x.deep;
  place_is = x.place_is;
  code_is = x.code_is;
  stops = λ rest. same x.front x.gone rest ∙ x.stops rest;
}
went-as p q (Err Failed) same x = tt
went-as p q (Err OutOfMemory) same x = tt

-- ---- want of memory

-- want of memory before a step does what any reader does
pub memory : {A : Type 0} (k : ℕ) (p : Parser A) (s : Source) → Ran k p s (Err OutOfMemory) s
memory k p s =
    record {
      kept =
          record { faults = omega arith; cause = tt; origin = refl; steady = λ h. h; goes_on = tt };
      less = tt;
      went = tt;
    }

-- ---- one token

-- the present token fails the test and is refused, whether or not a value may begin with one that
-- passes
pub tok-refused : {A : Type 0} (deep : Bool) (test : Token → Bool) (f : Token → A) (s : Source)
    (e : SyntaxStop) → test s.now ≡ false → e ≡ At s.now.place (code_by_class s.now.class)
    → Ran 1 (read_tok deep test f) s (Err e) s
tok-refused deep test f s e h is = rw is (record {
  kept = record {
    faults = omega arith;
    cause = tt;
    origin = refl;
    steady = λ h. h;
    goes_on = refl;
  };
  less = tt;
  went = record {
    front = [];
    gone = gone-none s;
    deep = false;
    place_is = refl;
    code_is = refl;
    stops = λ rest. rw h refl;
  };
})

-- the present token passes the test and is taken
pub tok-taken : {A : Type 0} (test : Token → Bool) (f : Token → A) (s s' : Source) (u : Unit {0})
    → test s.now ≡ true → IsInOrder s → (s.later ≡ Some [] → s.now.class ≡ class.End)
    → s.now.class ≢ class.End → Advances s (Ok u) s'
    → Ran 1 (read_tok false test f) s (Ok (f s.now)) s'
tok-taken test f s s' u h order ends other a = record {
  kept = record {
    faults = a.faults;
    cause = tt;
    origin = a.origin;
    steady = a.steady;
    goes_on = a.goes_on;
  };
  less = let l : s'.left < s.left = (a.less other).0 in omega arith;
  went = record {
    front = s.now ∷ [];
    gone = gone-one order ends other a;
    reads = λ rest. rw h refl;
  };
}

-- a step that failed has its cause
failed-cause : (A : Type 0) (s s' : Source) (x : TokenStop) → Advances s (Err x) s'
    → CallHasCause {A = A} (Err (handed_on x)) s s'
failed-cause A s s' source.Failed a = a.cause
failed-cause A s s' source.OutOfMemory a = tt

failed-goes-on : (A : Type 0) (s s' : Source) (x : TokenStop)
    → GoesOn {A = A} (Err (handed_on x)) s s'
failed-goes-on A s s' source.Failed = tt
failed-goes-on A s s' source.OutOfMemory = tt

-- and says nothing of the tokens
failed-went : {A : Type 0} (p : Parser A) (s s' : Source) (x : TokenStop)
    → Went p s (Err (handed_on x)) s'
failed-went p s s' source.Failed = tt
failed-went p s s' source.OutOfMemory = tt

-- a step that failed
pub failed-with : {A : Type 0} (k : ℕ) (p : Parser A) (s s' : Source) (x : TokenStop)
    → Advances s (Err x) s' → Ran k p s (Err (handed_on x)) s'
failed-with {A = A} k p s s' x a = record {
  kept = record {
    faults = a.faults;
    cause = failed-cause A s s' x a;
    origin = a.origin;
    steady = a.steady;
    goes_on = failed-goes-on A s s' x;
  };
  less = tt;
  went = failed-went p s s' x;
}

-- ---- steps

-- the reader of two steps, on tokens of which the first reads its part
then-is : {A B : Type 0} (p : Parser A) (f : A → Parser B) (a : A) (s1 s2 : Source)
    (front back : Tokens) (rest : Tokens)
    → ((more : Tokens) → p (front ++ s1.now ∷ more) ≡ done a (s1.now ∷ more)) → GoneOver s1 back s2
    → and_then (p ((front ++ back) ++ s2.now ∷ rest)) f ≡ f a (back ++ s2.now ∷ rest)
then-is p f a s1 s2 front back rest reads y =
    let next = y.begins rest in
    let first = append_assoc front back (s2.now ∷ rest) ∙ ap (λ w. front ++ w) next.1 in
    ap (λ w. and_then (p w) f) first
    ∙ ap (λ o. and_then o f) (reads next.0)
    ∙ ap (f a) (sym next.1)

-- what the second step answers, both do
pub went-then : {A B : Type 0} (p : Parser A) (f : A → Parser B) (a : A) (s0 s1 s2 : Source)
    (r : Result B SyntaxStop) → HasRead p s0 a s1 → Went (f a) s1 r s2 → Went (p >>= f) s0 r s2
went-then p f a s0 s1 s2 (Ok b) x y = record {
  front = x.front ++ y.front;
  gone = gone-then x.front y.front x.gone y.gone;
  reads = λ rest.
      then-is p f a s1 s2 x.front y.front rest x.reads y.gone ∙ y.reads rest;
}
went-then p f a s0 s1 s2 (Err (At place c)) x y = record {
  front = x.front ++ y.front;
  gone = gone-then x.front y.front x.gone y.gone;
  deep = y.deep;
  place_is = y.place_is;
  code_is = y.code_is;
  stops = λ rest.
      then-is p f a s1 s2 x.front y.front rest x.reads y.gone ∙ y.stops rest;
}
went-then p f a s0 s1 s2 (Err Failed) x y = tt
went-then p f a s0 s1 s2 (Err OutOfMemory) x y = tt

-- what two steps took together
less-then : {B : Type 0} (r : Result B SyntaxStop) (k m n a b c : ℕ) → n ≤ k + m → k + b ≤ a
    → OnOk r (m + c ≤ b) → OnOk r (n + c ≤ a)
less-then (Ok x) k m n a b c few p q = omega arith
less-then (Err e) k m n a b c few p q = tt

-- a step, and then the rest
pub bind-ok : {A B : Type 0} (k m n : ℕ) (p : Parser A) (f : A → Parser B) (a : A)
    (s0 s1 s2 : Source) (r : Result B SyntaxStop)
    → n ≤ k + m → Ran k p s0 (Ok a) s1 → Ran m (f a) s1 r s2 → Ran n (p >>= f) s0 r s2
bind-ok k m n p f a s0 s1 s2 r few x y = record {
  kept = kept-then x.kept y.kept;
  less = less-then r k m n s0.left s1.left s2.left few x.less y.less;
  went = went-then p f a s0 s1 s2 r x.went y.went;
}

-- what the reader of a part refuses, the reader of the whole does
pub err-went : {A B : Type 0} (p : Parser A) (k : A → Parser B) (e : SyntaxStop) (s s' : Source)
    → Went p s (Err e) s' → Went (p >>= k) s (Err e) s'
err-went p k (At place c) s s' x = record {
  front = x.front;
  gone = x.gone;
  deep = x.deep;
  place_is = x.place_is;
  code_is = x.code_is;
  stops = λ rest. ap (λ o. and_then o k) (x.stops rest);
}
err-went p k Failed s s' x = tt
err-went p k OutOfMemory s s' x = tt

-- a step that did not go well
pub bind-err : {A B : Type 0} (k n : ℕ) (p : Parser A) (f : A → Parser B) (e : SyntaxStop)
    (s0 s1 : Source)
    → Ran k p s0 (Err e) s1 → Ran n (p >>= f) s0 (Err e) s1
bind-err k n p f e s0 s1 x = record {
  kept = kept-err x.kept;
  less = tt;
  went = err-went p f e s0 s1 x.went;
}

-- no step
pub pure-ran : {A : Type 0} (a : A) (s : Source) → Ran 0 (pure a) s (Ok a) s
pure-ran a s =
    record {
      kept = kept-same a s;
      less = omega arith;
      went = record { front = []; gone = gone-none s; reads = λ rest. refl };
    }
