-- How what a function did is put together from what its calls did.
--
-- A function of a parser reads a piece by calls that read parts of it. Each lemma here goes one
-- step of a rule: from what the parts' calls did to what the call for the whole did. So the answer
-- of each exit of a function repeats the path through its rule:
--
--   both-first, both-second, both-ok   of two pieces: stopped in the first, in the second, or read
--   left, right                        of a choice, by the present token
--   made-ok, made-err                  of a piece that stands for something else
--   at-tok, at-refused                 a token, or one that is refused
--   took-token, took-refused, ..       one token, by the test and the step
--   exit                               what the exit of a `?` hands on
use Rattle.std.proofs.Common.{◌≡◌, ◌≢◌, ℕ, ◌+◌, ◌≤◌, Bool, true, false, ◌&&◌, ◌||◌, [], ◌∷◌, ◌++◌, Some, Result, Ok, Err, OnOk, if◌then◌else◌, arith, refl, ◌∙◌, ap}
use Rattle.std.specs.Result.{IsErr, IsErrAnd}
use Rattle.std.proofs.lemmas.Result.{err_from_is_err_and}
use Rattle.ir_lexer.specs.declared.class.Class.TheVariants as class
use Rattle.ir_lexer.specs.declared.source.TokenStop.{TokenStop}
use Rattle.ir_lexer.specs.declared.source.TokenStop.TheVariants as source
use Rattle.ir_lexer.specs.Source.{Source, IsInOrder, Advances}
use Rattle.ir_lexer.specs.Tokens.{Token}
use Rattle.grammar.specs.declared.stop.SyntaxStop.{SyntaxStop}
use Rattle.grammar.specs.declared.stop.SyntaxStop.TheVariants.{At, Failed, OutOfMemory}
use Rattle.grammar.specs.Looks.{Look, passes}
use Rattle.grammar.specs.Grammar.{Tokens, done, stop, and_then, pure, read_tok, G, ret, tok, both, alt, made, placed, nullable, starts}
use Rattle.grammar.specs.Ran.{Went, handed_on, code_by_class, Env, reads_in, size, Took, Reads, RefusesBy}
use Rattle.grammar.proofs.Gone.{gone-none, head-is, place-is}
use Rattle.grammar.proofs.Calls.{went-as, memory, tok-refused, tok-taken, failed-with, went-then, bind-ok, err-went, bind-err, pure-ran}
use Rattle.grammar.proofs.Kept.{kept-err, kept-ok}

-- ---- exits

-- what the exit of a `?` answers
pub exit : {X : Type 0} {Sem : X → Type 0} {A : Type 0} {e : Env X Sem} {g : G X Sem A}
    {s s' : Source} {x : SyntaxStop} {r : Result A SyntaxStop}
    → IsErr r × IsErrAnd r (λ e. e ≡ x) → Reads e g s (Err x) s' → Reads e g s r s'
exit {r = r} h q = let e = err_from_is_err_and r h.1 in rw (e.1, e.2) q

-- what the exit of a `?` answers, of one token
pub took-exit : {A : Type 0} {test : Token → Bool} {f : Token → A} {s s' : Source} {x : SyntaxStop}
    {r : Result A SyntaxStop}
    → IsErr r × IsErrAnd r (λ e. e ≡ x) → Took test f s (Err x) s' → Took test f s r s'
took-exit {r = r} h q = let e = err_from_is_err_and r h.1 in rw (e.1, e.2) q

-- ---- a token that stands for something else

-- whether a token is read does not depend on what it stands for
tok-read : {A B : Type 0} (c : Bool) (a x : A) (b : B) (t : Token) (ts rest : Tokens)
    → (if c then done a ts else stop false (t ∷ ts)) ≡ done x rest
    → (if c then done b ts else stop false (t ∷ ts)) ≡ done b rest
tok-read true a x b t ts rest e = cc
tok-read false a x b t ts rest e = absurd (cc)

tok-stopped : {A B : Type 0} (c d : Bool) (a : A) (b : B) (t : Token) (ts rest : Tokens)
    → (if c then done a ts else stop false (t ∷ ts)) ≡ stop d rest
    → (if c then done b ts else stop false (t ∷ ts)) ≡ stop d rest
tok-stopped true d a b t ts rest e = absurd (cc)
tok-stopped false d a b t ts rest e = cc

-- the reader of a token that stands for something else, on tokens of which the first is known
tok-other : {A B : Type 0} (test : Token → Bool) (f : Token → A) (h : Token → B) (a : A)
    (t : Token) (more w rest : Tokens) → w ≡ t ∷ more → read_tok false test f w ≡ done a rest
    → read_tok false test h w ≡ done (h t) rest
tok-other test f h a t more w rest is e =
    rw is (tok-read (test t) (f t) a (h t) t more rest (rw is at e))

tok-other-stop : {A B : Type 0} (test : Token → Bool) (f : Token → A) (h : Token → B) (d : Bool)
    (t : Token) (more w rest : Tokens) → w ≡ t ∷ more → read_tok false test f w ≡ stop d rest
    → read_tok false test h w ≡ stop d rest
tok-other-stop test f h d t more w rest is e =
    rw is (tok-stopped (test t) d (f t) (h t) t more rest (rw is at e))

-- the same token, which stands for something else
pub took-ok : {A B : Type 0} {test : Token → Bool} {f : Token → A} {a : A} {b : B} {s s' : Source}
    (h : Token → B)
    → b ≡ h s.now → Took test f s (Ok a) s' → Took test h s (Ok b) s'
took-ok {test = test} {f = f} {a = a} {b = b} {s = s} {s' = s'} h e x = rw e (record {
  ran = record {
    kept = kept-ok (h s.now) x.ran.kept;
    less = x.ran.less;
    went = record {
      front = x.ran.went.front;
      gone = x.ran.went.gone;
      reads = λ rest. let b = x.ran.went.gone.begins rest in
          tok-other test f h a s.now b.0 _ (s'.now ∷ rest) b.1 (x.ran.went.reads rest);
    };
  };
})

err-other : {A B : Type 0} (test : Token → Bool) (f : Token → A) (h : Token → B) (e : SyntaxStop)
    (s s' : Source) → Went (read_tok false test f) s (Err e) s'
    → Went (read_tok false test h) s (Err e) s'
err-other test f h (At place c) s s' x = record {
  front = x.front;
  gone = x.gone;
  deep = x.deep;
  place_is = x.place_is;
  code_is = x.code_is;
  stops = λ rest. let b = x.gone.begins rest in
      tok-other-stop test f h x.deep s.now b.0 _ (s'.now ∷ rest) b.1 (x.stops rest);
}
err-other test f h Failed s s' x = tt
err-other test f h OutOfMemory s s' x = tt

-- the same refusal, of a token that stands for something else
pub took-err : {A B : Type 0} {test : Token → Bool} {f : Token → A} {h : Token → B} {e : SyntaxStop}
    {s s' : Source}
    → Took test f s (Err e) s' → Took test h s (Err e) s'
took-err {test = test} {f = f} {h = h} {e = why} {s = s} {s' = s'} x = record {
  ran = record {
    kept = kept-err x.ran.kept;
    less = tt;
    went = err-other test f h why s s' x.ran.went;
  };
}

-- the present token, which passes the test
pub took-token : {A : Type 0} {test : Token → Bool} {f : Token → A} {a : A} {u : Unit {0}}
    {s s' : Source}
    → test s.now ≡ true → IsInOrder s → (s.later ≡ Some [] → s.now.class ≡ class.End)
    → s.now.class ≢ class.End → a ≡ f s.now → Advances s (Ok u) s'
    → Took test f s (Ok a) s'
took-token {test = test} {f = f} {u = u} {s = s} {s' = s'} passed order ends other is step =
    rw is (record { ran = tok-taken test f s s' u passed order ends other step })

-- a token that is refused
pub took-refused : {A : Type 0} {test : Token → Bool} {f : Token → A} {e : SyntaxStop} {s : Source}
    → test s.now ≡ false → e ≡ At s.now.place (code_by_class s.now.class) → Took test f s (Err e) s
took-refused {test = test} {f = f} {e = e} {s = s} failed is =
    record { ran = tok-refused false test f s e failed is }

-- a token behind which the source failed
pub took-failed : {A : Type 0} {test : Token → Bool} {f : Token → A} {x : TokenStop} {s s' : Source}
    → Advances s (Err x) s' → Took test f s (Err (handed_on x)) s'
took-failed {x = x} {s = s} {s' = s'} step = record { ran = failed-with 1 _ s s' x step }

-- a step behind a token that passed
past : (A : Type 0) (test : Token → Bool) (s : Source) (x : TokenStop) → test s.now ≡ true
    → RefusesBy {A = A} test s (Err (handed_on x))
past A test s source.Failed passed = passed
past A test s source.OutOfMemory passed = passed

-- what the exit of a `?` answers behind a token that passed
pub past-exit : {A : Type 0} (test : Token → Bool) (s : Source) (x : TokenStop)
    (r : Result A SyntaxStop) → IsErr r × IsErrAnd r (λ e. e ≡ handed_on x) → test s.now ≡ true
    → RefusesBy test s r
past-exit {A = A} test s x r h passed =
    let e = err_from_is_err_and r h.1 in rw (e.1, e.2) (past A test s x passed)

-- ---- pieces of a grammar

-- the least number of tokens of two pieces
few-both : (a b : Bool)
    → (if a && b then 0 else 1) ≤ (if a then 0 else 1) + ((if b then 0 else 1) + 0)
few-both true true = omega arith
few-both true false = omega arith
few-both false true = omega arith
few-both false false = omega arith

-- a call that took k tokens took fewer, too
pub more-ok : {A : Type 0} (r : Result A SyntaxStop) (k m a b : ℕ) → m ≤ k → OnOk r (k + b ≤ a)
    → OnOk r (m + b ≤ a)
more-ok (Ok x) k m a b le h = omega arith
more-ok (Err e) k m a b le h = tt

-- the least number of tokens of a choice
few-alt : (a b : Bool)
    → ((if a || b then 0 else 1) ≤ (if a then 0 else 1))
    × ((if a || b then 0 else 1) ≤ (if b then 0 else 1))
few-alt true true = (omega arith, omega arith)
few-alt true false = (omega arith, omega arith)
few-alt false true = (omega arith, omega arith)
few-alt false false = (omega arith, omega arith)

-- a choice by a test of the first token
pick : {A : Type 0} (c b : Bool) (x y : A) → c ≡ b → (if c then x else y) ≡ (if b then x else y)
pick c b x y e = rw e refl

module _ {X : Type 0} {Sem : X → Type 0} {e : Env X Sem} where
  -- a token is a piece of its own
  pub at-tok : {A : Type 0} {look : Look} {f : Token → A} {s s' : Source} {r : Result A SyntaxStop}
      → Took (passes look) f s r s' → Reads e (tok false look f) s r s'
  unfolding reads_in
  at-tok h = record { ran = h.ran }

  -- a token is refused, whether or not it also begins a value
  pub at-refused : {A : Type 0} {key : Bool} (look : Look) {f : Token → A} {s : Source}
      {why : SyntaxStop} → passes look s.now ≡ false
      → why ≡ At s.now.place (code_by_class s.now.class) → Reads e (tok key look f) s (Err why) s
  unfolding reads_in
  at-refused {key = key} look {f = f} {s = s} {why = why} h is =
      record { ran = tok-refused (key && e.none) (passes look) f s why h is }

  -- memory ran out before a piece
  pub no-memory : {A : Type 0} {g : G X Sem A} {s : Source} → Reads e g s (Err OutOfMemory) s
  no-memory {g = g} {s = s} = record { ran = memory (size g) _ s }

  -- both of two pieces are read
  pub both-ok : {A B C : Type 0} {f : B → C → A} {g : G X Sem B} {h : G X Sem C} {b : B} {c : C}
      {s0 s1 s2 : Source}
      → Reads e g s0 (Ok b) s1 → Reads e h s1 (Ok c) s2 → Reads e (both f g h) s0 (Ok (f b c)) s2
  unfolding reads_in
  both-ok {f = f} {g = g} {h = h} {b = b} {c = c} {s0 = s0} {s1 = s1} {s2 = s2} x y = record {
    ran =
        bind-ok (size g) (size h + 0) _ (reads_in e g) _ b s0 s1 s2 _
        (few-both (nullable g) (nullable h)) x.ran
        (bind-ok (size h) 0 _ (reads_in e h) _ c s1 s2 s2 _ (omega arith) y.ran
        (pure-ran (f b c) s2));
  }

  -- the first of two pieces is not
  pub both-first : {A B C : Type 0} {f : B → C → A} {g : G X Sem B} {h : G X Sem C}
      {why : SyntaxStop} {s0 s1 : Source}
      → Reads e g s0 (Err why) s1 → Reads e (both f g h) s0 (Err why) s1
  unfolding reads_in
  both-first {g = g} {why = why} {s0 = s0} {s1 = s1} x =
      record { ran = bind-err (size g) _ (reads_in e g) _ why s0 s1 x.ran }

  -- the second of two pieces is not
  pub both-second : {A B C : Type 0} {f : B → C → A} {g : G X Sem B} {h : G X Sem C} {b : B}
      {why : SyntaxStop} {s0 s1 s2 : Source}
      → Reads e g s0 (Ok b) s1 → Reads e h s1 (Err why) s2 → Reads e (both f g h) s0 (Err why) s2
  unfolding reads_in
  both-second {g = g} {h = h} {b = b} {why = why} {s0 = s0} {s1 = s1} {s2 = s2} x y = record {
    ran =
        bind-ok (size g) (size h + 0) _ (reads_in e g) _ b s0 s1 s2 _
        (few-both (nullable g) (nullable h)) x.ran
        (bind-err (size h) _ (reads_in e h) _ why s1 s2 y.ran);
  }

  -- of a choice, the first, where the present token begins it
  pub left : {A : Type 0} {g h : G X Sem A} {s s' : Source} {r : Result A SyntaxStop}
      → starts e.begins g s.now ≡ true → Reads e g s r s' → Reads e (alt g h) s r s'
  unfolding reads_in
  left {g = g} {h = h} {s = s} {s' = s'} {r = r} begin x = record {
    ran = record {
      kept = x.ran.kept;
      less = more-ok r (size g) _ s.left s'.left (few-alt (nullable g) (nullable h)).0 x.ran.less;
      went = went-as _ _ r (λ front y rest.
          pick _ true _ _ (head-is (starts e.begins g) y rest ∙ begin)) x.ran.went;
    };
  }

  -- of a choice, the second, where the present token does not begin the first
  pub right : {A : Type 0} {g h : G X Sem A} {s s' : Source} {r : Result A SyntaxStop}
      → starts e.begins g s.now ≡ false → Reads e h s r s' → Reads e (alt g h) s r s'
  unfolding reads_in
  right {g = g} {h = h} {s = s} {s' = s'} {r = r} begin x = record {
    ran = record {
      kept = x.ran.kept;
      less = more-ok r (size h) _ s.left s'.left (few-alt (nullable g) (nullable h)).1 x.ran.less;
      went = went-as _ _ r (λ front y rest.
          pick _ false _ _ (head-is (starts e.begins g) y rest ∙ begin)) x.ran.went;
    };
  }

  -- a piece that stands for something else is read
  pub made-ok : {A B : Type 0} {f : B → A} {g : G X Sem B} {b : B} {s s' : Source}
      → Reads e g s (Ok b) s' → Reads e (made f g) s (Ok (f b)) s'
  unfolding reads_in
  made-ok {f = f} {g = g} {b = b} {s = s} {s' = s'} x = record {
    ran = bind-ok (size g) 0 (size g) (reads_in e g) _ b s s' s' _ (omega arith) x.ran
        (pure-ran (f b) s');
  }

  -- a piece that stands for something else is not
  pub made-err : {A B : Type 0} {f : B → A} {g : G X Sem B} {why : SyntaxStop} {s s' : Source}
      → Reads e g s (Err why) s' → Reads e (made f g) s (Err why) s'
  unfolding reads_in
  made-err {g = g} {why = why} {s = s} {s' = s'} x =
      record { ran = bind-err (size g) _ (reads_in e g) _ why s s' x.ran }

  -- nothing is read
  pub at-ret : {A : Type 0} {a : A} {s : Source} → Reads e (ret a) s (Ok a) s
  unfolding reads_in
  at-ret {a = a} {s = s} = record { ran = pure-ran a s }

  -- a piece with its place is read
  pub placed-ok : {A B : Type 0} {f : ℕ → B → A} {g : G X Sem B} {b : B} {s s' : Source}
      → Reads e g s (Ok b) s' → Reads e (placed f g) s (Ok (f s.now.place b)) s'
  unfolding reads_in
  placed-ok {f = f} {g = g} {b = b} {s = s} {s' = s'} x = record {
    ran = record {
      kept = kept-ok (f s.now.place b) x.ran.kept;
      less = x.ran.less;
      went = went-as _ _ (Ok (f s.now.place b))
          (λ front y rest. ap (λ n. and_then (reads_in e g (front ++ s'.now ∷ rest))
          (λ b. pure (f n b))) (place-is y rest))
          (went-then (reads_in e g) (λ b. pure (f s.now.place b)) b s s' s' (Ok (f s.now.place b))
          x.ran.went (record { front = []; gone = gone-none s'; reads = λ rest. refl }));
    };
  }

  -- a piece with its place is not
  pub placed-err : {A B : Type 0} {f : ℕ → B → A} {g : G X Sem B} {why : SyntaxStop} {s s' : Source}
      → Reads e g s (Err why) s' → Reads e (placed f g) s (Err why) s'
  unfolding reads_in
  placed-err {f = f} {g = g} {why = why} {s = s} {s' = s'} x = record {
    ran = record {
      kept = kept-err x.ran.kept;
      less = tt;
      went = went-as _ _ (Err why)
          (λ front y rest. ap (λ n. and_then (reads_in e g (front ++ s'.now ∷ rest))
          (λ b. pure (f n b))) (place-is y rest))
          (err-went (reads_in e g) (λ b. pure (f s.now.place b)) why s s' x.ran.went);
    };
  }
