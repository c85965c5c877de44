-- What stands in a piece and begins a value one deeper: nonterminals, and tokens that are values.
--
--   at-kid, kid-went    a nonterminal, read by its own reader, and the other way round
--   tok-deep            a token that begins a value where none may begin
--   key-ok, key-deep    a token that also begins a value one deeper, where one may, and where none
use Rattle.std.proofs.Common.{◌≡◌, Bool, true, false, [], ◌∷◌, ◌++◌, Result, Err, arith, refl, sym}
use Rattle.ir_lexer.specs.Source.{Source}
use Rattle.ir_lexer.specs.Tokens.{Token}
use Rattle.grammar.specs.declared.stop.SyntaxCode.TheVariants.{Nesting}
use Rattle.grammar.specs.declared.stop.SyntaxStop.{SyntaxStop}
use Rattle.grammar.specs.declared.stop.SyntaxStop.TheVariants.{At}
use Rattle.grammar.specs.Grammar.{Outcome, done, stop, and_then, pure, tok, kid, read_tok}
use Rattle.grammar.specs.Looks.{Look, passes}
use Rattle.grammar.specs.Ran.{Ran, Went, Env, reads_in, Took, Reads}
use Rattle.grammar.proofs.Gone.{gone-none}
use Rattle.grammar.proofs.Calls.{went-as}

-- ---- nonterminals

-- a reader and then nothing is the reader
and-then-pure : {A : Type 0} (o : Outcome A) → and_then o (λ a. pure a) ≡ o
and-then-pure (done a rest) = refl
and-then-pure (stop d rest) = refl

module _ {X : Type 0} {Sem : X → Type 0} {e : Env X Sem} where
  -- what its reader did, a call did of the nonterminal
  pub at-kid : (x : X) {s s' : Source} {r : Result (Sem x) SyntaxStop} → Ran 1 (e.inside x) s r s'
      → Reads e (kid x (λ c. c)) s r s'
  unfolding reads_in
  at-kid x {s' = s'} {r = r} h = record {
    ran = record {
      kept = h.kept;
      less = h.less;
      went = went-as _ _ r (λ front y rest. and-then-pure (e.inside x (front ++ s'.now ∷ rest)))
          h.went;
    };
  }

  -- what a call did of the nonterminal, its reader did
  pub kid-went : (x : X) {s s' : Source} {r : Result (Sem x) SyntaxStop}
      → Reads e (kid x (λ c. c)) s r s' → Went (e.inside x) s r s'
  unfolding reads_in
  kid-went x {s' = s'} {r = r} h =
      went-as _ _ r (λ front y rest. sym (and-then-pure (e.inside x (front ++ s'.now ∷ rest))))
      h.ran.went

-- ---- tokens

-- the present token passes the test and begins a value, where none may begin
pub tok-deep : {A : Type 0} (test : Token → Bool) (f : Token → A) (s : Source) (e : SyntaxStop)
    → test s.now ≡ true → e ≡ At s.now.place Nesting → Ran 1 (read_tok true test f) s (Err e) s
tok-deep test f s e h is = rw is (record {
  kept = record {
    faults = omega arith;
    cause = tt;
    origin = refl;
    steady = λ h. h;
    goes_on = refl;
  };
  less = tt;
  went = record {
    front = [];
    gone = gone-none s;
    deep = true;
    place_is = refl;
    code_is = refl;
    stops = λ rest. rw h refl;
  };
})

module _ {X : Type 0} {Sem : X → Type 0} {e : Env X Sem} where
  -- a token that also begins a value one deeper, where one may
  pub key-ok : {A : Type 0} (look : Look) {f : Token → A} {s s' : Source}
      {r : Result A SyntaxStop} → e.none ≡ false → Took (passes look) f s r s'
      → Reads e (tok true look f) s r s'
  unfolding reads_in
  key-ok look {r = r} none x = record {
    ran = record {
      kept = x.ran.kept;
      less = x.ran.less;
      went = went-as _ _ r (λ front y rest. rw none refl) x.ran.went;
    };
  }

  -- the same, where none may
  pub key-deep : {A : Type 0} (look : Look) {f : Token → A} {s : Source} {why : SyntaxStop}
      → e.none ≡ true → passes look s.now ≡ true → why ≡ At s.now.place Nesting
      → Reads e (tok true look f) s (Err why) s
  unfolding reads_in
  key-deep look {f = f} {s = s} {why = why} none h is =
      record { ran = rw none (tok-deep (passes look) f s why h is) }
