-- What a call that read a whole text answers.
--
-- A piece and then the end is a grammar of its own; its reader is the piece's, and then one look at
-- the class. The answer is turned into the words of the grammar by the theorem on its reader.
use Rattle.std.proofs.Common.{◌≡◌, ◌≢◌, ◌∙◌, ◌++◌, arith, Bool, true, false, [], ◌∷◌, Result, Ok, Err, inl, inr, refl, sym, ap, subst, append-nil, length, length-append, ℕ}
use Rattle.std.specs.Result.{IsErr, IsErrAnd}
use Rattle.std.proofs.lemmas.Result.{err_from_is_err_and}
use denote.Enum.Bare.{true_same, false_same}
use Rattle.ir_lexer.specs.contracts.class.Class.{the_type}
use Rattle.ir_lexer.specs.declared.class.Class.TheVariants.{End}
use Rattle.ir_lexer.specs.Classes.{same_class}
use Rattle.ir_lexer.specs.Source.{Source}
use Rattle.ir_lexer.specs.Tokens.{Token}
use Rattle.grammar.specs.declared.stop.SyntaxCode.{SyntaxCode}
use Rattle.grammar.specs.declared.stop.SyntaxStop.{SyntaxStop}
use Rattle.grammar.specs.declared.stop.SyntaxStop.TheVariants.{At, Failed, OutOfMemory}
use Rattle.grammar.specs.Answers.{Told, Answered, Accepts, IsRefusal, ReadsFront, IsReadFrom}
use Rattle.grammar.specs.Exact.{HasMore, IsExactAnswer}
use Rattle.grammar.specs.Front.{Lists, Some_of, Front, AreSpelled, Shallow}
use Rattle.grammar.specs.Grammar.{G, Tokens, Parser, Outcome, done, stop, and_then, read_tok}
use Rattle.grammar.specs.Looks.{any_of, passes}
use Rattle.grammar.specs.Ran.{Env, reads_in, HasReadAll, Went, WentToEnd, IsAtEnd, Reads, ReadsWhole, IsCodeOf, code_by_class, code_at}
use Rattle.grammar.proofs.Codes.{code-of, code-once}
use Rattle.grammar.proofs.Cut.{Split, same, longer, shorter, split}
use Rattle.grammar.proofs.Fronts.{one-front, front-no-refusal}
use Rattle.grammar.proofs.Gone.{all-append}
use Rattle.grammar.proofs.Kept.{kept-then}
use Rattle.grammar.proofs.Respelled.{Respellable, refused-spelled}

-- ---- the end behind a piece

end-passes : (t : Token) → t.class ≡ End → passes (any_of End) t ≡ true
unfolding same_class
end-passes t e = rw (true_same the_type t.class End e) refl

no-end-passes : (t : Token) → t.class ≢ End → passes (any_of End) t ≡ false
unfolding same_class
no-end-passes t other = rw (false_same the_type tt t.class End other) refl

-- a piece is read, and then the end
abbrev ended : {A : Type 0} → Outcome A → Outcome A
ended o = and_then o
    (λ a ts. and_then (read_tok {A = Unit {0}} false (passes (any_of End)) (λ _. tt) ts)
    (λ _ rest. done a rest))

ended-is : {A : Type 0} (o : Outcome A) (a : A) (t : Token) → o ≡ done a (t ∷ []) → t.class ≡ End
    → ended o ≡ done a []
ended-is o a t e end = let passed = end-passes t end in rw e (rw passed refl)

ended-other : {A : Type 0} (o : Outcome A) (a : A) (t : Token) (rest : Tokens)
    → o ≡ done a (t ∷ rest) → t.class ≢ End → ended o ≡ stop false (t ∷ rest)
ended-other o a t rest e other = let failed = no-end-passes t other in rw e (rw failed refl)

module _ {X : Type 0} {Sem : X → Type 0} {A : Type 0} {e : Env X Sem} {g : G X Sem A} where
  -- the piece, and the end
  pub whole-ok : {a : A} {u : Unit {0}} {s0 s1 : Source} → Reads e g s0 (Ok a) s1
      → IsAtEnd s1 (Ok u) → ReadsWhole e g s0 (Ok a) s1
  unfolding reads_in
  whole-ok {a = a} {s0 = s0} {s1 = s1} x end =
      let went = x.ran.went in
      record {
        kept = x.ran.kept;
        went = record {
          front = went.front;
          gone = went.gone;
          end = end;
          reads = ended-is _ a s1.now (went.reads []) end.ended;
        };
      }

  refused-end : {a : A} (why : SyntaxStop) {s0 s1 : Source} → Reads e g s0 (Ok a) s1
      → IsAtEnd s1 (Err why) → ReadsWhole e g s0 (Err why) s1
  unfolding reads_in
  refused-end {a = a} (At place c) {s0 = s0} {s1 = s1} x end =
      let went = x.ran.went in
      record {
        kept = kept-then x.ran.kept
            (record {
              faults = omega arith;
              cause = tt;
              origin = refl;
              steady = λ h. h;
              goes_on = refl;
            });
        went = record {
          front = went.front;
          gone = went.gone;
          deep = false;
          place_is = end.1.0;
          code_is = code-once s1.now.class c (code_by_class s1.now.class) end.1.1
              (code-of s1.now.class);
          stops = λ rest. ended-other _ a s1.now rest (went.reads rest) end.0;
        };
      }
  refused-end Failed x end = absurd end
  refused-end OutOfMemory x end = absurd end

  -- the piece, and something else than the end
  pub whole-at : {a : A} {why : SyntaxStop} {s0 s1 : Source} → Reads e g s0 (Ok a) s1
      → IsAtEnd s1 (Err why) → ReadsWhole e g s0 (Err why) s1
  whole-at {why = why} x end = refused-end why x end

  err-whole : (why : SyntaxStop) (s0 s1 : Source) → Reads e g s0 (Err why) s1
      → ReadsWhole e g s0 (Err why) s1
  unfolding reads_in
  err-whole (At place c) s0 s1 x =
      let went = x.ran.went in
      record {
        kept = x.ran.kept;
        went = record {
          front = went.front;
          gone = went.gone;
          deep = went.deep;
          place_is = went.place_is;
          code_is = went.code_is;
          stops = λ rest. ap (λ o. ended o) (went.stops rest);
        };
      }
  err-whole Failed s0 s1 x = record { kept = x.ran.kept; went = tt }
  err-whole OutOfMemory s0 s1 x = record { kept = x.ran.kept; went = tt }

  -- no piece
  pub whole-err : {why : SyntaxStop} {s0 s1 : Source} → Reads e g s0 (Err why) s1
      → ReadsWhole e g s0 (Err why) s1
  whole-err {why = why} {s0 = s0} {s1 = s1} x = err-whole why s0 s1 x

-- what the exit of a `?` answers
pub whole-exit : {X : Type 0} {Sem : X → Type 0} {A : Type 0} {e : Env X Sem} {g : G X Sem A}
    {s s' : Source} {x : SyntaxStop} {r : Result A SyntaxStop}
    → IsErr r × IsErrAnd r (λ y. y ≡ x) → ReadsWhole e g s (Err x) s' → ReadsWhole e g s r s'
whole-exit {r = r} h q = let y = err_from_is_err_and r h.1 in rw (y.1, y.2) q

-- ---- the answer in the words of the grammar

-- two fronts before one rest are one
same-front : (a c rest : Tokens) → a ++ rest ≡ c ++ rest → a ≡ c
same-front a c rest e = go (split a rest c rest e)
  where
    go : Split a rest c rest → a ≡ c
    go (same p q) = p
    go (longer y k p q) = absurd (omega (arith, ap length q, length-append k rest))
    go (shorter y k p q) = absurd (omega (arith, ap length q, length-append k rest))

module _ {A : Type 0} (R : Tokens → A → Type 0) (D : Lists) (p : Parser A)
    (exact : (ts : Tokens) → IsExactAnswer R D ts (p ts)) (respell : Respellable R) where
  -- what the reader stops at is a refusal
  refusal-at : (ts front rest : Tokens) (t : Token) (deep : Bool) (place : ℕ) (c : SyntaxCode)
      → ts ≡ front ++ t ∷ rest → AreSpelled front → p ts ≡ stop deep (t ∷ rest)
      → place ≡ t.place → c ≡ code_at deep t → IsRefusal R D ts place c
  refusal-at ts front rest t false place c is spelled e at code =
      let x = subst (IsExactAnswer R D ts) e (exact ts) in
      let same = same-front x.front front (t ∷ rest) (sym x.is ∙ is) in (
        t,
        rest,
        at,
        inl (
          refused-spelled R D respell ts (t ∷ rest) x
              (subst AreSpelled (sym same) spelled),
          subst (IsCodeOf t.class) (sym code) (code-of t.class),
        ),
      )
  refusal-at ts front rest t true place c is spelled e at code =
      let x = subst (IsExactAnswer R D ts) e (exact ts) in (t, rest, at, inr (x, code))

  -- what a call that read a whole text answers, in the words of the grammar
  pub answered : (s s' : Source) (r : Result A SyntaxStop) → WentToEnd p s r s'
      → Told s (λ ts. Answered R D ts r)
  answered s s' (Ok a) x ts is =
      let t = x.gone.told ts is in
      let none = x.end.alone t.0 t.2 in
      let all = t.1 ∙ ap (λ w. x.front ++ s'.now ∷ w) none in
      ([], subst (IsExactAnswer R D (s.now ∷ ts)) (ap p all ∙ x.reads) (exact (s.now ∷ ts)))
  answered s s' (Err (At place c)) x ts is =
      let t = x.gone.told ts is in
      refusal-at (s.now ∷ ts) x.front t.0 s'.now x.deep place c t.1 x.gone.spelled
      (ap p t.1 ∙ x.stops t.0) x.place_is x.code_is
  answered s s' (Err Failed) x ts is = tt
  answered s s' (Err OutOfMemory) x ts is = tt

  -- a tree that was read is that of tokens that come from the source, told or not
  pub read-from : (s s' : Source) (a : A) → HasReadAll p s a s' → IsReadFrom R D s a
  read-from s s' a x =
      let ts = x.front ++ s'.now ∷ [] in
      let f = subst (IsExactAnswer R D ts) x.reads (exact ts) in
      let whole = f.is ∙ append-nil f.front in
      record {
        tokens = ts;
        come = record {
          spelled = all-append _ x.front (s'.now ∷ []) x.gone.spelled
              (inr (inr (x.end.ended, x.end.empty)), tt);
          short = all-append _ x.front (s'.now ∷ []) x.gone.short
              (let none = ap length x.end.empty in omega arith, tt);
          ascend = x.gone.ascend;
          told = λ more is.
              let t = x.gone.told more is in
              let none = x.end.alone t.0 t.2 in
              sym (t.1 ∙ ap (λ w. x.front ++ s'.now ∷ w) none);
        };
        tree = subst (λ (w : Tokens). R w a) (sym whole) f.tree;
        shallow = subst (λ (w : Tokens). Shallow D w) (sym whole) f.shallow;
      }

  -- what a call that read a piece answers, in the words of the grammar
  pub front-answered : (s s' : Source) (r : Result A SyntaxStop) → Went p s r s'
      → ReadsFront R D s r s'
  front-answered s s' (Ok a) x = record {
    front = x.front;
    gone = x.gone;
    is = λ rest. let ts = x.front ++ s'.now ∷ rest in
        subst (IsExactAnswer R D ts) (x.reads rest) (exact ts);
  }
  front-answered s s' (Err (At place c)) x = record {
    front = x.front;
    gone = x.gone;
    is = λ rest.
        refusal-at (x.front ++ s'.now ∷ rest) x.front rest s'.now x.deep place c refl
        x.gone.spelled (x.stops rest) x.place_is x.code_is;
  }
  front-answered s s' (Err Failed) x = tt
  front-answered s s' (Err OutOfMemory) x = tt

-- where the source tells its tokens, the front is one of them
pub told-front : {A : Type 0} (R : Tokens → A → Type 0) (D : Lists) (s s' : Source)
    (r : Result A SyntaxStop) → ReadsFront R D s r s' → Told s (λ ts. Answered R D ts r)
told-front R D s s' (Ok a) x ts is =
    let t = x.gone.told ts is in
    (s'.now ∷ t.0, subst (λ (w : Tokens). Front R D w a (s'.now ∷ t.0)) (sym t.1) (x.is t.0))
told-front R D s s' (Err (At place c)) x ts is =
    let t = x.gone.told ts is in
    subst (λ (w : Tokens). IsRefusal R D w place c) (sym t.1) (x.is t.0)
told-front R D s s' (Err Failed) x ts is = tt
told-front R D s s' (Err OutOfMemory) x ts is = tt

module _ {A : Type 0} (R : Tokens → A → Type 0) (D : Lists)
    (seen : (p : Tokens) → D p → HasMore (Some_of R) p)
    (one : (d : Tokens) (a b : A) → R d a → R d b → a ≡ b) where
  -- a front isn't refused
  pub accepts : (ts : Tokens) (r : Result A SyntaxStop) → Answered R D ts r → Accepts R D ts r
  accepts ts (Ok b) h a rest f = inl (ap (λ y. Ok y) (one-front R D one ts b a h.0 rest h.1 f).0)
  accepts ts (Err (At place c)) h a rest f =
      absurd (front-no-refusal R D seen ts a rest place c f h)
  accepts ts (Err Failed) h a rest f = inr (inl refl)
  accepts ts (Err OutOfMemory) h a rest f = inr (inr refl)
