-- How what a function did is put together from what its calls did.
--
-- A function of the reader reads a piece by calls that read parts of it. Each lemma here goes one
-- step of a rule: from what the parts' calls did to what the call for the whole did. So the answer
-- of each exit of a function repeats the path through its rule:
--
--   both-first, both-second, both-ok   of two pieces: stopped in the first, in the second, or read
--   left, right                        of a choice, by the present token
--   made-ok, made-err                  of a piece that stands for something else
--   placed-ok, placed-err              of a piece with its place
--   tok-ok, tok-err                    a token, or one that is refused
--   as-ok, as-err                      a token that stands for something else
--   exit                               what the exit of a `?` hands on
use Rattle.std.proofs.Common.{◌≡◌, ℕ, Bool, true, false, ◌||◌, ◌≢◌, [], ◌∷◌, drop, Result, Ok, Err, if◌then◌else◌, refl, sym, ◌∙◌, ap}
use Rattle.std.specs.Result.{IsErr, IsErrAnd}
use Rattle.std.proofs.lemmas.Result.{err_from_is_err_and}
use Rattle.ir_lexer.specs.declared.class.Class.TheVariants.{End}
use Rattle.ir_lexer.specs.Spelling.{Text}
use Rattle.ir_lexer.specs.Tokens.{Token}
use Rattle.grammar.specs.Flat.{Flat, flat}
use Rattle.grammar.specs.Grammar.{Tokens, Parser, Outcome, done, stop, and_then, on_head, place_of, read_tok, ret, tok, both, alt, made, placed}
use Rattle.grammar.specs.Looks.{Look, any_of, class_of, passes}
use Rattle.grammar.specs.Ran.{reads_in}
use Rattle.grammar.proofs.Meet.{before-end, passes-class}
use Rattle.format_reader.specs.declared.stop.FormatAt.{FormatAt}
use Rattle.format_reader.specs.declared.stop.FormatAt.TheVariants.{At, OutOfMemory}
use Rattle.format_reader.specs.Elements.{name_of}
use Rattle.format_reader.specs.Ran.{now_of, behind, HasToken, begins, Refuses, Went, Reads, IsAtEnd, ReadsWhole}
use Rattle.format_reader.proofs.Bytes.{false-if}

-- ---- exits

-- what the exit of a `?` answers
pub exit : {A : Type 0} {g : Flat A} {s s' : Tokens} {x : FormatAt} {r : Result A FormatAt}
    → IsErr r × IsErrAnd r (λ e. e ≡ x) → Reads g s (Err x) s' → Reads g s r s'
exit {r = r} h q = let e = err_from_is_err_and r h.1 in rw (e.1, e.2) q

-- memory ran out
pub no-memory : {A : Type 0} {g : Flat A} {s s' : Tokens} → Reads g s (Err OutOfMemory) s'
no-memory = record { went = tt }

-- ---- one token

tok-done : {A : Type 0} (look : Look) (f : Token → A) (s : Tokens) (t : Token) (ts : Tokens)
    → s ≡ t ∷ ts → passes look t ≡ true → read_tok false (passes look) f s ≡ done (f t) ts
tok-done look f s t ts is e = rw is (rw e refl)

tok-stopped : {A : Type 0} (look : Look) (f : Token → A) (s : Tokens) (t : Token) (ts : Tokens)
    → s ≡ t ∷ ts → passes look t ≡ false
    → read_tok false (passes look) f s ≡ stop false (t ∷ ts)
tok-stopped look f s t ts is e = rw is (rw e refl)

-- a token that passes
pub tok-ok : {A : Type 0} {look : Look} {f : Token → A} {a : A} {s s' : Tokens} → HasToken s
    → passes look (now_of s) ≡ true → a ≡ f (now_of s) → s' ≡ behind s
    → Reads (tok false look f) s (Ok a) s'
unfolding reads_in
tok-ok {look = look} {f = f} {s = s} some e is left =
    rw (is, left) (record { went = tok-done look f s (now_of s) (behind s) some.is e })

-- a token that is refused
pub tok-err : {A : Type 0} {look : Look} {f : Token → A} {s s' : Tokens} {why : FormatAt}
    → passes look (now_of s) ≡ false → Refuses s why → Reads (tok false look f) s (Err why) s'
unfolding reads_in
tok-err {look = look} {f = f} {s = s} {s' = s'} {why = why} e h = go why h
  where
    go : (why : FormatAt) → Refuses s why → Reads (tok false look f) s (Err why) s'
    go (At place) (some, at) = record {
      went = (now_of s, behind s, tok-stopped look f s (now_of s) (behind s) some.is e, at);
    }
    go OutOfMemory x = absurd x

tok-cases : {A B : Type 0} (c : Bool) (a x : A) (b : B) (t : Token) (ts rest : Tokens)
    → (if c then done a ts else stop false (t ∷ ts)) ≡ done x rest
    → (if c then done b ts else stop false (t ∷ ts)) ≡ done b rest
tok-cases true a x b t ts rest e = cc
tok-cases false a x b t ts rest e = absurd (cc)

tok-stops : {A B : Type 0} (c : Bool) (a : A) (b : B) (t : Token) (ts rest : Tokens)
    → (if c then done a ts else stop false (t ∷ ts)) ≡ stop false rest
    → (if c then done b ts else stop false (t ∷ ts)) ≡ stop false rest
tok-stops true a b t ts rest e = absurd (cc)
tok-stops false a b t ts rest e = cc

tok-as : {A B : Type 0} (look : Look) (f : Token → A) (h : Token → B) (a : A) (s rest : Tokens)
    → read_tok false (passes look) f s ≡ done a rest
    → read_tok false (passes look) h s ≡ done (h (now_of s)) rest
tok-as look f h a [] rest e = absurd (cc)
tok-as look f h a (t ∷ ts) rest e = tok-cases (passes look t) (f t) a (h t) t ts rest e

-- the same token, which stands for something else
pub as-ok : {A B : Type 0} {look : Look} {f : Token → A} {h : Token → B} {a : A} {b : B}
    {s s' : Tokens} → b ≡ h (now_of s) → Reads (tok false look f) s (Ok a) s'
    → Reads (tok false look h) s (Ok b) s'
unfolding reads_in
as-ok {look = look} {f = f} {h = h} {a = a} {s = s} {s' = s'} is x =
    rw is (record { went = tok-as look f h a s s' x.went })

tok-as-stop : {A B : Type 0} (look : Look) (f : Token → A) (h : Token → B) (s rest : Tokens)
    → read_tok false (passes look) f s ≡ stop false rest
    → read_tok false (passes look) h s ≡ stop false rest
tok-as-stop look f h [] rest e = cc
tok-as-stop look f h (t ∷ ts) rest e = tok-stops (passes look t) (f t) (h t) t ts rest e

-- the same refusal, of a token that stands for something else
pub as-err : {A B : Type 0} {look : Look} {f : Token → A} {h : Token → B} {why : FormatAt}
    {s s' : Tokens} → Reads (tok false look f) s (Err why) s'
    → Reads (tok false look h) s (Err why) s'
unfolding reads_in
as-err {look = look} {f = f} {h = h} {why = why} {s = s} {s' = s'} x = go why x
  where
    go : (why : FormatAt) → Reads (tok false look f) s (Err why) s'
        → Reads (tok false look h) s (Err why) s'
    go (At place) x = let w = x.went in
        record { went = (w.0, w.1, tok-as-stop look f h s (w.0 ∷ w.1) w.2, w.3) }
    go OutOfMemory x = no-memory

-- ---- pieces of a grammar

bind-done : {A B : Type 0} (o : Outcome A) (f : A → Parser B) (a : A) (rest : Tokens) (x : Outcome B)
    → o ≡ done a rest → f a rest ≡ x → and_then o f ≡ x
bind-done o f a rest x e h = rw e h

bind-stop : {A B : Type 0} (o : Outcome A) (f : A → Parser B) (rest : Tokens)
    → o ≡ stop false rest → and_then o f ≡ stop false rest
bind-stop o f rest e = rw e refl

-- no token
pub at-ret : {A : Type 0} {a : A} {s : Tokens} → Reads (ret a) s (Ok a) s
unfolding reads_in
at-ret = record { went = refl }

module _ {A B C : Type 0} {f : B → C → A} {g : Flat B} {h : Flat C} where
  -- both of two pieces are read
  pub both-ok : {b : B} {d : C} {s0 s1 s2 : Tokens} → Reads g s0 (Ok b) s1 → Reads h s1 (Ok d) s2
      → Reads (both f g h) s0 (Ok (f b d)) s2
  unfolding reads_in
  both-ok {b = b} {d = d} {s0 = s0} {s1 = s1} {s2 = s2} x y = record {
    went = bind-done _ _ b s1 _ x.went (bind-done _ _ d s2 _ y.went refl);
  }

  -- the first is refused
  pub both-first : {why : FormatAt} {s0 s1 : Tokens} → Reads g s0 (Err why) s1
      → Reads (both f g h) s0 (Err why) s1
  unfolding reads_in
  both-first {why = why} {s0 = s0} {s1 = s1} x = go why x
    where
      go : (why : FormatAt) → Reads g s0 (Err why) s1 → Reads (both f g h) s0 (Err why) s1
      go (At place) x = let w = x.went in
          record { went = (w.0, w.1, bind-stop _ _ (w.0 ∷ w.1) w.2, w.3) }
      go OutOfMemory x = no-memory

  -- the second is refused
  pub both-second : {b : B} {why : FormatAt} {s0 s1 s2 : Tokens} → Reads g s0 (Ok b) s1
      → Reads h s1 (Err why) s2 → Reads (both f g h) s0 (Err why) s2
  unfolding reads_in
  both-second {b = b} {why = why} {s0 = s0} {s1 = s1} {s2 = s2} x y = go why y
    where
      go : (why : FormatAt) → Reads h s1 (Err why) s2 → Reads (both f g h) s0 (Err why) s2
      go (At place) y = let w = y.went in record {
        went = (w.0, w.1, bind-done _ _ b s1 _ x.went (bind-stop _ _ (w.0 ∷ w.1) w.2), w.3);
      }
      go OutOfMemory y = no-memory

-- what follows a piece answers for both, where that piece tells nothing
pub both-rest : {A B : Type 0} {g : Flat B} {h : Flat A} {b : B} {r : Result A FormatAt}
    {s0 s1 s2 : Tokens} → Reads g s0 (Ok b) s1 → Reads h s1 r s2
    → Reads (both (λ _ a. a) g h) s0 r s2
both-rest {g = g} {h = h} {r = r} {s0 = s0} {s1 = s1} {s2 = s2} x y = go r y
  where
    go : (r : Result _ FormatAt) → Reads h s1 r s2 → Reads (both (λ _ a. a) g h) s0 r s2
    go (Ok a) y = both-ok x y
    go (Err e) y = both-second x y

-- a test that stands alone in a choice
pub alone : {a b : Bool} → a ≡ b → (a || false) ≡ b
alone {a = a} {b = b} e = last a ∙ e
  where
    last : (a : Bool) → (a || false) ≡ a
    last true = refl
    last false = refl

-- a variable, by its place and its name
pub name-is : {at : ℕ} {name : Text} (t : Token) → at ≡ t.place → name ≡ drop 1 t.text
    → record { at = at; name = name } ≡ name_of t
name-is t e f = cc

-- a token that passes another look than that of the end isn't the end
pub past-end : (l : Look) (t : Token) → passes l t ≡ true → class_of l ≢ End
    → passes (any_of End) t ≡ false
past-end l t e other =
    false-if _ (λ f. before-end l t e other (passes-class (any_of End) t f))

-- a test of the first token, where there is one
head-is : (p : Token → Bool) (s : Tokens) (b : Bool) → HasToken s → p (now_of s) ≡ b
    → on_head p s ≡ b
head-is p s b some e = ap (λ x. on_head p x) some.is ∙ e

choose : {A : Type 0} (g h : Flat A) (s : Tokens) (b : Bool) → on_head (begins g) s ≡ b
    → (reads_in flat (alt g h) s ≡ (if b then reads_in flat g s else reads_in flat h s))
unfolding reads_in
choose g h s b e = rw e refl

went-as : {A : Type 0} (p q : Parser A) (s s' : Tokens) (r : Result A FormatAt) → p s ≡ q s
    → Went q s r s' → Went p s r s'
went-as p q s s' (Ok a) e w = e ∙ w
went-as p q s s' (Err (At place)) e (t, rest, w, at) = (t, rest, e ∙ w, at)
went-as p q s s' (Err OutOfMemory) e w = tt

module _ {A : Type 0} {g h : Flat A} {r : Result A FormatAt} {s s' : Tokens} where
  -- the first of a choice, which begins with the present token
  pub left : HasToken s → begins g (now_of s) ≡ true → Reads g s r s' → Reads (alt g h) s r s'
  left some e x = record {
    went = went-as (reads_in flat (alt g h)) (reads_in flat g) s s' r
        (choose g h s true (head-is (begins g) s true some e)) x.went;
  }

  -- the second, where the first doesn't
  pub right : HasToken s → begins g (now_of s) ≡ false → Reads h s r s' → Reads (alt g h) s r s'
  right some e x = record {
    went = went-as (reads_in flat (alt g h)) (reads_in flat h) s s' r
        (choose g h s false (head-is (begins g) s false some e)) x.went;
  }

module _ {A B : Type 0} {f : B → A} {g : Flat B} where
  -- a piece that stands for something else
  pub made-ok : {b : B} {s s' : Tokens} → Reads g s (Ok b) s' → Reads (made f g) s (Ok (f b)) s'
  unfolding reads_in
  made-ok {b = b} {s' = s'} x = record { went = bind-done _ _ b s' _ x.went refl }

  -- and one that is refused
  pub made-err : {why : FormatAt} {s s' : Tokens} → Reads g s (Err why) s'
      → Reads (made f g) s (Err why) s'
  unfolding reads_in
  made-err {why = why} {s = s} {s' = s'} x = go why x
    where
      go : (why : FormatAt) → Reads g s (Err why) s' → Reads (made f g) s (Err why) s'
      go (At place) x = let w = x.went in
          record { went = (w.0, w.1, bind-stop _ _ (w.0 ∷ w.1) w.2, w.3) }
      go OutOfMemory x = no-memory

module _ {A B : Type 0} {f : ℕ → B → A} {g : Flat B} where
  -- a piece with its place
  pub placed-ok : {b : B} {at : ℕ} {s s' : Tokens} → at ≡ (now_of s).place → HasToken s
      → Reads g s (Ok b) s' → Reads (placed f g) s (Ok (f at b)) s'
  unfolding reads_in
  placed-ok {b = b} {at = at} {s = s} {s' = s'} is some x =
      let same : place_of s ≡ at = ap place_of some.is ∙ sym is in
      record { went = bind-done _ _ b s' _ x.went (ap (λ p. done (f p b) s') same) }

  -- and one that is refused
  pub placed-err : {why : FormatAt} {s s' : Tokens} → Reads g s (Err why) s'
      → Reads (placed f g) s (Err why) s'
  unfolding reads_in
  placed-err {why = why} {s = s} {s' = s'} x = go why x
    where
      go : (why : FormatAt) → Reads g s (Err why) s' → Reads (placed f g) s (Err why) s'
      go (At place) x = let w = x.went in
          record { went = (w.0, w.1, bind-stop _ _ (w.0 ∷ w.1) w.2, w.3) }
      go OutOfMemory x = no-memory

-- ---- whole texts

module _ {A : Type 0} {g : Flat A} where
  -- the piece, and the end
  pub whole-ok : {a : A} {u : Unit {0}} {s0 s1 : Tokens} → Reads g s0 (Ok a) s1
      → IsAtEnd s1 (Ok u) → ReadsWhole g s0 (Ok a)
  unfolding reads_in
  whole-ok {a = a} {s0 = s0} {s1 = s1} x end = record {
    went = bind-done _ _ a s1 _ x.went
        (bind-done _ _ tt [] _ (tok-done (any_of End) (λ _. tt) s1 (now_of s1) [] end.alone end.passes) refl);
  }

  -- the piece, and something else than the end
  pub whole-at : {a : A} {why : FormatAt} {s0 s1 : Tokens} → Reads g s0 (Ok a) s1
      → IsAtEnd s1 (Err why) → ReadsWhole g s0 (Err why)
  unfolding reads_in
  whole-at {a = a} {why = why} {s0 = s0} {s1 = s1} x end = go why end
    where
      go : (why : FormatAt) → IsAtEnd s1 (Err why) → ReadsWhole g s0 (Err why)
      go (At place) ((some, at), e) = record {
        went = (
          now_of s1,
          behind s1,
          bind-done _ _ a s1 _ x.went
              (bind-stop _ _ (now_of s1 ∷ behind s1)
              (tok-stopped (any_of End) (λ _. tt) s1 (now_of s1) (behind s1) some.is e)),
          at,
        );
      }
      go OutOfMemory (none, e) = absurd none

  -- no piece
  pub whole-err : {why : FormatAt} {s0 s1 : Tokens} → Reads g s0 (Err why) s1
      → ReadsWhole g s0 (Err why)
  unfolding reads_in
  whole-err {why = why} {s0 = s0} {s1 = s1} x = go why x
    where
      go : (why : FormatAt) → Reads g s0 (Err why) s1 → ReadsWhole g s0 (Err why)
      go (At place) x = let w = x.went in
          record { went = (w.0, w.1, bind-stop _ _ (w.0 ∷ w.1) w.2, w.3) }
      go OutOfMemory x = record { went = tt }

  -- what the exit of a `?` answers
  pub whole-exit : {s : Tokens} {x : FormatAt} {r : Result A FormatAt}
      → IsErr r × IsErrAnd r (λ e. e ≡ x) → ReadsWhole g s (Err x) → ReadsWhole g s r
  whole-exit {r = r} h q = let e = err_from_is_err_and r h.1 in rw (e.1, e.2) q
