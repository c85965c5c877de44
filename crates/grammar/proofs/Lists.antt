-- How what a loop over a list with commas did is put together.
--
-- As with repetitions, a loop keeps `Lists`: what is read from here on, put behind what was found,
-- is what the whole list gives.
use Rattle.std.proofs.Common.{◌≡◌, true, false, List, [], ◌∷◌, ◌++◌, Ok, Err, refl, append-nil, append_assoc}
use Rattle.ir_lexer.specs.declared.class.Class.TheVariants.{Comma}
use Rattle.ir_lexer.specs.Source.{Source}
use Rattle.grammar.specs.declared.stop.SyntaxStop.{SyntaxStop}
use Rattle.grammar.specs.declared.stop.SyntaxStop.TheVariants.{OutOfMemory}
use Rattle.grammar.specs.Looks.{any_of, passes}
use Rattle.grammar.specs.Grammar.{G, nullable, starts}
use Rattle.grammar.specs.Rules.{punct, ◌>>◌, list, more_of}
use Rattle.grammar.specs.Ran.{Env, Reads}
use Rattle.grammar.proofs.Repeats.{Fits, many-none, many-more, many-later, many-first}
use Rattle.grammar.proofs.Runs.{at-ret, both-ok, both-first, both-second, left, right, no-memory}

-- what comes of the rest, behind what was found, is what comes of the list
pub record Lists {X : Type 0} {Sem : X → Type 0} {B : Type 0} (e : Env X Sem) (g : G X Sem B)
    (found : List B) (s0 s1 : Source) : Type 0 where
  pub ok : (bs : List B) (s2 : Source) → Reads e (more_of g) s1 (Ok bs) s2
      → Reads e (list g) s0 (Ok (found ++ bs)) s2
  pub err : (why : SyntaxStop) (s2 : Source) → Reads e (more_of g) s1 (Err why) s2
      → Reads e (list g) s0 (Err why) s2

module _ {X : Type 0} {Sem : X → Type 0} {B : Type 0} {e : Env X Sem} {g : G X Sem B} where
  -- no piece begins here
  pub list-none : {s : Source} → nullable g ≡ false → starts e.begins g s.now ≡ false
      → Reads e (list g) s (Ok []) s
  list-none some begin = right (rw (begin, some) refl) at-ret

  -- the first piece is refused
  pub list-err : {why : SyntaxStop} {s0 s1 : Source} → starts e.begins g s0.now ≡ true
      → Reads e g s0 (Err why) s1 → Reads e (list g) s0 (Err why) s1
  list-err begin x = left (rw begin refl) (both-first x)

  -- behind the first piece
  pub lists-first : {b : B} {s0 s1 : Source} → starts e.begins g s0.now ≡ true
      → Reads e g s0 (Ok b) s1 → Lists e g (b ∷ []) s0 s1
  lists-first begin x =
      record {
        ok = λ bs s2 y. left (rw begin refl) (both-ok x y);
        err = λ why s2 y. left (rw begin refl) (both-second x y);
      }

  -- a comma and one more
  pub lists-on : {found : List B} {b : B} {s0 s1 s2 : Source} → Fits e
      → passes (any_of Comma) s1.now ≡ true
      → Lists e g found s0 s1 → Reads e (punct Comma >> g) s1 (Ok b) s2
      → Lists e g (found ++ b ∷ []) s0 s2
  lists-on {found = found} {b = b} fit comma so x = record {
    ok = λ bs s3 y. rw (append_assoc found (b ∷ []) bs)
        (so.ok (b ∷ bs) s3 (many-more fit refl (rw comma refl) x y));
    err = λ why s3 y. so.err why s3 (many-later fit refl (rw comma refl) x y);
  }

  -- no comma follows
  pub lists-end : {found : List B} {s0 s1 : Source} → passes (any_of Comma) s1.now ≡ false
      → Lists e g found s0 s1 → Reads e (list g) s0 (Ok found) s1
  lists-end {found = found} {s1 = s1} none so =
      rw append-nil at (so.ok [] s1 (many-none (rw none refl)))

  -- a comma, and a refusal behind it
  pub lists-err : {found : List B} {why : SyntaxStop} {s0 s1 s2 : Source}
      → passes (any_of Comma) s1.now ≡ true
      → Lists e g found s0 s1 → Reads e (punct Comma >> g) s1 (Err why) s2
      → Reads e (list g) s0 (Err why) s2
  lists-err {why = why} {s2 = s2} comma so x = so.err why s2 (many-first (rw comma refl) x)

  -- memory ran out behind a piece
  pub lists-memory : {found : List B} {b : B} {s0 s1 s2 : Source} → Fits e
      → passes (any_of Comma) s1.now ≡ true
      → Lists e g found s0 s1 → Reads e (punct Comma >> g) s1 (Ok b) s2
      → Reads e (list g) s0 (Err OutOfMemory) s2
  lists-memory {s2 = s2} fit comma so x =
      so.err OutOfMemory s2 (many-later fit refl (rw comma refl) x no-memory)
