-- What a loop that reads a row of pieces did.
--
-- The loop keeps `Builds`: what is read from here on, put behind what was found, is what the whole
-- comes to. The whole may be the row itself, a list with commas, or what is made of a first piece
-- and a row.
use Rattle.std.proofs.Common.{◌≡◌, true, false, List, [], ◌∷◌, ◌++◌, Ok, Err, append-nil, append_assoc}
use Rattle.grammar.specs.declared.stop.SyntaxStop.{SyntaxStop}
use Rattle.grammar.specs.declared.stop.SyntaxStop.TheVariants.{OutOfMemory}
use Rattle.grammar.specs.Grammar.{G, nullable, starts, both}
use Rattle.grammar.specs.Ran.{Env, Reads}
use Rattle.grammar.specs.Rules.{many}
use Rattle.grammar.proofs.Repeats.{Fits, many-none, many-more, many-later, many-first}
use Rattle.grammar.proofs.Runs.{both-ok, both-second, no-memory}
use Rattle.ir_lexer.specs.Source.{Source}

-- What comes of the rest, behind what was found, is what the whole comes to.
pub record Builds {X : Type 0} {Sem : X → Type 0} {A B : Type 0} (e : Env X Sem) (h : G X Sem B)
    (whole : G X Sem A) (f : List B → A)
    (found : List B) (s0 s1 : Source) : Type 0 where
  pub ok : (bs : List B) (s2 : Source) → Reads e (many h) s1 (Ok bs) s2
      → Reads e whole s0 (Ok (f (found ++ bs))) s2
  pub err : (why : SyntaxStop) (s2 : Source) → Reads e (many h) s1 (Err why) s2
      → Reads e whole s0 (Err why) s2

module _ {X : Type 0} {Sem : X → Type 0} {A B : Type 0} {e : Env X Sem} {h : G X Sem B}
    {whole : G X Sem A} {f : List B → A} where
  -- a turn that went well
  pub builds-on : {found : List B} {b : B} {s0 s1 s2 : Source} → Fits e → nullable h ≡ false
      → starts e.begins h s1.now ≡ true
      → Builds e h whole f found s0 s1 → Reads e h s1 (Ok b) s2
      → Builds e h whole f (found ++ b ∷ []) s0 s2
  builds-on {found = found} {b = b} fit some begin so x = record {
    ok = λ bs s3 y. rw (append_assoc found (b ∷ []) bs)
        (so.ok (b ∷ bs) s3 (many-more fit some begin x y));
    err = λ why s3 y. so.err why s3 (many-later fit some begin x y);
  }

  -- behind the last turn
  pub builds-end : {found : List B} {s0 s1 : Source} → starts e.begins h s1.now ≡ false
      → Builds e h whole f found s0 s1 → Reads e whole s0 (Ok (f found)) s1
  builds-end {found = found} {s1 = s1} begin so = rw append-nil at (so.ok [] s1 (many-none begin))

  -- a turn that did not go well
  pub builds-err : {found : List B} {why : SyntaxStop} {s0 s1 s2 : Source}
      → starts e.begins h s1.now ≡ true
      → Builds e h whole f found s0 s1 → Reads e h s1 (Err why) s2 → Reads e whole s0 (Err why) s2
  builds-err {why = why} {s2 = s2} begin so x = so.err why s2 (many-first begin x)

  -- memory ran out behind a turn
  pub builds-memory : {found : List B} {b : B} {s0 s1 s2 : Source} → Fits e → nullable h ≡ false
      → starts e.begins h s1.now ≡ true
      → Builds e h whole f found s0 s1 → Reads e h s1 (Ok b) s2
      → Reads e whole s0 (Err OutOfMemory) s2
  builds-memory {s2 = s2} fit some begin so x = so.err OutOfMemory s2
      (many-later fit some begin x no-memory)

-- behind the first piece of a row
pub builds-first : {X : Type 0} {Sem : X → Type 0} {A B : Type 0} {e : Env X Sem} {g h : G X Sem B}
    {f : List B → A} {b : B} {s0 s1 : Source}
    → Reads e g s0 (Ok b) s1 → Builds e h (both (λ b bs. f (b ∷ bs)) g (many h)) f (b ∷ []) s0 s1
builds-first x = record { ok = λ bs s2 y. both-ok x y; err = λ why s2 y. both-second x y }
