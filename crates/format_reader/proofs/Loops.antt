-- How what a loop over pieces did is put together: a piece at each turn.
--
-- What is read from here on, put behind what was found, is what the whole repetition gives (`Goes`).
-- So the invariant speaks of no tokens, and each turn is one lemma.
use Rattle.std.proofs.Common.{◌≡◌, ℕ, ◌<◌, true, false, List, [], ◌∷◌, ◌++◌, length, Ok, Err, arith, refl, sym, ◌∙◌, ap, subst, append-nil, append_assoc}
use Rattle.ir_lexer.specs.Tokens.{Token}
use Rattle.grammar.specs.Flat.{Flat, flat}
use Rattle.grammar.specs.Grammar.{Tokens, Parser, Outcome, done, stop, and_then, pure, turns, nullable}
use Rattle.grammar.specs.Ran.{reads_in}
use Rattle.grammar.specs.Rules.{many}
use Rattle.grammar.proofs.FlatReads.{flat-fits}
use Rattle.grammar.proofs.Repeats.{rule-takes}
use Rattle.grammar.proofs.Shrink.{Takes, turns-same}
use Rattle.format_reader.specs.declared.stop.FormatAt.{FormatAt}
use Rattle.format_reader.specs.declared.stop.FormatAt.TheVariants.{At, OutOfMemory}
use Rattle.format_reader.specs.Ran.{now_of, behind, HasToken, begins, Reads}
use Rattle.format_reader.proofs.Runs.{no-memory}

module _ {B : Type 0} (g : Flat B) where
  -- as many pieces as begin here
  abbrev row : ℕ → Parser (List B)
  row n = turns (begins g) (reads_in flat g) n

  many-is : (s : Tokens) → reads_in flat (many g) s ≡ and_then (row (length s) s) (λ l. pure l)
  unfolding reads_in
  many-is s = refl

  turn : (t : Token) (ts : Tokens) → begins g t ≡ true
      → row (length (t ∷ ts)) (t ∷ ts)
      ≡ and_then (reads_in flat g (t ∷ ts)) (λ b rest. and_then (row (length ts) rest)
      (λ bs. pure (b ∷ bs)))
  turn t ts e = rw e refl

  none : (t : Token) (ts : Tokens) → begins g t ≡ false
      → row (length (t ∷ ts)) (t ∷ ts) ≡ done [] (t ∷ ts)
  none t ts e = rw e refl

  put-done : (o : Outcome (List B)) (b : B) (bs : List B) (rest : Tokens)
      → and_then o (λ l. pure l) ≡ done bs rest
      → and_then (and_then o (λ l. pure (b ∷ l))) (λ l. pure l) ≡ done (b ∷ bs) rest
  put-done (done l more) b bs rest e = cc
  put-done (stop d more) b bs rest e = absurd (cc)

  put-stop : (o : Outcome (List B)) (b : B) (rest : Tokens)
      → and_then o (λ l. pure l) ≡ stop false rest
      → and_then (and_then o (λ l. pure (b ∷ l))) (λ l. pure l) ≡ stop false rest
  put-stop (done l more) b rest e = absurd (cc)
  put-stop (stop d more) b rest e = cc

  -- a first piece, and then those behind it
  more-is : Takes (reads_in flat g) → (s s' : Tokens) (b : B) → HasToken s
      → begins g (now_of s) ≡ true → reads_in flat g s ≡ done b s'
      → reads_in flat (many g) s
      ≡ and_then (and_then (row (length s') s') (λ l. pure (b ∷ l))) (λ l. pure l)
  more-is takes s s' b some e x =
      let t = now_of s in
      let ts = behind s in
      let x2 : reads_in flat g (t ∷ ts) ≡ done b s' = subst (λ w. reads_in flat g w ≡ done b s') some.is x in
      let few = takes.by (t ∷ ts) b s' x2 in
      let same = turns-same (begins g) (reads_in flat g) takes (length ts) (length s') s'
      (omega arith) (omega arith) in
      many-is s
      ∙ ap (λ w. and_then (row (length w) w) (λ l. pure l)) some.is
      ∙ ap (λ o. and_then o (λ l. pure l)) (turn t ts e
      ∙ ap (λ o. and_then o (λ b rest. and_then (row (length ts) rest) (λ bs. pure (b ∷ bs)))) x2
      ∙ ap (λ o. and_then o (λ bs. pure (b ∷ bs))) same)

-- What comes of the rest, behind what was found, is what comes of the whole.
pub record Goes {B : Type 0} (g : Flat B) (found : List B) (s0 s1 : Tokens) : Type 0 where
  pub ok : (bs : List B) (s2 : Tokens) → Reads (many g) s1 (Ok bs) s2
      → Reads (many g) s0 (Ok (found ++ bs)) s2
  pub err : (why : FormatAt) (s2 : Tokens) → Reads (many g) s1 (Err why) s2
      → Reads (many g) s0 (Err why) s2

module _ {B : Type 0} {g : Flat B} where
  -- no piece begins here
  many-none : {s : Tokens} → HasToken s → begins g (now_of s) ≡ false
      → Reads (many g) s (Ok []) s
  many-none {s = s} some e = record {
    went = many-is g s ∙ ap (λ w. and_then (row g (length w) w) (λ l. pure l)) some.is
        ∙ ap (λ o. and_then o (λ l. pure l)) (none g (now_of s) (behind s) e)
        ∙ ap (λ w. done [] w) (sym some.is);
  }

  -- a piece, and then the rest
  many-more : {b : B} {bs : List B} {s0 s1 s2 : Tokens} → nullable g ≡ false → HasToken s0
      → begins g (now_of s0) ≡ true → Reads g s0 (Ok b) s1 → Reads (many g) s1 (Ok bs) s2
      → Reads (many g) s0 (Ok (b ∷ bs)) s2
  many-more {b = b} {bs = bs} {s0 = s0} {s1 = s1} {s2 = s2} full some e x y = record {
    went = more-is g (rule-takes flat g flat-fits full) s0 s1 b some e x.went
        ∙ put-done g _ b bs s2 (sym (many-is g s1) ∙ y.went);
  }

  -- a piece, and then the rest is refused
  many-later : {b : B} {s0 s1 s2 : Tokens} (why : FormatAt) → nullable g ≡ false → HasToken s0
      → begins g (now_of s0) ≡ true → Reads g s0 (Ok b) s1 → Reads (many g) s1 (Err why) s2
      → Reads (many g) s0 (Err why) s2
  many-later {b = b} {s0 = s0} {s1 = s1} {s2 = s2} (At place) full some e x y =
      let w = y.went in record {
        went = (
          w.0,
          w.1,
          more-is g (rule-takes flat g flat-fits full) s0 s1 b some e x.went
              ∙ put-stop g _ b (w.0 ∷ w.1) (sym (many-is g s1) ∙ w.2),
          w.3,
        );
      }
  many-later OutOfMemory full some e x y = no-memory

  -- a piece is refused
  many-first : {s0 s1 : Tokens} (why : FormatAt) → HasToken s0 → begins g (now_of s0) ≡ true
      → Reads g s0 (Err why) s1 → Reads (many g) s0 (Err why) s1
  many-first {s0 = s0} {s1 = s1} (At place) some e x =
      let w = x.went in
      let x2 : reads_in flat g (now_of s0 ∷ behind s0) ≡ stop false (w.0 ∷ w.1) =
      subst (λ v. reads_in flat g v ≡ stop false (w.0 ∷ w.1)) some.is w.2 in
      record {
        went = (
          w.0,
          w.1,
          many-is g s0
              ∙ ap (λ v. and_then (row g (length v) v) (λ l. pure l)) some.is
              ∙ ap (λ o. and_then o (λ l. pure l)) (turn g (now_of s0) (behind s0) e
              ∙ ap (λ o. and_then o (λ b rest. and_then (row g (length (behind s0)) rest)
              (λ bs. pure (b ∷ bs)))) x2),
          w.3,
        );
      }
  many-first OutOfMemory some e x = no-memory

  -- before the first turn
  pub goes-none : {s : Tokens} → Goes g [] s s
  goes-none = record { ok = λ bs s2 y. y; err = λ why s2 y. y }

  -- a turn that went well
  pub goes_on : {found : List B} {b : B} {s0 s1 s2 : Tokens} → nullable g ≡ false
      → HasToken s1 → begins g (now_of s1) ≡ true → Goes g found s0 s1 → Reads g s1 (Ok b) s2
      → Goes g (found ++ b ∷ []) s0 s2
  goes_on {found = found} {b = b} full some e so x = record {
    ok = λ bs s3 y. rw (append_assoc found (b ∷ []) bs)
        (so.ok (b ∷ bs) s3 (many-more full some e x y));
    err = λ why s3 y. so.err why s3 (many-later why full some e x y);
  }

  -- behind the last turn, where no piece begins
  pub goes-end : {found : List B} {s0 s1 : Tokens} → HasToken s1 → begins g (now_of s1) ≡ false
      → Goes g found s0 s1 → Reads (many g) s0 (Ok found) s1
  goes-end {found = found} {s1 = s1} some e so = rw append-nil at (so.ok [] s1 (many-none some e))

  -- a turn that did not go well
  pub goes-err : {found : List B} {why : FormatAt} {s0 s1 s2 : Tokens} → HasToken s1
      → begins g (now_of s1) ≡ true → Goes g found s0 s1 → Reads g s1 (Err why) s2
      → Reads (many g) s0 (Err why) s2
  goes-err {why = why} {s2 = s2} some e so x = so.err why s2 (many-first why some e x)

  -- a piece takes a token
  pub takes-one : {b : B} {s s' : Tokens} → nullable g ≡ false → Reads g s (Ok b) s'
      → length s' < length s
  takes-one {b = b} {s = s} {s' = s'} full x =
      let few = (rule-takes flat g flat-fits full).by s b s' x.went in omega arith
