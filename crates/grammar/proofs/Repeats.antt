-- How what a loop did is put together: a piece at each turn.
--
-- A loop that reads none or more pieces keeps `GoneOver`: what is read from here on, put behind what
-- was found, is what the whole repetition gives. So the invariant speaks of no tokens, and each
-- turn is one lemma.
use Rattle.std.proofs.Common.{◌≡◌, ℕ, ◌+◌, ◌≤◌, Bool, true, false, List, [], ◌∷◌, ◌++◌, length, Ok, Err, arith, refl, sym, ◌∙◌, ap, append-nil, append_assoc}
use Rattle.ir_lexer.specs.Source.{Source}
use Rattle.ir_lexer.specs.Tokens.{Token}
use Rattle.grammar.specs.declared.stop.SyntaxStop.{SyntaxStop}
use Rattle.grammar.specs.declared.stop.SyntaxStop.TheVariants.{At, Failed, OutOfMemory}
use Rattle.grammar.specs.Grammar.{Tokens, Parser, Outcome, done, stop, and_then, pure, turns, G, nullable, starts}
use Rattle.grammar.specs.Rules.{many}
use Rattle.grammar.specs.Ran.{GoneOver, HasRead, Went, Env, reads_in, Reads}
use Rattle.grammar.proofs.Shrink.{Takes, takes-if, turns-same}
use Rattle.grammar.proofs.Kept.{kept-same, kept-ok, kept-then, kept-err}
use Rattle.grammar.proofs.Gone.{gone-none, gone-then}
use Rattle.grammar.proofs.Runs.{no-memory, more-ok}

-- what stands inside takes tokens
pub record Fits {X : Type 0} {Sem : X → Type 0} (e : Env X Sem) : Type 0 where
  pub takes : (x : X) → Takes (e.inside x)

-- a grammar that is not nullable takes tokens
pub rule-takes : {X : Type 0} {Sem : X → Type 0} {A : Type 0} (e : Env X Sem) (g : G X Sem A)
    → Fits e → nullable g ≡ false → Takes (reads_in e g)
unfolding reads_in
rule-takes e g fit some = takes-if e.begins e.inside e.none fit.takes g some

-- ---- one turn

-- the tree of a turn, put before those of the rest
end-ok : {B : Type 0} (o : Outcome (List B)) (b : B) (bs : List B) (rest : Tokens)
    → and_then o (λ l. pure l) ≡ done bs rest
    → and_then (and_then o (λ l. pure (b ∷ l))) (λ l. pure l) ≡ done (b ∷ bs) rest
end-ok (done l more) b bs rest e = cc
end-ok (stop d more) b bs rest e = absurd (cc)

-- the rest is not read
end-err : {B : Type 0} (o : Outcome (List B)) (b : B) (d : Bool) (rest : Tokens)
    → and_then o (λ l. pure l) ≡ stop d rest
    → and_then (and_then o (λ l. pure (b ∷ l))) (λ l. pure l) ≡ stop d rest
end-err (done l more) b d rest e = absurd (cc)
end-err (stop d more) b e rest h = cc

module _ {X : Type 0} {Sem : X → Type 0} {B : Type 0} (e : Env X Sem) (g : G X Sem B) where
  -- the turns that are left
  abbrev turns_of : ℕ → Parser (List B)
  turns_of m = turns (starts e.begins g) (reads_in e g) m

  -- all turns of a list
  abbrev row_of : Parser (List B)
  row_of ts = and_then (turns_of (length ts) ts) (λ l. pure l)

  -- one turn, where the first piece is refused
  turn-err : (t : Token) (ts w rest : Tokens) (d : Bool) → w ≡ t ∷ ts
      → starts e.begins g t ≡ true → reads_in e g w ≡ stop d rest
      → row_of w ≡ stop d rest
  turn-err t ts w rest d is begin item =
      let item' : reads_in e g (t ∷ ts) ≡ stop d rest = rw is at item in
      rw is (rw begin (rw item' refl))

  -- a row_of whose first piece is refused is refused
  pub first-went : (s0 s1 : Source) (why : SyntaxStop) → starts e.begins g s0.now ≡ true
      → Went (reads_in e g) s0 (Err why) s1 → Went (reads_in e (many g)) s0 (Err why) s1
  unfolding reads_in
  first-went s0 s1 (At place c) begin x = record {
    front = x.front;
    gone = x.gone;
    deep = x.deep;
    place_is = x.place_is;
    code_is = x.code_is;
    stops = λ rest. let first = x.gone.begins rest in
        turn-err s0.now first.0 _ (s1.now ∷ rest) x.deep first.1 begin (x.stops rest);
  }
  first-went s0 s1 Failed begin x = tt
  first-went s0 s1 OutOfMemory begin x = tt

module _ {X : Type 0} {Sem : X → Type 0} {B : Type 0} (e : Env X Sem) (g : G X Sem B)
    (takes : Takes (reads_in e g)) where
  -- the turns that are left
  abbrev again : ℕ → Parser (List B)
  again m = turns_of e g m

  -- all turns of a list
  abbrev row : Parser (List B)
  row ts = row_of e g ts

  -- a first turn, and then those behind it
  first-turn : (t : Token) (ts w more : Tokens) (b : B) → w ≡ t ∷ ts
      → starts e.begins g t ≡ true → reads_in e g w ≡ done b more
      → row w ≡ and_then (and_then (again (length more) more) (λ l. pure (b ∷ l))) (λ l. pure l)
  first-turn t ts w more b is begin item =
      let item' : reads_in e g (t ∷ ts) ≡ done b more = rw is at item in
      let few = takes.by (t ∷ ts) b more item' in
      let same = turns-same (starts e.begins g) (reads_in e g) takes (length ts) (length more) more
      (omega arith) (omega arith) in
      rw is (rw begin (rw item' (rw same refl)))

  -- the tokens of a turn and of those behind it
  then-row : (b : B) (s0 s1 s2 : Source) (x : HasRead (reads_in e g) s0 b s1) (back : Tokens)
      → GoneOver s1 back s2 → starts e.begins g s0.now ≡ true → (rest : Tokens)
      → row ((x.front ++ back) ++ s2.now ∷ rest)
      ≡ and_then (and_then (again (length (back ++ s2.now ∷ rest)) (back ++ s2.now ∷ rest))
      (λ l. pure (b ∷ l))) (λ l. pure l)
  then-row b s0 s1 s2 x back y begin rest =
      let next = y.begins rest in
      let w = (x.front ++ back) ++ s2.now ∷ rest in
      let split : w ≡ x.front ++ s1.now ∷ next.0 =
      append_assoc x.front back (s2.now ∷ rest) ∙ ap (λ v. x.front ++ v) next.1 in
      let first = x.gone.begins next.0 in
      let item : reads_in e g w ≡ done b (s1.now ∷ next.0) =
      ap (reads_in e g) split ∙ x.reads next.0 in
      first-turn s0.now first.0 w (s1.now ∷ next.0) b (split ∙ first.1) begin item
      ∙ ap (λ v. and_then (and_then (again (length v) v) (λ l. pure (b ∷ l))) (λ l. pure l))
      (sym next.1)

  -- what is refused behind a piece
  pub later-went : (b : B) (s0 s1 s2 : Source) (why : SyntaxStop)
      → starts e.begins g s0.now ≡ true → HasRead (reads_in e g) s0 b s1
      → Went (reads_in e (many g)) s1 (Err why) s2 → Went (reads_in e (many g)) s0 (Err why) s2
  unfolding reads_in
  later-went b s0 s1 s2 (At place c) begin p q = record {
    front = p.front ++ q.front;
    gone = gone-then p.front q.front p.gone q.gone;
    deep = q.deep;
    place_is = q.place_is;
    code_is = q.code_is;
    stops = λ rest. then-row b s0 s1 s2 p q.front q.gone begin rest
        ∙ end-err _ b q.deep (s2.now ∷ rest) (q.stops rest);
  }
  later-went b s0 s1 s2 Failed begin p q = tt
  later-went b s0 s1 s2 OutOfMemory begin p q = tt

module _ {X : Type 0} {Sem : X → Type 0} {B : Type 0} {e : Env X Sem} {g : G X Sem B} where
  -- no piece begins here
  pub many-none : {s : Source} → starts e.begins g s.now ≡ false → Reads e (many g) s (Ok []) s
  unfolding reads_in
  many-none {s = s} begin =
      record {
        ran =
            record {
              kept = kept-same _ s;
              less = omega arith;
              went = record { front = []; gone = gone-none s; reads = λ rest. rw begin refl };
            };
      }

  -- a piece, and then the rest
  pub many-more : {b : B} {bs : List B} {s0 s1 s2 : Source} → Fits e → nullable g ≡ false
      → starts e.begins g s0.now ≡ true
      → Reads e g s0 (Ok b) s1 → Reads e (many g) s1 (Ok bs) s2
      → Reads e (many g) s0 (Ok (b ∷ bs)) s2
  unfolding reads_in
  many-more {b = b} {bs = bs} {s0 = s0} {s1 = s1} {s2 = s2} fit some begin x y =
      let takes = rule-takes e g fit some in record {
        ran = record {
          kept = kept-ok (b ∷ bs) (kept-then x.ran.kept y.ran.kept);
          less = let u : 0 + s1.left ≤ s0.left = more-ok (Ok b) _ 0 s0.left s1.left
              (omega arith) x.ran.less in let v : 0 + s2.left ≤ s1.left = y.ran.less in omega arith;
          went =
              let p = x.ran.went in
              let q = y.ran.went in
              record {
                front = p.front ++ q.front;
                gone = gone-then p.front q.front p.gone q.gone;
                reads = λ rest. then-row e g takes b s0 s1 s2 p q.front q.gone begin rest
                    ∙ end-ok _ b bs (s2.now ∷ rest) (q.reads rest);
              };
        };
      }

  -- a piece, and then the rest is refused
  pub many-later : {b : B} {why : SyntaxStop} {s0 s1 s2 : Source} → Fits e → nullable g ≡ false
      → starts e.begins g s0.now ≡ true
      → Reads e g s0 (Ok b) s1 → Reads e (many g) s1 (Err why) s2 → Reads e (many g) s0 (Err why) s2
  many-later {b = b} {why = why} {s0 = s0} {s1 = s1} {s2 = s2} fit some begin x y = record {
    ran = record {
      kept = kept-then x.ran.kept y.ran.kept;
      less = tt;
      went = later-went e g (rule-takes e g fit some) _ s0 s1 s2 why begin x.ran.went y.ran.went;
    };
  }

  -- a piece is refused
  pub many-first : {why : SyntaxStop} {s0 s1 : Source} → starts e.begins g s0.now ≡ true
      → Reads e g s0 (Err why) s1 → Reads e (many g) s0 (Err why) s1
  unfolding reads_in
  many-first {why = why} {s0 = s0} {s1 = s1} begin x = record {
    ran = record {
      kept = kept-err x.ran.kept;
      less = tt;
      went = first-went e g s0 s1 why begin x.ran.went;
    };
  }

-- ---- loops

-- What comes of the rest, behind what was found, is what comes of the whole.
pub record Goes {X : Type 0} {Sem : X → Type 0} {B : Type 0} (e : Env X Sem) (g : G X Sem B)
    (found : List B) (s0 s1 : Source) : Type 0 where
  pub ok : (bs : List B) (s2 : Source) → Reads e (many g) s1 (Ok bs) s2
      → Reads e (many g) s0 (Ok (found ++ bs)) s2
  pub err : (why : SyntaxStop) (s2 : Source) → Reads e (many g) s1 (Err why) s2
      → Reads e (many g) s0 (Err why) s2

module _ {X : Type 0} {Sem : X → Type 0} {B : Type 0} {e : Env X Sem} {g : G X Sem B} where
  -- before the first turn
  pub goes-none : {s : Source} → Goes e g [] s s
  goes-none = record { ok = λ bs s2 y. y; err = λ why s2 y. y }

  -- a turn that went well
  pub goes_on : {found : List B} {b : B} {s0 s1 s2 : Source} → Fits e → nullable g ≡ false
      → starts e.begins g s1.now ≡ true
      → Goes e g found s0 s1 → Reads e g s1 (Ok b) s2 → Goes e g (found ++ b ∷ []) s0 s2
  goes_on {found = found} {b = b} fit some begin so x = record {
    ok = λ bs s3 y. rw (append_assoc found (b ∷ []) bs)
        (so.ok (b ∷ bs) s3 (many-more fit some begin x y));
    err = λ why s3 y. so.err why s3 (many-later fit some begin x y);
  }

  -- behind the last turn, where no piece begins
  pub goes-end : {found : List B} {s0 s1 : Source} → starts e.begins g s1.now ≡ false
      → Goes e g found s0 s1 → Reads e (many g) s0 (Ok found) s1
  goes-end {found = found} {s1 = s1} begin so = rw append-nil at (so.ok [] s1 (many-none begin))

  -- a turn that did not go well
  pub goes-err : {found : List B} {why : SyntaxStop} {s0 s1 s2 : Source}
      → starts e.begins g s1.now ≡ true
      → Goes e g found s0 s1 → Reads e g s1 (Err why) s2 → Reads e (many g) s0 (Err why) s2
  goes-err {why = why} {s2 = s2} begin so x = so.err why s2 (many-first begin x)

  -- memory ran out behind a turn
  pub goes-memory : {found : List B} {b : B} {s0 s1 s2 : Source} → Fits e → nullable g ≡ false
      → starts e.begins g s1.now ≡ true
      → Goes e g found s0 s1 → Reads e g s1 (Ok b) s2 → Reads e (many g) s0 (Err OutOfMemory) s2
  goes-memory {s2 = s2} fit some begin so x =
      so.err OutOfMemory s2 (many-later fit some begin x no-memory)
