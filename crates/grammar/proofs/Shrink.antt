-- A reader takes tokens and gives none back.
--
-- By the grammar, a reader takes a token at least where the empty list is no piece. So the bound on
-- the turns of a row does not matter, where it is enough: the length of what is left always is.
use Rattle.std.proofs.Common.{◌≡◌, ℕ, zero, suc, ◌+◌, ◌≤◌, ◌<◌, Bool, true, false, ◌&&◌, ◌||◌, List, [], ◌∷◌, length, arith, refl, ap, if◌then◌else◌}
use Rattle.ir_lexer.specs.Tokens.{Token}
use Rattle.grammar.specs.Looks.{passes}
use Rattle.grammar.specs.Grammar.{Tokens, Parser, Outcome, done, stop, and_then, ◌>>=◌, pure, read_tok, turns, on_head, starts, nullable, reads, G, ret, tok, both, alt, star, chain, made, placed, kid, body, links, place_of}

-- at least k tokens
pub record Shrinks {A : Type 0} (k : ℕ) (p : Parser A) : Type 0 where
  pub by : (ts : Tokens) (a : A) (rest : Tokens) → p ts ≡ done a rest → k + length rest ≤ length ts

-- a reader that gives no token back
abbrev pub Fewer : {A : Type 0} → Parser A → Type 0
Fewer p = Shrinks 0 p

-- a reader that takes a token at least
abbrev pub Takes : {A : Type 0} → Parser A → Type 0
Takes p = Shrinks 1 p

-- no step gives nothing back
pure-fewer : {A : Type 0} (a : A) → Fewer (pure a)
pure-fewer a = record { by = λ ts b rest e. let q : rest ≡ ts = cc in rw q (omega arith) }

bind-by : {A B : Type 0} {k m : ℕ} {p : Parser A} (f : A → Parser B) (ts : Tokens) (o : Outcome A)
    (b : B) (rest : Tokens) → Shrinks k p → ((a : A) → Shrinks m (f a))
    → p ts ≡ o → and_then o f ≡ done b rest → (k + m) + length rest ≤ length ts
bind-by f ts (done a more) b rest x y e h = let u = x.by ts a more e in
    let v = (y a).by more b rest h in omega arith
bind-by f ts (stop d more) b rest x y e h = absurd (cc)

-- two steps take what both take
pub bind : {A B : Type 0} {k m : ℕ} {p : Parser A} {f : A → Parser B} → Shrinks k p
    → ((a : A) → Shrinks m (f a)) → Shrinks (k + m) (p >>= f)
bind {p = p} {f = f} x y = record { by = λ ts b rest e. bind-by f ts (p ts) b rest x y refl e }

-- a reader that takes k tokens takes fewer, too
pub weaken : {A : Type 0} {k m : ℕ} {p : Parser A} → m ≤ k → Shrinks k p → Shrinks m p
weaken le x = record { by = λ ts a rest e. let u = x.by ts a rest e in omega arith }

-- of two readers, whichever is taken
if-by : {A : Type 0} {k : ℕ} {p q : Parser A} (c : Bool) (ts : Tokens) (a : A) (rest : Tokens)
    → Shrinks k p → Shrinks k q → (if c then p ts else q ts) ≡ done a rest
    → k + length rest ≤ length ts
if-by true ts a rest x y e = x.by ts a rest e
if-by false ts a rest x y e = y.by ts a rest e

tok-cases : {A : Type 0} (c d : Bool) (b : A) (t : Token) (ts : Tokens) (a : A) (rest : Tokens)
    → (if c then (if d then stop true (t ∷ ts) else done b ts) else stop false (t ∷ ts)) ≡ done a
    rest → 1 + length rest ≤ length (t ∷ ts)
tok-cases true true b t ts a rest e = absurd (cc)
tok-cases true false b t ts a rest e = let q : rest ≡ ts = cc in rw q (omega arith)
tok-cases false d b t ts a rest e = absurd (cc)

tok-by : {A : Type 0} (d : Bool) (test : Token → Bool) (f : Token → A) (ts : Tokens) (a : A)
    (rest : Tokens) → read_tok d test f ts ≡ done a rest → 1 + length rest ≤ length ts
tok-by d test f [] a rest e = absurd (cc)
tok-by d test f (t ∷ ts) a rest e = tok-cases (test t) d (f t) t ts a rest e

-- the reader of one token takes it
pub tok-takes : {A : Type 0} (d : Bool) (test : Token → Bool) (f : Token → A)
    → Takes (read_tok d test f)
tok-takes d test f = record { by = tok-by d test f }

-- The bound on turns doesn't matter, where it is enough.
module _ {B : Type 0} (begins : Token → Bool) (item : Parser B) (takes : Takes item) where
  done-same : (m k : ℕ) (ts : Tokens) (o : Outcome B) → item ts ≡ o
      → ((rest : Tokens) → length rest < length ts
      → turns begins item m rest ≡ turns begins item k rest)
      → and_then o (λ b. turns begins item m >>= (λ bs. pure (b ∷ bs))) ≡ and_then o
      (λ b. turns begins item k >>= (λ bs. pure (b ∷ bs)))
  done-same m k ts (done b rest) e same = let u = takes.by ts b rest e in
      rw (same rest (omega arith)) refl
  done-same m k ts (stop d rest) e same = refl

  -- two bounds that are enough give one answer
  pub turns-same : (m k : ℕ) (ts : Tokens) → length ts ≤ m → length ts ≤ k
      → turns begins item m ts ≡ turns begins item k ts
  turns-same zero zero ts p q = refl
  turns-same zero (suc k) [] p q = refl
  turns-same zero (suc k) (t ∷ ts) p q = absurd (omega arith)
  turns-same (suc m) zero [] p q = refl
  turns-same (suc m) zero (t ∷ ts) p q = absurd (omega arith)
  turns-same (suc m) (suc k) [] p q = refl
  turns-same (suc m) (suc k) (t ∷ ts) p q =
      ap (λ x. if begins t then x else done [] (t ∷ ts))
      (done-same m k (t ∷ ts) (item (t ∷ ts)) refl
      (λ rest l. turns-same m k rest (omega arith) (omega arith)))

-- a row of pieces gives nothing back
turns-fewer : {B : Type 0} (begins : Token → Bool) (item : Parser B) → Fewer item → (n : ℕ)
    → Fewer (turns begins item n)
turns-fewer begins item x zero = pure-fewer []
turns-fewer begins item x (suc n) =
    record {
      by = λ ts bs rest e. if-by (on_head begins ts) ts bs rest
          (bind x (λ b. bind (turns-fewer begins item x n) (λ bs. pure-fewer (b ∷ bs))))
          (pure-fewer []) e;
    }

-- nor does a body
body-fewer : {B C D I : Type 0} (p : B → C → I) (q : B → D → I) (body_begins : Token → Bool)
    {k : Parser C} {l : Parser D} {more : Parser (List I)} → Fewer k → Fewer l → Fewer more
    → Fewer (body p q body_begins k l more)
body-fewer p q body_begins y z m =
    record {
      by = λ ts f rest e. if-by (on_head body_begins ts) ts f rest
          (bind y (λ c. bind m (λ is. pure-fewer _))) (bind z (λ d. pure-fewer _)) e;
    }

-- nor does a row of heads and bodies
links-fewer : {B C D I : Type 0} (p : B → C → I) (q : B → D → I) (begins body_begins : Token → Bool)
    {h : Parser B} {k : Parser C} {l : Parser D} → Fewer h → Fewer k → Fewer l → (n : ℕ)
    → Fewer (links p q begins body_begins h k l n)
links-fewer p q begins body_begins x y z zero = pure-fewer []
links-fewer p q begins body_begins {h = h} {k = k} {l = l} x y z (suc n) =
    let again = links-fewer p q begins body_begins x y z n in
    record {
      by = λ ts is rest e. if-by (on_head begins ts) ts is rest
          (bind x (λ b. bind (body-fewer p q body_begins y z again) (λ f. pure-fewer (f b))))
          (pure-fewer []) e;
    }

-- The bound on heads and bodies doesn't matter, where it is enough.
module _ {B C D I : Type 0} (p : B → C → I) (q : B → D → I) (begins body_begins : Token → Bool)
    (h : Parser B) (k : Parser C) (l : Parser D) (few : Fewer h) (takes : Takes k) where
  k-same : (x y : Parser (List I)) (ts : Tokens) (o : Outcome C) → k ts ≡ o
      → ((c : C) (rest : Tokens) → k ts ≡ done c rest → x rest ≡ y rest)
      → and_then {B = B → List I} o (λ c. x >>= (λ is. pure (λ b. p b c ∷ is))) ≡ and_then o
      (λ c. y >>= (λ is. pure (λ b. p b c ∷ is)))
  k-same x y ts (done c rest) e m = rw (m c rest e) refl
  k-same x y ts (stop d rest) e m = refl

  -- a body with two readers of what is behind it, which agree there
  pub body-same : (x y : Parser (List I)) (ts : Tokens)
      → ((c : C) (rest : Tokens) → k ts ≡ done c rest → x rest ≡ y rest)
      → body p q body_begins k l x ts ≡ body p q body_begins k l y ts
  body-same x y [] m = refl
  body-same x y (t ∷ ts) m =
      ap (λ z. if body_begins t then z else (l >>= (λ d. pure (λ b. q b d ∷ []))) (t ∷ ts))
      (k-same x y (t ∷ ts) (k (t ∷ ts)) refl m)

  h-same : (x y : Parser (List I)) (ts : Tokens) (o : Outcome B) → h ts ≡ o
      → ((b : B) (rest : Tokens) → h ts ≡ done b rest
      → body p q body_begins k l x rest ≡ body p q body_begins k l y rest)
      → and_then {B = List I} o (λ b. body p q body_begins k l x >>= (λ f. pure (f b))) ≡ and_then o
      (λ b. body p q body_begins k l y >>= (λ f. pure (f b)))
  h-same x y ts (done b rest) e m = rw (m b rest e) refl
  h-same x y ts (stop d rest) e m = refl

  -- two bounds that are enough give one answer
  pub links-same : (m n : ℕ) (ts : Tokens) → length ts ≤ m → length ts ≤ n
      → links p q begins body_begins h k l m ts ≡ links p q begins body_begins h k l n ts
  links-same zero zero ts a b = refl
  links-same zero (suc n) [] a b = refl
  links-same zero (suc n) (t ∷ ts) a b = absurd (omega arith)
  links-same (suc m) zero [] a b = refl
  links-same (suc m) zero (t ∷ ts) a b = absurd (omega arith)
  links-same (suc m) (suc n) [] a b = refl
  links-same (suc m) (suc n) (t ∷ ts) a b =
      ap (λ z. if begins t then z else done [] (t ∷ ts))
      (h-same (links p q begins body_begins h k l m) (links p q begins body_begins h k l n) (t ∷ ts)
      (h (t ∷ ts)) refl
      (λ x rest e. body-same (links p q begins body_begins h k l m)
      (links p q begins body_begins h k l n) rest
      (λ c rest2 e2. let u = few.by (t ∷ ts) x rest e in let v = takes.by rest c rest2 e2 in
      links-same m n rest2 (omega arith) (omega arith))))

module _ {X : Type 0} {Sem : X → Type 0} (kid_starts : X → Token → Bool)
    (kid_at : (x : X) → Parser (Sem x)) (none : Bool) (kid_takes : (x : X) → Takes (kid_at x)) where
  -- how many tokens a piece has at least
  abbrev size : {A : Type 0} → G X Sem A → ℕ
  size g = if nullable g then 0 else 1

  size-both : (a b : Bool)
      → (if a && b then 0 else 1) ≤ (if a then 0 else 1) + ((if b then 0 else 1) + 0)
  size-both true true = omega arith
  size-both true false = omega arith
  size-both false true = omega arith
  size-both false false = omega arith

  size-alt : (a b : Bool)
      → ((if a || b then 0 else 1) ≤ (if a then 0 else 1))
      × ((if a || b then 0 else 1) ≤ (if b then 0 else 1))
  size-alt true true = (omega arith, omega arith)
  size-alt true false = (omega arith, omega arith)
  size-alt false true = (omega arith, omega arith)
  size-alt false false = (omega arith, omega arith)

  -- the reader of a grammar takes as many tokens as a piece has at least
  pub shrinks : {A : Type 0} (g : G X Sem A) → Shrinks (size g) (reads kid_starts kid_at none g)
  shrinks (ret b) = pure-fewer b
  shrinks (tok begins look f) = tok-takes _ (passes look) f
  shrinks (both f g h) =
      weaken (size-both (nullable g) (nullable h))
      (bind (shrinks g) (λ b. bind (shrinks h) (λ c. pure-fewer (f b c))))
  shrinks (alt g h) = let q = size-alt (nullable g) (nullable h) in
      record {
        by = λ ts a rest e. if-by (on_head (starts kid_starts g) ts) ts a rest
            (weaken q.0 (shrinks g)) (weaken q.1 (shrinks h)) e;
      }
  shrinks (star f g) = record {
    by = λ ts a rest e.
        (bind (turns-fewer (starts kid_starts g) (reads kid_starts kid_at none g)
        (weaken (omega arith) (shrinks g)) (length ts)) (λ bs. pure-fewer (f bs))).by ts a rest e;
  }
  shrinks (chain f p q h k l) = record {
    by = λ ts a rest e.
        (bind (links-fewer p q
        (λ t. starts kid_starts h t
        || (nullable h && (starts kid_starts k t || starts kid_starts l t))) (starts kid_starts k)
        (weaken (omega arith) (shrinks h)) (weaken (omega arith) (shrinks k))
        (weaken (omega arith) (shrinks l)) (length ts)) (λ is. pure-fewer (f is))).by ts a rest e;
  }
  shrinks (made f g) = weaken (omega arith) (bind (shrinks g) (λ b. pure-fewer (f b)))
  shrinks (placed f g) =
      record {
        by = λ ts a rest e. let u =
            (bind (shrinks g) (λ b. pure-fewer (f (place_of ts) b))).by ts a rest e in omega arith;
      }
  shrinks (kid x f) = bind (kid_takes x) (λ c. pure-fewer (f c))

  -- the reader of a grammar gives no token back
  pub fewer-of : {A : Type 0} (g : G X Sem A) → Fewer (reads kid_starts kid_at none g)
  fewer-of g = weaken (omega arith) (shrinks g)

  -- the reader of a grammar that is not nullable takes a token
  pub takes-if : {A : Type 0} (g : G X Sem A) → nullable g ≡ false
      → Takes (reads kid_starts kid_at none g)
  takes-if g e = let h = shrinks g in rw e at h
