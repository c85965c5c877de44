-- The check of a grammar, by computing with looks.
--
-- What `starts` and `more` say of tokens, `first_looks` and `more_looks` say of looks; by the
-- grammar each token of the first passes a look of the second. So looks that are apart keep tokens
-- apart, and a check that computes to true gives what `More` asks for.
use Rattle.std.proofs.Common.{◌≡◌, Bool, true, false, not, ◌&&◌, ◌||◌, List, [], ◌++◌, cond, refl, sym, ◌∙◌}
use Rattle.ir_lexer.specs.Tokens.{Token}
use Rattle.grammar.specs.Looks.{Look, passes, any, apart}
use Rattle.grammar.specs.Grammar.{G, ret, tok, both, alt, star, chain, made, placed, kid, nullable, starts}
use Rattle.grammar.specs.OneToken.{by_looks, first_looks, more_looks, check}
use Rattle.grammar.proofs.Meet.{and-true, true-or, not-true, in-left, in-right, any-append, apart-sound}
use Rattle.grammar.proofs.More.{more, Checks}

one-of : (p q : List Look) (t : Token) (a b : Bool) → (a ≡ true → any p t ≡ true)
    → (b ≡ true → any q t ≡ true) → (a || b) ≡ true → any (p ++ q) t ≡ true
one-of p q t true b x y e = in-left p q t (x refl)
one-of p q t false b x y e = in-right p q t (y e)

where-null : (n : Bool) (q : List Look) (t : Token) (b : Bool) → (b ≡ true → any q t ≡ true)
    → (n && b) ≡ true → any (cond n q []) t ≡ true
where-null true q t b x e = x e
where-null false q t b x e = absurd (cc)

chain-in : (hs ks ls : List Look) (n : Bool) (t : Token) (a b c : Bool)
    → (a ≡ true → any hs t ≡ true) → (b ≡ true → any ks t ≡ true) → (c ≡ true → any ls t ≡ true)
    → (a || (n && (b || c))) ≡ true → any (hs ++ cond n (ks ++ ls) []) t ≡ true
chain-in hs ks ls n t a b c x y z e =
    one-of hs _ t a (n && (b || c)) x
    (where-null n (ks ++ ls) t (b || c) (one-of ks ls t b c y z)) e

any-cond : (b : Bool) (ls : List Look) (t : Token) (x : Bool) → (any ls t ≡ true → x ≡ true)
    → any (cond b ls []) t ≡ true → (b && x) ≡ true
any-cond true ls t x h e = h e
any-cond false ls t x h e = absurd (cc)

either : (p q : List Look) (t : Token) (a b : Bool) → (any p t ≡ true → a ≡ true)
    → (any q t ≡ true → b ≡ true) → any (p ++ q) t ≡ true → (a || b) ≡ true
either p q t a b x y e = go (any p t) (any q t) (sym (any-append p q t) ∙ e) x y
  where
    go : (c d : Bool) → (c || d) ≡ true → (c ≡ true → a ≡ true) → (d ≡ true → b ≡ true)
        → (a || b) ≡ true
    go true d e x y = let u = x refl in rw u refl
    go false d e x y = true-or a b (y e)

module _ {X : Type 0} {Sem : X → Type 0} (begins goes_on : X → List Look) where
  -- the test of first tokens says what the looks do
  abbrev Starts : {A : Type 0} → G X Sem A → Token → Bool
  Starts g t = starts (by_looks begins) g t

  -- the looks with which a piece begins
  abbrev firsts : {A : Type 0} → G X Sem A → List Look
  firsts g = first_looks begins g

  -- the looks that go on with a whole piece
  abbrev mores : {A : Type 0} → G X Sem A → List Look
  mores g = more_looks begins goes_on g

  -- one look decides at each place
  abbrev test : {A : Type 0} → G X Sem A → Bool
  test g = check begins goes_on g

  -- what goes on with a whole piece
  abbrev More : {A : Type 0} → G X Sem A → Token → Bool
  More g t = more (by_looks begins) (by_looks goes_on) g t

  -- the looks are all that a piece begins with
  pub starts-in : {A : Type 0} (g : G X Sem A) (t : Token) → Starts g t ≡ true
      → any (firsts g) t ≡ true
  starts-in (ret b) t e = absurd (cc)
  starts-in (tok begins look f) t e = rw e refl
  starts-in (both f g h) t e =
      one-of (firsts g) _ t (Starts g t) (nullable g && Starts h t) (starts-in g t)
      (where-null (nullable g) (firsts h) t (Starts h t) (starts-in h t)) e
  starts-in (alt g h) t e =
      one-of (firsts g) (firsts h) t (Starts g t) (Starts h t) (starts-in g t) (starts-in h t) e
  starts-in (star f g) t e = starts-in g t e
  starts-in (chain f u v h k l) t e =
      chain-in (firsts h) (firsts k) (firsts l) (nullable h) t (Starts h t) (Starts k t)
      (Starts l t) (starts-in h t) (starts-in k t) (starts-in l t) e
  starts-in (made f g) t e = starts-in g t e
  starts-in (placed f g) t e = starts-in g t e
  starts-in (kid x f) t e = e

  -- the looks are no more than the tokens
  pub starts-back : {A : Type 0} (g : G X Sem A) (t : Token) → any (firsts g) t ≡ true
      → Starts g t ≡ true
  starts-back (ret b) t e = absurd (cc)
  starts-back (tok begins look f) t e = only (passes look t) e
    where
      only : (b : Bool) → (b || false) ≡ true → b ≡ true
      only true e = refl
      only false e = absurd (cc)
  starts-back (both f g h) t e =
      either (firsts g) _ t (Starts g t) (nullable g && Starts h t) (starts-back g t)
      (any-cond (nullable g) (firsts h) t (Starts h t) (starts-back h t)) e
  starts-back (alt g h) t e =
      either (firsts g) (firsts h) t (Starts g t) (Starts h t) (starts-back g t) (starts-back h t) e
  starts-back (star f g) t e = starts-back g t e
  starts-back (chain f u v h k l) t e =
      either (firsts h) _ t (Starts h t) (nullable h && (Starts k t || Starts l t))
      (starts-back h t)
      (any-cond (nullable h) (firsts k ++ firsts l) t (Starts k t || Starts l t)
      (either (firsts k) (firsts l) t (Starts k t) (Starts l t) (starts-back k t)
      (starts-back l t))) e
  starts-back (made f g) t e = starts-back g t e
  starts-back (placed f g) t e = starts-back g t e
  starts-back (kid x f) t e = e

  -- the looks are all that goes on with a whole piece
  pub more-in : {A : Type 0} (g : G X Sem A) (t : Token) → More g t ≡ true → any (mores g) t ≡ true
  more-in (ret b) t e = absurd (cc)
  more-in (tok begins look f) t e = absurd (cc)
  more-in (both f g h) t e =
      one-of (mores h) _ t (More h t) (nullable h && More g t) (more-in h t)
      (where-null (nullable h) (mores g) t (More g t) (more-in g t)) e
  more-in (alt g h) t e =
      one-of (cond (nullable h) (firsts g) []) (mores g ++ mores h) t (nullable h && Starts g t)
      (More g t || More h t)
      (where-null (nullable h) (firsts g) t (Starts g t) (starts-in g t))
      (one-of (mores g) (mores h) t (More g t) (More h t) (more-in g t) (more-in h t)) e
  more-in (star f g) t e =
      one-of (firsts g) (mores g) t (Starts g t) (More g t) (starts-in g t) (more-in g t) e
  more-in (chain f u v h k l) t e =
      one-of (firsts h ++ cond (nullable h) (firsts k ++ firsts l) []) (mores k ++ mores l) t
      (Starts h t || (nullable h && (Starts k t || Starts l t))) (More k t || More l t)
      (chain-in (firsts h) (firsts k) (firsts l) (nullable h) t (Starts h t) (Starts k t)
      (Starts l t) (starts-in h t) (starts-in k t) (starts-in l t))
      (one-of (mores k) (mores l) t (More k t) (More l t) (more-in k t) (more-in l t)) e
  more-in (made f g) t e = more-in g t e
  more-in (placed f g) t e = more-in g t e
  more-in (kid x f) t e = e

  -- a grammar that passes the test has what the test stands for
  pub checked : {A : Type 0} (g : G X Sem A) → test g ≡ true
      → Checks (by_looks begins) (by_looks goes_on) g
  checked (ret b) e = tt
  checked (tok begins look f) e = tt
  checked (both f g h) e =
      let p = and-true (test g) _ e in let q = and-true (test h) _ p.1 in (
        checked g p.0,
        checked h q.0,
        λ t x y. apart-sound (mores g) (firsts h) q.1 t (more-in g t x) (starts-in h t y),
      )
  checked (alt g h) e =
      let p = and-true (test g) _ e in let q = and-true (test h) _ p.1 in
      let r = and-true (not (nullable g)) _ q.1 in (
        checked g p.0,
        checked h q.0,
        not-true (nullable g) r.0,
        λ t x y. apart-sound (firsts g) (firsts h) r.1 t (starts-in g t x) (starts-in h t y),
      )
  checked (star f g) e =
      let p = and-true (test g) _ e in let r = and-true (not (nullable g)) _ p.1 in (
        checked g p.0,
        not-true (nullable g) r.0,
        λ t x y. apart-sound (mores g) (firsts g) r.1 t (more-in g t x) (starts-in g t y),
      )
  checked (chain f u v h k l) e =
      let p = and-true (test h) _ e in let q = and-true (test k) _ p.1 in
      let r = and-true (test l) _ q.1 in
      let a = and-true (not (nullable k)) _ r.1 in let b = and-true (not (nullable l)) _ a.1 in
      let w = and-true (apart (firsts k) (firsts l)) _ b.1 in
      let m = and-true (apart (mores h) (firsts k ++ firsts l)) _ w.1 in (
        checked h p.0,
        checked k q.0,
        checked l r.0,
        not-true (nullable k) a.0,
        not-true (nullable l) b.0,
        (λ t x y. apart-sound (firsts k) (firsts l) w.0 t (starts-in k t x) (starts-in l t y)),
        (λ t x y. apart-sound (mores h) (firsts k ++ firsts l) m.0 t (more-in h t x)
            (one-of (firsts k) (firsts l) t (Starts k t) (Starts l t) (starts-in k t)
            (starts-in l t) y)),
        (λ t x y. apart-sound (mores k) _ m.1 t (more-in k t x)
            (chain-in (firsts h) (firsts k) (firsts l) (nullable h) t (Starts h t) (Starts k t)
            (Starts l t) (starts-in h t) (starts-in k t) (starts-in l t) y)),
      )
  checked (made f g) e = checked g e
  checked (placed f g) e = let p = and-true (test g) (not (nullable g)) e in
      (checked g p.0, not-true (nullable g) p.1)
  checked (kid x f) e = tt
