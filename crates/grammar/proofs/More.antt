-- The tokens that may go on with a whole piece, and the check of a grammar.
--
-- Where one list is a piece and a longer one too, the token behind the first goes on with a whole
-- piece; `more` computes these tokens. A grammar in which none of them begins what follows, and in
-- which no two ways of a choice begin alike, is decided by one token: that is `Checks`, which
-- speaks of single tokens only. By the grammar; two ways to cut one list are compared by `Split`.
use Rattle.std.proofs.Common.{◌≡◌, Bool, true, false, ◌&&◌, ◌||◌, List, [], ◌∷◌, ◌++◌, ◌⊎◌, inl, inr, refl, sym, ◌∙◌, ap, subst, append_assoc}
use Rattle.ir_lexer.specs.Tokens.{Token}
use Rattle.grammar.specs.Grammar.{Tokens, EachPiece, G, ret, tok, both, alt, star, chain, made, placed, kid, Links, Derives, nullable, starts}
use Rattle.grammar.specs.Front.{Some_of}
use Rattle.grammar.proofs.Cut.{Split, same, longer, shorter, split}
use Rattle.grammar.proofs.Choice.{empty-parts}
use Rattle.grammar.proofs.Firsts.{Kids, first-of-each, first-of-links}
use Rattle.grammar.proofs.Firsts as firsts
use Rattle.grammar.proofs.Begun.{IsOneToken}
use Rattle.grammar.proofs.Meet.{true-or}

-- no token passes both
abbrev pub Disjoint : (Token → Bool) → (Token → Bool) → Type 0
Disjoint p q = (t : Token) → p t ≡ true → q t ≡ true → ⊥

module _ {X : Type 0} {Sem : X → Type 0} (kid_starts kid_more : X → Token → Bool) where
  -- a piece begins with the token
  abbrev opens : {A : Type 0} → G X Sem A → Token → Bool
  opens g = starts kid_starts g

  -- whether the token may go on with a whole piece
  abbrev pub more : {A : Type 0} → G X Sem A → Token → Bool
  more (ret b) t = false
  more (tok begins look f) t = false
  more (both f g h) t = more h t || (nullable h && more g t)
  more (alt g h) t = (nullable h && opens g t) || (more g t || more h t)
  more (star f g) t = opens g t || more g t
  more (chain f u v h k l) t =
      (opens h t || (nullable h && (opens k t || opens l t))) || (more k t || more l t)
  more (made f g) t = more g t
  more (placed f g) t = more g t
  more (kid x f) t = kid_more x t

  -- what a table of looks can show
  abbrev pub Checks : {A : Type 0} → G X Sem A → Type 0
  Checks (ret b) = Unit {0}
  Checks (tok begins look f) = Unit {0}
  Checks (both f g h) = Checks g × Checks h × Disjoint (more g) (opens h)
  Checks (alt g h) = Checks g × Checks h × (nullable g ≡ false) × Disjoint (opens g) (opens h)
  Checks (star f g) = Checks g × (nullable g ≡ false) × Disjoint (more g) (opens g)
  Checks (chain f u v h k l) =
      Checks h × Checks k × Checks l × (nullable k ≡ false) × (nullable l ≡ false)
      × Disjoint (opens k) (opens l)
      × Disjoint (more h) (λ t. opens k t || opens l t)
      × Disjoint (more k) (λ t. opens h t || (nullable h && (opens k t || opens l t)))
  Checks (made f g) = Checks g
  Checks (placed f g) = Checks g × (nullable g ≡ false)
  Checks (kid x f) = Unit {0}

  module _ (Derived : (x : X) → Tokens → Sem x → Type 0) (kids : Kids Derived kid_starts)
      (kid_goes : (x : X) (d : Tokens) (y : Token) (e : Tokens) (a b : Sem x) → Derived x d a
      → Derived x (d ++ y ∷ e) b → kid_more x y ≡ true) where
    -- the tokens are a piece of the grammar, with this tree
    abbrev Tree : {A : Type 0} → G X Sem A → Tokens → A → Type 0
    Tree g = Derives Derived g

    -- what is known of first tokens, of these nonterminals
    empty : {A : Type 0} (g : G X Sem A) (a : A) → Tree g [] a → nullable g ≡ true
    empty g a d = firsts.empty Derived kid_starts kids g a d

    first : {A : Type 0} (g : G X Sem A) (t : Token) (ts : Tokens) (a : A) → Tree g (t ∷ ts) a
        → opens g t ≡ true
    first g t ts a d = firsts.first Derived kid_starts kids g t ts a d

    -- a list with a token is not empty
    nil-cons : (d : Tokens) (y : Token) (e : Tokens) → d ++ y ∷ e ≡ [] → ⊥
    nil-cons [] y e h = absurd (cc)
    nil-cons (x ∷ d) y e h = absurd (cc)

    -- of two pieces one after the other
    both-goes : {B C : Type 0} (g : G X Sem B) (h : G X Sem C) → Disjoint (more g) (opens h)
        → ((d : Tokens) (y : Token) (e : Tokens) (a b : B) → Tree g d a → Tree g (d ++ y ∷ e) b
        → more g y ≡ true)
        → ((d : Tokens) (y : Token) (e : Tokens) (a b : C) → Tree h d a → Tree h (d ++ y ∷ e) b
        → more h y ≡ true)
        → (d1 d2 : Tokens) (y : Token) (e : Tokens) (b : B) (c : C) → Tree g d1 b → Tree h d2 c
        → (f1 f2 : Tokens) (b2 : B) (c2 : C) → Tree g f1 b2 → Tree h f2 c2
        → Split d1 (d2 ++ y ∷ e) f1 f2 → (more h y || (nullable h && more g y)) ≡ true
    both-goes g h dis ig ih d1 d2 y e b c x z f1 f2 b2 c2 x2 z2 (same p q) =
        let u : more h y ≡ true = ih d2 y e c c2 z
        (subst (λ (w : Tokens). Tree h w c2) (sym q) z2) in rw u refl
    both-goes g h dis ig ih d1 d2 y e b c x z f1 f2 b2 c2 x2 z2 (longer t k p q) =
        absurd (dis t (ig f1 t k b2 b x2 (subst (λ (w : Tokens). Tree g w b) p x))
        (first h t (k ++ (d2 ++ y ∷ e)) c2 (subst (λ (w : Tokens). Tree h w c2) q z2)))
    both-goes {C = C} g h dis ig ih d1 d2 y e b c x z f1 f2 b2 c2 x2 z2 (shorter t k p q) =
        go d2 q z (ig d1 t k b b2 x (subst (λ (w : Tokens). Tree g w b2) p x2))
      where
        go : (w : Tokens) → w ++ y ∷ e ≡ t ∷ (k ++ f2) → Tree h w c → more g t ≡ true
            → (more h y || (nullable h && more g y)) ≡ true
        go [] q z m =
            let hd : t ≡ y = cc in
            let n : nullable h ≡ true = empty h c z in
            let m2 : more g y ≡ true = subst (λ (w : Token). more g w ≡ true) hd m in
            true-or (more h y) (nullable h && more g y) (rw (n, m2) refl)
        go (v ∷ w) q z m = let hd : v ≡ t = cc in
            absurd (dis t m (subst (λ (w : Token). opens h w ≡ true) hd (first h v w c z)))

    -- of a row of pieces
    star-goes : {B : Type 0} (g : G X Sem B) → nullable g ≡ false → Disjoint (more g) (opens g)
        → ((d : Tokens) (y : Token) (e : Tokens) (a b : B) → Tree g d a → Tree g (d ++ y ∷ e) b
        → more g y ≡ true)
        → (bs cs : List B) (d : Tokens) (y : Token) (e : Tokens) → EachPiece (Tree g) d bs
        → EachPiece (Tree g) (d ++ y ∷ e) cs → (opens g y || more g y) ≡ true
    star-goes g full dis ig bs [] d y e x z = absurd (nil-cons d y e z)
    star-goes g full dis ig [] (c ∷ cs) d y e x z =
        let u : opens g y ≡ true = first-of-each (Tree g) (opens g) (first g) (c ∷ cs) y e
        (subst (λ (w : Tokens). EachPiece (Tree g) (w ++ y ∷ e) (c ∷ cs)) x z) in rw u refl
    star-goes {B = B} g full dis ig (b ∷ bs) (c ∷ cs) d y e (d1, d2, is, r, rest)
        (f1, f2, is2, r2, rest2) =
        go (split d1 (d2 ++ y ∷ e) f1 f2
        (sym (append_assoc d1 d2 (y ∷ e)) ∙ (ap (λ w. w ++ y ∷ e) (sym is) ∙ is2)))
        (star-goes g full dis ig bs cs d2 y e rest)
      where
        begin : (l : List B) (t : Token) (w : Tokens) → EachPiece (Tree g) (t ∷ w) l → opens g t ≡ true
        begin l t w x = first-of-each (Tree g) (opens g) (first g) l t w x

        at_end : (t : Token) (k : Tokens) (w : Tokens) → w ++ y ∷ e ≡ t ∷ (k ++ f2)
            → EachPiece (Tree g) w bs → more g t ≡ true → (opens g y || more g y) ≡ true
        at_end t k [] q z m = let hd : t ≡ y = cc in
            true-or (opens g y) (more g y) (subst (λ (w : Token). more g w ≡ true) hd m)
        at_end t k (v ∷ w) q z m = let hd : v ≡ t = cc in
            absurd (dis t m (subst (λ (w : Token). opens g w ≡ true) hd (begin bs v w z)))

        go : Split d1 (d2 ++ y ∷ e) f1 f2
            → (EachPiece (Tree g) (d2 ++ y ∷ e) cs → (opens g y || more g y) ≡ true)
            → (opens g y || more g y) ≡ true
        go (same p q) again = again (subst (λ (w : Tokens). EachPiece (Tree g) w cs) (sym q) rest2)
        go (longer t k p q) again =
            absurd (dis t (ig f1 t k c b r2 (subst (λ (w : Tokens). Tree g w b) p r))
            (begin cs t (k ++ (d2 ++ y ∷ e)) (subst (λ (w : Tokens). EachPiece (Tree g) w cs) q rest2)))
        go (shorter t k p q) again =
            at_end t k d2 q rest (ig d1 t k b c r (subst (λ (w : Tokens). Tree g w c) p r2))

    -- of any two pieces, where the second of the one and of the other are of kinds that go on alike
    then-goes : (P Q1 Q2 : Tokens → Type 0) (mp sq : Token → Bool) (mq nq : Bool) (y : Token)
        (e : Tokens)
        → ((d : Tokens) (t : Token) (k : Tokens) → P d → P (d ++ t ∷ k) → mp t ≡ true)
        → ((d : Tokens) → Q1 d → Q2 (d ++ y ∷ e) → mq ≡ true)
        → ((t : Token) (w : Tokens) → Q1 (t ∷ w) → sq t ≡ true)
        → ((t : Token) (w : Tokens) → Q2 (t ∷ w) → sq t ≡ true) → (Q1 [] → nq ≡ true)
        → Disjoint mp sq
        → (d1 d2 f1 f2 : Tokens) → P d1 → Q1 d2 → P f1 → Q2 f2 → Split d1 (d2 ++ y ∷ e) f1 f2
        → (mq || (nq && mp y)) ≡ true
    then-goes P Q1 Q2 mp sq mq nq y e pg qg q1 q2 null dis d1 d2 f1 f2 x z x2 z2 (same p q) =
        let u : mq ≡ true = qg d2 z (subst Q2 (sym q) z2) in rw u refl
    then-goes P Q1 Q2 mp sq mq nq y e pg qg q1 q2 null dis d1 d2 f1 f2 x z x2 z2 (longer t k p q) =
        absurd (dis t (pg f1 t k x2 (subst P p x)) (q2 t (k ++ (d2 ++ y ∷ e)) (subst Q2 q z2)))
    then-goes P Q1 Q2 mp sq mq nq y e pg qg q1 q2 null dis d1 d2 f1 f2 x z x2 z2 (shorter t k p q) =
        go d2 q z (pg d1 t k x (subst P p x2))
      where
        go : (w : Tokens) → w ++ y ∷ e ≡ t ∷ (k ++ f2) → Q1 w → mp t ≡ true
            → (mq || (nq && mp y)) ≡ true
        go [] q z m =
            let hd : t ≡ y = cc in let n : nq ≡ true = null z in
            let m2 : mp y ≡ true = subst (λ (w : Token). mp w ≡ true) hd m in
            true-or mq (nq && mp y) (rw (n, m2) refl)
        go (v ∷ w) q z m = let hd : v ≡ t = cc in
            absurd (dis t m (subst (λ (w : Token). sq w ≡ true) hd (q1 v w z)))

    module _ {B C D I : Type 0} (p : B → C → I) (q : B → D → I) (h : G X Sem B) (k : G X Sem C)
        (l : G X Sem D)
        (full-k : nullable k ≡ false) (full-l : nullable l ≡ false)
        (apart : Disjoint (opens k) (opens l))
        (h_ends : Disjoint (more h) (λ t. opens k t || opens l t))
        (k_ends : Disjoint (more k) (λ t. opens h t || (nullable h && (opens k t || opens l t))))
        (h_goes : (d : Tokens) (y : Token) (e : Tokens) (a b : B) → Tree h d a
        → Tree h (d ++ y ∷ e) b → more h y ≡ true)
        (k_goes : (d : Tokens) (y : Token) (e : Tokens) (a b : C) → Tree k d a
        → Tree k (d ++ y ∷ e) b → more k y ≡ true)
        (l_goes : (d : Tokens) (y : Token) (e : Tokens) (a b : D) → Tree l d a
        → Tree l (d ++ y ∷ e) b → more l y ≡ true) where
      -- a body and what comes behind it
      abbrev Body : B → I → List I → Tokens → Type 0
      Body b i is back =
          ((mid rest : Tokens) × (c : C) × (back ≡ mid ++ rest) × Tree k mid c
          × Links p q (Tree h) (Tree k) (Tree l) rest is × (i ≡ p b c))
          ⊎ ((d : D) × Tree l back d × (is ≡ []) × (i ≡ q b d))

      -- what begins a row of heads and bodies
      abbrev S : Token → Bool
      S t = opens h t || (nullable h && (opens k t || opens l t))

      -- a body of the first kind begins as its grammar says
      k-head : (t : Token) (w mid rest : Tokens) (c : C) → t ∷ w ≡ mid ++ rest → Tree k mid c
          → opens k t ≡ true
      k-head t w [] rest c e x = let u = empty k c x in absurd (cc (full-k, u))
      k-head t w (z ∷ mid) rest c e x = let hd : z ≡ t = cc in
          subst (λ (v : Token). opens k v ≡ true) hd (first k z mid c x)

      -- what a body begins with
      body-first : (b : B) (i : I) (is : List I) (t : Token) (w : Tokens) → Body b i is (t ∷ w)
          → (opens k t || opens l t) ≡ true
      body-first b i is t w (inl (mid, rest, c, e, x, more, ei)) =
          let u = k-head t w mid rest c e x in rw u refl
      body-first b i is t w (inr (d, x, en, ei)) = true-or (opens k t) (opens l t) (first l t w d x)

      -- a body is not empty
      body-full : (b : B) (i : I) (is : List I) → Body b i is [] → ⊥
      body-full b i is (inl (mid, rest, c, e, x, more, ei)) = let w = empty-parts mid rest e in
          let u = empty k c (subst (λ (v : Tokens). Tree k v c) w.0 x) in absurd (cc (full-k, u))
      body-full b i is (inr (d, x, en, ei)) = let u = empty l d x in absurd (cc (full-l, u))

      -- what a row begins with
      links-first : (is : List I) (t : Token) (w : Tokens)
          → Links p q (Tree h) (Tree k) (Tree l) (t ∷ w) is → S t ≡ true
      links-first is t w x =
          first-of-links p q (Tree h) (Tree k) (Tree l) (opens h) (opens k) (opens l) (nullable h)
          (first h) (empty h) (first k) (first l) is t w x

      -- a body of the first kind does not go on to one of the second
      same-way : {P : Type 0} (d : Tokens) (y : Token) (e : Tokens) (c : C) (mid rest : Tokens)
          (x : D) → d ≡ mid ++ rest → Tree k mid c → Tree l (d ++ y ∷ e) x → P
      same-way [] y e c mid rest x is a b = let w = empty-parts mid rest is in
          let u = empty k c (subst (λ (v : Tokens). Tree k v c) w.0 a) in absurd (cc (full-k, u))
      same-way (t ∷ d) y e c mid rest x is a b =
          absurd (apart t (k-head t d mid rest c is a) (first l t (d ++ y ∷ e) x b))

      -- nor one of the second to one of the first
      other-way : {P : Type 0} (d : Tokens) (y : Token) (e : Tokens) (c : C) (mid rest : Tokens)
          (x : D) → d ++ y ∷ e ≡ mid ++ rest → Tree k mid c → Tree l d x → P
      other-way [] y e c mid rest x is a b = let u = empty l x b in absurd (cc (full-l, u))
      other-way (t ∷ d) y e c mid rest x is a b =
          absurd (apart t (k-head t (d ++ y ∷ e) mid rest c is a) (first l t d x b))

      finish : (s a b : Bool) → ((s || (a || b)) || (true && a)) ≡ true → (s || (a || b)) ≡ true
      finish true a b e = refl
      finish false true b e = refl
      finish false false true e = refl
      finish false false false e = absurd (cc)

      stop-here : (a b : Bool) → (a || (false && b)) ≡ true → a ≡ true
      stop-here true b e = refl
      stop-here false b e = absurd (cc)

      -- what goes on with a body and what is behind it
      body-goes : (b b2 : B) (i j : I) (is js : List I) (d : Tokens) (y : Token) (e : Tokens)
          → ((d : Tokens) → Links p q (Tree h) (Tree k) (Tree l) d is
          → Links p q (Tree h) (Tree k) (Tree l) (d ++ y ∷ e) js
          → (S y || (more k y || more l y)) ≡ true)
          → Body b i is d → Body b2 j js (d ++ y ∷ e) → (S y || (more k y || more l y)) ≡ true
      body-goes b b2 i j is js d y e again (inl (mid, rest, c, is1, x, ls, ei))
          (inl (mid2, rest2, c2, is2, x2, ls2, ei2)) =
          finish (S y) (more k y) (more l y)
          (then-goes (λ w. (c : C) × Tree k w c) (λ w. Links p q (Tree h) (Tree k) (Tree l) w is)
          (λ w. Links p q (Tree h) (Tree k) (Tree l) w js) (more k) S
          (S y || (more k y || more l y)) true y e
          (λ d t w a b. k_goes d t w a.0 b.0 a.1 b.1) again (links-first is) (links-first js)
          (λ _. refl) k_ends mid rest mid2 rest2 (c, x) ls (c2, x2) ls2
          (split mid (rest ++ y ∷ e) mid2 rest2
          (sym (append_assoc mid rest (y ∷ e)) ∙ (ap (λ w. w ++ y ∷ e) (sym is1) ∙ is2))))
      body-goes b b2 i j is js d y e again (inr (x, a, en, ei)) (inr (x2, a2, en2, ei2)) =
          let u = l_goes d y e x x2 a a2 in
          true-or (S y) (more k y || more l y) (true-or (more k y) (more l y) u)
      body-goes b b2 i j is js d y e again (inl (mid, rest, c, is1, x, ls, ei))
          (inr (x2, a2, en2, ei2)) = same-way d y e c mid rest x2 is1 x a2
      body-goes b b2 i j is js d y e again (inr (x2, a2, en2, ei2))
          (inl (mid, rest, c, is1, x, ls, ei)) = other-way d y e c mid rest x2 is1 x a2

      -- what goes on with a row
      links-goes : (is js : List I) (d : Tokens) (y : Token) (e : Tokens)
          → Links p q (Tree h) (Tree k) (Tree l) d is
          → Links p q (Tree h) (Tree k) (Tree l) (d ++ y ∷ e) js
          → (S y || (more k y || more l y)) ≡ true
      links-goes is [] d y e x z = absurd (nil-cons d y e z)
      links-goes [] (j ∷ js) d y e x z =
          let u : S y ≡ true = links-first (j ∷ js) y e
          (subst (λ (w : Tokens). Links p q (Tree h) (Tree k) (Tree l) (w ++ y ∷ e) (j ∷ js)) x
          z) in rw u refl
      links-goes (i ∷ is) (j ∷ js) d y e (front, back, b, e1, x, r)
          (front2, back2, b2, e2, x2, r2) =
          stop-here _ (more h y)
          (then-goes (λ w. (b : B) × Tree h w b) (Body b i is) (Body b2 j js) (more h)
          (λ t. opens k t || opens l t) (S y || (more k y || more l y)) false y e
          (λ d t w a b. h_goes d t w a.0 b.0 a.1 b.1)
          (λ d a z. body-goes b b2 i j is js d y e (λ d a z. links-goes is js d y e a z) a z)
          (body-first b i is) (body-first b2 j js)
          (λ z. absurd (body-full b i is z)) h_ends front back front2 back2 (b, x) r (b2, x2) r2
          (split front (back ++ y ∷ e) front2 back2
          (sym (append_assoc front back (y ∷ e)) ∙ (ap (λ w. w ++ y ∷ e) (sym e1) ∙ e2))))

    -- no token begins both branches of a choice
    cross : {A : Type 0} (g h : G X Sem A) → Disjoint (opens g) (opens h)
        → (t : Token) (v w : Tokens) (a b : A) → Tree g (t ∷ v) a → Tree h (t ∷ w) b → ⊥
    cross g h dis t v w a b x z = dis t (first g t v a x) (first h t w b z)

    -- A token that goes on with a whole piece is one of those.
    pub goes : {A : Type 0} (g : G X Sem A) → Checks g
        → (d : Tokens) (y : Token) (e : Tokens) (a b : A) → Tree g d a → Tree g (d ++ y ∷ e) b
        → more g y ≡ true
    goes (ret v) l d y e a b x z = absurd (nil-cons d y e z.0)
    goes (tok begins look f) l d y e a b (t, is, h, q1) (u, is2, h2, q2) = absurd (go d is is2)
      where
        go : (d : Tokens) → d ≡ t ∷ [] → d ++ y ∷ e ≡ u ∷ [] → ⊥
        go [] p q = absurd (cc)
        go (v ∷ []) p q = absurd (cc)
        go (v ∷ w ∷ d) p q = absurd (cc)
    goes (both f g h) l d y e a b (d1, d2, b1, c1, is, x, z, q) (f1, f2, b2, c2, is2, x2, z2, q2) =
        both-goes g h l.2 (goes g l.0) (goes h l.1) d1 d2 y e b1 c1 x z f1 f2 b2 c2 x2 z2
        (split d1 (d2 ++ y ∷ e) f1 f2
        (sym (append_assoc d1 d2 (y ∷ e)) ∙ (ap (λ w. w ++ y ∷ e) (sym is) ∙ is2)))
    goes (alt g h) l d y e a b (inl x) (inl z) = let u = goes g l.0 d y e a b x z in
        true-or _ (more g y || more h y) (rw u refl)
    goes (alt g h) l d y e a b (inr x) (inr z) = let u = goes h l.1 d y e a b x z in
        true-or _ (more g y || more h y) (true-or (more g y) (more h y) u)
    goes (alt g h) l [] y e a b (inl x) (inr z) = let u = empty g a x in absurd (cc (l.2, u))
    goes (alt g h) l (t ∷ d) y e a b (inl x) (inr z) =
        absurd (cross g h l.3 t d (d ++ y ∷ e) a b x z)
    goes (alt g h) l [] y e a b (inr x) (inl z) =
        let u = empty h a x in let v = first g y e b z in rw (u, v) refl
    goes (alt g h) l (t ∷ d) y e a b (inr x) (inl z) =
        absurd (cross g h l.3 t (d ++ y ∷ e) d b a z x)
    goes (star f g) l d y e a b (bs, x, q) (cs, z, q2) =
        star-goes g l.1 l.2 (goes g l.0) bs cs d y e x z
    goes (chain f u v h k l) o d y e a b (is, x, q) (js, z, q2) =
        links-goes u v h k l o.3 o.4 o.5 o.6 o.7 (goes h o.0) (goes k o.1)
        (goes l o.2) is js d y e x z
    goes (made f g) l d y e a b (b1, x, q) (b2, z, q2) = goes g l d y e b1 b2 x z
    goes (placed f g) l d y e a b (b1, x, q) (b2, z, q2) = goes g l.0 d y e b1 b2 x z
    goes (kid x f) l d y e a b (c1, p, q) (c2, p2, q2) = kid_goes x d y e c1 c2 p p2

    -- a piece of either begins as one of the two grammars says
    either-first : {B C : Type 0} (k : G X Sem B) (l : G X Sem C) (y : Token) (w : Tokens)
        → Some_of (Tree k) (y ∷ w) ⊎ Some_of (Tree l) (y ∷ w) → (opens k y || opens l y) ≡ true
    either-first k l y w (inl x) = let u = first k y w x.0 x.1 in rw u refl
    either-first k l y w (inr x) = true-or (opens k y) (opens l y) (first l y w x.0 x.1)

    -- a grammar that passes the check is decided by one token
    pub one-token : {A : Type 0} (g : G X Sem A) → Checks g → IsOneToken Derived kid_starts g
    one-token (ret v) l = tt
    one-token (tok begins look f) l = tt
    one-token (both f g h) l = (
      one-token g l.0,
      one-token h l.1,
      λ d y e w p q r. l.2 y (goes g l.0 d y e p.0 q.0 p.1 q.1) (first h y w r.0 r.1),
    )
    one-token (alt g h) l = (one-token g l.0, one-token h l.1, l.2, l.3)
    one-token (star f g) l = (
      one-token g l.0,
      l.1,
      λ d y e w p q r. l.2 y (goes g l.0 d y e p.0 q.0 p.1 q.1) (first g y w r.0 r.1),
    )
    one-token (chain f u v h k l) o = (
      one-token h o.0,
      one-token k o.1,
      one-token l o.2,
      o.3,
      o.4,
      o.5,
      (λ d y e w p q r. o.6 y (goes h o.0 d y e p.0 q.0 p.1 q.1) (either-first k l y w r)),
      (λ d y e w p q r. o.7 y (goes k o.1 d y e p.0 q.0 p.1 q.1)
          (first (chain f u v h k l) y w (f r.0) (r.0, r.1, refl))),
    )
    one-token (made f g) l = one-token g l
    one-token (placed f g) l = (one-token g l.0, l.1)
    one-token (kid x f) l = tt
