-- A token list has one tree.
--
-- Where one token decides, a list is cut into pieces in one way: if one cut were behind the other,
-- the token between them would both go on with a piece and begin the next. Then by the grammar.
use Rattle.std.proofs.Common.{◌≡◌, Bool, true, List, [], ◌∷◌, ◌++◌, ◌⊎◌, inl, inr, refl, sym, ◌∙◌, ap, subst}
use Rattle.ir_lexer.specs.Tokens.{Token}
use Rattle.grammar.specs.Grammar.{Tokens, EachPiece, G, ret, tok, both, alt, star, chain, made, placed, kid, place_of, Links, Derives, nullable, starts}
use Rattle.grammar.specs.Front.{Some_of}
use Rattle.grammar.proofs.Cut.{Split, same, longer, shorter, split}
use Rattle.grammar.proofs.Firsts.{Kids}
use Rattle.grammar.proofs.Firsts as firsts
use Rattle.grammar.proofs.Begun.{IsOneToken}
use Rattle.grammar.proofs.Then.{Apart}
use Rattle.grammar.proofs.Chain.{Rest, rest-piece}
use Rattle.grammar.proofs.Choice.{empty-parts}

module _ {X : Type 0} {Sem : X → Type 0} (kid_starts : X → Token → Bool)
    (Derived : (x : X) → Tokens → Sem x → Type 0) (kids : Kids Derived kid_starts)
    (kid_one : (x : X) (d : Tokens) (a b : Sem x) → Derived x d a → Derived x d b → a ≡ b) where
  -- the tokens are a piece of the grammar, with this tree
  abbrev Tree : {A : Type 0} → G X Sem A → Tokens → A → Type 0
  Tree g = Derives Derived g

  -- a piece begins with the token
  abbrev opens : {A : Type 0} → G X Sem A → Token → Bool
  opens g = starts kid_starts g

  -- one token decides at each place
  abbrev OneToken : {A : Type 0} → G X Sem A → Type 0
  OneToken g = IsOneToken Derived kid_starts g

  -- what is known of first tokens, of these nonterminals
  empty : {A : Type 0} (g : G X Sem A) (a : A) → Tree g [] a → nullable g ≡ true
  empty g a d = firsts.empty Derived kid_starts kids g a d

  first : {A : Type 0} (g : G X Sem A) (t : Token) (ts : Tokens) (a : A) → Tree g (t ∷ ts) a
      → opens g t ≡ true
  first g t ts a d = firsts.first Derived kid_starts kids g t ts a d

  -- where a piece ends before another piece begins
  cut : {B C : Type 0} (P : Tokens → B → Type 0) (Q : Tokens → C → Type 0)
      → Apart (Some_of P) (Some_of Q) → (d1 d2 f1 f2 : Tokens) (b b2 : B) (c c2 : C)
      → P d1 b → Q d2 c → P f1 b2 → Q f2 c2 → d1 ++ d2 ≡ f1 ++ f2 → (d1 ≡ f1) × (d2 ≡ f2)
  cut P Q apart d1 d2 f1 f2 b b2 c c2 x z x2 z2 e = go (split d1 d2 f1 f2 e)
    where
      go : Split d1 d2 f1 f2 → (d1 ≡ f1) × (d2 ≡ f2)
      go (same p q) = (p, q)
      go (longer y k p q) =
          absurd (apart f1 y k (k ++ d2) (b2, x2) (b, subst (λ (w : Tokens). P w b) p x)
          (c2, subst (λ (w : Tokens). Q w c2) q z2))
      go (shorter y k p q) =
          absurd (apart d1 y k (k ++ f2) (b, x) (b2, subst (λ (w : Tokens). P w b2) p x2)
          (c, subst (λ (w : Tokens). Q w c) q z))

  -- a row of pieces that are not empty is not empty
  each-empty : {B : Type 0} (P : Tokens → B → Type 0) (full : (b : B) → P [] b → ⊥) (b : B)
      (bs : List B) → EachPiece P [] (b ∷ bs) → ⊥
  each-empty P full b bs (front, back, is, r, more) = go front is r
    where
      go : (k : Tokens) → [] ≡ k ++ back → P k b → ⊥
      go [] e r = full b r
      go (y ∷ k) e r = absurd (cc)

  -- a token that goes on with a piece begins no row of them
  each-apart : {B : Type 0} (P : Tokens → B → Type 0) (full : (b : B) → P [] b → ⊥)
      → Apart (Some_of P) (Some_of P) → Apart (Some_of P) (Some_of (EachPiece P))
  each-apart P full apart d y e w p q ([], x) = absurd (cc)
  each-apart {B = B} P full apart d y e w p q (b ∷ bs, (front, back, is, r, more)) = go front is r
    where
      go : (k : Tokens) → y ∷ w ≡ k ++ back → P k b → ⊥
      go [] h r = full b r
      go (t ∷ k) h r = let hd : t ≡ y = cc in
          apart d y e k p q (b, subst (λ (z : Token). P (z ∷ k) b) hd r)

  -- a row has one list of trees
  one-each : {B : Type 0} (P : Tokens → B → Type 0) (full : (b : B) → P [] b → ⊥)
      → Apart (Some_of P) (Some_of P) → ((d : Tokens) (a b : B) → P d a → P d b → a ≡ b)
      → (bs cs : List B) (d : Tokens) → EachPiece P d bs → EachPiece P d cs → bs ≡ cs
  one-each P full apart one [] [] d x z = refl
  one-each P full apart one [] (c ∷ cs) d x z =
      absurd (each-empty P full c cs (subst (λ (w : Tokens). EachPiece P w (c ∷ cs)) x z))
  one-each P full apart one (b ∷ bs) [] d x z =
      absurd (each-empty P full b bs (subst (λ (w : Tokens). EachPiece P w (b ∷ bs)) z x))
  one-each P full apart one (b ∷ bs) (c ∷ cs) d (d1, d2, is, r, more) (f1, f2, is2, r2, more2) =
      let q = cut P (EachPiece P) (each-apart P full apart) d1 d2 f1 f2 b c bs cs r more r2 more2
      (sym is ∙ is2) in
      let h = one f1 b c (subst (λ (w : Tokens). P w b) q.0 r) r2 in
      let t = one-each P full apart one bs cs d2 more
      (subst (λ (w : Tokens). EachPiece P w cs) (sym q.1) more2) in cc

  module _ {B C D I : Type 0} (p : B → C → I) (q : B → D → I) (h : G X Sem B) (k : G X Sem C)
      (l : G X Sem D) (o : (f : List I → List I) → OneToken (chain f p q h k l))
      (one_h : (d : Tokens) (a b : B) → Tree h d a → Tree h d b → a ≡ b)
      (one_k : (d : Tokens) (a b : C) → Tree k d a → Tree k d b → a ≡ b)
      (one_l : (d : Tokens) (a b : D) → Tree l d a → Tree l d b → a ≡ b) where
    -- a body of the first kind is not empty
    full-k : (c : C) → Tree k [] c → ⊥
    full-k c x = let u = empty k c x in absurd (cc (u, (o (λ l. l)).3))

    -- a body of the second kind is not empty
    full-l : (c : D) → Tree l [] c → ⊥
    full-l c x = let u = empty l c x in absurd (cc (u, (o (λ l. l)).4))

    -- a body and what comes behind it
    abbrev Body : B → I → List I → Tokens → Type 0
    Body b i is back =
        ((mid rest : Tokens) × (c : C) × (back ≡ mid ++ rest) × Tree k mid c
        × Links p q (Tree h) (Tree k) (Tree l) rest is × (i ≡ p b c))
        ⊎ ((d : D) × Tree l back d × (is ≡ []) × (i ≡ q b d))

    -- the same, as a function of the head
    body-rest : (b : B) (i : I) (is : List I) (w : Tokens) → Body b i is w
        → Some_of (Rest p q (Tree h) (Tree k) (Tree l)) w
    body-rest b i is w (inl (mid, rest, c, e, x, more, ei)) =
        ((λ b. p b c ∷ is), inl (mid, rest, c, is, e, x, more, refl))
    body-rest b i is w (inr (d, x, en, ei)) = ((λ b. q b d ∷ []), inr (d, x, refl))

    -- a token that goes on with a head begins no body
    rest-apart : Apart (Some_of (Tree h)) (Some_of (Rest p q (Tree h) (Tree k) (Tree l)))
    rest-apart d y e w x z r = go (rest-piece p q (Tree h) (Tree k) (Tree l) full-k y w r)
      where
        go : ((e : Tokens) × (c : C) × Tree k (y ∷ e) c) ⊎ ((d : D) × Tree l (y ∷ w) d) → ⊥
        go (inl (v, c, k)) = (o (λ l. l)).6 d y e v x z (inl (c, k))
        go (inr l) = (o (λ l. l)).6 d y e w x z (inr l)

    -- a list is not a body of both kinds
    crossed : {P : Type 0} (d mid rest : Tokens) (c : C) (x : D) → d ≡ mid ++ rest → Tree k mid c
        → Tree l d x → P
    crossed [] mid rest c x e a b = absurd (full-l x b)
    crossed (t ∷ d) [] rest c x e a b = absurd (full-k c a)
    crossed (t ∷ d) (z ∷ mid) rest c x e a b = let hd : z ≡ t = cc in
        absurd ((o (λ l. l)).5 t (subst (λ (v : Token). opens k v ≡ true) hd (first k z mid c a))
        (first l t d x b))

    -- a body is not empty
    body-empty : (b : B) (i : I) (is : List I) → Body b i is [] → ⊥
    body-empty b i is (inl (mid, rest, c, e, x, more, ei)) =
        full-k c (subst (λ (w : Tokens). Tree k w c) (empty-parts mid rest e).0 x)
    body-empty b i is (inr (d, x, en, ei)) = full-l d x

    -- a body and what is behind it have one tree
    one-body : (b b2 : B) (i j : I) (is js : List I) (d : Tokens) → b ≡ b2
        → ((d : Tokens) → Links p q (Tree h) (Tree k) (Tree l) d is
        → Links p q (Tree h) (Tree k) (Tree l) d js → is ≡ js)
        → Body b i is d → Body b2 j js d → i ∷ is ≡ j ∷ js
    one-body b b2 i j is js d eb again (inl (mid, rest, c, e, x, more, ei))
        (inl (mid2, rest2, c2, e2, x2, more2, ei2)) =
        let w = cut (Tree k) (Links p q (Tree h) (Tree k) (Tree l))
        (o (λ l. l)).7 mid rest mid2 rest2 c c2 is js x more x2 more2 (sym e ∙ e2) in
        let u = one_k mid2 c c2 (subst (λ (w : Tokens). Tree k w c) w.0 x) x2 in
        let v = again rest2
        (subst (λ (w : Tokens). Links p q (Tree h) (Tree k) (Tree l) w is) w.1 more) more2 in
        let z : i ≡ j = ei ∙ (ap (λ y. p y c) eb ∙ (ap (λ y. p b2 y) u ∙ sym ei2)) in
        ap (λ y. y ∷ is) z ∙ ap (λ y. j ∷ y) v
    one-body b b2 i j is js d eb again (inr (c, x, en, ei)) (inr (c2, x2, en2, ei2)) =
        let u = one_l d c c2 x x2 in
        let z : i ≡ j = ei ∙ (ap (λ y. q y c) eb ∙ (ap (λ y. q b2 y) u ∙ sym ei2)) in
        ap (λ y. y ∷ is) z ∙ ap (λ y. j ∷ y) (en ∙ sym en2)
    one-body b b2 i j is js d eb again (inl (mid, rest, c, e, x, more, ei))
        (inr (c2, x2, en2, ei2)) = crossed d mid rest c c2 e x x2
    one-body b b2 i j is js d eb again (inr (c2, x2, en2, ei2))
        (inl (mid, rest, c, e, x, more, ei)) = crossed d mid rest c c2 e x x2

    -- a row with a head is not empty
    links-empty : (i : I) (is : List I) → Links p q (Tree h) (Tree k) (Tree l) [] (i ∷ is) → ⊥
    links-empty i is (front, back, b, e, x, r) =
        body-empty b i is (subst (Body b i is) (empty-parts front back e).1 r)

    -- a row has one list of trees
    one-links : (is js : List I) (d : Tokens) → Links p q (Tree h) (Tree k) (Tree l) d is
        → Links p q (Tree h) (Tree k) (Tree l) d js → is ≡ js
    one-links [] [] d x z = refl
    one-links [] (j ∷ js) d x z =
        absurd (links-empty j js
        (subst (λ (w : Tokens). Links p q (Tree h) (Tree k) (Tree l) w (j ∷ js)) x z))
    one-links (i ∷ is) [] d x z =
        absurd (links-empty i is
        (subst (λ (w : Tokens). Links p q (Tree h) (Tree k) (Tree l) w (i ∷ is)) z x))
    one-links (i ∷ is) (j ∷ js) d (front, back, b, e, x, r) (front2, back2, b2, e2, x2, r2) =
        let s = body-rest b i is back r in let s2 = body-rest b2 j js back2 r2 in
        let w = cut (Tree h)
        (Rest p q (Tree h) (Tree k) (Tree l)) rest-apart front back front2 back2 b b2 s.0 s2.0 x s.1
        x2 s2.1 (sym e ∙ e2) in
        one-body b b2 i j is js back2
        (one_h front2 b b2 (subst (λ (w : Tokens). Tree h w b) w.0 x) x2) (one-links is js)
        (subst (Body b i is) w.1 r) r2

  -- a list is not a piece of both branches
  cross : {A : Type 0} (g h : G X Sem A) → OneToken (alt g h) → (d : Tokens) (a b : A) → Tree g d a
      → Tree h d b → ⊥
  cross g h l [] a b x z = let u = empty g a x in absurd (cc (u, l.2))
  cross g h l (t ∷ d) a b x z = l.3 t (first g t d a x) (first h t d b z)

  -- the tokens are a piece of the grammar with one tree at most
  pub one-tree : {A : Type 0} (g : G X Sem A) → OneToken g → (d : Tokens) (a b : A) → Tree g d a
      → Tree g d b → a ≡ b
  one-tree (ret v) l d a b x z = x.1 ∙ sym z.1
  one-tree (tok begins look f) l d a b (t, is, h, p) (u, is2, h2, q) = let e : t ≡ u = cc in
      p ∙ ap f e ∙ sym q
  one-tree (both f g h) l d a b (d1, d2, b1, c1, is, x, z, p) (f1, f2, b2, c2, is2, x2, z2, q) =
      let w = cut (Tree g) (Tree h) l.2 d1 d2 f1 f2 b1 b2 c1 c2 x z x2 z2 (sym is ∙ is2) in
      let u = one-tree g l.0 f1 b1 b2 (subst (λ (w : Tokens). Tree g w b1) w.0 x) x2 in
      let v = one-tree h l.1 f2 c1 c2 (subst (λ (w : Tokens). Tree h w c1) w.1 z) z2 in
      p ∙ ap (λ y. f y c1) u ∙ ap (λ y. f b2 y) v ∙ sym q
  one-tree (alt g h) l d a b (inl x) (inl z) = one-tree g l.0 d a b x z
  one-tree (alt g h) l d a b (inr x) (inr z) = one-tree h l.1 d a b x z
  one-tree (alt g h) l d a b (inl x) (inr z) = absurd (cross g h l d a b x z)
  one-tree (alt g h) l d a b (inr x) (inl z) = absurd (cross g h l d b a z x)
  one-tree (star f g) l d a b (bs, x, p) (cs, z, q) =
      p ∙ ap f (one-each (Tree g) (λ b r. let u = empty g b r in absurd (cc (u, l.1))) l.2
      (one-tree g l.0) bs cs d x z) ∙ sym q
  one-tree (chain f u v h k l) o d a b (is, x, p) (js, z, q) =
      p ∙ ap f (one-links u v h k l (λ _. o) (one-tree h o.0) (one-tree k o.1)
      (one-tree l o.2) is js d x z) ∙ sym q
  one-tree (made f g) l d a b (b1, x, p) (b2, z, q) = p ∙ ap f (one-tree g l d b1 b2 x z) ∙ sym q
  one-tree (placed f g) l d a b (b1, x, p) (b2, z, q) =
      p ∙ ap (λ y. f (place_of d) y) (one-tree g l.0 d b1 b2 x z) ∙ sym q
  one-tree (kid y f) l d a b (c1, x, p) (c2, z, q) = p ∙ ap f (kid_one y d c1 c2 x z) ∙ sym q
