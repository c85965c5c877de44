-- What is within the nesting is derived, and has no front that is too deep.
--
-- Where one token decides, the front of a piece is cut into parts as the piece is: if it were cut
-- elsewhere, a token would go on with one part and begin the next. So a front that is too deep
-- would be so in one of the parts. By the grammar.
use Rattle.std.proofs.Common.{◌≡◌, zero, suc, Bool, true, false, ◌&&◌, List, [], ◌∷◌, ◌++◌, ◌⊎◌, inl, inr, refl, sym, ◌∙◌, ap, subst, append_assoc, append-nil}
use Rattle.ir_lexer.specs.Tokens.{Token}
use Rattle.grammar.specs.Grammar.{Tokens, EachPiece, G, ret, tok, both, alt, star, chain, made, placed, kid, Links, Derives, Deep, nullable, starts}
use Rattle.grammar.specs.Exact.{HasMore}
use Rattle.grammar.specs.Front.{Lists, Shallow, Some_of}
use Rattle.grammar.specs.Within.{Within}
use Rattle.grammar.proofs.Begun.{IsOneToken, Samples}
use Rattle.grammar.proofs.Choice.{empty-parts}
use Rattle.grammar.proofs.Cut.{Deeper, shallow-second}
use Rattle.grammar.proofs.Exact as exact
use Rattle.grammar.proofs.Firsts.{Kids}
use Rattle.grammar.proofs.Firsts as firsts
use Rattle.grammar.proofs.Height.{each-in, links-in}
use Rattle.grammar.proofs.Then.{Apart, shallow-in}

-- two lists in neither of which something is too deep, one behind the other
shallow-joined : (P Q DP DQ : Lists) (apart : Apart P Q) (seen : (p : Tokens) → DP p → HasMore P p)
    (next_seen : (p : Tokens) → DQ p → HasMore Q p) (some : DQ [] → ⊥)
    → (front back : Tokens) → P front → Q back → Shallow DP front → Shallow DQ back
    → Shallow (Deeper P Q DP DQ apart seen next_seen some) (front ++ back)
shallow-joined P Q DP DQ apart seen next_seen some front back p q sp sq =
    shallow-second P Q DP DQ apart seen next_seen some front back [] p
    (λ t more e at px. apart front t e more p px (subst Q (sym (append-nil back) ∙ at) q)) sp sq

-- What is within the nesting is derived, if the nonterminals' pieces are.
module _ {X : Type 0} {Sem : X → Type 0} (Inside Derived : (x : X) → Tokens → Sem x → Type 0)
    (inside : (x : X) (ts : Tokens) (c : Sem x) → Inside x ts c → Derived x ts c)
    (none : Bool) where
  pub within-derived : {A : Type 0} (g : G X Sem A) (ts : Tokens) (a : A)
      → Within Inside none g ts a → Derives Derived g ts a
  within-derived (ret b) ts a x = x
  within-derived (tok begins look f) ts a (t, is, pass, calm, e) = (t, is, pass, e)
  within-derived (both f g h) ts a (front, back, b, c, is, x, y, e) =
      (front, back, b, c, is, within-derived g front b x, within-derived h back c y, e)
  within-derived (alt g h) ts a (inl x) = inl (within-derived g ts a x)
  within-derived (alt g h) ts a (inr x) = inr (within-derived h ts a x)
  within-derived (star f g) ts a (bs, x, e) = (bs, each-in _ _ (within-derived g) ts bs x, e)
  within-derived (chain f u v h k l) ts a (is, x, e) =
      let y = links-in u v _ _ _ _ _ _ (within-derived h) (within-derived k) (within-derived l) ts
      is x in
      (is, y, e)
  within-derived (made f g) ts a (b, x, e) = (b, within-derived g ts b x, e)
  within-derived (placed f g) ts a (b, x, e) = (b, within-derived g ts b x, e)
  within-derived (kid x f) ts a (c, y, e) = (c, inside x ts c y, e)

-- The nonterminals: what is derived of them, and what within the nesting; with what they begin;
-- and what is too deep in them. What is within the nesting is derived, and not too deep.
module _ {X : Type 0} {Sem : X → Type 0} (Inside Derived : (x : X) → Tokens → Sem x → Type 0)
    (kid_starts : X → Token → Bool)
    (kids : Kids Derived kid_starts) (samples : Samples Derived kid_starts)
    (kid_begun : (x : X) (t : Token) → kid_starts x t ≡ true
    → HasMore (Some_of (Derived x)) (t ∷ []))
    (DeepKid : X → Lists) (some : (x : X) → DeepKid x [] → ⊥)
    (kid_seen : (x : X) (p : Tokens) → DeepKid x p → HasMore (Some_of (Derived x)) p) (none : Bool)
    (inside : (x : X) (ts : Tokens) (c : Sem x) → Inside x ts c → Derived x ts c)
    (kid_shallow : (x : X) (ts : Tokens) (c : Sem x) → Inside x ts c → Shallow (DeepKid x) ts) where
  -- the tokens are a piece of the grammar, with this tree
  abbrev Tree : {A : Type 0} → G X Sem A → Tokens → A → Type 0
  Tree g = Derives Derived g

  -- the same, and no value in it is too deep
  abbrev Small : {A : Type 0} → G X Sem A → Tokens → A → Type 0
  Small g = Within Inside none g

  -- the tokens are a piece
  abbrev Piece : {A : Type 0} → G X Sem A → Lists
  Piece g = Some_of (Tree g)

  -- the last of the tokens begins a value too deep
  abbrev DeepOf : {A : Type 0} → G X Sem A → Lists
  DeepOf g = Deep Derived DeepKid none g

  -- one token decides at each place
  abbrev OneToken : {A : Type 0} → G X Sem A → Type 0
  OneToken g = IsOneToken Derived kid_starts g

  derived : {A : Type 0} (g : G X Sem A) (ts : Tokens) (a : A) → Small g ts a → Tree g ts a
  derived g ts a x = within-derived Inside Derived inside none g ts a x

  -- what is known of the nonterminals, of any grammar over them
  no-deep : {A : Type 0} (g : G X Sem A) → DeepOf g [] → ⊥
  no-deep g x = exact.no-deep Derived kid_starts kids samples kid_begun DeepKid some none g x

  seen : {A : Type 0} (g : G X Sem A) → OneToken g → (p : Tokens) → DeepOf g p → HasMore (Piece g) p
  seen g o p x =
      exact.deep-viable Derived kid_starts kids samples kid_begun DeepKid some kid_seen none g o p x

  first : {A : Type 0} (g : G X Sem A) (t : Token) (ts : Tokens) (a : A) → Tree g (t ∷ ts) a
      → starts kid_starts g t ≡ true
  first g t ts a x = firsts.first Derived kid_starts kids g t ts a x

  full : {A : Type 0} (g : G X Sem A) → nullable g ≡ false → (a : A) → Tree g [] a → ⊥
  full g e a x = let k : nullable g ≡ true = firsts.empty Derived kid_starts kids g a x in
      absurd (cc)

  -- a front that is too deep begins as a piece does
  deep-first : {A : Type 0} (g : G X Sem A) → OneToken g → (t : Token) (p : Tokens)
      → DeepOf g (t ∷ p) → starts kid_starts g t ≡ true
  deep-first g o t p x = let (more, (a, y)) = seen g o (t ∷ p) x in first g t (p ++ more) a y

  -- a list that begins in one way has no front that is too deep in another way
  crossed : {A B : Type 0} (g : G X Sem A) (h : G X Sem B) → OneToken h
      → ((t : Token) → starts kid_starts g t ≡ true → starts kid_starts h t ≡ true → ⊥)
      → (ts : Tokens) (a : A) (rest : Tokens) → Tree g ts a → (ts ≡ [] → ⊥)
      → Shallow (DeepOf h) (ts ++ rest)
  crossed g h o alien [] a rest x filled p q is d = filled refl
  crossed g h o alien (t ∷ ts) a rest x filled [] q is d = no-deep h d
  crossed g h o alien (t ∷ ts) a rest x filled (u ∷ p) q is d =
      let same : t ≡ u = cc in
      alien u (subst (λ (v : Token). starts kid_starts g v ≡ true) same (first g t ts a x))
      (deep-first h o u p d)

  -- ---- a piece and then a piece

  shallow-both : {A B C : Type 0} (f : B → C → A) (g : G X Sem B) (h : G X Sem C)
      (o : OneToken (both f g h)) (front back : Tokens) (b : B) (c : C)
      → Tree g front b → Tree h back c → Shallow (DeepOf g) front → Shallow (DeepOf h) back
      → Shallow (DeepOf (both f g h)) (front ++ back)
  shallow-both f g h o front back b c x y sx sy =
      shallow-in {D = DeepOf (both f g h)} to-deeper (front ++ back)
      (shallow-joined (Piece g) (Piece h) (DeepOf g) (DeepOf h) o.2 (seen g o.0) (seen h o.1)
      (no-deep h) front back (b, x) (c, y) sx sy)
    where
      to-deeper : (w : Tokens) → DeepOf (both f g h) w
          → Deeper (Piece g) (Piece h) (DeepOf g) (DeepOf h) o.2 (seen g o.0) (seen h o.1)
          (no-deep h) w
      to-deeper w (inl d) = inl d
      to-deeper w (inr (d1, d2, t, is, r, d)) = inr (d1, d2, is, (t, r), d)

  -- ---- a choice

  shallow-left : {A : Type 0} (g h : G X Sem A) (o : OneToken (alt g h)) (ts : Tokens) (a : A)
      → Tree g ts a → Shallow (DeepOf g) ts → Shallow (DeepOf (alt g h)) ts
  shallow-left g h o ts a x sh p q is (inl d) = sh p q is d
  shallow-left g h o ts a x sh p q is (inr d) =
      crossed g h o.1 o.3 ts a [] x (λ n. full g o.2 a (subst (λ (w : Tokens). Tree g w a) n x)) p q
      (append-nil ts ∙ is) d

  shallow-right : {A : Type 0} (g h : G X Sem A) (o : OneToken (alt g h)) (ts : Tokens) (a : A)
      → Tree h ts a → Shallow (DeepOf h) ts → Shallow (DeepOf (alt g h)) ts
  shallow-right g h o ts a x sh p q is (inr d) = sh p q is d
  shallow-right g h o ts a x sh [] q is (inl d) = no-deep g d
  shallow-right g h o ts a x sh (t ∷ p) q is (inl d) =
      o.3 t (deep-first g o.0 t p d)
      (first h t (p ++ q) a (subst (λ (w : Tokens). Tree h w a) is x))

  -- ---- a row of pieces

  module _ {A B : Type 0} (f : List B → A) (g : G X Sem B) (o : OneToken (star f g)) where
    -- pieces one behind the other
    abbrev Row : Lists
    Row = Some_of (EachPiece (Tree g))

    -- too deep in one of them
    abbrev DeepRow : Lists
    DeepRow = DeepOf (star f g)

    row-apart : Apart (Piece g) Row
    row-apart d y e w p q ([], x) = absurd (cc)
    row-apart d y e w p q (b ∷ bs, (front, back, is, r, more)) = go front is r
      where
        go : (k : Tokens) → y ∷ w ≡ k ++ back → Tree g k b → ⊥
        go [] is r = full g o.1 b r
        go (t ∷ k) is r = let hd : t ≡ y = cc in
            o.2 d y e k p q (b, subst (λ (z : Token). Tree g (z ∷ k) b) hd r)

    row-seen : (p : Tokens) → DeepRow p → HasMore Row p
    row-seen p x = let (more, (a, (bs, each, e))) = seen (star f g) o p x in (more, (bs, each))

    to-row : (w : Tokens) → DeepRow w
        → Deeper (Piece g) Row (DeepOf g) DeepRow row-apart (seen g o.0) row-seen
        (no-deep (star f g)) w
    to-row w (front, back, [], is, e, x) =
        inl (subst (DeepOf g) (sym (is ∙ ap (λ l. l ++ back) e)) x)
    to-row w (front, back, b ∷ bs, is, (f1, f2, e, r, more), x) =
        inr (
          f1,
          f2 ++ back,
          is ∙ (ap (λ l. l ++ back) e ∙ append_assoc f1 f2 back),
          (b, r),
          (f2, back, bs, refl, more, x),
        )

    shallow-row : ((d : Tokens) (b : B) → Small g d b → Shallow (DeepOf g) d)
        → (bs : List B) (ts : Tokens) → EachPiece (Small g) ts bs → Shallow DeepRow ts
    shallow-row ih [] ts e =
        λ p q is d. no-deep (star f g) (subst DeepRow (empty-parts p q (sym e ∙ is)).0 d)
    shallow-row ih (b ∷ bs) ts (front, back, e, x, more) =
        subst (Shallow DeepRow) (sym e) (shallow-in {D = DeepRow} to-row (front ++ back)
        (shallow-joined (Piece g) Row (DeepOf g) DeepRow row-apart (seen g o.0) row-seen
        (no-deep (star f g)) front back (b, derived g front b x)
        (bs, each-in (Small g) (Tree g) (derived g) back bs more) (ih front b x)
        (shallow-row ih bs back more)))

  -- ---- heads with bodies

  module _ {A B C D I : Type 0} (f : List I → A) (u : B → C → I) (v : B → D → I) (h : G X Sem B)
      (k : G X Sem C) (l : G X Sem D) (o : OneToken (chain f u v h k l)) where
    -- heads and bodies one behind the other
    abbrev Chain : Lists
    Chain = Some_of (Links u v (Tree h) (Tree k) (Tree l))

    -- too deep in one of them
    abbrev DeepChain : Lists
    DeepChain = DeepOf (chain f u v h k l)

    -- a body and what is behind it
    abbrev Body : Lists
    Body w = ((mid rest : Tokens) × (w ≡ mid ++ rest) × Piece k mid × Chain rest) ⊎ Piece l w

    chain-seen : (p : Tokens) → DeepChain p → HasMore Chain p
    chain-seen p x = let (more, (a, (is, links, e))) = seen (chain f u v h k l) o p x in
        (more, (is, links))

    -- too deep in a body that is not the last, or behind it
    abbrev DeepFirst : Lists
    DeepFirst = Deeper (Piece k) Chain (DeepOf k) DeepChain o.7 (seen k o.1) chain-seen
        (no-deep (chain f u v h k l))

    -- too deep in a body or behind it
    abbrev DeepBody : Lists
    DeepBody w = DeepFirst w ⊎ DeepOf l w

    body-apart : Apart (Piece h) Body
    body-apart d y e w p q (inr x) = o.6 d y e w p q (inr x)
    body-apart d y e w p q (inl (mid, rest, is, (c, x), more)) = go mid is x
      where
        go : (m : Tokens) → y ∷ w ≡ m ++ rest → Tree k m c → ⊥
        go [] is x = full k o.3 c x
        go (t ∷ m) is x = let hd : t ≡ y = cc in
            o.6 d y e m p q (inl (c, subst (λ (z : Token). Tree k (z ∷ m) c) hd x))

    body-seen : (p : Tokens) → DeepBody p → HasMore Body p
    body-seen p (inr x) = let (more, (a, y)) = seen l o.2 p x in (more, inr (a, y))
    body-seen p (inl (inl x)) = let (more, (a, y)) = seen k o.1 p x in
        (more, inl (p ++ more, [], sym (append-nil (p ++ more)), (a, y), ([], refl)))
    body-seen p (inl (inr (mid, rest, is, x, d))) = let (more, y) = chain-seen rest d in
        (more, inl (mid, rest ++ more, ap (λ w. w ++ more) is ∙ append_assoc mid rest more, x, y))

    body-some : DeepBody [] → ⊥
    body-some (inr x) = no-deep l x
    body-some (inl (inl x)) = no-deep k x
    body-some (inl (inr (mid, rest, is, (c, x), d))) =
        full k o.3 c (subst (λ (w : Tokens). Tree k w c) (empty-parts mid rest is).0 x)

    to-body : (w : Tokens) → DeepChain w
        → Deeper (Piece h) Body (DeepOf h) DeepBody body-apart (seen h o.0) body-seen body-some w
    to-body w (zero, inl x) = inl x
    to-body w (zero, inr (front, back, b, is, x, inl d)) =
        inr (front, back, is, (b, x), inl (inl d))
    to-body w (zero, inr (front, back, b, is, x, inr d)) = inr (front, back, is, (b, x), inr d)
    to-body w (suc n, (front, mid, rest, b, c, is, x, y, d)) =
        inr (front, mid ++ rest, is, (b, x), inl (inr (mid, rest, refl, (c, y), (n, d))))

    -- what begins as a last body has no front that is too deep as another
    last-crossed : (ts : Tokens) (d : D) → Tree l ts d → Shallow DeepFirst ts
    last-crossed ts d x p q is (inl y) =
        crossed l k o.1 (λ t a b. o.5 t b a) ts d [] x
        (λ e. full l o.4 d (subst (λ (w : Tokens). Tree l w d) e x)) p q (append-nil ts ∙ is) y
    last-crossed ts d x p q is (inr (mid, rest, e, (c, y), z)) =
        go mid y (is ∙ (ap (λ w. w ++ q) e ∙ append_assoc mid rest q))
      where
        go : (m : Tokens) → Tree k m c → ts ≡ m ++ (rest ++ q) → ⊥
        go [] y s = full k o.3 c y
        go (t ∷ m) y s =
            o.5 t (first k t m c y)
            (first l t (m ++ (rest ++ q)) d (subst (λ (w : Tokens). Tree l w d) s x))

    module _ (ih-h : (d : Tokens) (b : B) → Small h d b → Shallow (DeepOf h) d)
        (ih-k : (d : Tokens) (c : C) → Small k d c → Shallow (DeepOf k) d)
        (ih-l : (d : Tokens) (e : D) → Small l d e → Shallow (DeepOf l) d) where
      neither : (front : Tokens) → Shallow DeepFirst front → Shallow (DeepOf l) front
          → Shallow DeepBody front
      neither front a b p q is (inl d) = a p q is d
      neither front a b p q is (inr d) = b p q is d

      derived-links : (is : List I) (ts : Tokens) → Links u v (Small h) (Small k) (Small l) ts is
          → Links u v (Tree h) (Tree k) (Tree l) ts is
      derived-links is ts x = links-in u v (Small h) (Tree h) (Small k) (Tree k) (Small l) (Tree l)
          (derived h) (derived k) (derived l) ts is x

      -- a head, with a body and what is behind it
      shallow-link : (front back : Tokens) (b : B) → Small h front b → Body back
          → Shallow DeepBody back → Shallow DeepChain (front ++ back)
      shallow-link front back b x body deep = shallow-in {D = DeepChain} to-body (front ++ back)
          (shallow-joined (Piece h) Body (DeepOf h) DeepBody body-apart (seen h o.0) body-seen
          body-some front back (b, derived h front b x) body (ih-h front b x) deep)

      -- a body that is not the last, and what is behind it
      shallow-body : (mid rest : Tokens) (c : C) → Small k mid c → Chain rest
          → Shallow DeepChain rest → Shallow DeepBody (mid ++ rest)
      shallow-body mid rest c y more deep =
          let t : Tree k mid c = derived k mid c y in
          neither (mid ++ rest)
          (shallow-joined (Piece k) Chain (DeepOf k) DeepChain o.7 (seen k o.1) chain-seen
          (no-deep (chain f u v h k l)) mid rest (c, t) more (ih-k mid c y) deep)
          (crossed k l o.2 o.5 mid c rest t
          (λ n. full k o.3 c (subst (λ (w : Tokens). Tree k w c) n t)))

      shallow-chain : (is : List I) (ts : Tokens) → Links u v (Small h) (Small k) (Small l) ts is
          → Shallow DeepChain ts
      shallow-chain [] ts e = λ p q is d. no-deep (chain f u v h k l)
          (subst DeepChain (empty-parts p q (sym e ∙ is)).0 d)
      shallow-chain (i ∷ is) ts (front, back, b, e, x, inl (mid, rest, c, e2, y, more, s)) =
          let chained : Chain rest = (is, derived-links is rest more) in
          let body : Body back = inl (mid, rest, e2, (c, derived k mid c y), chained) in
          subst (Shallow DeepChain) (sym e) (shallow-link front back b x body
          (subst (Shallow DeepBody) (sym e2)
          (shallow-body mid rest c y chained (shallow-chain is rest more))))
      shallow-chain (i ∷ is) ts (front, back, b, e, x, inr (d, y, n, s)) =
          let t : Tree l back d = derived l back d y in
          subst (Shallow DeepChain) (sym e) (shallow-link front back b x (inr (d, t))
          (neither back (last-crossed back d t) (ih-l back d y)))

  -- ---- all

  -- What is within the nesting has no front that is too deep, in any grammar that one token
  -- decides.
  pub within-shallow : {A : Type 0} (g : G X Sem A) → OneToken g → (ts : Tokens) (a : A)
      → Small g ts a → Shallow (DeepOf g) ts
  within-shallow (ret b) o ts a x = λ p q is d. d
  within-shallow (tok begins look f) o ts a x =
      λ p q is d. (let calm : (begins && none) ≡ false = x.3 in
      let deep : (begins && none) ≡ true = d.3 in absurd (cc))
  within-shallow (both f g h) o ts a (front, back, b, c, e, x, y, s) =
      subst (Shallow (DeepOf (both f g h))) (sym e)
      (shallow-both f g h o front back b c (derived g front b x) (derived h back c y)
      (within-shallow g o.0 front b x) (within-shallow h o.1 back c y))
  within-shallow (alt g h) o ts a (inl x) =
      shallow-left g h o ts a (derived g ts a x) (within-shallow g o.0 ts a x)
  within-shallow (alt g h) o ts a (inr x) =
      shallow-right g h o ts a (derived h ts a x) (within-shallow h o.1 ts a x)
  within-shallow (star f g) o ts a (bs, each, s) =
      shallow-row f g o (within-shallow g o.0) bs ts each
  within-shallow (chain f u v h k l) o ts a (is, links, s) =
      shallow-chain f u v h k l o (within-shallow h o.0) (within-shallow k o.1)
      (within-shallow l o.2) is ts links
  within-shallow (made f g) o ts a (b, x, s) = within-shallow g o ts b x
  within-shallow (placed f g) o ts a (b, x, s) = within-shallow g o.0 ts b x
  within-shallow (kid x f) o ts a (c, y, s) = kid_shallow x ts c y
