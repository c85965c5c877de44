-- The theorem on grammars: where one token decides, the reader meets what is asked of it.
--
-- It finds the one front of the tokens that is a piece, or stops at the first token with which none
-- goes on, or at the first that begins a value too deep. By the grammar: `Then`, `Choice` and
-- `Chain` show it of each way to put grammars together, and here they are joined. The nonterminals
-- and their readers are parameters, of which the same is known.
use Rattle.std.proofs.Common.{◌≡◌, ℕ, Bool, true, false, ◌&&◌, [], ◌∷◌, ◌++◌, length, ◌⊎◌, inl, inr, refl, sym, ◌∙◌, ap, subst, arith, if◌then◌else◌}
use Rattle.ir_lexer.specs.Tokens.{Token}
use Rattle.grammar.specs.Looks.{Look, passes}
use Rattle.grammar.proofs.Meet.{or-true, a-token, passes-some}
use Rattle.grammar.specs.Grammar.{Tokens, Parser, done, stop, on_head, EachPiece, G, ret, tok, both, alt, star, chain, made, placed, kid, place_of, Links, DeepLinks, Derives, Deep, nullable, starts, reads, read_tok}
use Rattle.grammar.specs.Exact.{HasMore, IsExactAnswer}
use Rattle.grammar.specs.Front.{Lists, Some_of}
use Rattle.grammar.proofs.Shrink.{Takes, takes-if, fewer-of}
use Rattle.grammar.proofs.Then.{then-meets, deep-both-seen, map-meets, place-meets}
use Rattle.grammar.proofs.Chain.{chain-seen, chain-some, links-meet}
use Rattle.grammar.proofs.Choice.{choice-meets, turns-meet, DeepStar, star-seen, empty-parts}
use Rattle.grammar.proofs.Firsts.{Kids, first-of-links}
use Rattle.grammar.proofs.Firsts as firsts
use Rattle.grammar.proofs.Begun.{Samples, IsOneToken}
use Rattle.grammar.proofs.Begun as begins

module _ {X : Type 0} {Sem : X → Type 0} (Derived : (x : X) → Tokens → Sem x → Type 0)
    (kid_starts : X → Token → Bool)
    (kids : Kids Derived kid_starts) (samples : Samples Derived kid_starts)
    (kid_begun : (x : X) (t : Token) → kid_starts x t ≡ true
    → HasMore (Some_of (Derived x)) (t ∷ [])) where
  -- the tokens are a piece of the grammar, with this tree
  abbrev Tree : {A : Type 0} → G X Sem A → Tokens → A → Type 0
  Tree g = Derives Derived g

  -- a piece begins with the token
  abbrev opens : {A : Type 0} → G X Sem A → Token → Bool
  opens g = starts kid_starts g

  -- the tokens are a piece
  abbrev Piece : {A : Type 0} → G X Sem A → Lists
  Piece g = Some_of (Tree g)

  -- what is known of first tokens, of this grammar's nonterminals
  empty : {A : Type 0} (g : G X Sem A) (a : A) → Tree g [] a → nullable g ≡ true
  empty g a d = firsts.empty Derived kid_starts kids g a d

  first : {A : Type 0} (g : G X Sem A) (t : Token) (ts : Tokens) (a : A) → Tree g (t ∷ ts) a
      → opens g t ≡ true
  first g t ts a d = firsts.first Derived kid_starts kids g t ts a d

  sample : {A : Type 0} (g : G X Sem A) → IsOneToken Derived kid_starts g
      → (ts : Tokens) × Piece g ts
  sample g o = begins.sample Derived kid_starts kids samples g o

  begun : {A : Type 0} (g : G X Sem A) → IsOneToken Derived kid_starts g → (t : Token)
      → opens g t ≡ true → HasMore (Piece g) (t ∷ [])
  begun g o t e = begins.begun Derived kid_starts kids samples kid_begun g o t e

  -- one token decides at each place
  abbrev OneToken : {A : Type 0} → G X Sem A → Type 0
  OneToken g = IsOneToken Derived kid_starts g

  -- nothing is too deep before the first token
  pub no-deep : {A : Type 0} (DeepKid : X → Lists) (some : (x : X) → DeepKid x [] → ⊥) (none : Bool)
      (g : G X Sem A) → Deep Derived DeepKid none g [] → ⊥
  no-deep DeepKid some none (ret b) x = x
  no-deep DeepKid some none (tok begins look f) (t, is, p, e) = absurd (cc)
  no-deep DeepKid some none (both f g h) (inl x) = no-deep DeepKid some none g x
  no-deep DeepKid some none (both f g h) (inr (front, back, b, is, r, x)) =
      no-deep DeepKid some none h
      (subst (Deep Derived DeepKid none h) (empty-parts front back is).1 x)
  no-deep DeepKid some none (alt g h) (inl x) = no-deep DeepKid some none g x
  no-deep DeepKid some none (alt g h) (inr x) = no-deep DeepKid some none h x
  no-deep DeepKid some none (star f g) (front, back, bs, is, each, x) =
      no-deep DeepKid some none g
      (subst (Deep Derived DeepKid none g) (empty-parts front back is).1 x)
  no-deep DeepKid some none (chain f u v h k l) (n, x) =
      chain-some (Tree h) (Tree k) (Tree l) (Deep Derived DeepKid none h)
      (Deep Derived DeepKid none k) (Deep Derived DeepKid none l)
      (no-deep DeepKid some none h) (no-deep DeepKid some none k) (no-deep DeepKid some none l) n x
  no-deep DeepKid some none (made f g) x = no-deep DeepKid some none g x
  no-deep DeepKid some none (placed f g) x = no-deep DeepKid some none g x
  no-deep DeepKid some none (kid y f) x = some y x

  module _ (DeepKid : X → Lists) (some : (x : X) → DeepKid x [] → ⊥)
      (kid_seen : (x : X) (p : Tokens) → DeepKid x p → HasMore (Some_of (Derived x)) p)
      (none : Bool) where
    -- the last of the tokens begins a value too deep
    abbrev DeepOf : {A : Type 0} → G X Sem A → Lists
    DeepOf g = Deep Derived DeepKid none g

    -- a grammar that is not nullable has no empty piece
    full-of : {A : Type 0} (g : G X Sem A) → nullable g ≡ false → (a : A) → Tree g [] a → ⊥
    full-of g e a x = absurd (cc (e, empty g a x))

    -- what is too deep is viable
    pub deep-viable : {A : Type 0} (g : G X Sem A) → OneToken g → (p : Tokens) → DeepOf g p
        → HasMore (Piece g) p
    deep-viable (ret b) l p x = absurd x
    deep-viable (tok begins look f) l p (t, is, e, d) = ([], (f t, (t, ap (λ w. w ++ []) is, e, refl)))
    deep-viable (both f g h) l p x =
        deep-both-seen f (Tree g) (Tree h) (DeepOf g) (DeepOf h) l.2 (deep-viable g l.0) (deep-viable h l.1)
        (no-deep DeepKid some none h) (sample h l.1) p x
    deep-viable (alt g h) l p (inl x) = let u = deep-viable g l.0 p x in (u.0, (u.1.0, inl u.1.1))
    deep-viable (alt g h) l p (inr x) = let u = deep-viable h l.1 p x in (u.0, (u.1.0, inr u.1.1))
    deep-viable (star f g) l p x = let u = star-seen (Tree g) (DeepOf g) (deep-viable g l.0) p x in
        (u.0, (f u.1.0, (u.1.0, u.1.1, refl)))
    deep-viable (chain f u v h k l) o p (n, x) =
        let w = chain-seen u v (Tree h) (Tree k) (Tree l) (DeepOf h) (DeepOf k) (DeepOf l)
        (deep-viable h o.0) (deep-viable k o.1) (deep-viable l o.2) (sample l o.2) n p x in
        (w.0, (f w.1.0, (w.1.0, w.1.1, refl)))
    deep-viable (made f g) l p x = let u = deep-viable g l p x in (u.0, (f u.1.0, (u.1.0, u.1.1, refl)))
    deep-viable (placed f g) l p x = let u = deep-viable g l.0 p x in
        (u.0, (f (place_of (p ++ u.0)) u.1.0, (u.1.0, u.1.1, refl)))
    deep-viable (kid y f) l p x = let u = kid_seen y p x in (u.0, (f u.1.0, (u.1.0, u.1.1, refl)))

    -- one token
    tok-meets : {A : Type 0} (b : Bool) (look : Look) (f : Token → A) → (ts : Tokens)
        → IsExactAnswer (Tree (tok b look f)) (DeepOf (tok b look f)) ts
        (read_tok (b && none) (passes look) f ts)
    tok-meets b look f [] = record {
      front = [];
      is = refl;
      viable = (
        a-token look ∷ [],
        (f (a-token look), (a-token look, refl, passes-some look, refl)),
      );
      none = λ x. absurd (cc (x.1.1));
      barred = λ t more e at x. absurd (cc);
      shallow = λ p q is x. let e = empty-parts p q is in absurd (cc (e.0, x.1));
    }
    tok-meets b look f (t ∷ ts) = go (passes look t) (b && none) refl refl
      where
        go : (c d : Bool) → passes look t ≡ c → (b && none) ≡ d
            → IsExactAnswer (Tree (tok b look f)) (DeepOf (tok b look f)) (t ∷ ts)
            (if c then (if d then stop true (t ∷ ts) else done (f t) ts) else stop false (t ∷ ts))
        go true true hc hd = record {
          front = [];
          next = t;
          more = ts;
          at = refl;
          is = refl;
          deep = (t, refl, hc, hd);
          shallow = λ p q is x. let e = empty-parts p q is in absurd (cc (e.0, x.1));
        }
        go true false hc hd = record {
          front = t ∷ [];
          is = refl;
          tree = (t, refl, hc, refl);
          barred = λ y more e at x. absurd (cc (x.1.1));
          shallow = λ p q is x. absurd (cc (hd, x.3));
        }
        go false d hc hd = record {
          front = [];
          is = refl;
          viable = (
            a-token look ∷ [],
            (f (a-token look), (a-token look, refl, passes-some look, refl)),
          );
          none = λ x. absurd (cc (x.1.1));
          barred = λ y more e at x. absurd (cc (hc, at, x.1.1, x.1.2));
          shallow = λ p q is x. let e = empty-parts p q is in absurd (cc (e.0, x.1));
        }

    -- a piece of a choice is one of the one branch or of the other
    alt-out : {A : Type 0} (g h : G X Sem A) (w : Tokens) → Piece (alt g h) w
        → Piece g w ⊎ Piece h w
    alt-out g h w (a, inl x) = inl (a, x)
    alt-out g h w (a, inr x) = inr (a, x)

    other-way : {P Q : Type 0} → P ⊎ Q → Q ⊎ P
    other-way (inl x) = inr x
    other-way (inr x) = inl x

    -- a choice, by the first token
    alt-meets : {A : Type 0} (g h : G X Sem A) → OneToken (alt g h) → (p q : Parser A)
        → ((ts : Tokens) → IsExactAnswer (Tree g) (DeepOf g) ts (p ts))
        → ((ts : Tokens) → IsExactAnswer (Tree h) (DeepOf h) ts (q ts))
        → (ts : Tokens)
        → IsExactAnswer (Tree (alt g h)) (DeepOf (alt g h)) ts (if on_head (opens g) ts then p ts else q ts)
    alt-meets g h l p q x y [] =
        choice-meets (Tree h) (Tree g) (Tree (alt g h)) (DeepOf h) (DeepOf g) (DeepOf (alt g h))
        (λ w a z. inr z) (λ w z. other-way (alt-out g h w z)) (λ w z. inr z) (λ w z. other-way z) []
        (λ t more w e z. absurd (cc)) (deep-viable g l.0) (no-deep DeepKid some none g)
        (q []) (λ rest z e o. full-of g l.2 o.0 o.1) (y [])
    alt-meets {A = A} g h l p q x y (t ∷ ts) = go (opens g t) refl
      where
        go : (c : Bool) → opens g t ≡ c
            → IsExactAnswer (Tree (alt g h)) (DeepOf (alt g h)) (t ∷ ts)
            (if c then p (t ∷ ts) else q (t ∷ ts))
        go true e = choice-meets (Tree g) (Tree h) (Tree (alt g h)) (DeepOf g) (DeepOf h)
            (DeepOf (alt g h))
            (λ w a z. inl z) (alt-out g h) (λ w z. inl z) (λ w z. z) (t ∷ ts)
            (λ u more w is z. let hd : t ≡ u = cc in
            l.3 t e (subst (λ (v : Token). opens h v ≡ true) (sym hd) (first h u w z.0 z.1)))
            (deep-viable h l.1) (no-deep DeepKid some none h)
            (p (t ∷ ts)) (λ rest z e2 o. let v = begun g l.0 t e in
            z.barred t ts v.0 (sym (z.is ∙ ap (λ w. w ++ rest) e2))
            (subst (λ (w : Tokens). Piece g (w ++ t ∷ v.0)) (sym e2) v.1)) (x (t ∷ ts))
        go false e =
            choice-meets (Tree h) (Tree g) (Tree (alt g h)) (DeepOf h) (DeepOf g) (DeepOf (alt g h))
            (λ w a z. inr z) (λ w z. other-way (alt-out g h w z)) (λ w z. inr z)
            (λ w z. other-way z) (t ∷ ts)
            (λ u more w is z. let hd : t ≡ u = cc in let v = first g u w z.0 z.1 in
            absurd (cc (e, hd, v)))
            (deep-viable g l.0) (no-deep DeepKid some none g)
            (q (t ∷ ts)) (λ rest z e2 o. full-of g l.2 o.0 o.1) (y (t ∷ ts))

    module _ (kid_at : (x : X) → Parser (Sem x)) (kid_takes : (x : X) → Takes (kid_at x))
        (kid_meets : (x : X) (ts : Tokens) → IsExactAnswer (Derived x) (DeepKid x) ts (kid_at x ts)) where
      -- the reader
      abbrev run : {A : Type 0} → G X Sem A → Parser A
      run g = reads kid_starts kid_at none g

      -- the reader meets what is asked of it
      pub exact : {A : Type 0} (g : G X Sem A) → OneToken g → (ts : Tokens)
          → IsExactAnswer (Tree g) (DeepOf g) ts (run g ts)
      exact (ret b) l ts =
          record {
            front = [];
            is = refl;
            tree = (refl, refl);
            barred = λ t more e at x. absurd (cc (x.1.0));
            shallow = λ p q is x. x;
          }
      exact (tok begins look f) l ts = tok-meets begins look f ts
      exact (both f g h) l ts =
          then-meets f (Tree g) (Tree h) (DeepOf g) (DeepOf h) l.2 (deep-viable g l.0) (deep-viable h l.1)
          (no-deep DeepKid some none h) (sample h l.1)
          ts (run g ts) (run h) (exact g l.0 ts) (λ b rest e. exact h l.1 rest)
      exact (alt g h) l ts = alt-meets g h l (run g) (run h) (exact g l.0) (exact h l.1) ts
      exact (star f g) l ts = map-meets f (EachPiece (Tree g)) (DeepStar (Tree g) (DeepOf g)) ts _
          (turns-meet (opens g) (run g) (Tree g) (DeepOf g)
          (takes-if kid_starts kid_at none kid_takes g l.1) (exact g l.0) l.2 (deep-viable g l.0)
          (no-deep DeepKid some none g)
          (full-of g l.1) (first g) (begun g l.0) (length ts) ts (omega arith))
      exact (chain {I = I} f u v h k l) o ts =
          map-meets f (Links u v (Tree h) (Tree k) (Tree l))
          (λ p. (n : ℕ) × DeepLinks (Tree h) (Tree k) (Tree l) (DeepOf h) (DeepOf k) (DeepOf l) n p)
          ts _
          (links-meet u v (Tree h) (Tree k) (Tree l) (DeepOf h) (DeepOf k) (DeepOf l) _ (opens k)
          (run h) (run k) (run l)
          (fewer-of kid_starts kid_at none kid_takes h)
          (takes-if kid_starts kid_at none kid_takes k o.3) (exact h o.0) (exact k o.1)
          (exact l o.2) o.6 o.7
          (deep-viable h o.0) (deep-viable k o.1) (deep-viable l o.2) (no-deep DeepKid some none h)
          (no-deep DeepKid some none k) (no-deep DeepKid some none l)
          (full-of k o.3) (full-of l o.4) (first k) (λ t w d x e. o.5 t e (first l t w d x))
          (λ t w is x. first-of-links u v (Tree h) (Tree k) (Tree l) (opens h) (opens k) (opens l)
          (nullable h) (first h) (empty h) (first k) (first l) is t w x)
          (λ t e. begins.begun-links Derived kid_starts kids samples f u v h k l t (or-true _ _ e)
          (sample l o.2) (begun h o.0 t) (λ _. begun k o.1 t) (λ _. begun l o.2 t)) (begun k o.1)
          (sample l o.2)
          (length ts) ts (omega arith))
      exact (made f g) l ts = map-meets f (Tree g) (DeepOf g) ts (run g ts) (exact g l ts)
      exact (placed f g) l ts =
          place-meets f (Tree g) (DeepOf g) (full-of g l.1) ts (run g ts) (exact g l.0 ts)
      exact (kid x f) l ts = map-meets f (Derived x) (DeepKid x) ts (kid_at x ts) (kid_meets x ts)
