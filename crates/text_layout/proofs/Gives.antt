-- What is written of the parts of a grammar is written of the whole.
--
-- One lemma for each way to put grammars together. Marks one behind the other spell tokens one
-- behind the other; what the tree says is put together on the way.
use Rattle.std.proofs.Common.{◌≡◌, ℕ, ◌+◌, Bool, true, false, ◌&&◌, List, [], ◌∷◌, ◌++◌, length, inl, inr, refl, subst, map}
use Rattle.std.specs.List.{AllByRecursion, AllZip}
use Rattle.grammar.specs.Grammar.{G, Tokens, EachPiece, ret, tok, both, alt, star, chain, made, placed, kid, place_of}
use Rattle.grammar.specs.Looks.{Look, passes}
use Rattle.grammar.specs.Within.{Within}
use Rattle.ir_lexer.specs.declared.class.Class.{Class}
use Rattle.ir_lexer.specs.declared.class.Class.TheVariants as c
use Rattle.ir_lexer.specs.Spelling.{Text}
use Rattle.ir_lexer.specs.Tokens.{Token}
use Rattle.text_layout.specs.declared.gap.Gap.{Gap}
use Rattle.text_layout.specs.Apart.{tokens_from, tokens_of}
use Rattle.text_layout.specs.Gives.{MarksSpell, Gives, GivesKid}
use Rattle.text_layout.specs.Lines.{Mark, token, ask, break_line, Line, first_line, line_after, line_end, gap_before}
use Rattle.text_layout.specs.Tidy.{Tidy}
use Rattle.text_layout.proofs.Tidy.{tidy-none, tidy-ask, tidy-break, tidy-both}

-- a token at a place
abbrev pub token_at : Class → Text → ℕ → Token
token_at class text place = record { class = class; text = text; place = place }

-- marks one behind the other spell tokens one behind the other
pub spell-both : (ms ns : List Mark) (ts : Tokens) → MarksSpell (ms ++ ns) ts
    → (front back : Tokens) × (ts ≡ front ++ back) × MarksSpell ms front × MarksSpell ns back
spell-both [] ns ts s = ([], ts, refl, refl, s)
spell-both (token class text ∷ ms) ns ts (place, rest, e, s) =
    let (front, back, f, s1, s2) = spell-both ms ns rest s in
    let first = token_at class text place in
    let is : ts ≡ (first ∷ front) ++ back = cc in
    (first ∷ front, back, is, (place, front, refl, s1), s2)
spell-both (ask gap ∷ ms) ns ts s = spell-both ms ns ts s
spell-both (break_line indent ∷ ms) ns ts s = spell-both ms ns ts s

spell-from : (at : ℕ) (line : Line) (ms : List Mark)
    → MarksSpell (ms ++ token c.End [] ∷ []) (tokens_from at line ms)
spell-from at line [] = (at + length (line_end line.row), [], refl, refl)
spell-from at line (token class text ∷ ms) =
    let place = at + length (gap_before line class text) in
    let after = line_after line (token class text) in
    let behind = place + length text in
    (place, tokens_from behind after ms, refl, spell-from behind after ms)
spell-from at line (ask gap ∷ ms) = spell-from at (line_after line (ask gap)) ms
spell-from at line (break_line indent ∷ ms) =
    spell-from (at + length (line_end line.row)) (line_after line (break_line indent)) ms

-- marks, and the end behind them, spell the tokens of their layout
pub spell-tokens : (ms : List Mark) → MarksSpell (ms ++ token c.End [] ∷ []) (tokens_of ms)
spell-tokens ms = spell-from 0 first_line ms

-- marks one behind the other
abbrev pub joined : List (List Mark) → List Mark
joined [] = []
joined (m ∷ ms) = m ++ joined ms

-- a row of pieces, one for each item of a list
module _ {X : Type 0} {Sem : X → Type 0} (Inside : (x : X) → Tokens → Sem x → Type 0) (none : Bool)
    {A B : Type 0} (g : G X Sem A) (marks : B → List Mark) (R : A → B → Type 0) where
  -- the marks of an item are a piece, with a tree that is the item's
  abbrev IsGiven : B → Type 0
  IsGiven b = Gives Inside none g (marks b) (λ a. R a b)

  row-given : (bs : List B) → AllByRecursion IsGiven bs → (ts : Tokens)
      → MarksSpell (joined (map marks bs)) ts
      → (trees : List A) × EachPiece (Within Inside none g) ts trees × AllZip R trees bs
  row-given [] x ts s = ([], s, tt)
  row-given (b ∷ bs) (x, xs) ts s =
      let (front, back, e, s1, s2) = spell-both (marks b) (joined (map marks bs)) ts s in
      let (a, d, p) = x.tree front s1 in let (more, ds, ps) = row-given bs xs back s2 in
      (a ∷ more, (front, back, e, d, ds), (p, ps))

  row-tidy : (bs : List B) → AllByRecursion IsGiven bs → Tidy (joined (map marks bs))
  row-tidy [] x = tidy-none
  row-tidy (b ∷ bs) (x, xs) = tidy-both (marks b) (joined (map marks bs)) x.tidy (row-tidy bs xs)

-- grammars put together
module _ {X : Type 0} {Sem : X → Type 0} {Inside : (x : X) → Tokens → Sem x → Type 0}
    {none : Bool} where
  -- a weaker fact on the tree
  pub gives-less : {A : Type 0} {g : G X Sem A} {ms : List Mark} {P Q : A → Type 0}
      → ((a : A) → P a → Q a) → Gives Inside none g ms P → Gives Inside none g ms Q
  gives-less f x = record {
    tidy = x.tidy;
    tree = λ ts s. let (a, d, p) = x.tree ts s in (a, d, f a p);
  }

  -- the same marks, said otherwise
  pub gives-same : {A : Type 0} {g : G X Sem A} {ms ns : List Mark} {P : A → Type 0} → ms ≡ ns
      → Gives Inside none g ms P → Gives Inside none g ns P
  gives-same {g = g} {P = P} e x = subst (λ (w : List Mark). Gives Inside none g w P) e x

  -- no tokens
  pub gives-ret : {A : Type 0} {P : A → Type 0} (a : A) → P a → Gives Inside none (ret a) [] P
  gives-ret a p = record { tidy = tidy-none; tree = λ ts s. (a, (s, refl), p) }

  -- a question of a gap is no token
  pub gives-ask : {A : Type 0} {P : A → Type 0} {gap : Gap} (a : A) → P a
      → Gives Inside none (ret a) (ask gap ∷ []) P
  gives-ask a p = record { tidy = tidy-ask; tree = λ ts s. (a, (s, refl), p) }

  -- behind a break of the line
  pub gives-break : {A : Type 0} {g : G X Sem A} {ms : List Mark} {indent : ℕ} {P : A → Type 0}
      → Gives Inside none g ms P → Gives Inside none g (break_line indent ∷ ms) P
  gives-break {ms = ms} {indent = indent} x =
      record { tidy = tidy-break indent ms x.tidy; tree = x.tree }

  -- one token
  pub gives-tok : {A : Type 0} {P : A → Type 0} (begins : Bool) (shallow : (begins && none) ≡ false)
      (look : Look) (f : Token → A) (class : Class) (text : Text)
      → Tidy (token class text ∷ [])
      → ((place : ℕ) → passes look (token_at class text place) ≡ true)
      → ((place : ℕ) → P (f (token_at class text place)))
      → Gives Inside none (tok begins look f) (token class text ∷ []) P
  gives-tok begins shallow look f class text tidy pass p = record {
    tidy = tidy;
    tree = λ ts (place, rest, e, r). let is : ts ≡ token_at class text place ∷ [] = cc in (
      f (token_at class text place),
      (token_at class text place, is, pass place, shallow, refl),
      p place,
    );
  }

  -- a piece and then a piece
  pub gives-both : {A B C : Type 0} {f : B → C → A} {g : G X Sem B} {h : G X Sem C}
      {ms ns : List Mark} {P : B → Type 0} {Q : C → Type 0} {R : A → Type 0}
      → Gives Inside none g ms P → Gives Inside none h ns Q
      → ((b : B) (c : C) → P b → Q c → R (f b c))
      → Gives Inside none (both f g h) (ms ++ ns) R
  gives-both {f = f} {ms = ms} {ns = ns} x y r = record {
    tidy = tidy-both ms ns x.tidy y.tidy;
    tree = λ ts s. let (front, back, e, s1, s2) = spell-both ms ns ts s in
        let (b, d1, p) = x.tree front s1 in let (c, d2, q) = y.tree back s2 in
        (f b c, (front, back, b, c, e, d1, d2, refl), r b c p q);
  }

  -- a piece of the one branch of a choice, and of the other
  pub gives-left : {A : Type 0} {g h : G X Sem A} {ms : List Mark} {P : A → Type 0}
      → Gives Inside none g ms P
      → Gives Inside none (alt g h) ms P
  gives-left x = record {
    tidy = x.tidy;
    tree = λ ts s. let (a, d, p) = x.tree ts s in (a, inl d, p);
  }

  pub gives-right : {A : Type 0} {g h : G X Sem A} {ms : List Mark} {P : A → Type 0}
      → Gives Inside none h ms P
      → Gives Inside none (alt g h) ms P
  gives-right x = record {
    tidy = x.tidy;
    tree = λ ts s. let (a, d, p) = x.tree ts s in (a, inr d, p);
  }

  -- the same pieces, with another tree
  pub gives-made : {A B : Type 0} {f : B → A} {g : G X Sem B} {ms : List Mark} {P : B → Type 0}
      {Q : A → Type 0}
      → Gives Inside none g ms P → ((b : B) → P b → Q (f b)) → Gives Inside none (made f g) ms Q
  gives-made {f = f} x q = record {
    tidy = x.tidy;
    tree = λ ts s. let (b, d, p) = x.tree ts s in (f b, (b, d, refl), q b p);
  }

  -- the same pieces, with their places
  pub gives-placed : {A B : Type 0} {f : ℕ → B → A} {g : G X Sem B} {ms : List Mark}
      {P : B → Type 0} {Q : A → Type 0}
      → Gives Inside none g ms P → ((place : ℕ) (b : B) → P b → Q (f place b))
      → Gives Inside none (placed f g) ms Q
  gives-placed {f = f} x q = record {
    tidy = x.tidy;
    tree = λ ts s. let (b, d, p) = x.tree ts s in
        (f (place_of ts) b, (b, d, refl), q (place_of ts) b p);
  }

  -- a piece of a nonterminal
  pub gives-kid : {A : Type 0} {x : X} {f : Sem x → A} {ms : List Mark} {P : Sem x → Type 0}
      {Q : A → Type 0}
      → GivesKid Inside x ms P → ((c : Sem x) → P c → Q (f c)) → Gives Inside none (kid x f) ms Q
  gives-kid {f = f} k q = record {
    tidy = k.tidy;
    tree = λ ts s. let (c, d, p) = k.tree ts s in (f c, (c, d, refl), q c p);
  }

  -- none or more pieces
  pub gives-star : {A B C : Type 0} {f : List A → C} {g : G X Sem A} {Q : C → Type 0}
      (marks : B → List Mark) (R : A → B → Type 0) (bs : List B)
      → AllByRecursion (λ b. Gives Inside none g (marks b) (λ a. R a b)) bs
      → ((trees : List A) → AllZip R trees bs → Q (f trees))
      → Gives Inside none (star f g) (joined (map marks bs)) Q
  gives-star {f = f} {g = g} marks R bs x q = record {
    tidy = row-tidy Inside none g marks R bs x;
    tree = λ ts s. let (trees, d, p) = row-given Inside none g marks R bs x ts s in
        (f trees, (trees, d, refl), q trees p);
  }

  -- no piece, and a piece and those behind it
  pub gives-no-more : {A : Type 0} {g : G X Sem A} {R : List A → Type 0}
      → R [] → Gives Inside none (star (λ l. l) g) [] R
  gives-no-more r = record { tidy = tidy-none; tree = λ ts s. ([], ([], s, refl), r) }

  pub gives-more : {A : Type 0} {g : G X Sem A} {ms ns : List Mark} {P : A → Type 0}
      {R S : List A → Type 0}
      → Gives Inside none g ms P → Gives Inside none (star (λ l. l) g) ns R
      → ((a : A) (l : List A) → P a → R l → S (a ∷ l)) → Gives Inside none (star (λ l. l) g)
      (ms ++ ns) S
  gives-more {ms = ms} {ns = ns} {R = R} x y s = record {
    tidy = tidy-both ms ns x.tidy y.tidy;
    tree = λ ts t. let (front, back, e, t1, t2) = spell-both ms ns ts t in
        let (a, d1, pa) = x.tree front t1 in
        let (k, (l, row, same), r) = y.tree back t2 in
        (a ∷ l, (a ∷ l, (front, back, e, d1, row), refl), s a l pa (subst R same r));
  }

  -- ---- heads with bodies, one behind the other

  -- none
  pub gives-no-links : {B C D I : Type 0} {p : B → C → I} {q : B → D → I} {h : G X Sem B}
      {k : G X Sem C} {l : G X Sem D} {R : List I → Type 0}
      → R [] → Gives Inside none (chain (λ is. is) p q h k l) [] R
  gives-no-links r = record { tidy = tidy-none; tree = λ ts s. ([], ([], s, refl), r) }

  -- a head, a body of the first kind, and what is behind them
  pub gives-link : {B C D I : Type 0} {p : B → C → I} {q : B → D → I} {h : G X Sem B}
      {k : G X Sem C} {l : G X Sem D}
      {ms ns os : List Mark} {P : B → Type 0} {Q : C → Type 0} {R S : List I → Type 0}
      → Gives Inside none h ms P → Gives Inside none k ns Q
      → Gives Inside none (chain (λ is. is) p q h k l) os R
      → ((b : B) (c : C) (is : List I) → P b → Q c → R is → S (p b c ∷ is))
      → Gives Inside none (chain (λ is. is) p q h k l) (ms ++ (ns ++ os)) S
  gives-link {p = p} {ms = ms} {ns = ns} {os = os} {R = R} x y z s = record {
    tidy = tidy-both ms (ns ++ os) x.tidy (tidy-both ns os y.tidy z.tidy);
    tree = λ ts t. let (front, back, e, t1, t2) = spell-both ms (ns ++ os) ts t in
        let (mid, rest, e2, t3, t4) = spell-both ns os back t2 in
        let (b, d1, pb) = x.tree front t1 in
        let (c, d2, qc) = y.tree mid t3 in
        let (js, (is, links, same), r) = z.tree rest t4 in (
          p b c ∷ is,
          (
            p b c ∷ is,
            (front, back, b, e, d1, inl (mid, rest, c, e2, d2, links, refl)),
            refl,
          ),
          s b c is pb qc (subst R same r),
        );
  }

  -- a head and a body of the second kind, which end them
  pub gives-last-link : {B C D I : Type 0} {p : B → C → I} {q : B → D → I} {h : G X Sem B}
      {k : G X Sem C} {l : G X Sem D}
      {ms ns : List Mark} {P : B → Type 0} {Q : D → Type 0} {S : List I → Type 0}
      → Gives Inside none h ms P → Gives Inside none l ns Q
      → ((b : B) (d : D) → P b → Q d → S (q b d ∷ []))
      → Gives Inside none (chain (λ is. is) p q h k l) (ms ++ ns) S
  gives-last-link {q = q} {ms = ms} {ns = ns} x y s = record {
    tidy = tidy-both ms ns x.tidy y.tidy;
    tree = λ ts t. let (front, back, e, t1, t2) = spell-both ms ns ts t in
        let (b, d1, pb) = x.tree front t1 in
        let (d, d2, qd) = y.tree back t2 in (
          q b d ∷ [],
          (q b d ∷ [], (front, back, b, e, d1, inr (d, d2, refl, refl)), refl),
          s b d pb qd,
        );
  }
