-- What goes on with any tokens goes on with tokens that a text may have.
--
-- A piece asks of each token one look. So a token whose bytes don't spell its class is changed for
-- one whose bytes do and which passes the same looks; the others stay. That each look of a grammar
-- has such a token is a test that computes (`all_met`).
use Rattle.std.proofs.Common.{◌≡◌, ℕ, Bool, true, false, ◌&&◌, ◌||◌, List, [], ◌∷◌, ◌++◌, map, length, take, drop, codes, inl, inr, refl, ◌∙◌, ap, bytes_eq, ◌+◌}
use Rattle.std.specs.Prelude.{nat_eq}
use Rattle.std.specs.List.{list_all}
use Rattle.ir_lexer.specs.declared.class.Class.{Class}
use Rattle.ir_lexer.specs.declared.class.Class.TheVariants as c
use Rattle.ir_lexer.specs.Classes.{same_class}
use Rattle.ir_lexer.specs.Spelling.{Text}
use Rattle.ir_lexer.specs.Tokens.{Token}
use Rattle.ir_lexer.proofs.Machine.{same-class-refl}
use Rattle.grammar.specs.Flat.{Flat, nothing_derived}
use Rattle.grammar.specs.Grammar.{Tokens, EachPiece, ret, tok, both, alt, star, chain, made, placed, kid, place_of, Derives}
use Rattle.grammar.specs.Looks.{Look, any_of, word, other_word, int_word, dotted, undotted, number_to, passes}
use Rattle.grammar.proofs.Meet.{and-true, or-first, true-or, same-text, passes-class}
use Rattle.format_reader.specs.Spelling.{class_of}
use Rattle.format_reader.specs.Tokens.{is_class, is_token, IsFront, AreTokensFrom}

-- ---- for each look a token that a text may have

-- a text of each class that a format has
abbrev sample : Class → Text
sample c.Word = codes "a"
sample c.Str = codes "``"
sample c.ValueName = codes "$a"
sample c.BlockName = codes "^"
sample c.TypeName = codes "i1"
sample c.Colon = codes ":"
sample c.Comma = codes ","
sample c.LParen = codes "("
sample c.RParen = codes ")"
sample c.Question = codes "?"
sample _ = []

-- a token of that text
abbrev sample_of : Class → ℕ → Token
sample_of class place = record { class = class; text = sample class; place = place }

-- a look that some token of a text passes
abbrev pub is_met : Look → Bool
is_met (any_of class) = is_token (sample_of class 0)
is_met (word w) = is_token (record { class = c.Word; text = w; place = 0 })
is_met l = false

-- the token, or one of its class that a text may have
abbrev mended : Bool → Token → Token
mended true t = t
mended false t = sample_of t.class t.place

-- the same, by whether a text may have the token
abbrev pub mend : Token → Token
mend t = mended (is_token t) t

-- what a token is that was mended
pub record Mended (l : Look) (t : Token) : Type 0 where
  pub passes : passes l (mend t) ≡ true
  pub good : is_token (mend t) ≡ true

stays : (l : Look) (t : Token) → is_token t ≡ true → passes l t ≡ true → Mended l t
stays l t good e = record { passes = rw good e; good = rw good good }

mend-any : (class : Class) (t : Token) (b : Bool) → is_token t ≡ b
    → is_token (sample_of class 0) ≡ true → passes (any_of class) t ≡ true
    → Mended (any_of class) t
mend-any class t true is met e = stays (any_of class) t is e
mend-any class t false is met e =
    let same = passes-class (any_of class) t e in
    record {
      passes = rw is (rw same (ap (λ b. b && true) (same-class-refl class)));
      good = rw is (rw same met);
    }

mend-word : (w : Text) (t : Token) → is_token (record { class = c.Word; text = w; place = 0 }) ≡ true
    → passes (word w) t ≡ true → Mended (word w) t
mend-word w t met e =
    let class = passes-class (word w) t e in
    let text = same-text t.text w (and-true (same_class t.class c.Word) (bytes_eq t.text w) e).1 in
    stays (word w) t (rw (class, text) met) e

-- a token that passes a look passes it where it was mended
mend-passes : (l : Look) (t : Token) → is_met l ≡ true → passes l t ≡ true → Mended l t
mend-passes (any_of class) t met e = mend-any class t (is_token t) refl met e
mend-passes (word w) t met e = mend-word w t met e
mend-passes (other_word ws) t met e = absurd (cc)
mend-passes int_word t met e = absurd (cc)
mend-passes (dotted class) t met e = absurd (cc)
mend-passes (undotted class) t met e = absurd (cc)
mend-passes (number_to n) t met e = absurd (cc)

-- ---- pieces

-- each look of a grammar is passed by some token of a text: a test that computes
abbrev pub all_met : {A : Type 0} → Flat A → Bool
all_met (ret b) = true
all_met (tok begins look f) = is_met look
all_met (both f g h) = all_met g && all_met h
all_met (alt g h) = all_met g && all_met h
all_met (star f g) = all_met g
all_met (chain f u v h k l) = false
all_met (made f g) = all_met g
all_met (placed f g) = all_met g
all_met (kid x f) = true

-- all of the tokens are those of a text
abbrev All_good : Tokens → Type 0
All_good ts = list_all is_token ts ≡ true

pub map-both : (ts us : Tokens) → map mend (ts ++ us) ≡ map mend ts ++ map mend us
map-both [] us = refl
map-both (t ∷ ts) us = ap (λ w. mend t ∷ w) (map-both ts us)

-- whether all of two lists pass
pub all-both : (ts us : Tokens) → list_all is_token (ts ++ us) ≡ (list_all is_token ts && list_all is_token us)
all-both [] us = refl
all-both (t ∷ ts) us = go (is_token t) (all-both ts us)
  where
    go : (b : Bool) → list_all is_token (ts ++ us) ≡ (list_all is_token ts && list_all is_token us)
        → (b && list_all is_token (ts ++ us)) ≡ ((b && list_all is_token ts) && list_all is_token us)
    go true e = e
    go false e = refl

good-both : (ts us : Tokens) → All_good ts → All_good us → All_good (ts ++ us)
good-both ts us e f = all-both ts us ∙ rw (e, f) refl

-- a piece whose tokens were mended
pub record HasMended {A : Type 0} (R : Tokens → A → Type 0) (ts : Tokens) : Type 0 where
  pub tree : A
  pub derived : R (map mend ts) tree
  pub good : All_good (map mend ts)

pieces-mended : {A : Type 0} (R : Tokens → A → Type 0)
    → ((ts : Tokens) (a : A) → R ts a → HasMended R ts)
    → (ts : Tokens) (l : List A) → EachPiece R ts l → HasMended (EachPiece R) ts
pieces-mended R one ts [] is = rw is (record { tree = []; derived = refl; good = refl })
pieces-mended R one ts (a ∷ l) (front, back, is, x, more) =
    let p = one front a x in
    let q = pieces-mended R one back l more in
    rw is (record {
      tree = p.tree ∷ q.tree;
      derived = (map mend front, map mend back, map-both front back, p.derived, q.derived);
      good = rw (map-both front back)
          (good-both (map mend front) (map mend back) p.good q.good);
    })

-- each piece of a grammar has one of tokens that a text may have
pub grammar-mended : {A : Type 0} (g : Flat A) → all_met g ≡ true → (ts : Tokens) (a : A)
    → Derives nothing_derived g ts a → HasMended (Derives nothing_derived g) ts
grammar-mended (ret b) e ts a (is, what) =
    rw is (record { tree = b; derived = (refl, refl); good = refl })
grammar-mended (tok begins look f) e ts a (t, is, passed, what) =
    let m = mend-passes look t e passed in
    rw is (record {
      tree = f (mend t);
      derived = (mend t, refl, m.passes, refl);
      good = rw m.good refl;
    })
grammar-mended (both f g h) e ts a (front, back, b, d, is, x, y, what) =
    let w = and-true (all_met g) (all_met h) e in
    let p = grammar-mended g w.0 front b x in
    let q = grammar-mended h w.1 back d y in
    rw is (record {
      tree = f p.tree q.tree;
      derived = (
        map mend front,
        map mend back,
        p.tree,
        q.tree,
        map-both front back,
        p.derived,
        q.derived,
        refl,
      );
      good = rw (map-both front back)
          (good-both (map mend front) (map mend back) p.good q.good);
    })
grammar-mended (alt g h) e ts a (inl x) =
    let p = grammar-mended g (and-true (all_met g) (all_met h) e).0 ts a x in
    record { tree = p.tree; derived = inl p.derived; good = p.good }
grammar-mended (alt g h) e ts a (inr x) =
    let p = grammar-mended h (and-true (all_met g) (all_met h) e).1 ts a x in
    record { tree = p.tree; derived = inr p.derived; good = p.good }
grammar-mended (star f g) e ts a (bs, x, what) =
    let p = pieces-mended (Derives nothing_derived g) (grammar-mended g e) ts bs x in
    record { tree = f p.tree; derived = (p.tree, p.derived, refl); good = p.good }
grammar-mended (chain f u v h k l) e ts a x = absurd (cc)
grammar-mended (made f g) e ts a (b, x, what) =
    let p = grammar-mended g e ts b x in
    record { tree = f p.tree; derived = (p.tree, p.derived, refl); good = p.good }
grammar-mended (placed f g) e ts a (b, x, what) =
    let p = grammar-mended g e ts b x in
    record {
      tree = f (place_of (map mend ts)) p.tree;
      derived = (p.tree, p.derived, refl);
      good = p.good;
    }
grammar-mended (kid x f) e ts a y = absurd x

-- tokens of a text stay
pub kept : (ts : Tokens) → All_good ts → map mend ts ≡ ts
kept [] e = refl
kept (t ∷ ts) e =
    let p = and-true (is_token t) (list_all is_token ts) e in
    ap (λ w. w ∷ map mend ts) (ap (λ b. mended b t) p.0) ∙ ap (λ w. t ∷ w) (kept ts p.1)

-- ---- the tokens of a text

by-class : (t : Token) → is_class (class_of t.text) t.class ≡ true → is_token t ≡ true
by-class t e =
    or-first (is_class (class_of t.text) t.class)
    ((same_class t.class c.Bad && nat_eq (length t.text) 1)
    || (same_class t.class c.End && nat_eq (length t.text) 0)) e

by-bad : (t : Token) → (same_class t.class c.Bad && nat_eq (length t.text) 1) ≡ true
    → is_token t ≡ true
by-bad t e =
    true-or (is_class (class_of t.text) t.class)
    ((same_class t.class c.Bad && nat_eq (length t.text) 1)
    || (same_class t.class c.End && nat_eq (length t.text) 0))
    (or-first (same_class t.class c.Bad && nat_eq (length t.text) 1)
    (same_class t.class c.End && nat_eq (length t.text) 0) e)

by-end : (t : Token) → (same_class t.class c.End && nat_eq (length t.text) 0) ≡ true
    → is_token t ≡ true
by-end t e =
    true-or (is_class (class_of t.text) t.class)
    ((same_class t.class c.Bad && nat_eq (length t.text) 1)
    || (same_class t.class c.End && nat_eq (length t.text) 0))
    (true-or (same_class t.class c.Bad && nat_eq (length t.text) 1)
    (same_class t.class c.End && nat_eq (length t.text) 0) e)

front-good : (r : Text) (t : Token) → t.text ≡ take (length t.text) r
    → IsFront r t.class (length t.text) → is_token t ≡ true
unfolding IsFront
front-good [] t text (class, none) =
    by-end t (rw (class, none) (ap (λ b. b && true) (same-class-refl c.End)))
front-good (b ∷ r) t text (inl x) =
    by-class t (ap (λ k. is_class k t.class) (ap class_of text ∙ x.spelled)
    ∙ same-class-refl t.class)
front-good (b ∷ r) t text (inr (class, one, none)) =
    by-bad t (rw (class, one) (ap (λ b. b && true) (same-class-refl c.Bad)))

-- they are such as a text may have
pub all-good : (src : Text) (at : ℕ) (ts : Tokens) → AreTokensFrom src at ts → All_good ts
all-good src at [] x = absurd x
all-good src at (t ∷ []) x =
    rw (front-good (drop t.place src) t x.0.text x.0.front) refl
all-good src at (t ∷ u ∷ ts) x =
    rw (front-good (drop t.place src) t x.0.text x.0.front)
    (all-good src (t.place + length t.text) (u ∷ ts) x.2)
