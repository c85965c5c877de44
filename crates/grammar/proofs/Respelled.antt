-- What goes on with any tokens goes on with tokens that bytes can give.
--
-- A piece asks of each token one look. So a token whose text doesn't spell its class may be changed
-- for one whose text does and which meets the same look; the others stay. That each look of a
-- grammar is met by such a token is a test that computes (`all_met`).
use Rattle.std.proofs.Common.{◌≡◌, ℕ, zero, suc, Bool, true, false, ◌&&◌, ◌||◌, [], ◌∷◌, ◌++◌, ◌⊎◌, length, codes, inl, inr, refl, ap, subst, arith, nat_eq, eqb-true}
use Rattle.ir_lexer.specs.declared.class.Class.{Class}
use Rattle.ir_lexer.specs.declared.class.Class.TheVariants as c
use Rattle.ir_lexer.specs.declared.table.TheConstants.{START}
use Rattle.ir_lexer.specs.Scan.{step, is_whole, class_at}
use Rattle.ir_lexer.specs.Classes.{same_class}
use Rattle.ir_lexer.specs.Source.{IsToken}
use Rattle.ir_lexer.specs.Spelling.{Text, Spells}
use Rattle.ir_lexer.specs.Tokens.{Token}
use Rattle.ir_lexer.proofs.Machine.{run, accepted, spelled, same-class-is}
use Rattle.grammar.specs.Exact.{HasMore, Blocked}
use Rattle.grammar.specs.Front.{Lists, Viable, Some_of, Refused, AreSpelled}
use Rattle.grammar.specs.Grammar.{Tokens, EachPiece, G, ret, tok, both, alt, star, chain, made, placed, kid, place_of, Links, Derives}
use Rattle.grammar.specs.Looks.{Look, any_of, word, other_word, int_word, dotted, undotted, number_to, class_of, text_fits, passes}
use Rattle.grammar.proofs.Meet.{and-true, or-true, true-or, or-first, same-self, longer-is-none, total}

-- ---- texts that spell a class

-- the table of the lexer takes the text as a spelling of the class
abbrev spells : Class → Text → Bool
spells class t = is_whole (run START t) && same_class (class_at (run START t)) class

-- then it is one
spells-sound : (class : Class) (t : Text) → spells class t ≡ true → Spells class t
spells-sound class t e =
    let p = and-true (is_whole (run START t)) _ e in
    subst (λ x. Spells x t) (same-class-is _ _ p.1) (spelled t p.0)

-- and a text that isn't taken so is none
spells-complete : (class : Class) (t : Text) → Spells class t → spells class t ≡ true
spells-complete class t x = let a = accepted class t x in rw (a.0, a.1) (same-self class)

-- a token where no spelling stands: a `Bad` byte, or the end
abbrev is_other : Token → Bool
is_other t = (same_class t.class c.Bad && nat_eq (length t.text) 1)
    || (same_class t.class c.End && nat_eq (length t.text) 0)

-- whether the text of a token spells its class
abbrev keeps : Token → Bool
keeps t = spells t.class t.text || is_other t

empty-text : (t : Text) → length t ≡ 0 → t ≡ []
empty-text [] e = refl
empty-text (b ∷ t) e = absurd (omega arith)

keeps-sound : (t : Token) → keeps t ≡ true → IsToken t
keeps-sound t e = go (or-true (spells t.class t.text) _ e)
  where
    last : ((same_class t.class c.Bad && nat_eq (length t.text) 1) ≡ true)
        ⊎ ((same_class t.class c.End && nat_eq (length t.text) 0) ≡ true) → IsToken t
    last (inl h) = let p = and-true (same_class t.class c.Bad) _ h in
        inr (inl (same-class-is _ _ p.0, eqb-true _ _ p.1))
    last (inr h) = let p = and-true (same_class t.class c.End) _ h in
        inr (inr (same-class-is _ _ p.0, empty-text t.text (eqb-true _ _ p.1)))

    go : (spells t.class t.text ≡ true)
        ⊎ (((same_class t.class c.Bad && nat_eq (length t.text) 1)
        || (same_class t.class c.End && nat_eq (length t.text) 0)) ≡ true) → IsToken t
    go (inl h) = inl (spells-sound t.class t.text h)
    go (inr h) = last (or-true (same_class t.class c.Bad && nat_eq (length t.text) 1) _ h)

keeps-complete : (t : Token) → IsToken t → keeps t ≡ true
keeps-complete t (inl x) =
    or-first (spells t.class t.text) (is_other t) (spells-complete t.class t.text x)
keeps-complete t (inr (inl x)) =
    true-or (spells t.class t.text) (is_other t)
    (or-first (same_class t.class c.Bad && nat_eq (length t.text) 1)
    (same_class t.class c.End && nat_eq (length t.text) 0) (rw (x.0, x.1, same-self c.Bad) refl))
keeps-complete t (inr (inr x)) =
    true-or (spells t.class t.text) (is_other t)
    (true-or (same_class t.class c.Bad && nat_eq (length t.text) 1)
    (same_class t.class c.End && nat_eq (length t.text) 0)
    (rw (x.0, x.1, same-self c.End) refl))

-- ---- for each look a token that bytes can give

-- a text of each class
abbrev sample : Class → Text
sample c.Word = codes "a"
sample c.Integer = codes "0"
sample c.Float = codes "0."
sample c.Dims = codes "?x"
sample c.Str = codes "\"\""
sample c.ValueName = codes "%a"
sample c.BlockName = codes "^a"
sample c.SymbolName = codes "@a"
sample c.TypeName = codes "!a"
sample c.AttrName = codes "#a"
sample c.ResultNumber = codes "#0"
sample c.Colon = codes ":"
sample c.ColonColon = codes "::"
sample c.Comma = codes ","
sample c.Equal = codes "="
sample c.Less = codes "<"
sample c.Greater = codes ">"
sample c.LParen = codes "("
sample c.RParen = codes ")"
sample c.LBrace = codes "{"
sample c.RBrace = codes "}"
sample c.LSquare = codes "["
sample c.RSquare = codes "]"
sample c.Arrow = codes "->"
sample c.Minus = codes "-"
sample c.Question = codes "?"
sample c.Plus = codes "+"
sample c.Star = codes "*"
sample c.Bad = 0 ∷ []
sample c.End = []

sample-kept : (class : Class) → keeps (record { class = class; text = sample class; place = 0 }) ≡ true
unfolding step is_whole class_at same_class
sample-kept c.Word = refl
sample-kept c.Integer = refl
sample-kept c.Float = refl
sample-kept c.Dims = refl
sample-kept c.Str = refl
sample-kept c.ValueName = refl
sample-kept c.BlockName = refl
sample-kept c.SymbolName = refl
sample-kept c.TypeName = refl
sample-kept c.AttrName = refl
sample-kept c.ResultNumber = refl
sample-kept c.Colon = refl
sample-kept c.ColonColon = refl
sample-kept c.Comma = refl
sample-kept c.Equal = refl
sample-kept c.Less = refl
sample-kept c.Greater = refl
sample-kept c.LParen = refl
sample-kept c.RParen = refl
sample-kept c.LBrace = refl
sample-kept c.RBrace = refl
sample-kept c.LSquare = refl
sample-kept c.RSquare = refl
sample-kept c.Arrow = refl
sample-kept c.Minus = refl
sample-kept c.Question = refl
sample-kept c.Plus = refl
sample-kept c.Star = refl
sample-kept c.Bad = refl
sample-kept c.End = refl

-- a word of n letters
abbrev letters : ℕ → Text
letters zero = []
letters (suc n) = 97 ∷ letters n

letters-length : (n : ℕ) → length (letters n) ≡ n
letters-length zero = refl
letters-length (suc n) = ap (λ k. suc k) (letters-length n)

run-letters : (n : ℕ) → run (step START 97) (letters n) ≡ step START 97
unfolding step
run-letters zero = refl
run-letters (suc n) = run-letters n

letters-spell : (n : ℕ) → spells c.Word (letters (suc n)) ≡ true
unfolding step is_whole class_at same_class
letters-spell n = rw (run-letters n) refl

-- a text that meets a look, of its class
abbrev met_text : Look → Text
met_text (any_of class) = sample class
met_text (word w) = w
met_text (other_word ws) = letters (suc (total ws))
met_text int_word = codes "i1"
met_text (dotted class) = sample class ++ codes ".a"
met_text (undotted class) = sample class
met_text (number_to n) = sample c.Integer

-- a token of that text and class
abbrev met_token : Look → Token
met_token l = record { class = class_of l; text = met_text l; place = 0 }

-- bytes can give a token that meets the look
abbrev pub is_met : Look → Bool
is_met (any_of class) = true
is_met (other_word ws) = true
is_met int_word = true
is_met l = keeps (met_token l) && text_fits l (met_text l)

int-met : (keeps (met_token int_word) ≡ true) × (passes int_word (met_token int_word) ≡ true)
unfolding step is_whole class_at same_class
int-met = (refl, refl)

-- that token is one, and passes the look
met : (l : Look) → is_met l ≡ true → (keeps (met_token l) ≡ true) × (passes l (met_token l) ≡ true)
met (any_of class) e = (sample-kept class, rw (same-self class) refl)
met (other_word ws) e = (
  or-first (spells c.Word (letters (suc (total ws)))) (is_other (met_token (other_word ws)))
      (letters-spell (total ws)),
  rw (
    same-self c.Word,
    longer-is-none ws (letters (suc (total ws)))
        (rw (letters-length (suc (total ws))) (omega arith)),
  ) refl,
)
met int_word e = int-met
met (word w) e = let p = and-true (keeps (met_token (word w))) _ e in (p.0, rw (same-self c.Word) p.1)
met (dotted class) e = let p = and-true (keeps (met_token (dotted class))) _ e in
    (p.0, rw (same-self class) p.1)
met (undotted class) e = let p = and-true (keeps (met_token (undotted class))) _ e in
    (p.0, rw (same-self class) p.1)
met (number_to n) e = let p = and-true (keeps (met_token (number_to n))) _ e in
    (p.0, rw (same-self c.Integer) p.1)

-- ---- one token for another

-- a token whose text spells its class, and the same token where it had such a text already
pub record Respell (t u : Token) : Type 0 where
  pub spelled : IsToken u
  pub kept : keeps t ≡ true → u ≡ t

-- the same of each token of a list
abbrev pub Respells : Tokens → Tokens → Type 0
Respells [] [] = Unit {0}
Respells (t ∷ ts) (u ∷ us) = Respell t u × Respells ts us
Respells [] (u ∷ us) = ⊥
Respells (t ∷ ts) [] = ⊥

respells-append : (ts us more others : Tokens) → Respells ts us → Respells more others
    → Respells (ts ++ more) (us ++ others)
respells-append [] [] more others x y = y
respells-append (t ∷ ts) (u ∷ us) more others x y =
    (x.0, respells-append ts us more others x.1 y)
respells-append [] (u ∷ us) more others x y = absurd x
respells-append (t ∷ ts) [] more others x y = absurd x

-- a token that passes a look has one that bytes can give
respell-one : (l : Look) (t : Token) → is_met l ≡ true → passes l t ≡ true
    → (u : Token) × Respell t u × (passes l u ≡ true)
respell-one l t e passed = go (keeps t) refl
  where
    go : (b : Bool) → keeps t ≡ b → (u : Token) × Respell t u × (passes l u ≡ true)
    go true k = (t, record { spelled = keeps-sound t k; kept = λ h. refl }, passed)
    go false k = let m = met l e in
        (met_token l, record { spelled = keeps-sound (met_token l) m.0; kept = λ h. absurd (cc (k, h)) }, m.1)

-- each piece has one that is spelled so
abbrev pub Respellable : {A : Type 0} → (Tokens → A → Type 0) → Type 0
Respellable {A = A} R = (ts : Tokens) (a : A) → R ts a
    → (us : Tokens) × (b : A) × Respells ts us × R us b

pieces-respelled : {A : Type 0} (R : Tokens → A → Type 0) → Respellable R
    → Respellable (EachPiece R)
pieces-respelled R one ts [] is = ([], [], rw is tt, refl)
pieces-respelled R one ts (a ∷ rest) (front, back, is, x, more) =
    let p = one front a x in
    let q = pieces-respelled R one back rest more in (
      p.0 ++ q.0,
      p.1 ∷ q.1,
      rw is (respells-append front p.0 back q.0 p.2 q.2),
      (p.0, q.0, refl, p.3, q.3),
    )

module _ {B C D I : Type 0} (u : B → C → I) (v : B → D → I) (H : Tokens → B → Type 0)
    (K : Tokens → C → Type 0) (L : Tokens → D → Type 0) (hs : Respellable H) (ks : Respellable K)
    (ls : Respellable L) where
  links-respelled : Respellable (Links u v H K L)
  links-respelled ts [] is = ([], [], rw is tt, refl)
  links-respelled ts (i ∷ is) (front, back, b, cut, h, inl (mid, rest, cc', cut2, k, more, e)) =
      let p = hs front b h in
      let q = ks mid cc' k in
      let r = links-respelled rest is more in (
        p.0 ++ (q.0 ++ r.0),
        u p.1 q.1 ∷ r.1,
        rw (cut, cut2) (respells-append front p.0 (mid ++ rest) (q.0 ++ r.0) p.2
            (respells-append mid q.0 rest r.0 q.2 r.2)),
        (p.0, q.0 ++ r.0, p.1, refl, p.3, inl (q.0, r.0, q.1, refl, q.3, r.3, refl)),
      )
  links-respelled ts (i ∷ is) (front, back, b, cut, h, inr (d, l, none, e)) =
      let p = hs front b h in
      let q = ls back d l in (
        p.0 ++ q.0,
        v p.1 q.1 ∷ [],
        rw cut (respells-append front p.0 back q.0 p.2 q.2),
        (p.0, q.0, p.1, refl, p.3, inr (q.1, q.3, refl, refl)),
      )

module _ {X : Type 0} {Sem : X → Type 0} where
  -- each look of a grammar is met by a token that bytes can give: a test that computes
  abbrev pub all_met : {A : Type 0} → G X Sem A → Bool
  all_met (ret b) = true
  all_met (tok begins look f) = is_met look
  all_met (both f g h) = all_met g && all_met h
  all_met (alt g h) = all_met g && all_met h
  all_met (star f g) = all_met g
  all_met (chain f u v h k l) = all_met h && (all_met k && all_met l)
  all_met (made f g) = all_met g
  all_met (placed f g) = all_met g
  all_met (kid x f) = true

module _ {X : Type 0} {Sem : X → Type 0} (Derived : (x : X) → Tokens → Sem x → Type 0)
    (kids : (x : X) → Respellable (Derived x)) where
  -- then each piece of the grammar has one that bytes can give
  pub respelled : {A : Type 0} (g : G X Sem A) → all_met g ≡ true → Respellable (Derives Derived g)
  respelled (ret b) e ts a x = ([], b, rw x.0 tt, (refl, refl))
  respelled (tok begins look f) e ts a (t, is, passed, what) =
      let p = respell-one look t e passed in
      (p.0 ∷ [], f p.0, rw is (p.1, tt), (p.0, refl, p.2, refl))
  respelled (both f g h) e ts a (front, back, b, d, is, x, y, what) =
      let w = and-true (all_met g) _ e in
      let p = respelled g w.0 front b x in
      let q = respelled h w.1 back d y in (
        p.0 ++ q.0,
        f p.1 q.1,
        rw is (respells-append front p.0 back q.0 p.2 q.2),
        (p.0, q.0, p.1, q.1, refl, p.3, q.3, refl),
      )
  respelled (alt g h) e ts a (inl x) =
      let p = respelled g (and-true (all_met g) _ e).0 ts a x in (p.0, p.1, p.2, inl p.3)
  respelled (alt g h) e ts a (inr x) =
      let p = respelled h (and-true (all_met g) _ e).1 ts a x in (p.0, p.1, p.2, inr p.3)
  respelled (star f g) e ts a (bs, x, what) =
      let p = pieces-respelled (Derives Derived g) (respelled g e) ts bs x in
      (p.0, f p.1, p.2, (p.1, p.3, refl))
  respelled (chain f u v h k l) e ts a (is, x, what) =
      let w = and-true (all_met h) _ e in
      let z = and-true (all_met k) _ w.1 in
      let p = links-respelled u v (Derives Derived h) (Derives Derived k) (Derives Derived l)
      (respelled h w.0) (respelled k z.0) (respelled l z.1) ts is x in
      (p.0, f p.1, p.2, (p.1, p.3, refl))
  respelled (made f g) e ts a (b, x, what) =
      let p = respelled g e ts b x in (p.0, f p.1, p.2, (p.1, p.3, refl))
  respelled (placed f g) e ts a (b, x, what) =
      let p = respelled g e ts b x in (p.0, f (place_of p.0) p.1, p.2, (p.1, p.3, refl))
  respelled (kid x f) e ts a (d, y, what) =
      let p = kids x ts d y in (p.0, f p.1, p.2, (p.1, p.3, refl))

-- ---- what is viable

-- tokens that bytes can give stay, and those behind them are changed for such
kept-front : (front more us : Tokens) → AreSpelled front → Respells (front ++ more) us
    → (rest : Tokens) × (us ≡ front ++ rest) × AreSpelled rest
kept-front [] more us spelled x = (us, refl, all more us x)
  where
    all : (ts vs : Tokens) → Respells ts vs → AreSpelled vs
    all [] [] y = tt
    all (t ∷ ts) (v ∷ vs) y = (y.0.spelled, all ts vs y.1)
    all [] (v ∷ vs) y = absurd y
    all (t ∷ ts) [] y = absurd y
kept-front (t ∷ front) more [] spelled x = absurd x
kept-front (t ∷ front) more (u ∷ us) spelled x =
    let p = kept-front front more us spelled.1 x.1 in
    let same : u ≡ t = x.0.kept (keeps-complete t spelled.0) in
    (p.0, rw same (ap (λ w. t ∷ w) p.1), p.2)

-- what has more has more that bytes can give
pub viable-spelled : {A : Type 0} (R : Tokens → A → Type 0) → Respellable R → (front : Tokens)
    → AreSpelled front → HasMore (Some_of R) front → Viable (Some_of R) front
viable-spelled R respell front spelled (more, (a, x)) =
    let p = respell (front ++ more) a x in
    let q = kept-front front more p.0 spelled p.2 in
    (q.0, q.2, (p.1, subst (λ (w : Tokens). R w p.1) q.1 p.3))

-- a refusal behind tokens that bytes can give is one by such tokens
pub refused-spelled : {A : Type 0} (R : Tokens → A → Type 0) (D : Lists) → Respellable R
    → (ts rest : Tokens) (x : Blocked R D ts rest) → AreSpelled x.front → Refused R D ts rest
refused-spelled R D respell ts rest x spelled = record {
  front = x.front;
  is = x.is;
  viable = viable-spelled R respell x.front spelled x.viable;
  none = x.none;
  barred = x.barred;
  shallow = x.shallow;
}
