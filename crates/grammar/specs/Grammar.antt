-- Grammars as data: what they derive, and the reader that looks at one token.
--
-- A grammar is a value of the type `G X Sem A`. Its pieces are lists of tokens, and each piece
-- stands for an `A`, its tree. `X` are the nonterminals that lead back to themselves (a value in a
-- value, a region in a region), and `Sem x` is the tree of `x`; everything else is written out
-- where it stands. So a grammar may be computed from data that is loaded at run time, and one
-- theorem serves all.
--
--   Derives g ts a   the tokens ts are a piece of g, with the tree a
--   Deep g ts        the last of ts begins a value too deep, in a piece that begins with ts
--   nullable g       the empty list is a piece
--   starts g t       a piece begins with the token t
--   reads g          the reader, which decides by one token where pieces end
use Rattle.std.specs.Prelude.{◌≡◌, ℕ, zero, suc, Bool, true, false, ◌&&◌, ◌||◌, if◌then◌else◌, List, [], ◌∷◌, ◌++◌, length, ◌⊎◌}
use Rattle.ir_lexer.specs.Tokens.{Token}
use Rattle.grammar.specs.Looks.{Look, passes}

-- tokens in the order of their text
abbrev pub Tokens : Type 0
Tokens = List Token

-- A grammar whose pieces stand for an A.
pub data G (X : Type 0) (Sem : X → Type 0) : Type 0 → Type 1 where
  -- no token
  ret : {A : Type 0} → A → G X Sem A
  -- one token that passes the look; whether it also begins a value, one deeper
  tok : {A : Type 0} → Bool → Look → (Token → A) → G X Sem A
  -- a piece and then a piece
  both : {A B C : Type 0} → (B → C → A) → G X Sem B → G X Sem C → G X Sem A
  -- a piece of the one or of the other
  alt : {A : Type 0} → G X Sem A → G X Sem A → G X Sem A
  -- none or more pieces
  star : {A B : Type 0} → (List B → A) → G X Sem B → G X Sem A
  -- none or more heads, each with a body; a body of the second kind ends them
  chain : {A B C D I : Type 0} → (List I → A) → (B → C → I) → (B → D → I) → G X Sem B → G X Sem C
      → G X Sem D → G X Sem A
  -- the same pieces, which stand for something else
  made : {A B : Type 0} → (B → A) → G X Sem B → G X Sem A
  -- the same pieces, none empty, with the place of their first token
  placed : {A B : Type 0} → (ℕ → B → A) → G X Sem B → G X Sem A
  -- a piece of a nonterminal, one deeper
  kid : {A : Type 0} → (x : X) → (Sem x → A) → G X Sem A

-- What a reader answers.
pub data Outcome (A : Type 0) : Type 0 where
  -- the tree, and the tokens behind it
  done : A → Tokens → Outcome A
  -- stopped before these tokens; whether by depth
  stop : Bool → Tokens → Outcome A

-- a reader of the front of a token list
abbrev pub Parser : Type 0 → Type 0
Parser A = Tokens → Outcome A

-- what follows from the tree; a stop stays
infixl 10 ◌>>=◌
abbrev pub and_then : {A B : Type 0} → Outcome A → (A → Parser B) → Outcome B
and_then (done a rest) f = f a rest
and_then (stop deep rest) f = stop deep rest

-- a step, and then what follows from its tree
abbrev pub ◌>>=◌ : {A B : Type 0} → Parser A → (A → Parser B) → Parser B
p >>= f = λ ts. and_then (p ts) f

-- a step that takes nothing
abbrev pub pure : {A : Type 0} → A → Parser A
pure a = λ ts. done a ts

-- whether there is a first token, and it passes
abbrev pub on_head : (Token → Bool) → Tokens → Bool
on_head p [] = false
on_head p (t ∷ ts) = p t

-- the place of the first token; of no tokens it means nothing
abbrev pub place_of : Tokens → ℕ
place_of [] = 0
place_of (t ∷ ts) = t.place

-- ---- what a grammar derives

-- pieces one after the other
abbrev pub EachPiece : {A : Type 0} → (Tokens → A → Type 0) → Tokens → List A → Type 0
EachPiece R ts [] = ts ≡ []
EachPiece R ts (a ∷ more) = (front back : Tokens) × (ts ≡ front ++ back) × R front a × EachPiece R back more

-- heads with bodies one after the other, of which one of the second kind is the last
abbrev pub Links : {B C D I : Type 0} → (B → C → I) → (B → D → I) → (Tokens → B → Type 0)
    → (Tokens → C → Type 0) → (Tokens → D → Type 0) → Tokens → List I → Type 0
Links p q H K L ts [] = ts ≡ []
Links {B = B} {C = C} {D = D} p q H K L ts (i ∷ is) =
    (front back : Tokens) × (b : B) × (ts ≡ front ++ back) × H front b
    × (((mid rest : Tokens) × (c : C) × (back ≡ mid ++ rest)
    × K mid c × Links p q H K L rest is × (i ≡ p b c))
    ⊎ ((d : D) × L back d × (is ≡ []) × (i ≡ q b d)))

module _ {X : Type 0} {Sem : X → Type 0} (Derived : (x : X) → Tokens → Sem x → Type 0) where
  -- The tokens are a piece of the grammar, with this tree. `Derived` says it of the nonterminals.
  abbrev pub Derives : {A : Type 0} → G X Sem A → Tokens → A → Type 0
  Derives (ret b) ts a = (ts ≡ []) × (a ≡ b)
  Derives (tok begins look f) ts a =
      (t : Token) × (ts ≡ t ∷ []) × (passes look t ≡ true) × (a ≡ f t)
  Derives (both {B = B} {C = C} f g h) ts a =
      (front back : Tokens) × (b : B) × (c : C) × (ts ≡ front ++ back)
      × Derives g front b × Derives h back c × (a ≡ f b c)
  Derives (alt g h) ts a = Derives g ts a ⊎ Derives h ts a
  Derives (star {B = B} f g) ts a = (bs : List B) × EachPiece (Derives g) ts bs × (a ≡ f bs)
  Derives (chain {I = I} f p q h k l) ts a =
      (is : List I) × Links p q (Derives h) (Derives k) (Derives l) ts is × (a ≡ f is)
  Derives (made {B = B} f g) ts a = (b : B) × Derives g ts b × (a ≡ f b)
  Derives (placed {B = B} f g) ts a = (b : B) × Derives g ts b × (a ≡ f (place_of ts) b)
  Derives (kid x f) ts a = (c : Sem x) × Derived x ts c × (a ≡ f c)

-- ---- what is too deep

-- what is too deep behind n heads and bodies
abbrev pub DeepLinks : {B C D : Type 0} → (Tokens → B → Type 0) → (Tokens → C → Type 0)
    → (Tokens → D → Type 0) → (Tokens → Type 0) → (Tokens → Type 0) → (Tokens → Type 0)
    → ℕ → Tokens → Type 0
DeepLinks {B = B} H K L DH DK DL zero ts =
    DH ts
    ⊎ ((front back : Tokens) × (b : B) × (ts ≡ front ++ back) × H front b × (DK back ⊎ DL back))
DeepLinks {B = B} {C = C} H K L DH DK DL (suc n) ts =
    (front mid rest : Tokens) × (b : B) × (c : C) × (ts ≡ front ++ (mid ++ rest))
    × H front b × K mid c × DeepLinks H K L DH DK DL n rest

module _ {X : Type 0} {Sem : X → Type 0} (Derived : (x : X) → Tokens → Sem x → Type 0)
    (DeepKid : X → Tokens → Type 0) (none : Bool) where
  -- The last of these tokens begins a value too deep, in a piece that begins with them. `DeepKid`
  -- says it of the nonterminals, and `none` that no value may begin one deeper.
  abbrev pub Deep : {A : Type 0} → G X Sem A → Tokens → Type 0
  Deep (ret b) p = ⊥
  Deep (tok begins look f) p =
      (t : Token) × (p ≡ t ∷ []) × (passes look t ≡ true) × ((begins && none) ≡ true)
  Deep (both {B = B} f g h) p =
      Deep g p
      ⊎ ((front back : Tokens) × (b : B) × (p ≡ front ++ back)
      × Derives Derived g front b × Deep h back)
  Deep (alt g h) p = Deep g p ⊎ Deep h p
  Deep (star {B = B} f g) p =
      (front back : Tokens) × (bs : List B) × (p ≡ front ++ back)
      × EachPiece (Derives Derived g) front bs × Deep g back
  Deep (chain f _ _ h k l) p =
      (n : ℕ) × DeepLinks (Derives Derived h) (Derives Derived k) (Derives Derived l) (Deep h)
      (Deep k) (Deep l) n p
  Deep (made f g) p = Deep g p
  Deep (placed f g) p = Deep g p
  Deep (kid x f) p = DeepKid x p

-- ---- the reader

-- whether the empty list is a piece
abbrev pub nullable : {X : Type 0} {Sem : X → Type 0} {A : Type 0} → G X Sem A → Bool
nullable (ret b) = true
nullable (tok begins look f) = false
nullable (both f g h) = nullable g && nullable h
nullable (alt g h) = nullable g || nullable h
nullable (star f g) = true
nullable (chain f p q h k l) = true
nullable (made f g) = nullable g
nullable (placed f g) = nullable g
nullable (kid x f) = false

module _ {X : Type 0} {Sem : X → Type 0} (kid_starts : X → Token → Bool) where
  -- whether a piece begins with the token
  abbrev pub starts : {A : Type 0} → G X Sem A → Token → Bool
  starts (ret b) t = false
  starts (tok begins look f) t = passes look t
  starts (both f g h) t = starts g t || (nullable g && starts h t)
  starts (alt g h) t = starts g t || starts h t
  starts (star f g) t = starts g t
  starts (chain f p q h k l) t = starts h t || (nullable h && (starts k t || starts l t))
  starts (made f g) t = starts g t
  starts (placed f g) t = starts g t
  starts (kid x f) t = kid_starts x t

-- as many pieces as begin here, at most n
abbrev pub turns : {B : Type 0} → (Token → Bool) → Parser B → ℕ → Parser (List B)
turns begins item zero = λ ts. done [] ts
turns begins item (suc n) =
    λ ts. if on_head begins ts
    then (item >>= (λ b. turns begins item n >>= (λ bs. pure (b ∷ bs)))) ts
    else done [] ts

-- a body, of the first kind where it begins so
abbrev pub body : {B C D I : Type 0} → (B → C → I) → (B → D → I) → (Token → Bool) → Parser C
    → Parser D → Parser (List I) → Parser (B → List I)
body p q begins k l more =
    λ ts. if on_head begins ts
    then (k >>= (λ c. more >>= (λ is. pure (λ b. p b c ∷ is)))) ts
    else (l >>= (λ d. pure (λ b. q b d ∷ []))) ts

-- as many heads and bodies as begin here, at most n, to the first that ends them
abbrev pub links : {B C D I : Type 0} → (B → C → I) → (B → D → I) → (Token → Bool) → (Token → Bool)
    → Parser B → Parser C → Parser D → ℕ → Parser (List I)
links p q begins body_begins h k l zero = λ ts. done [] ts
links p q begins body_begins h k l (suc n) =
    λ ts. if on_head begins ts
    then (h >>= (λ b. body p q body_begins k l (links p q begins body_begins h k l n)
    >>= (λ f. pure (f b)))) ts
    else done [] ts

-- a token that passes the test; deep where it begins a value that may not begin here
abbrev pub read_tok : {A : Type 0} → Bool → (Token → Bool) → (Token → A) → Parser A
read_tok deep test f [] = stop false []
read_tok deep test f (t ∷ ts) =
    if test t then (if deep then stop true (t ∷ ts) else done (f t) ts) else stop false (t ∷ ts)

module _ {X : Type 0} {Sem : X → Type 0} (kid_starts : X → Token → Bool)
    (kid_at : (x : X) → Parser (Sem x)) (none : Bool) where
  -- What the reader answers. `kid_at` reads the nonterminals, which begin where `kid_starts` says.
  abbrev pub reads : {A : Type 0} → G X Sem A → Parser A
  reads (ret b) = pure b
  reads (tok begins look f) = read_tok (begins && none) (passes look) f
  reads (both f g h) = reads g >>= (λ b. reads h >>= (λ c. pure (f b c)))
  reads (alt g h) = λ ts. if on_head (starts kid_starts g) ts then reads g ts else reads h ts
  reads (star f g) =
      λ ts. (turns (starts kid_starts g) (reads g) (length ts) >>= (λ bs. pure (f bs))) ts
  reads (chain f p q h k l) =
      λ ts. (links p q
      (λ t. starts kid_starts h t
      || (nullable h && (starts kid_starts k t || starts kid_starts l t)))
      (starts kid_starts k) (reads h) (reads k) (reads l) (length ts) >>= (λ is. pure (f is))) ts
  reads (made f g) = reads g >>= (λ b. pure (f b))
  reads (placed f g) = λ ts. (reads g >>= (λ b. pure (f (place_of ts) b))) ts
  reads (kid x f) = kid_at x >>= (λ c. pure (f c))
