-- What is derived with no value too deep.
--
-- Values nest in values, and a token may begin a value by itself, as a key does that stands alone.
-- So where values may nest no deeper, neither a nonterminal nor such a token may stand.
--
--   Within Inside none g ts a   the tokens ts are a piece of g with the tree a, in which no value is
--                               too deep: `Inside` says it of the nonterminals, and `none` that no
--                               value may begin one deeper
use Rattle.std.specs.Prelude.{◌≡◌, Bool, true, false, ◌&&◌, List, [], ◌∷◌, ◌++◌, ◌⊎◌}
use Rattle.ir_lexer.specs.Tokens.{Token}
use Rattle.grammar.specs.Looks.{passes}
use Rattle.grammar.specs.Grammar.{Tokens, EachPiece, Links, G, ret, tok, both, alt, star, chain, made, placed, kid, place_of}

module _ {X : Type 0} {Sem : X → Type 0} (Inside : (x : X) → Tokens → Sem x → Type 0)
    (none : Bool) where
  -- The tokens are a piece of the grammar, with this tree, and no value in it is too deep: as
  -- `Derives`, but for tokens that begin a value.
  abbrev pub Within : {A : Type 0} → G X Sem A → Tokens → A → Type 0
  Within (ret b) ts a = (ts ≡ []) × (a ≡ b)
  Within (tok begins look f) ts a =
      (t : Token) × (ts ≡ t ∷ []) × (passes look t ≡ true) × ((begins && none) ≡ false) × (a ≡ f t)
  Within (both {B = B} {C = C} f g h) ts a =
      (front back : Tokens) × (b : B) × (c : C) × (ts ≡ front ++ back)
      × Within g front b × Within h back c × (a ≡ f b c)
  Within (alt g h) ts a = Within g ts a ⊎ Within h ts a
  Within (star {B = B} f g) ts a = (bs : List B) × EachPiece (Within g) ts bs × (a ≡ f bs)
  Within (chain {I = I} f p q h k l) ts a =
      (is : List I) × Links p q (Within h) (Within k) (Within l) ts is × (a ≡ f is)
  Within (made {B = B} f g) ts a = (b : B) × Within g ts b × (a ≡ f b)
  Within (placed {B = B} f g) ts a = (b : B) × Within g ts b × (a ≡ f (place_of ts) b)
  Within (kid x f) ts a = (c : Sem x) × Inside x ts c × (a ≡ f c)
