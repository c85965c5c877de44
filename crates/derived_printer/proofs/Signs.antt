-- Signs, words and lists, as pieces of any grammar.
use Rattle.std.proofs.Common.{◌≡◌, ℕ, Bool, true, false, not, ◌&&◌, List, [], ◌∷◌, ◌++◌, map, refl, ap}
use Rattle.std.proofs.lemmas.Slice.Eq.{bytes_eq-Decides}
use Rattle.std.specs.List.{AllByRecursion, AllZip}
use Rattle.grammar.specs.Grammar.{G, Tokens, both}
use Rattle.grammar.specs.Looks.{any_of, word, passes}
use Rattle.grammar.specs.Rules.{punct, keyword, ◌>>◌, ◌<<◌, list, more_of}
use Rattle.grammar.proofs.Meet.{and-true, not-true}
use Rattle.ir_lexer.specs.declared.class.Class.{Class}
use Rattle.ir_lexer.specs.declared.class.Class.TheVariants as c
use Rattle.ir_lexer.specs.Spelling.{Text, Spells}
use Rattle.ir_lexer.proofs.Machine.{same-class-refl}
use Rattle.text_layout.specs.Apart.{is_empty, is_float_class}
use Rattle.text_layout.specs.Gives.{Gives}
use Rattle.text_layout.specs.Tidy.{begins_alone, ends_alone, Tidy}
use Rattle.text_layout.proofs.Gives.{token_at, joined, gives-ret, gives-tok, gives-both, gives-left, gives-right, gives-star, gives-same}
use Rattle.text_layout.proofs.Tidy.{tidy-token}
use Rattle.derived_printer.specs.ValueMarks.{Marks, sign_text, a_sign, a_word, behind_signs, commas}
use Rattle.derived_printer.proofs.Spelled.{sign-spelled}

-- a token of a class passes the look for it
pub pass-any : (class : Class) (text : Text) (place : ℕ)
    → passes (any_of class) (token_at class text place) ≡ true
pass-any class text place = rw (same-class-refl class) refl

pub pass-word : (w : Text) (place : ℕ) → passes (word w) (token_at c.Word w place) ≡ true
pass-word w place = rw (same-class-refl c.Word, (bytes_eq-Decides w w).1 refl) refl

-- the class is that of a sign, which may stand beside others: a test that computes
abbrev stands_alone : Class → Bool
stands_alone class =
    not (is_empty (sign_text class))
    && (not (is_float_class class) && (begins_alone class && ends_alone class))

sign-tidy : (class : Class) → stands_alone class ≡ true → Tidy (a_sign class)
sign-tidy class e = let h = and-true (not (is_empty (sign_text class))) _ e in
    tidy-token class (sign_text class)
    (sign-spelled class (not-true (is_empty (sign_text class)) h.0)) h.1

-- the marks of a list with commas are those of each behind one
same-commas : {B : Type 0} (marks : B → Marks) (bs : List B)
    → joined (map (λ b. a_sign c.Comma ++ marks b) bs) ≡ behind_signs c.Comma (map marks bs)
same-commas marks [] = refl
same-commas marks (b ∷ bs) = ap (λ w. (a_sign c.Comma ++ marks b) ++ w) (same-commas marks bs)

module _ {X : Type 0} {Sem : X → Type 0} {Inside : (x : X) → Tokens → Sem x → Type 0}
    {none : Bool} where
  -- a sign
  pub given-sign : {class : Class} → stands_alone class ≡ true
      → Gives Inside none (punct class) (a_sign class) (λ _. Unit {0})
  given-sign {class = class} e = gives-tok false refl (any_of class) (λ _. tt) class
      (sign_text class) (sign-tidy class e)
      (λ place. pass-any class (sign_text class) place) (λ place. tt)

  -- a word
  pub given-word : (w : Text) → Spells c.Word w
      → Gives Inside none (keyword w) (a_word w) (λ _. Unit {0})
  given-word w e = gives-tok false refl (word w) (λ _. tt) c.Word w (tidy-token c.Word w e refl)
      (λ place. pass-word w place) (λ place. tt)

  -- a piece behind one of which nothing is told, and before one
  pub given-before : {A : Type 0} {g : G X Sem (Unit {0})} {h : G X Sem A} {ms ns : Marks}
      {P : A → Type 0}
      → Gives Inside none g ms (λ _. Unit {0}) → Gives Inside none h ns P
      → Gives Inside none (g >> h) (ms ++ ns) P
  given-before x y = gives-both x y (λ b a u p. p)

  pub given-behind : {A : Type 0} {g : G X Sem A} {h : G X Sem (Unit {0})} {ms ns : Marks}
      {P : A → Type 0}
      → Gives Inside none g ms P → Gives Inside none h ns (λ _. Unit {0})
      → Gives Inside none (g << h) (ms ++ ns) P
  given-behind x y = gives-both x y (λ b a p u. p)

-- lists with commas, one piece for each item
module _ {X : Type 0} {Sem : X → Type 0} (Inside : (x : X) → Tokens → Sem x → Type 0) (none : Bool)
    {A B : Type 0} (g : G X Sem A) (marks : B → Marks) (R : A → B → Type 0) where
  -- the marks of an item are a piece, with a tree that is the item's
  abbrev IsGiven : B → Type 0
  IsGiven b = Gives Inside none g (marks b) (λ a. R a b)

  each-behind-comma : (bs : List B) → AllByRecursion IsGiven bs
      → AllByRecursion (λ b. Gives Inside none (punct c.Comma >> g) (a_sign c.Comma ++ marks b)
      (λ a. R a b)) bs
  each-behind-comma [] h = tt
  each-behind-comma (b ∷ bs) (x, h) = (given-before (given-sign refl) x, each-behind-comma bs h)

  given-more : (bs : List B) → AllByRecursion IsGiven bs
      → Gives Inside none (more_of g) (behind_signs c.Comma (map marks bs))
      (λ trees. AllZip R trees bs)
  given-more bs h = gives-same (same-commas marks bs)
      (gives-star (λ b. a_sign c.Comma ++ marks b) R bs (each-behind-comma bs h) (λ trees p. p))

  -- one or more
  pub given-some : (b : B) (bs : List B) → IsGiven b → AllByRecursion IsGiven bs
      → Gives Inside none (both (λ a l. a ∷ l) g (more_of g)) (commas (map marks (b ∷ bs)))
      (λ trees. AllZip R trees (b ∷ bs))
  given-some b bs x h = gives-both x (given-more bs h) (λ a trees p q. (p, q))

  -- none or more
  pub given-list : (bs : List B) → AllByRecursion IsGiven bs
      → Gives Inside none (list g) (commas (map marks bs)) (λ trees. AllZip R trees bs)
  given-list [] h = gives-right (gives-ret [] tt)
  given-list (b ∷ bs) (x, h) = gives-left (given-some b bs x h)
