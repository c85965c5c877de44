-- Brackets and words, as pieces of the grammar of values.
use Rattle.std.proofs.Common.{◌≡◌, Bool, true, false, ◌&&◌, ◌||◌, List, [], ◌∷◌, refl, bytes_eq, codes}
use Rattle.generic_syntax.specs.declared.cst.ValueCst.{ValueCst}
use Rattle.generic_syntax.specs.Values.{Sort, OfValues, one_of, type_words, type_word}
use Rattle.generic_syntax.specs.Values as syntax
use Rattle.grammar.specs.Grammar.{Tokens}
use Rattle.grammar.specs.Looks as look
use Rattle.grammar.specs.Looks.{word, is_among, is_integer_word}
use Rattle.ir_lexer.specs.declared.class.Class.TheVariants as c
use Rattle.ir_lexer.specs.Classes.{same_class}
use Rattle.ir_lexer.specs.Spelling.{Text, Spells}
use Rattle.ir_lexer.proofs.Machine.{same-class-refl}
use Rattle.text_layout.specs.Gives.{Gives}
use Rattle.text_layout.proofs.Gives.{gives-tok, gives-left, gives-right}
use Rattle.text_layout.proofs.Tidy.{tidy-token}
use Rattle.derived_printer.specs.ValueMarks.{Marks, a_word, in_parens, in_angles, in_squares, in_braces}
use Rattle.derived_printer.proofs.Signs.{given-sign, given-before, given-behind}

-- a word passes a look that its text fits
word-passes : (b : Bool) → b ≡ true → (same_class c.Word c.Word && b) ≡ true
word-passes true e = rw (same-class-refl c.Word) refl
word-passes false e = absurd (cc)

only : (b : Bool) → (b || false) ≡ true → b ≡ true
only true e = refl
only false e = absurd (cc)

module _ {Inside : (x : Sort) → Tokens → ValueCst → Type 0} {none : Bool} where
  pub given-parens : {A : Type 0} {g : OfValues A} {ms : Marks} {P : A → Type 0}
      → Gives Inside none g ms P → Gives Inside none (syntax.in_parens g) (in_parens ms) P
  given-parens x = given-before (given-sign refl) (given-behind x (given-sign refl))

  pub given-angles : {A : Type 0} {g : OfValues A} {ms : Marks} {P : A → Type 0}
      → Gives Inside none g ms P → Gives Inside none (syntax.in_angles g) (in_angles ms) P
  given-angles x = given-before (given-sign refl) (given-behind x (given-sign refl))

  pub given-squares : {A : Type 0} {g : OfValues A} {ms : Marks} {P : A → Type 0}
      → Gives Inside none g ms P → Gives Inside none (syntax.in_squares g) (in_squares ms) P
  given-squares x = given-before (given-sign refl) (given-behind x (given-sign refl))

  pub given-braces : {A : Type 0} {g : OfValues A} {ms : Marks} {P : A → Type 0}
      → Gives Inside none g ms P → Gives Inside none (syntax.in_braces g) (in_braces ms) P
  given-braces x = given-before (given-sign refl) (given-behind x (given-sign refl))

  -- one of these words
  pub given-one-of : (w : Text) (ws : List Text) (x : Text) → Spells c.Word x
      → is_among (w ∷ ws) x ≡ true → Gives Inside none (one_of w ws) (a_word x) (λ y. y ≡ x)
  given-one-of w [] x s e = gives-tok false refl (word w) (λ t. t.text) c.Word x
      (tidy-token c.Word x s refl)
      (λ place. word-passes _ (only _ e)) (λ place. refl)
  given-one-of w (v ∷ vs) x s e = go (bytes_eq x w) refl e (λ e. given-one-of v vs x s e)
    where
      go : (b : Bool) → bytes_eq x w ≡ b → (b || is_among (v ∷ vs) x) ≡ true
          → (is_among (v ∷ vs) x ≡ true → Gives Inside none (one_of v vs) (a_word x) (λ y. y ≡ x))
          → Gives Inside none (one_of w (v ∷ vs)) (a_word x) (λ y. y ≡ x)
      go true q e again =
          gives-left (gives-tok false refl (word w) (λ t. t.text) c.Word x
          (tidy-token c.Word x s refl)
          (λ place. word-passes _ q) (λ place. refl))
      go false q e again = gives-right (again e)

  -- the name of a type
  pub given-type-word : (w : Text) → Spells c.Word w
      → (is_integer_word w || is_among (codes "index" ∷ type_words) w) ≡ true
      → Gives Inside none type_word (a_word w) (λ y. y ≡ w)
  given-type-word w s e = go (is_integer_word w) refl e
    where
      go : (b : Bool) → is_integer_word w ≡ b
          → (b || is_among (codes "index" ∷ type_words) w) ≡ true
          → Gives Inside none type_word (a_word w) (λ y. y ≡ w)
      go true q e =
          gives-left (gives-tok false refl look.int_word (λ t. t.text) c.Word w
          (tidy-token c.Word w s refl)
          (λ place. word-passes _ q) (λ place. refl))
      go false q e = gives-right (given-one-of (codes "index") type_words w s e)
