-- Words that are types or attributes, by their heads.
use Rattle.std.proofs.Common.{◌≡◌, ℕ, ◌==◌, Bool, true, false, not, ◌||◌, ◌∷◌, refl, sym, ◌∙◌, ap, arith, codes, decimal, Some, pos, negsuc}
use Rattle.std.proofs.lemmas.Bool.{cond-true, le-leb}
use Rattle.attr_value.specs.declared.head.Head.{Head}
use Rattle.attr_value.specs.declared.head.Head.TheVariants as h
use Rattle.attr_value.specs.declared.kind.IntKind.{IntKind}
use Rattle.attr_value.specs.declared.kind.IntKind.TheVariants.{Index, Signless, Signed, Unsigned}
use Rattle.attr_value.specs.declared.kind.FloatKind.{FloatKind}
use Rattle.attr_value.specs.declared.kind.FloatKind.TheVariants as f
use Rattle.attr_value.specs.Heads.{IsIntType, IsTypeWidth}
use Rattle.generic_syntax.specs.Values.{type_words}
use Rattle.grammar.specs.Looks as look
use Rattle.grammar.specs.Looks.{all_digits, is_width, is_integer_word, is_among}
use Rattle.ir_lexer.specs.declared.class.Class.TheVariants as c
use Rattle.ir_lexer.specs.Spelling.{Text, Spells}
use Rattle.ir_lexer.proofs.Derive.{and-both}
use Rattle.value_meaning.specs.Spelled.{word_head, int_kind_of}
use Rattle.derived_printer.specs.Spelling.{is_bare, int_text, float_text}
use Rattle.derived_printer.proofs.Decimals.{decimal-value}
use Rattle.derived_printer.proofs.Digits.{Digits, digits-decimal}
use Rattle.derived_printer.proofs.Spelled.{word-spelled, width-bare, float-bare}

-- A word that is a type, by its head.
pub record IsTypeWord (w : Text) (head : Head) : Type 0 where
  pub spelled : Spells c.Word w
  pub found : (is_integer_word w || is_among (codes "index" ∷ type_words) w) ≡ true
  pub is : word_head w ≡ Some head

-- ---- the names of integer types

width-is : (w : ℕ) (ds : Text) → Digits w ds → look.decimal 0 ds ≡ w → IsTypeWidth w
    → is_width ds ≡ true
width-is w ds x value k = go ds x.first x.rest x.is x.all (x.lead k.0) value
  where
    negated : (b : Bool) → b ≡ false → not b ≡ true
    negated true e = absurd (cc)
    negated false e = refl

    go : (ds : Text) (first : ℕ) (rest : Text) → ds ≡ first ∷ rest → all_digits ds ≡ true
        → (first == 48) ≡ false → look.decimal 0 ds ≡ w → is_width ds ≡ true
    go ds first rest e all lead value =
        rw e (and-both (not (first == 48)) _ (negated _ lead)
        (and-both _ _ (ap all_digits (sym e) ∙ all)
        (le-leb _ 16777215 (omega (arith, k.1, ap (look.decimal 0) (sym e) ∙ value)))))

width-decimal : (w : ℕ) → IsTypeWidth w → is_width (decimal w) ≡ true
width-decimal w k =
    width-is w (decimal w) (digits-decimal w (omega (arith, k.1)))
    (decimal-value w (omega (arith, k.1))) k

or-left : (a b : Bool) → a ≡ true → (a || b) ≡ true
or-left true b e = refl
or-left false b e = absurd (cc)

int-word-is : (w : Text) (kind : IntKind) → is_bare w ≡ true → is_integer_word w ≡ true
    → int_kind_of w ≡ kind → IsTypeWord w (h.Int kind)
unfolding word_head
int-word-is w kind s e k = record {
  spelled = word-spelled w s;
  found = or-left _ _ e;
  is = cond-true _ _ _ e ∙ ap (λ k. Some (h.Int k)) k;
}

-- the name of an integer type is a word that is this type
pub int-word : (kind : IntKind) → IsIntType kind → IsTypeWord (int_text kind) (h.Int kind)
unfolding int_text word_head
int-word Index k = record { spelled = word-spelled (codes "index") refl; found = refl; is = refl }
int-word (Signless w) k =
    int-word-is (105 ∷ decimal w) (Signless w) (width-bare w (omega (arith, k.1)))
    (or-left _ _ (width-decimal w k)) (ap Signless (decimal-value w (omega (arith, k.1))))
int-word (Signed w) k =
    int-word-is (115 ∷ 105 ∷ decimal w) (Signed w) (width-bare w (omega (arith, k.1)))
    (or-left _ _ (width-decimal w k)) (ap Signed (decimal-value w (omega (arith, k.1))))
int-word (Unsigned w) k =
    int-word-is (117 ∷ 105 ∷ decimal w) (Unsigned w) (width-bare w (omega (arith, k.1)))
    (width-decimal w k) (ap Unsigned (decimal-value w (omega (arith, k.1))))

-- ---- other names of types

pub none-word : IsTypeWord (codes "none") h.NoneType
unfolding word_head
none-word = record { spelled = word-spelled (codes "none") refl; found = refl; is = refl }

float-head : (kind : FloatKind) → word_head (float_text kind) ≡ Some (h.Float kind)
unfolding word_head
float-head f.Bf16 = refl
float-head f.F16 = refl
float-head f.Tf32 = refl
float-head f.F32 = refl
float-head f.F64 = refl
float-head f.F80 = refl
float-head f.F128 = refl

float-found : (kind : FloatKind)
    → (is_integer_word (float_text kind) || is_among (codes "index" ∷ type_words) (float_text kind))
    ≡ true
float-found f.Bf16 = refl
float-found f.F16 = refl
float-found f.Tf32 = refl
float-found f.F32 = refl
float-found f.F64 = refl
float-found f.F80 = refl
float-found f.F128 = refl

pub float-word : (kind : FloatKind) → IsTypeWord (float_text kind) (h.Float kind)
float-word kind = record {
  spelled = word-spelled (float_text kind) (float-bare kind);
  found = float-found kind;
  is = float-head kind;
}

-- ---- words that are attributes

pub true-head : word_head (codes "true") ≡ Some (h.Number (Signless 1) (negsuc 0))
unfolding word_head
true-head = refl

pub false-head : word_head (codes "false") ≡ Some (h.Number (Signless 1) (pos 0))
unfolding word_head
false-head = refl

pub unit-head : word_head (codes "unit") ≡ Some h.Unit
unfolding word_head
unit-head = refl
