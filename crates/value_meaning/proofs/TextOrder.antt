-- The order of texts: of two, one stands before the other, or they are one.
use Rattle.std.proofs.Common.{◌≡◌, true, false, refl, sym, ◌∙◌, ap, arith, bytes_eq}
use Rattle.std.proofs.lemmas.Bool.Decides.{nat_tests}
use Rattle.std.proofs.lemmas.Cmp.{same_from_slice_cmp, nat_list_cmp_total, tied_itself}
use Rattle.std.proofs.lemmas.Map.Text.{is_eq-slice_cmp}
use Rattle.std.proofs.lemmas.Slice.Eq.{bytes_eq-Decides}
use Rattle.std.specs.Cmp.Lexicographic.{slice_cmp}
use Rattle.std.specs.Ordering.{is_lt, is_eq, nat_cmp, ordering_reverse}
use Rattle.std.specs.declared.cmp.Ordering.{Ordering}
use Rattle.std.specs.declared.cmp.Ordering.TheVariants.{Less, Equal, Greater}
use Rattle.attr_value.specs.Heads.{text_lt}
use Rattle.ir_lexer.specs.Spelling.{Text}

-- `cmp` of texts
abbrev pub text_cmp : Text → Text → Ordering
text_cmp = slice_cmp nat_cmp

-- a text stands before another where `cmp` answers so
pub lt-text_cmp : (a b : Text) → is_lt (text_cmp a b) ≡ text_lt a b
lt-text_cmp a b =
    same_from_slice_cmp nat_cmp is_lt text_lt refl (λ y ys. refl) (λ x xs. refl)
    (λ x y xs ys o is. grind (arith, nat_tests)) a b (text_cmp a b) refl

-- how two texts stand
pub data Rank (a b : Text) : Type 0 where
  before : text_lt a b ≡ true → text_lt b a ≡ false → bytes_eq a b ≡ false
      → bytes_eq b a ≡ false → Rank a b
  same : a ≡ b → Rank a b
  behind : text_lt b a ≡ true → text_lt a b ≡ false → bytes_eq a b ≡ false
      → bytes_eq b a ≡ false → Rank a b

-- of two texts, one stands before the other, or they are one
pub rank : (a b : Text) → Rank a b
rank a b = go (text_cmp a b) refl
  where
    back : (o : Ordering) → text_cmp a b ≡ o → text_cmp b a ≡ ordering_reverse o
    back o e = nat_list_cmp_total.antisymm b a ∙ ap ordering_reverse e

    go : (o : Ordering) → text_cmp a b ≡ o → Rank a b
    go Less e = before
        (sym (lt-text_cmp a b) ∙ ap is_lt e)
        (sym (lt-text_cmp b a) ∙ ap is_lt (back Less e))
        (sym (is_eq-slice_cmp a b) ∙ ap is_eq e)
        (sym (is_eq-slice_cmp b a) ∙ ap is_eq (back Less e))
    go Equal e = same ((bytes_eq-Decides a b).0 (sym (is_eq-slice_cmp a b) ∙ ap is_eq e))
    go Greater e = behind
        (sym (lt-text_cmp b a) ∙ ap is_lt (back Greater e))
        (sym (lt-text_cmp a b) ∙ ap is_lt e)
        (sym (is_eq-slice_cmp a b) ∙ ap is_eq e)
        (sym (is_eq-slice_cmp b a) ∙ ap is_eq (back Greater e))

-- no text stands before itself
pub lt-itself : (a : Text) → text_lt a a ≡ false
lt-itself a = sym (lt-text_cmp a a) ∙ ap is_lt (tied_itself nat_list_cmp_total a)

-- a text is itself
pub eq-itself : (a : Text) → bytes_eq a a ≡ true
eq-itself a = (bytes_eq-Decides a a).1 refl

is-less : (o : Ordering) → is_lt o ≡ true → o ≡ Less
is-less Less e = refl
is-less Equal e = absurd (cc)
is-less Greater e = absurd (cc)

-- what stands before a text stands before those behind that
pub lt-trans : (a b c : Text) → text_lt a b ≡ true → text_lt b c ≡ true → text_lt a c ≡ true
lt-trans a b c p q =
    let less-ab = is-less (text_cmp a b) (lt-text_cmp a b ∙ p) in
    let less-bc = is-less (text_cmp b c) (lt-text_cmp b c ∙ q) in
    sym (lt-text_cmp a c) ∙ ap is_lt (nat_list_cmp_total.trans a b c less-ab less-bc)
