-- Tidy lists of marks are tidy one behind the other.
--
-- By the first list: where it ends, its last token and the first of the second may stand side by
-- side.
use Rattle.std.proofs.Common.{◌≡◌, ℕ, Bool, true, false, not, ◌&&◌, List, [], ◌∷◌, ◌++◌, refl, Option, Some, None}
use Rattle.grammar.proofs.Meet.{and-true}
use Rattle.ir_lexer.specs.declared.class.Class.{Class}
use Rattle.ir_lexer.specs.declared.class.Class.TheVariants as c
use Rattle.ir_lexer.specs.Spelling.{Text, Spells}
use Rattle.ir_lexer.proofs.Derive.{and-both}
use Rattle.text_layout.specs.declared.gap.Gap.{Gap}
use Rattle.text_layout.specs.Apart.{AreSpelled, clash_never, may_run_together, is_float_class, are_apart}
use Rattle.text_layout.specs.Lines.{Mark, token, ask, break_line}
use Rattle.text_layout.specs.Tidy.{begins_alone, ends_alone, first_alone, last_alone, Tidy}
use Rattle.text_layout.proofs.Classes.{no-clashes}

-- classes that may stand side by side don't run together
seam : (a b : Class) → ends_alone a ≡ true → begins_alone b ≡ true → may_run_together a b ≡ false
seam c.Dims b p q = absurd (cc)
seam c.Minus b p q = absurd (cc)
seam c.Colon c.ColonColon p q = absurd (cc)
seam _ _ p q = refl

-- a token of this class, if there is one, may stand before any
abbrev may_precede : Option Class → Bool
may_precede None = true
may_precede (Some a) = ends_alone a

-- what never clashes by itself doesn't behind such a token
apart-behind : (last : Option Class) (ms : List Mark) → may_precede last ≡ true
    → first_alone ms ≡ true → clash_never None ms ≡ true → clash_never last ms ≡ true
apart-behind None ms l b e = e
apart-behind (Some a) [] l b e = refl
apart-behind (Some a) (token class text ∷ ms) l b e =
    let h = and-true (not (is_float_class class)) _ e in
    and-both (not (is_float_class class)) _ h.0 (rw (seam a class l b) h.1)
apart-behind (Some a) (ask gap ∷ ms) l b e = apart-behind (Some a) ms l b e
apart-behind (Some a) (break_line indent ∷ ms) l b e = apart-behind (Some a) ms l b e

apart-both : (last : Option Class) (ms ns : List Mark) → clash_never last ms ≡ true
    → last_alone (may_precede last) ms ≡ true → first_alone ns ≡ true → clash_never None ns ≡ true
    → clash_never last (ms ++ ns) ≡ true
apart-both last [] ns e l b f = apart-behind last ns l b f
apart-both None (token class text ∷ ms) ns e l b f =
    let h = and-true (not (is_float_class class)) _ e in
    and-both (not (is_float_class class)) _ h.0 (apart-both (Some class) ms ns h.1 l b f)
apart-both (Some a) (token class text ∷ ms) ns e l b f =
    let h = and-true (not (is_float_class class)) _ e in
    let k = and-true (not (may_run_together a class)) _ h.1 in
    and-both (not (is_float_class class)) _ h.0
    (and-both (not (may_run_together a class)) _ k.0 (apart-both (Some class) ms ns k.1 l b f))
apart-both None (ask gap ∷ ms) ns e l b f = apart-both None ms ns e l b f
apart-both (Some a) (ask gap ∷ ms) ns e l b f = apart-both (Some a) ms ns e l b f
apart-both None (break_line indent ∷ ms) ns e l b f = apart-both None ms ns e l b f
apart-both (Some a) (break_line indent ∷ ms) ns e l b f = apart-both (Some a) ms ns e l b f

first-both : (ms ns : List Mark) → first_alone ms ≡ true → first_alone ns ≡ true
    → first_alone (ms ++ ns) ≡ true
first-both [] ns a b = b
first-both (token class text ∷ ms) ns a b = a
first-both (ask gap ∷ ms) ns a b = first-both ms ns a b
first-both (break_line indent ∷ ms) ns a b = first-both ms ns a b

last-both : (l : Bool) (ms ns : List Mark) → last_alone l ms ≡ true → last_alone true ns ≡ true
    → last_alone l (ms ++ ns) ≡ true
last-both true [] ns a b = b
last-both false [] ns a b = absurd (cc)
last-both l (token class text ∷ ms) ns a b = last-both (ends_alone class) ms ns a b
last-both l (ask gap ∷ ms) ns a b = last-both l ms ns a b
last-both l (break_line indent ∷ ms) ns a b = last-both l ms ns a b

spelled-both : (ms ns : List Mark) → AreSpelled ms → AreSpelled ns → AreSpelled (ms ++ ns)
spelled-both [] ns a b = b
spelled-both (token class text ∷ ms) ns (p, a) b = (p, spelled-both ms ns a b)
spelled-both (ask gap ∷ ms) ns a b = spelled-both ms ns a b
spelled-both (break_line indent ∷ ms) ns a b = spelled-both ms ns a b

-- no marks
pub tidy-none : Tidy []
tidy-none = record { spelled = tt; apart = refl; first = refl; last = refl }

-- what is asked of a gap
pub tidy-ask : {gap : Gap} → Tidy (ask gap ∷ [])
tidy-ask = record { spelled = tt; apart = refl; first = refl; last = refl }

-- behind a break of the line
pub tidy-break : (indent : ℕ) (ms : List Mark) → Tidy ms → Tidy (break_line indent ∷ ms)
tidy-break indent ms t =
    record { spelled = t.spelled; apart = t.apart; first = t.first; last = t.last }

-- one list behind the other
pub tidy-both : (ms ns : List Mark) → Tidy ms → Tidy ns → Tidy (ms ++ ns)
tidy-both ms ns a b = record {
  spelled = spelled-both ms ns a.spelled b.spelled;
  apart = apart-both None ms ns a.apart a.last b.first b.apart;
  first = first-both ms ns a.first b.first;
  last = last-both true ms ns a.last b.last;
}

-- one token that may stand beside others
pub tidy-token : (class : Class) (text : Text) → Spells class text
    → (not (is_float_class class) && (begins_alone class && ends_alone class)) ≡ true
    → Tidy (token class text ∷ [])
tidy-token class text p e =
    let h = and-true (not (is_float_class class)) _ e in
    let k = and-true (begins_alone class) _ h.1 in
    record {
      spelled = (p, tt);
      apart = and-both (not (is_float_class class)) true h.0 refl;
      first = k.0;
      last = k.1;
    }

-- the tokens of tidy marks keep apart in their layout
pub tidy-apart : (ms : List Mark) → Tidy ms → are_apart ms ≡ true
tidy-apart ms t = no-clashes ms t.apart
