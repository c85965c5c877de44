-- Where classes alone keep tokens apart.
use Rattle.std.proofs.Common.{◌≡◌, ℕ, Bool, true, false, ◌&&◌, ◌||◌, not, List, [], ◌∷◌, refl, sym, ◌∙◌, ap, Option, Some, None}
use Rattle.ir_lexer.specs.declared.class.Class.{Class}
use Rattle.ir_lexer.specs.Written.{is_exponent, begins_sign}
use Rattle.ir_lexer.proofs.Derive.{and-left, and-right}
use Rattle.text_layout.specs.declared.gap.Gap.{Gap}
use Rattle.text_layout.specs.declared.gap.Gap.TheVariants as gap
use Rattle.text_layout.specs.Apart.{may_run_together, is_float_class, touches, keeps_apart, are_apart, clash_never, never_clash}
use Rattle.text_layout.specs.Lines.{Mark, token, ask, break_line, Row, Line, first_of}

-- the line's last token, if it has one, is of the class, and no float
abbrev IsBehind : Option Class → Option Row → Type 0
IsBehind last None = Unit {0}
IsBehind last (Some row) = (last ≡ Some row.last) × (is_float_class row.last ≡ false)

is-not : (b : Bool) → not b ≡ true → b ≡ false
is-not true e = absurd (cc)
is-not false e = refl

-- what the test asks of a token where nothing clashes and no float stands before it
passes : (clash float exponent touch next : Bool) (keeps : Bool → Bool) → clash ≡ false
    → float ≡ false → keeps false ≡ true
    → (not ((clash || (false && next)) && touch) && keeps (float && (exponent && touch))) ≡ true
passes true float exponent touch next keeps e f h = absurd (cc)
passes false true exponent touch next keeps e f h = absurd (cc)
passes false false exponent touch next keeps e f h = h

keeps : (ms : List Mark) (indent : ℕ) (row : Option Row) (asked : Gap) (last : Option Class)
    → IsBehind last row → clash_never last ms ≡ true
    → keeps_apart false (record { indent = indent; row = row; gap = asked }) ms ≡ true
keeps [] indent row asked last h e = refl
keeps (ask next ∷ ms) indent row asked last h e = keeps ms indent row next last h e
keeps (break_line n ∷ ms) indent row asked last h e = keeps ms n None gap.Plain last tt e
keeps (token b y ∷ ms) indent None asked None h e =
    keeps ms indent (Some (record { first = b; last = b; text = y })) gap.Plain (Some b)
    (refl, is-not (is_float_class b) (and-left (not (is_float_class b)) (clash_never (Some b) ms) e))
    (and-right (not (is_float_class b)) (clash_never (Some b) ms) e)
keeps (token b y ∷ ms) indent None asked (Some a) h e =
    let apart = not (may_run_together a b) in
    let rest = clash_never (Some b) ms in
    keeps ms indent (Some (record { first = b; last = b; text = y })) gap.Plain (Some b)
    (refl, is-not (is_float_class b) (and-left (not (is_float_class b)) (apart && rest) e))
    (and-right apart rest (and-right (not (is_float_class b)) (apart && rest) e))
keeps (token b y ∷ ms) indent (Some row) asked None h e = absurd (cc h.0)
keeps (token b y ∷ ms) indent (Some row) asked (Some a) h e =
    let apart = not (may_run_together a b) in
    let rest = clash_never (Some b) ms in
    let others : (apart && rest) ≡ true = and-right (not (is_float_class b)) (apart && rest) e in
    let same : a ≡ row.last = cc h.0 in
    let line : Line = record { indent = indent; row = Some row; gap = asked } in
    let next : Row = record { first = first_of asked (Some row) b; last = b; text = y } in
    let after : Line = record { indent = indent; row = Some next; gap = gap.Plain } in
    passes (may_run_together row.last b) (is_float_class row.last) (is_exponent y) (touches line b y)
    (begins_sign y) (λ v. keeps_apart v after ms)
    (sym (ap (λ x. may_run_together x b) same)
    ∙ is-not (may_run_together a b) (and-left apart rest others))
    h.1
    (keeps ms indent (Some next) gap.Plain (Some b)
    (refl, is-not (is_float_class b) (and-left (not (is_float_class b)) (apart && rest) e))
    (and-right apart rest others))

-- marks whose classes never clash keep apart
pub no-clashes : (marks : List Mark) → never_clash marks ≡ true → are_apart marks ≡ true
no-clashes marks e = keeps marks 0 None gap.Plain None tt e
