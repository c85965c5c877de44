-- The round trip of values.
--
-- All tokens that are spelled as a value's marks are read as it; the lexer gives such tokens from
-- the text; and since a list of tokens has one tree, and a text one list of tokens, values with the
-- same text are equal.
use Rattle.std.proofs.Common.{◌≡◌, ℕ, true, false, List, [], ◌∷◌, ◌++◌, Some, None, option_map, refl, sym, ◌∙◌, ap, subst, ℤ}
use Rattle.attr_value.specs.declared.head.Head.TheVariants as h
use Rattle.attr_value.specs.declared.kind.IntKind.{IntKind}
use Rattle.attr_value.specs.Heads.{IsType}
use Rattle.attr_value.specs.Numbers.{IsKept}
use Rattle.attr_value.specs.Values.{Value}
use Rattle.generic_syntax.specs.declared.cst.ValueCst.{ValueCst}
use Rattle.generic_syntax.specs.Nested.{IsValue, deep, value_more_looks}
use Rattle.generic_syntax.specs.Values.{Sort, a_type, plain, an_attr, signed}
use Rattle.generic_syntax.proofs.Knot.{one-value, value-goes}
use Rattle.grammar.specs.Front.{Shallow, Front}
use Rattle.grammar.specs.Grammar.{Tokens}
use Rattle.grammar.specs.Looks.{any}
use Rattle.grammar.proofs.Shallow.{within-derived}
use Rattle.ir_lexer.specs.declared.class.Class.TheVariants as c
use Rattle.ir_lexer.specs.Classes.{same_class}
use Rattle.ir_lexer.specs.Spelling.{Text}
use Rattle.ir_lexer.specs.Tokens.{Token, AreTokens}
use Rattle.ir_lexer.proofs.Once.{one-list}
use Rattle.text_layout.specs.Apart.{tokens_of}
use Rattle.text_layout.specs.Gives.{MarksSpell, GivesKid}
use Rattle.text_layout.specs.Lines.{Mark, token, layout}
use Rattle.text_layout.specs.Tidy.{Tidy}
use Rattle.text_layout.proofs.Gives.{spell-both, spell-tokens}
use Rattle.text_layout.proofs.ReadsBack.{layout-reads-back}
use Rattle.text_layout.proofs.Tidy.{tidy-apart}
use Rattle.value_meaning.specs.Meaning.{Aliases, value_of}
use Rattle.value_meaning.specs.Spelled.{residue}
use Rattle.derived_printer.specs.ReadBack.{is_function, EndsValue, IsReadAs, IsNumberOf, HasTokensOf, IsTextOf}
use Rattle.derived_printer.specs.Spellable.{Spellable, HasBytes}
use Rattle.derived_printer.specs.ValueMarks.{number_marks, value_marks}
use Rattle.derived_printer.proofs.Heads.{value-readable}
use Rattle.derived_printer.proofs.Nesting.{within, within-value}
use Rattle.derived_printer.proofs.Numbers.{kept-small, kept-again}
use Rattle.derived_printer.proofs.Numerals.{signed-given}
use Rattle.derived_printer.proofs.Readable.{HasValue, Readable}

-- no alias is there: canonical text names none
abbrev no_aliases : Aliases
no_aliases is_type name = None

-- ---- tokens

-- where a value doesn't go on, its tokens are the front
value-front : (n : ℕ) (x : Sort) (ts : Tokens) (t : ValueCst) → IsValue x ts t
    → Shallow (deep n x) ts → (rest : Tokens) → EndsValue x rest
    → Front (IsValue x) (deep n x) (ts ++ rest) t rest
value-front n x ts t d s rest ends = record {
  front = ts;
  is = refl;
  tree = d;
  barred = λ u more e at (b, p). let goes : any (value_more_looks x) u ≡ true = value-goes x ts u e
      t b d p in
      let stops : any (value_more_looks x) u ≡ false = ends u more at in absurd (cc);
  shallow = s;
}

-- what is given within the limit is read
given-read : (al : Aliases) (x : Sort) (v : Value) (ts : Tokens)
    → GivesKid (within 64) x (value_marks v) (λ t. HasValue al t v) → MarksSpell (value_marks v) ts
    → IsReadAs al x v ts
given-read al x v ts g s = let (t, d, p) = g.tree ts s in let b = within-value 64 x ts t d in
    record {
      tree = t;
      spelled = b.0;
      value = p;
      shallow = b.1;
      front = value-front 64 x ts t b.0 b.1;
    }

readable : (al : Aliases) (v : Value) → Spellable v → HasBytes v → Readable al 64 v
readable al v r s = value-readable al 63 v r.shallow r s

-- as an attribute
pub attr-back : (al : Aliases) (v : Value) → Spellable v → HasBytes v → (ts : Tokens)
    → MarksSpell (value_marks v) ts → IsReadAs al an_attr v ts
attr-back al v r s ts m = given-read al an_attr v ts (readable al v r s).as_attr m

-- as a type
pub type-back : (al : Aliases) (v : Value) → Spellable v → HasBytes v → IsType v → (ts : Tokens)
    → MarksSpell (value_marks v) ts → IsReadAs al a_type v ts
type-back al v r s t ts m = given-read al a_type v ts ((readable al v r s).as_type t) m

-- as a type that doesn't begin with a parenthesis
pub plain-back : (al : Aliases) (v : Value) → Spellable v → HasBytes v → IsType v
    → is_function v.head ≡ false → (ts : Tokens) → MarksSpell (value_marks v) ts
    → IsReadAs al plain v ts
plain-back al v r s t f ts m = given-read al plain v ts ((readable al v r s).as_plain t f) m

-- a number without its type
pub number-back : (kind : IntKind) (n : ℤ) → IsKept kind n → (ts : Tokens)
    → MarksSpell (number_marks n) ts → IsNumberOf kind n ts
number-back kind n k ts m = let (x, d, p) = (signed-given no_aliases 0 n (kept-small kind n k)).tree
    ts m in record {
      tree = x;
      spelled = within-derived (within 0) IsValue (λ y us c e. absurd e) true signed ts x d;
      number = ap (option_map (λ n. h.Number kind n)) (ap (residue kind) p.0 ∙ kept-again kind n k);
    }

-- ---- texts

-- the marks may stand beside others
pub value-tidy : (v : Value) → Spellable v → HasBytes v → Tidy (value_marks v)
value-tidy v r s = (readable no_aliases v r s).as_attr.tidy

-- the text of tidy marks has their tokens
pub tidy-tokens : (ms : List Mark) → Tidy ms → HasTokensOf ms (layout ms)
tidy-tokens ms t = let (front, back, e, s, (place, rest, e2, e3)) = spell-both ms
    (token c.End [] ∷ []) (tokens_of ms) (spell-tokens ms) in
    let end : Token = record { class = c.End; text = []; place = place } in
    let is : tokens_of ms ≡ front ++ end ∷ [] = cc in
    record {
      front = front;
      end = end;
      spell = s;
      ends = refl;
      are = subst (AreTokens (layout ms)) is (layout-reads-back ms t.spelled (tidy-apart ms t));
    }

-- the text of a value has its tokens
pub tokens-back : (v : Value) → Spellable v → HasBytes v
    → HasTokensOf (value_marks v) (layout (value_marks v))
tokens-back v r s = tidy-tokens (value_marks v) (value-tidy v r s)

-- a value doesn't go on with the end
end-ends : (x : Sort) (end : Token) → end.class ≡ c.End → any (value_more_looks x) end ≡ false
unfolding same_class
end-ends a_type end e = rw e refl
end-ends plain end e = rw e refl
end-ends an_attr end e = rw e refl

-- the text of a value is read as it
pub text-back : (al : Aliases) (v : Value) → Spellable v → HasBytes v
    → IsTextOf al v (layout (value_marks v))
text-back al v r s = let x = tokens-back v r s in let y = attr-back al v r s x.front x.spell in
    record {
      tokens = x.front ++ x.end ∷ [];
      tree = y.tree;
      end = x.end;
      are = x.are;
      read = y.front (x.end ∷ []) (λ t more is. ends-with x.end t more x.ends is);
      value = y.value;
      ends = x.ends;
    }
  where
    ends-with : (end t : Token) (more : Tokens) → end.class ≡ c.End → end ∷ [] ≡ t ∷ more
        → any (value_more_looks an_attr) t ≡ false
    ends-with end t more e is = let same : end ≡ t = cc in
        subst (λ (t : Token). any (value_more_looks an_attr) t ≡ false) same
        (end-ends an_attr end e)

-- ---- equal values

-- values with the same tokens are equal
pub same-tokens : (v w : Value) → Spellable v → HasBytes v → Spellable w → HasBytes w
    → (ts : Tokens) → MarksSpell (value_marks v) ts → MarksSpell (value_marks w) ts → v ≡ w
same-tokens v w r s q p ts m l =
    let x = attr-back no_aliases v r s ts m in
    let y = attr-back no_aliases w q p ts l in
    let same : Some v ≡ Some w = sym x.value ∙ ap (value_of no_aliases)
    (one-value an_attr ts x.tree y.tree x.spelled y.spelled) ∙ y.value in
    cc

-- lists with one item more at the end
pub fronts : {A : Type 0} (xs ys : List A) (x y : A) → xs ++ x ∷ [] ≡ ys ++ y ∷ [] → xs ≡ ys
fronts [] [] x y e = refl
fronts [] (b ∷ []) x y e = absurd (cc)
fronts [] (b ∷ d ∷ ys) x y e = absurd (cc)
fronts (a ∷ []) [] x y e = absurd (cc)
fronts (a ∷ d ∷ xs) [] x y e = absurd (cc)
fronts (a ∷ xs) (b ∷ ys) x y e =
    let head : a ≡ b = cc in
    let tail : xs ++ x ∷ [] ≡ ys ++ y ∷ [] = cc in
    ap (λ k. k ∷ xs) head ∙ ap (λ l. b ∷ l) (fronts xs ys x y tail)

-- values with the same text are equal
pub same-text : (v w : Value) → Spellable v → HasBytes v → Spellable w → HasBytes w
    → layout (value_marks v) ≡ layout (value_marks w) → v ≡ w
same-text v w r s q p e =
    let x = tokens-back v r s in
    let y = tokens-back w q p in
    let one = one-list (layout (value_marks v)) 0 (x.front ++ x.end ∷ []) (y.front ++ y.end ∷ [])
    x.are
    (subst (λ (t : Text). AreTokens t (y.front ++ y.end ∷ [])) (sym e) y.are) in
    let same = fronts x.front y.front x.end y.end one in
    same-tokens v w r s q p x.front x.spell (subst (MarksSpell (value_marks w)) (sym same) y.spell)
