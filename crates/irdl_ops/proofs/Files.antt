-- A definition file ends at the end, is one file, and isn't refused; any other is refused once.
--
-- Each is the theorem on grammars that one token decides, for the grammar of definition files.
use Rattle.std.proofs.Common.{◌≡◌, ◌==◌, ℕ, [], ◌∷◌, ◌++◌, sym, ◌∙◌, ap, subst, append-nil}
use Rattle.ir_lexer.specs.declared.class.Class.TheVariants.{End}
use Rattle.ir_lexer.specs.Tokens.{Token}
use Rattle.grammar.specs.declared.stop.SyntaxCode.{SyntaxCode}
use Rattle.grammar.specs.Answers.{IsRefusal}
use Rattle.grammar.specs.Exact.{HasMore}
use Rattle.grammar.specs.Front.{Shallow, Some_of, Front}
use Rattle.grammar.specs.Grammar.{Tokens}
use Rattle.grammar.specs.Looks.{any_of}
use Rattle.grammar.specs.Rules.{whole}
use Rattle.grammar.proofs.Fronts.{front-no-refusal, one-refusal}
use Rattle.grammar.proofs.Known.{trees-of, known-seen, grammar-one-tree}
use Rattle.grammar.proofs.Meet.{passes-class}
use Rattle.generic_syntax.specs.declared.pieces.TheConstants.{ROOM}
use Rattle.generic_syntax.proofs.Above.{pieces-known}
use Rattle.irdl_ops.specs.declared.raw.RawDefs.{RawDefs}
use Rattle.irdl_ops.specs.Definitions.{file, DefText, TooDeepDef, IsFile}
use Rattle.irdl_ops.proofs.OneToken.{file-checked}

-- the last token of a file is the end
pub file-ends : (ts : Tokens) (d : RawDefs) → DefText ts d
    → (front : Tokens) × (t : Token) × (ts ≡ front ++ t ∷ []) × (t.class ≡ End)
unfolding DefText
file-ends ts d (front, back, b, c, is, f, (t, is_last, passed, e2), e) =
    (front, t, is ∙ ap (λ w. front ++ w) is_last, passes-class (any_of End) t passed)

-- what is too deep has more
def-seen : (p : Tokens) → TooDeepDef p → HasMore (Some_of DefText) p
unfolding DefText TooDeepDef
def-seen p x = known-seen (pieces-known ROOM) (ROOM == 0) (whole file) file-checked p x

-- tokens spell one file
pub one-file : (ts : Tokens) (a b : RawDefs) → DefText ts a → DefText ts b → a ≡ b
unfolding DefText
one-file ts a b x y =
    grammar-one-tree (trees-of (pieces-known ROOM)) (whole file) file-checked ts a b x y

-- a whole file is the front of its tokens
pub file-front : (ts : Tokens) (d : RawDefs) → IsFile ts d → Front DefText TooDeepDef ts d []
file-front ts d x =
    record {
      front = ts;
      is = sym (append-nil ts);
      tree = x.spelled;
      barred = λ t more e at y. absurd (cc);
      shallow = x.shallow;
    }

-- a front that takes all tokens is a whole file
pub front-file : (ts : Tokens) (d : RawDefs) (rest : Tokens) → Front DefText TooDeepDef ts d rest
    → rest ≡ [] → IsFile ts d
front-file ts d rest f none =
    let e : ts ≡ f.front = f.is ∙ ap (λ w. f.front ++ w) none ∙ append-nil f.front in
    record {
      spelled = subst (λ (w : Tokens). DefText w d) (sym e) f.tree;
      shallow = subst (λ (w : Tokens). Shallow TooDeepDef w) (sym e) f.shallow;
    }

-- the tokens of a file are not refused
pub file-not-refused : (ts : Tokens) (d : RawDefs) (place : ℕ) (code : SyntaxCode) → IsFile ts d
    → IsRefusal DefText TooDeepDef ts place code → ⊥
file-not-refused ts d place code x r =
    front-no-refusal DefText TooDeepDef def-seen ts d [] place code (file-front ts d x) r

-- tokens are refused at one place, with one code
pub refused-once : (ts : Tokens) (p q : ℕ) (c e : SyntaxCode) → IsRefusal DefText TooDeepDef ts p c
    → IsRefusal DefText TooDeepDef ts q e → (p ≡ q) × (c ≡ e)
refused-once ts p q c e x y = one-refusal DefText TooDeepDef def-seen ts p q c e x y
