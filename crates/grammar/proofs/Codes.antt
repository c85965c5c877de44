-- The code of a refused token is determined by its class.
use Rattle.std.proofs.Common.{◌≡◌, ◌≢◌, Bool, false, Err, refl}
use Rattle.ir_lexer.specs.declared.class.Class.{Class}
use Rattle.ir_lexer.specs.declared.class.Class.TheVariants as class
use Rattle.ir_lexer.specs.Source.{Source}
use Rattle.ir_lexer.specs.Tokens.{Token}
use Rattle.grammar.specs.declared.stop.SyntaxCode.{SyntaxCode}
use Rattle.grammar.specs.declared.stop.SyntaxCode.TheVariants as code
use Rattle.grammar.specs.declared.stop.SyntaxStop.{SyntaxStop}
use Rattle.grammar.specs.declared.stop.SyntaxStop.TheVariants.{At, Failed, OutOfMemory}
use Rattle.grammar.specs.Ran.{IsCodeOf, RefusesToken, RefusesBy, IsAtEnd, code_by_class}

-- the table of codes gives the code of each class
pub code-of : (c : Class) → IsCodeOf c (code_by_class c)
code-of class.Float = record {
  float = (λ e. refl, λ e. refl);
  bad = (λ e. absurd (cc), λ e. absurd (cc));
  shallow = λ e. absurd (cc);
}
code-of class.Bad = record {
  float = (λ e. absurd (cc), λ e. absurd (cc));
  bad = (λ e. refl, λ e. refl);
  shallow = λ e. absurd (cc);
}
code-of _ = record {
  float = (λ e. absurd (cc), λ e. absurd (cc));
  bad = (λ e. absurd (cc), λ e. absurd (cc));
  shallow = λ e. absurd (cc);
}

-- a class has one code
pub code-once : (c : Class) (x y : SyntaxCode) → IsCodeOf c x → IsCodeOf c y → x ≡ y
code-once c code.Syntax code.Syntax p q = refl
code-once c code.Syntax code.Float p q = absurd (cc (p.float.1 (q.float.0 refl)))
code-once c code.Syntax code.Bad p q = absurd (cc (p.bad.1 (q.bad.0 refl)))
code-once c code.Float code.Syntax p q = absurd (cc (q.float.1 (p.float.0 refl)))
code-once c code.Float code.Float p q = refl
code-once c code.Float code.Bad p q = absurd (cc (q.float.1 (p.float.0 refl)))
code-once c code.Bad code.Syntax p q = absurd (cc (q.bad.1 (p.bad.0 refl)))
code-once c code.Bad code.Float p q = absurd (cc (p.float.1 (q.float.0 refl)))
code-once c code.Bad code.Bad p q = refl
code-once c code.Nesting y p q = absurd (p.shallow refl)
code-once c x code.Nesting p q = absurd (q.shallow refl)

-- what refuses a token is its place and the code of its class
pub refuses-is : (t : Token) (e : SyntaxStop) → RefusesToken t e
    → e ≡ At t.place (code_by_class t.class)
refuses-is t (At place c) h =
    let same = code-once t.class c (code_by_class t.class) h.1 (code-of t.class) in cc (h.0, same)
refuses-is t Failed h = absurd h
refuses-is t OutOfMemory h = absurd h

-- a token that fails a test, as it is refused
pub refuses-at : (A : Type 0) (test : Token → Bool) (s : Source) (e : SyntaxStop)
    → test s.now ≡ false → RefusesToken s.now e → RefusesBy {A = A} test s (Err e)
refuses-at A test s (At place c) failed h = (failed, h)
refuses-at A test s Failed failed h = absurd h
refuses-at A test s OutOfMemory failed h = absurd h

-- a token that isn't the end, as it is refused
pub no-end-at : (s : Source) (e : SyntaxStop) → s.now.class ≢ class.End → RefusesToken s.now e
    → IsAtEnd s (Err e)
no-end-at s (At place c) other h = (other, h)
no-end-at s Failed other h = absurd h
no-end-at s OutOfMemory other h = absurd h
