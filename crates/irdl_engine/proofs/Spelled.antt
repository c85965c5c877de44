-- The trees that texts spell, and the refusals of texts that spell none.
--
-- A text has one list of tokens, and these are those of one file or are refused at one place.
use Rattle.std.proofs.Common.{◌≡◌, List, [], ◌∷◌, ◌++◌, ℕ, sym, ◌∙◌, ap, subst, append_assoc}
use Rattle.std.specs.declared.result.Result.{Result}
use Rattle.std.specs.declared.result.Result.TheVariants.{Ok, Err}
use Rattle.ir_lexer.specs.Source.{Source}
use Rattle.ir_lexer.specs.Slice.{Tells}
use Rattle.ir_lexer.specs.Spelling.{Text}
use Rattle.ir_lexer.specs.Tokens.{AreTokens}
use Rattle.ir_lexer.proofs.Once.{end_is_last, one-list}
use Rattle.grammar.specs.declared.stop.SyntaxCode.{SyntaxCode}
use Rattle.grammar.specs.declared.stop.SyntaxStop.{SyntaxStop}
use Rattle.grammar.specs.declared.stop.SyntaxStop.TheVariants.{At}
use Rattle.grammar.specs.Answers.{Told, Answered, IsRefusal}
use Rattle.grammar.specs.Front.{Front}
use Rattle.grammar.specs.Grammar.{Tokens}
use Rattle.irdl_ops.specs.declared.raw.RawDefs.{RawDefs}
use Rattle.irdl_ops.specs.Definitions.{DefText, TooDeepDef}
use Rattle.irdl_ops.proofs.Files.{file-ends, front-file, file-not-refused, one-file, refused-once}
use Rattle.dialect_registry.specs.declared.code.DefCode.{DefCode}
use Rattle.irdl_engine.specs.Judged.{SpellsFile, IsOfForm, SpellFiles, IsTokenRefusal, rule_of}
use Rattle.irdl_engine.proofs.Items.{zip-once}

-- ---- what is read of a text

-- a front of all tokens of a text that is a file takes all of them
front-spells : (src : Text) (ts : Tokens) (d : RawDefs) (rest : Tokens)
    → AreTokens src ts → Front DefText TooDeepDef ts d rest → SpellsFile src d
front-spells src ts d rest all f =
    let e = file-ends f.front d f.tree in
    let cut : ts ≡ e.0 ++ e.1 ∷ rest =
    f.is ∙ ap (λ w. w ++ rest) e.2 ∙ append_assoc e.0 (e.1 ∷ []) rest in
    let all_cut = subst (λ (w : Tokens). AreTokens src w) cut all in
    let none = end_is_last src 0 e.0 e.1 rest all_cut e.3 in
    record { tokens = ts; are_tokens = all; is_file = front-file ts d rest f none }

module _ (s : Source) (src : Text) (r : Result RawDefs SyntaxStop) (tells : Tells s src)
    (told : Told s (λ ts. Answered DefText TooDeepDef ts r)) where
  -- the answer is right for the text's tokens
  answer-of : (a : Result RawDefs SyntaxStop) → r ≡ a
      → Answered DefText TooDeepDef (s.now ∷ tells.tokens.0) a
  answer-of a e =
      let right = told tells.tokens.0 tells.tokens.1 in
      subst (Answered DefText TooDeepDef (s.now ∷ tells.tokens.0)) e right

  -- what is read of a text's tokens is what the text spells
  pub told-spells : (d : RawDefs) → r ≡ Ok d → SpellsFile src d
  told-spells d e =
      let read = answer-of (Ok d) e in
      front-spells src (s.now ∷ tells.tokens.0) d read.0 tells.tokens.2 read.1

  -- what is refused of the tokens is refused of the text
  pub told-refused : (place : ℕ) (code : SyntaxCode) (rule : DefCode)
      → r ≡ Err (At place code) → rule ≡ rule_of code → IsTokenRefusal src place rule
  told-refused place code rule e is = record {
    tokens = s.now ∷ tells.tokens.0;
    are_tokens = tells.tokens.2;
    syntax = code;
    refusal = answer-of (Err (At place code)) e;
    rule = is;
  }

-- ---- one answer

-- what a text spells isn't refused for a token
pub spelled-or-refused : (src : Text) (place : ℕ) (code : DefCode)
    → IsTokenRefusal src place code → IsOfForm src → ⊥
spelled-or-refused src place code r (d, x) =
    let same : r.tokens ≡ x.tokens =
    one-list src 0 r.tokens x.tokens r.are_tokens x.are_tokens in
    let refusal = subst (λ (w : Tokens). IsRefusal DefText TooDeepDef w place r.syntax)
    same r.refusal in
    file-not-refused x.tokens d place r.syntax x.is_file refusal

-- a text spells one file
spelled-once : (src : Text) (a b : RawDefs) → SpellsFile src a → SpellsFile src b → a ≡ b
spelled-once src a b x y =
    let same : x.tokens ≡ y.tokens =
    one-list src 0 x.tokens y.tokens x.are_tokens y.are_tokens in
    let spelled = subst (λ (w : Tokens). DefText w a) same x.is_file.spelled in
    one-file y.tokens a b spelled y.is_file.spelled

-- texts spell one list of files
pub all-spelled-once : (texts : List Text) (a b : List RawDefs)
    → SpellFiles texts a → SpellFiles texts b → a ≡ b
all-spelled-once texts a b x y = zip-once SpellsFile spelled-once texts a b x y

-- a text is refused for one token, by one rule
pub token-once : (src : Text) (p q : ℕ) (c e : DefCode)
    → IsTokenRefusal src p c → IsTokenRefusal src q e → (p ≡ q) × (c ≡ e)
token-once src p q c e x y =
    let same : x.tokens ≡ y.tokens =
    one-list src 0 x.tokens y.tokens x.are_tokens y.are_tokens in
    let refusal = subst (λ (w : Tokens). IsRefusal DefText TooDeepDef w p x.syntax)
    same x.refusal in
    let u = refused-once y.tokens p q x.syntax y.syntax refusal y.refusal in
    (u.0, x.rule ∙ ap rule_of u.1 ∙ sym y.rule)
