-- The trees of modules that texts spell, and the refusals of texts that spell none.
--
-- A text has one list of tokens, and these are those of one module or are refused at one place.
use Rattle.std.proofs.Common.{◌≡◌, [], ◌∷◌, ◌++◌, ℕ, sym, ◌∙◌, ap, subst, append_assoc}
use Rattle.std.specs.declared.result.Result.{Result}
use Rattle.std.specs.declared.result.Result.TheVariants.{Ok, Err}
use Rattle.first_fault.specs.declared.fault.Fault.{Fault}
use Rattle.generic_syntax.specs.declared.module_cst.ModuleCst.{ModuleCst}
use Rattle.generic_syntax.specs.ModuleText.{ModText, TooDeepMod}
use Rattle.generic_syntax.specs.Operations.{no_customs}
use Rattle.generic_syntax.proofs.ModuleFiles.{front-module, module-ends, module-not-refused}
use Rattle.generic_syntax.proofs.ModuleFiles.{module-refused-once, one-module}
use Rattle.generic_syntax.proofs.ModuleTokens.{generic-decides}
use Rattle.grammar.specs.declared.stop.SyntaxCode.{SyntaxCode}
use Rattle.grammar.specs.declared.stop.SyntaxStop.{SyntaxStop}
use Rattle.grammar.specs.declared.stop.SyntaxStop.TheVariants.{At}
use Rattle.grammar.specs.Answers.{Told, Answered, IsRefusal}
use Rattle.grammar.specs.Front.{Front}
use Rattle.grammar.specs.Grammar.{Tokens}
use Rattle.ir_lexer.specs.Slice.{Tells}
use Rattle.ir_lexer.specs.Source.{Source}
use Rattle.ir_lexer.specs.Spelling.{Text}
use Rattle.ir_lexer.specs.Tokens.{AreTokens}
use Rattle.ir_lexer.proofs.Once.{end_is_last, one-list}
use Rattle.irdl_engine.specs.Modules.{SpellsModule, IsTokenFault, code_of_syntax}

-- ---- what is read of a text

-- a front of all tokens of a text that is a module takes all of them
front-spells : (src : Text) (ts : Tokens) (m : ModuleCst) (rest : Tokens)
    → AreTokens src ts → Front (ModText no_customs) (TooDeepMod no_customs) ts m rest
    → SpellsModule src m
front-spells src ts m rest all f =
    let e = module-ends no_customs f.front m f.tree in
    let cut : ts ≡ e.0 ++ e.1 ∷ rest =
    f.is ∙ ap (λ w. w ++ rest) e.2 ∙ append_assoc e.0 (e.1 ∷ []) rest in
    let all_cut = subst (λ (w : Tokens). AreTokens src w) cut all in
    let none = end_is_last src 0 e.0 e.1 rest all_cut e.3 in
    record { tokens = ts; are_tokens = all; is_module = front-module no_customs ts m rest f none }

module _ (s : Source) (src : Text) (r : Result ModuleCst SyntaxStop) (tells : Tells s src)
    (told : Told s (λ ts. Answered (ModText no_customs) (TooDeepMod no_customs) ts r)) where
  -- the answer is right for the text's tokens
  answer-of : (a : Result ModuleCst SyntaxStop) → r ≡ a
      → Answered (ModText no_customs) (TooDeepMod no_customs) (s.now ∷ tells.tokens.0) a
  answer-of a e =
      let right = told tells.tokens.0 tells.tokens.1 in
      subst (Answered (ModText no_customs) (TooDeepMod no_customs) (s.now ∷ tells.tokens.0))
      e right

  -- what is read of a text's tokens is what the text spells
  pub told-module : (m : ModuleCst) → r ≡ Ok m → SpellsModule src m
  told-module m e =
      let read = answer-of (Ok m) e in
      front-spells src (s.now ∷ tells.tokens.0) m read.0 tells.tokens.2 read.1

  -- what is refused of the tokens is refused of the text
  pub told-token : (place : ℕ) (code : SyntaxCode) (number : ℕ)
      → r ≡ Err (At place code) → number ≡ code_of_syntax code
      → IsTokenFault src (record { place = place; code = number })
  told-token place code number e is = record {
    tokens = s.now ∷ tells.tokens.0;
    are_tokens = tells.tokens.2;
    syntax = code;
    refusal = answer-of (Err (At place code)) e;
    code = is;
  }

-- ---- one answer

-- what a text spells isn't refused for a token
pub module-or-token : (src : Text) (m : ModuleCst) (f : Fault)
    → SpellsModule src m → IsTokenFault src f → ⊥
module-or-token src m f x r =
    let same : r.tokens ≡ x.tokens =
    one-list src 0 r.tokens x.tokens r.are_tokens x.are_tokens in
    let refusal = subst (λ (w : Tokens).
    IsRefusal (ModText no_customs) (TooDeepMod no_customs) w f.place r.syntax) same r.refusal in
    module-not-refused no_customs generic-decides x.tokens m f.place r.syntax x.is_module refusal

-- a text spells one module
pub module-once : (src : Text) (a b : ModuleCst) → SpellsModule src a → SpellsModule src b → a ≡ b
module-once src a b x y =
    let same : x.tokens ≡ y.tokens =
    one-list src 0 x.tokens y.tokens x.are_tokens y.are_tokens in
    let spelled = subst (λ (w : Tokens). ModText no_customs w a) same x.is_module.spelled in
    one-module no_customs generic-decides y.tokens a b spelled y.is_module.spelled

-- a text is refused for one token, by one rule
pub token-fault-once : (src : Text) (f g : Fault) → IsTokenFault src f → IsTokenFault src g → f ≡ g
token-fault-once src f g x y =
    let same : x.tokens ≡ y.tokens =
    one-list src 0 x.tokens y.tokens x.are_tokens y.are_tokens in
    let refusal = subst (λ (w : Tokens).
    IsRefusal (ModText no_customs) (TooDeepMod no_customs) w f.place x.syntax) same x.refusal in
    let u = module-refused-once no_customs generic-decides y.tokens f.place g.place x.syntax
    y.syntax refusal y.refusal in
    let code : f.code ≡ g.code = x.code ∙ ap code_of_syntax u.1 ∙ sym y.code in
    λ i. record { place = u.0 i; code = code i }
