-- A module ends at the end, is one module, and isn't refused; any other text is refused once.
--
-- Each is the theorem on grammars that one token decides, for the grammar of modules with any
-- custom forms with which one does.
use Rattle.std.proofs.Common.{◌≡◌, ◌==◌, ℕ, [], ◌∷◌, ◌++◌, sym, ◌∙◌, ap, subst, append-nil}
use Rattle.generic_syntax.specs.declared.module_cst.ModuleCst.{ModuleCst}
use Rattle.generic_syntax.specs.declared.pieces.TheConstants.{ROOM}
use Rattle.generic_syntax.specs.Modules.{file}
use Rattle.generic_syntax.specs.ModuleText.{ModText, TooDeepMod, IsModule}
use Rattle.generic_syntax.specs.Operations.{Customs}
use Rattle.grammar.specs.declared.stop.SyntaxCode.{SyntaxCode}
use Rattle.grammar.specs.Answers.{IsRefusal}
use Rattle.grammar.specs.Exact.{HasMore}
use Rattle.grammar.specs.Front.{Shallow, Some_of, Front}
use Rattle.grammar.specs.Grammar.{Tokens}
use Rattle.grammar.specs.Looks.{any_of}
use Rattle.grammar.specs.Rules.{whole}
use Rattle.grammar.proofs.Fronts.{front-no-refusal, one-refusal}
use Rattle.grammar.proofs.Known.{trees-of, known-seen, grammar-one-tree}
use Rattle.grammar.proofs.Meet.{passes-class}
use Rattle.ir_lexer.specs.declared.class.Class.TheVariants.{End}
use Rattle.ir_lexer.specs.Tokens.{Token}
use Rattle.generic_syntax.proofs.Regions.{Decides, modules-known}

-- the last token of a module is the end
pub module-ends : (cs : Customs) (ts : Tokens) (m : ModuleCst) → ModText cs ts m
    → (front : Tokens) × (t : Token) × (ts ≡ front ++ t ∷ []) × (t.class ≡ End)
unfolding ModText
module-ends cs ts m (front, back, b, c, is, f, (t, is_last, passed, e2), e) =
    (front, t, is ∙ ap (λ w. front ++ w) is_last, passes-class (any_of End) t passed)

-- a whole module is the front of its tokens
pub module-front : (cs : Customs) (ts : Tokens) (m : ModuleCst) → IsModule cs ts m
    → Front (ModText cs) (TooDeepMod cs) ts m []
module-front cs ts m x =
    record {
      front = ts;
      is = sym (append-nil ts);
      tree = x.spelled;
      barred = λ t more e at y. absurd (cc);
      shallow = x.shallow;
    }

-- a front that takes all tokens is a whole module
pub front-module : (cs : Customs) (ts : Tokens) (m : ModuleCst) (rest : Tokens)
    → Front (ModText cs) (TooDeepMod cs) ts m rest → rest ≡ [] → IsModule cs ts m
front-module cs ts m rest f none =
    let e : ts ≡ f.front = f.is ∙ ap (λ w. f.front ++ w) none ∙ append-nil f.front in
    record {
      spelled = subst (λ (w : Tokens). ModText cs w m) (sym e) f.tree;
      shallow = subst (λ (w : Tokens). Shallow (TooDeepMod cs) w) (sym e) f.shallow;
    }

module _ (cs : Customs) (d : Decides cs) where
  -- what is too deep has more
  pub module-seen : (p : Tokens) → TooDeepMod cs p → HasMore (Some_of (ModText cs)) p
  unfolding ModText TooDeepMod
  module-seen p x =
      known-seen (modules-known cs d ROOM) (ROOM == 0) (whole (file cs)) d.file_one p x

  -- tokens spell one module
  pub one-module : (ts : Tokens) (a b : ModuleCst) → ModText cs ts a → ModText cs ts b → a ≡ b
  unfolding ModText
  one-module ts a b x y =
      grammar-one-tree (trees-of (modules-known cs d ROOM)) (whole (file cs)) d.file_one ts a b x y

  -- the tokens of a module are not refused
  pub module-not-refused : (ts : Tokens) (m : ModuleCst) (place : ℕ) (code : SyntaxCode)
      → IsModule cs ts m → IsRefusal (ModText cs) (TooDeepMod cs) ts place code → ⊥
  module-not-refused ts m place code x r =
      front-no-refusal (ModText cs) (TooDeepMod cs) module-seen ts m [] place code
      (module-front cs ts m x) r

  -- tokens are refused at one place, with one code
  pub module-refused-once : (ts : Tokens) (p q : ℕ) (c e : SyntaxCode)
      → IsRefusal (ModText cs) (TooDeepMod cs) ts p c
      → IsRefusal (ModText cs) (TooDeepMod cs) ts q e → (p ≡ q) × (c ≡ e)
  module-refused-once ts p q c e x y =
      one-refusal (ModText cs) (TooDeepMod cs) module-seen ts p q c e x y
