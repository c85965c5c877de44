-- The round trip of modules.
--
-- All tokens that are spelled as a module's marks, with the end behind them, are read as the
-- module; the lexer gives such tokens from the text; and since a text has one list of tokens, that
-- one tree, and a tree at most one module, modules with the same text are equal.
use Rattle.std.proofs.Common.{◌≡◌, ℕ, ◌<◌, ◌≤◌, ◌^◌, ◌==◌, true, List, [], ◌∷◌, ◌++◌, length, refl}
use Rattle.std.proofs.Common.{sym, subst, arith, append-nil, Contains}
use Rattle.std.specs.List.{AllByRecursion}
use Rattle.derived_printer.specs.ReadBack.{HasTokensOf}
use Rattle.derived_printer.proofs.RoundTrip.{tidy-tokens}
use Rattle.generic_syntax.specs.declared.module_cst.ModuleCst.{ModuleCst}
use Rattle.generic_syntax.specs.declared.module_cst.OpCst.{OpCst}
use Rattle.generic_syntax.specs.declared.pieces.TheConstants.{ROOM}
use Rattle.generic_syntax.specs.Modules.{file, module_of}
use Rattle.generic_syntax.specs.ModuleText.{IsModule}
use Rattle.generic_syntax.specs.Operations.{Customs, no_customs, ops}
use Rattle.generic_syntax.proofs.ModuleFiles.{one-module}
use Rattle.generic_syntax.proofs.ModuleTokens.{generic-decides}
use Rattle.generic_syntax.proofs.Regions.{Decides}
use Rattle.grammar.specs.Grammar.{Tokens}
use Rattle.grammar.specs.Looks.{any_of, passes}
use Rattle.grammar.specs.Rules.{whole}
use Rattle.grammar.specs.Within.{Within}
use Rattle.ir_lexer.specs.declared.class.Class.TheVariants as c
use Rattle.ir_lexer.specs.Spelling.{Text}
use Rattle.ir_lexer.specs.Tokens.{Token, AreTokens}
use Rattle.ir_lexer.proofs.Machine.{same-class-refl}
use Rattle.ir_lexer.proofs.Once.{one-list}
use Rattle.ir_store.specs.Modules.{types_in}
use Rattle.module_meaning.specs.AliasValues.{no_aliases}
use Rattle.module_meaning.specs.Completes.{AreTypes, Completes, HaveDistinctOps, ModuleSays, OpsSay}
use Rattle.module_meaning.specs.Facts.{CustomForms, no_forms}
use Rattle.module_meaning.specs.Names.{Env, inside, nowhere}
use Rattle.module_meaning.specs.WholeModules.{WholeModule, Loaded, own_numbers}
use Rattle.module_meaning.proofs.OneCompletes.{generic-typing}
use Rattle.module_meaning.proofs.OneModule.{one-completed}
use Rattle.module_text.proofs.Lists.{of-all, own-below}
use Rattle.module_text.proofs.Nesting as nesting
use Rattle.module_text.proofs.Nesting.{module-inside}
use Rattle.module_text.proofs.Numbers.{value_key, values-differ}
use Rattle.module_text.proofs.OneOperation.{Sees}
use Rattle.module_text.proofs.Parts.{Given}
use Rattle.module_text.proofs.Ready.{module-ready}
use Rattle.module_text.proofs.Scopes.{seen-inside}
use Rattle.module_text.proofs.Trees.{OpsHave, values_scope}
use Rattle.module_text.proofs.Whole.{top-given}
use Rattle.module_text.specs.ReadAgain.{IsReadAsModule, IsTextOfModule, text_marks}
use Rattle.module_text.specs.WellFormed.{IsWellFormed, NamesAreSpellable}
use Rattle.symbol_scopes.specs.Regions.{RegionScope}
use Rattle.text_layout.specs.Gives.{MarksSpell}
use Rattle.text_layout.specs.Lines.{layout}

-- ---- the top of a module

-- what names mean there
abbrev top_env : WholeModule → Env
top_env m = inside nowhere (values_scope (own_numbers 0 m)) []

-- names mean the values of top level, and there is no block
top-sees : (loaded : Loaded) (forms : CustomForms) (m : WholeModule)
    → length (types_in m) ≤ 2 ^ 64
    → Sees loaded forms (types_in m) (top_env m) (own_numbers 0 m) 0
top-sees loaded forms m few = record {
  values = λ i has. seen-inside value_key (length (types_in m))
      (λ i j a b e. values-differ i j (omega arith) (omega arith) e) [] (own_numbers 0 m) [] own
      (λ i none. absurd (omega (arith, none.1))) i (low i has)
      (subst (λ (l : List ℕ). Contains l i) (sym (append-nil (own_numbers 0 m))) has);
  low = low;
  labels = λ b p l. absurd (omega (arith, l));
  few = omega arith;
}
  where
    own : AllByRecursion (λ k. k < length (types_in m)) (own_numbers 0 m)
    own = own-below 0 (length (types_in m)) m (omega arith)

    low : (i : ℕ) → Contains (own_numbers 0 m) i → i < length (types_in m)
    low i has = of-all (λ k. k < length (types_in m)) (own_numbers 0 m) i own has

-- the tokens, up to and with the end, spell a tree that the module completes, where operations may
-- have these custom forms, which tell so
pub record IsReadIn (cs : Customs) (loaded : Loaded) (forms : CustomForms) (m : WholeModule)
    (ts : Tokens) : Type 0 where
  pub tree : ModuleCst
  pub read : IsModule cs ts tree
  pub completes : Completes loaded forms tree m

-- the end passes
passes-end : (end : Token) → end.class ≡ c.End → passes (any_of c.End) end ≡ true
passes-end end e = rw e (rw (same-class-refl c.End) refl)

-- whatever custom forms operations may have, with which one token decides
module _ (cs : Customs) (decides : Decides cs) (loaded : Loaded) (forms : CustomForms)
    (m : WholeModule) (names : NamesAreSpellable loaded) (formed : IsWellFormed loaded m) where
  -- the operations are read as they are written
  ops-read : Given cs 64 (ops cs) (text_marks loaded m)
      (OpsHave loaded forms (types_in m) (top_env m) 0 m)
  ops-read =
      let r = module-ready loaded m formed in
      top-given cs loaded forms names (types_in m) r.right formed.storable.values 64 (top_env m)
      (own_numbers 0 m) m r tt (top-sees loaded forms m formed.storable.values)

  -- they complete the trees of the module
  module-says : (os : List OpCst) → OpsHave loaded forms (types_in m) (top_env m) 0 m os
      → ModuleSays loaded forms no_aliases os m
  module-says os h = subst (λ (s : RegionScope). OpsSay loaded forms no_aliases
      (AreTypes (types_in m)) (inside nowhere s []) 0 os m) (sym h.scope) h.says

  -- with the end behind them, operations are a file
  file-within : (ts : Tokens) (end : Token) (os : List OpCst) → end.class ≡ c.End
      → Within (nesting.inside cs ROOM) (ROOM == 0) (ops cs) ts os
      → Within (nesting.inside cs ROOM) (ROOM == 0) (whole (file cs)) (ts ++ end ∷ [])
      (module_of [] os)
  file-within ts end os e d = (
    ts,
    end ∷ [],
    module_of [] os,
    tt,
    refl,
    ([], ts, [], os, refl, ([], refl, refl), d, refl),
    (end, refl, passes-end end e, refl, refl),
    refl,
  )

  -- The tokens of a module, with the end behind them, are read as the module.
  pub read-in : (ts : Tokens) (end : Token) → MarksSpell (text_marks loaded m) ts
      → end.class ≡ c.End → IsReadIn cs loaded forms m (ts ++ end ∷ [])
  read-in ts end s e =
      let (os, d, p) = ops-read.tree ts s in
      record {
        tree = module_of [] os;
        read = module-inside cs decides (ts ++ end ∷ []) (module_of [] os)
            (file-within ts end os e d);
        completes = record {
          aliases = tt;
          proper = formed.proper;
          says = module-says os p;
        };
      }

-- ---- without custom forms

module _ (loaded : Loaded) (m : WholeModule) (names : NamesAreSpellable loaded)
    (formed : IsWellFormed loaded m) where
  -- the tokens are read as the module, whatever custom forms tell
  generic-in : (forms : CustomForms) (ts : Tokens) (end : Token)
      → MarksSpell (text_marks loaded m) ts → end.class ≡ c.End
      → IsReadIn no_customs loaded forms m (ts ++ end ∷ [])
  generic-in forms = read-in no_customs generic-decides loaded forms m names formed

  -- these have one tree
  pub module-back : (ts : Tokens) (end : Token) → MarksSpell (text_marks loaded m) ts
      → end.class ≡ c.End → IsReadAsModule loaded m (ts ++ end ∷ [])
  module-back ts end s e =
      let first = generic-in no_forms ts end s e in
      record {
        tree = first.tree;
        read = first.read;
        completes = λ forms. (let other = generic-in forms ts end s e in
            let same : other.tree ≡ first.tree =
            one-module no_customs generic-decides (ts ++ end ∷ []) other.tree first.tree
            other.read.spelled first.read.spelled in
            subst (λ (t : ModuleCst). Completes loaded forms t m) same other.completes);
      }

  -- the text of a module has its tokens
  pub tokens-back : HasTokensOf (text_marks loaded m) (layout (text_marks loaded m))
  tokens-back = tidy-tokens (text_marks loaded m)
      (ops-read no_customs generic-decides loaded no_forms m names formed).tidy

  -- and is read as it
  pub text-back : IsTextOfModule loaded m (layout (text_marks loaded m))
  text-back =
      let x = tokens-back in
      record {
        tokens = x.front ++ x.end ∷ [];
        are = x.are;
        read = module-back x.front x.end x.spell x.ends;
      }

-- ---- equal modules

-- modules that the same tokens are read as are equal
same-read : (loaded : Loaded) (m n : WholeModule) → HaveDistinctOps loaded.ops → (ts : Tokens)
    → IsReadAsModule loaded m ts → IsReadAsModule loaded n ts → m ≡ n
same-read loaded m n distinct ts x y =
    let same : x.tree ≡ y.tree =
    one-module no_customs generic-decides ts x.tree y.tree x.read.spelled y.read.spelled in
    one-completed loaded no_forms distinct (generic-typing loaded) y.tree m n
    (subst (λ (t : ModuleCst). Completes loaded no_forms t m) same (x.completes no_forms))
    (y.completes no_forms)

-- modules with the same text are equal
pub same-text : (loaded : Loaded) (m n : WholeModule) → NamesAreSpellable loaded
    → HaveDistinctOps loaded.ops → IsWellFormed loaded m → IsWellFormed loaded n
    → layout (text_marks loaded m) ≡ layout (text_marks loaded n) → m ≡ n
same-text loaded m n names distinct w v e =
    let x = text-back loaded m names w in
    let y = text-back loaded n names v in
    let one : x.tokens ≡ y.tokens =
    one-list (layout (text_marks loaded m)) 0 x.tokens y.tokens x.are
    (subst (λ (t : Text). AreTokens t y.tokens) (sym e) y.are) in
    same-read loaded m n distinct y.tokens
    (subst (IsReadAsModule loaded m) one x.read) y.read
