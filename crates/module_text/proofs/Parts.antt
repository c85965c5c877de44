-- Results, uses, successors and arguments of blocks: what is written of them is read as them.
use Rattle.std.proofs.Common.{◌≡◌, ℕ, zero, suc, Bool, false, List, [], ◌∷◌, ◌++◌, length, map}
use Rattle.std.proofs.Common.{refl, None, append-nil}
use Rattle.std.specs.List.{AllByRecursion, AllZip}
use Rattle.attr_value.specs.Values.{Value}
use Rattle.derived_printer.specs.ModuleMarks.{value_name, block_name, results_marks, count_from}
use Rattle.derived_printer.specs.ModuleMarks.{argument_marks, arguments_marks, numbered}
use Rattle.derived_printer.specs.Spelling.{value_text, block_text}
use Rattle.derived_printer.specs.ValueMarks.{Marks, commas, in_parens, in_squares}
use Rattle.derived_printer.specs.ValueMarks.{unless_empty}
use Rattle.derived_printer.proofs.Signs.{pass-any, given-sign, given-before, given-behind}
use Rattle.derived_printer.proofs.Signs.{given-list, given-some}
use Rattle.generic_syntax.specs.declared.cst.NameCst.{NameCst}
use Rattle.generic_syntax.specs.declared.module_cst.ArgCst.{ArgCst}
use Rattle.generic_syntax.specs.declared.module_cst.NumberCst.{NumberCst}
use Rattle.generic_syntax.specs.declared.module_cst.ResultCst.{ResultCst}
use Rattle.generic_syntax.specs.declared.module_cst.UseCst.{UseCst}
use Rattle.generic_syntax.specs.ModuleForms.{OfModules, ModTree, ModSort, ◌then◌, sign_name}
use Rattle.generic_syntax.specs.Modules as modules
use Rattle.generic_syntax.specs.Names.{name_of}
use Rattle.generic_syntax.specs.Operations as op
use Rattle.generic_syntax.specs.Operations.{Customs}
use Rattle.grammar.specs.Grammar.{Tokens}
use Rattle.grammar.specs.Looks.{any_of}
use Rattle.grammar.specs.Rules.{opt}
use Rattle.ir_lexer.specs.declared.class.Class.TheVariants as c
use Rattle.ir_lexer.specs.Names.{name_bytes}
use Rattle.module_meaning.specs.WholeModules.{Loaded}
use Rattle.module_text.proofs.Nesting.{inside}
use Rattle.module_text.proofs.Numbers.{value_key, block_key, Named, value-word, block-word}
use Rattle.module_text.proofs.Ready.{TypeIsRight}
use Rattle.module_text.proofs.Values.{Spells, type-kid}
use Rattle.module_text.specs.WellFormed.{NamesAreSpellable}
use Rattle.text_layout.specs.Gives.{Gives}
use Rattle.text_layout.proofs.Gives.{gives-ret, gives-tok, gives-both, gives-left, gives-right}
use Rattle.text_layout.proofs.Gives.{gives-placed, gives-kid, gives-same}
use Rattle.text_layout.proofs.Tidy.{tidy-token}

-- a piece of the grammar of modules, where regions may nest so deep
abbrev pub Given : {A : Type 0} → Customs → ℕ → OfModules A → Marks → (A → Type 0) → Type 0
Given cs n g ms P = Gives (inside cs n) false g ms P

-- the name of a result is that of one value
abbrev pub IsResult : ResultCst → ℕ → Type 0
IsResult r i = (r.name ≡ value_key i) × (r.pack ≡ None)

-- a use means one value
abbrev pub IsUse : UseCst → ℕ → Type 0
IsUse u i = (u.name ≡ value_key i) × (u.number ≡ None)

-- a successor is that of a block
abbrev pub IsTarget : NameCst → ℕ → Type 0
IsTarget s k = s.name ≡ block_key k

-- an argument is that of a value, with its type
abbrev pub IsArgument : ArgCst → ℕ × Value → Type 0
IsArgument x a = (x.name ≡ value_key a.0) × Spells x.ty a.1

-- numbers that have names
abbrev pub AreNamed : List ℕ → Type 0
AreNamed ns = AllByRecursion Named ns

-- a piece and then a piece
module _ {Inside : (x : ModSort) → Tokens → ModTree x → Type 0} {none : Bool} where
  pub pair-given : {A B : Type 0} {g : OfModules A} {h : OfModules B} {ms ns : Marks}
      {P : A → Type 0} {Q : B → Type 0} → Gives Inside none g ms P → Gives Inside none h ns Q
      → Gives Inside none (g then h) (ms ++ ns) (λ x. P x.0 × Q x.1)
  pair-given x y = gives-both x y (λ a b p q. (p, q))

module _ (cs : Customs) (n : ℕ) where
  -- the name of a value
  name-given : (i : ℕ) → Named i
      → Given cs n (sign_name c.ValueName) (value_name i) (λ t. t ≡ value_key i)
  name-given i small =
      gives-tok false refl (any_of c.ValueName) (λ t. name_bytes t.text) c.ValueName (value_text i)
      (tidy-token c.ValueName (value_text i) (value-word i small) refl)
      (λ place. pass-any c.ValueName (value_text i) place) (λ place. refl)

  -- what is given of each number
  each-given : {A : Type 0} (g : OfModules A) (marks : ℕ → Marks) (R : A → ℕ → Type 0)
      → ((i : ℕ) → Named i → Given cs n g (marks i) (λ a. R a i)) → (ns : List ℕ) → AreNamed ns
      → AllByRecursion (λ i. Given cs n g (marks i) (λ a. R a i)) ns
  each-given g marks R one [] named = tt
  each-given g marks R one (i ∷ ns) (small, named) =
      (one i small, each-given g marks R one ns named)

  -- no number stands behind a name
  nothing-given : (g : OfModules NumberCst) → Given cs n (opt g) [] (λ o. o ≡ None)
  nothing-given g = gives-right (gives-ret None refl)

  -- ---- results

  result-given : (i : ℕ) → Named i → Given cs n op.result_name (value_name i) (λ r. IsResult r i)
  result-given i small = gives-placed
      (gives-same (append-nil (value_name i))
      (pair-given (name-given i small) (nothing-given _)))
      (λ place x q. q)

  pub results-given : (i k : ℕ) → AreNamed (count_from i k)
      → Given cs n op.result_names (results_marks i k) (λ rs. AllZip IsResult rs (count_from i k))
  results-given i zero named = gives-right (gives-ret [] tt)
  results-given i (suc k) (small, named) = gives-left (given-behind
      (given-some (inside cs n) false op.result_name value_name IsResult i (count_from (suc i) k)
      (result-given i small)
      (each-given op.result_name value_name IsResult result-given (count_from (suc i) k) named))
      (given-sign refl))

  -- ---- uses and successors

  use-given : (i : ℕ) → Named i → Given cs n op.operand (value_name i) (λ u. IsUse u i)
  use-given i small = gives-placed
      (gives-same (append-nil (value_name i))
      (pair-given (name-given i small) (nothing-given _)))
      (λ place x q. q)

  pub uses-given : (ns : List ℕ) → AreNamed ns
      → Given cs n op.operands (in_parens (commas (map value_name ns))) (λ us. AllZip IsUse us ns)
  uses-given ns named = given-before (given-sign refl) (given-behind
      (given-list (inside cs n) false op.operand value_name IsUse ns
      (each-given op.operand value_name IsUse use-given ns named))
      (given-sign refl))

  pub label-given : (k : ℕ) → Named k → Given cs n op.block_name (block_name k) (λ s. IsTarget s k)
  unfolding name_of
  label-given k small =
      gives-tok false refl (any_of c.BlockName) name_of c.BlockName (block_text k)
      (tidy-token c.BlockName (block_text k) (block-word k small) refl)
      (λ place. pass-any c.BlockName (block_text k) place) (λ place. refl)

  pub targets-given : (ks : List ℕ) → AreNamed ks
      → Given cs n op.successors (unless_empty ks (in_squares (commas (map block_name ks))))
      (λ ss. AllZip IsTarget ss ks)
  targets-given [] named = gives-right (gives-ret [] tt)
  targets-given (k ∷ ks) (small, named) = gives-left (given-before (given-sign refl) (given-behind
      (given-some (inside cs n) false op.block_name block_name IsTarget k ks (label-given k small)
      (each-given op.block_name block_name IsTarget label-given ks named))
      (given-sign refl)))

  -- ---- arguments of blocks

  module _ (loaded : Loaded) (names : NamesAreSpellable loaded) where
    argument-given : (i : ℕ) (t : Value) → Named i → TypeIsRight loaded t
        → Given cs n modules.argument (argument_marks (i, t)) (λ x. IsArgument x (i, t))
    argument-given i t small right = gives-placed
        (pair-given (name-given i small)
        (given-before (given-sign refl)
        (gives-kid (type-kid loaded names cs n t right) (λ u p. p))))
        (λ place x q. q)

    each-argument : (i : ℕ) (args : List Value) → AreNamed (count_from i (length args))
        → AllByRecursion (TypeIsRight loaded) args
        → AllByRecursion (λ a. Given cs n modules.argument (argument_marks a) (λ x. IsArgument x a))
        (numbered i args)
    each-argument i [] named right = tt
    each-argument i (t ∷ args) (small, named) (r, right) =
        (argument-given i t small r, each-argument (suc i) args named right)

    pub arguments-given : (i : ℕ) (args : List Value) → AreNamed (count_from i (length args))
        → AllByRecursion (TypeIsRight loaded) args
        → Given cs n modules.block_arguments (arguments_marks i args)
        (λ xs. AllZip IsArgument xs (numbered i args))
    arguments-given i [] named right = gives-right (gives-ret [] tt)
    arguments-given i (t ∷ args) named right = gives-left (given-before (given-sign refl)
        (given-behind
        (given-list (inside cs n) false modules.argument argument_marks IsArgument
        (numbered i (t ∷ args)) (each-argument i (t ∷ args) named right))
        (given-sign refl)))
