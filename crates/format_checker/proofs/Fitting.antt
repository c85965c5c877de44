-- The columns fit the pieces, element by element: each is a test that computes.
use Rattle.std.proofs.Common.{◌≡◌, Bool, true, false, not, ◌&&◌, ◌||◌, List, [], ◌∷◌, ◌++◌, refl, if◌then◌else◌}
use Rattle.ir_lexer.specs.declared.class.Class.TheVariants as c
use Rattle.ir_lexer.specs.Classes.{same_class}
use Rattle.ir_lexer.specs.Tokens.{Token}
use Rattle.grammar.specs.Grammar.{tok, made, kid, nullable, starts}
use Rattle.grammar.specs.Looks.{any, any_of}
use Rattle.grammar.specs.OneToken.{by_looks, first_looks, more_looks, check}
use Rattle.grammar.proofs.Check.{starts-in, starts-back}
use Rattle.generic_syntax.specs.Pieces.{one_type}
use Rattle.dialect_defs.specs.declared.definition.OpDef.{OpDef}
use Rattle.dialect_defs.specs.declared.entry.Arity.{Arity}
use Rattle.dialect_defs.specs.declared.entry.Arity.TheVariants as arity
use Rattle.dialect_defs.specs.declared.format.ElementKind.TheOpen.{ElementKind-F}
use Rattle.dialect_defs.specs.declared.format.TypeArg.{TypeArg}
use Rattle.dialect_defs.specs.declared.format.TypeArg.TheVariants as arg
use Rattle.format_checker.specs.declared.look.Look.{Look}
use Rattle.format_checker.specs.declared.look.Look.TheVariants as look
use Rattle.format_checker.specs.Columns.{Kind, arity_at, has_single, is_single, is_optional, is_unit, no_type, comma_of, type_looks, type_opens, attr_looks, attr_opens, number_looks, counts_empty, counts_starts, counts_open}
use Rattle.format_checker.specs.Pieces.{Rule, value, inner_looks, inner_more_looks, name_at, a_use, digits, several, of_all, maybe, attribute, types, piece}
use Rattle.format_checker.specs.Fits.{looks, can_anchor, Fits}
use Rattle.format_checker.proofs.Covered.{all_covered, any-covered, same-truth}

-- What a grammar's own tests say, as columns.
pub record Fit {A : Type 0} (g : Rule A) (empty : Bool) (first more : List Look) : Type 0 where
  pub null : nullable g ≡ empty
  pub begins : (t : Token) → starts (by_looks inner_looks) g t ≡ any (looks first) t
  pub goes : (t : Token) → any (more_looks inner_looks inner_more_looks g) t ≡ true
      → any (any_of c.ResultNumber ∷ (looks more ++ (if empty then looks first else []))) t ≡ true
  pub decided : check inner_looks inner_more_looks g ≡ true

-- by tests that compute
fit : {A : Type 0} (g : Rule A) (empty : Bool) (first more : List Look) → nullable g ≡ empty
    → all_covered (first_looks inner_looks g) (looks first) ≡ true
    → all_covered (looks first) (first_looks inner_looks g) ≡ true
    → all_covered (more_looks inner_looks inner_more_looks g)
    (any_of c.ResultNumber ∷ (looks more ++ (if empty then looks first else []))) ≡ true
    → check inner_looks inner_more_looks g ≡ true → Fit g empty first more
fit g empty first more null there back goes decided = record {
  null = null;
  begins = λ t. same-truth _ _
      (λ h. any-covered (first_looks inner_looks g) (looks first) t there
      (starts-in inner_looks inner_more_looks g t h))
      (λ h. starts-back inner_looks inner_more_looks g t
      (any-covered (looks first) (first_looks inner_looks g) t back h));
  goes = λ t h. any-covered (more_looks inner_looks inner_more_looks g) _ t goes h;
  decided = decided;
}

uses : (anchor : Bool) (a : Arity) → Fit (several a anchor a_use) (not anchor && not (is_single a))
    (look.Value ∷ []) (comma_of a)
unfolding same_class
uses true arity.Single = fit _ _ _ _ refl refl refl refl refl
uses false arity.Single = fit _ _ _ _ refl refl refl refl refl
uses true arity.Optional = fit _ _ _ _ refl refl refl refl refl
uses false arity.Optional = fit _ _ _ _ refl refl refl refl refl
uses true arity.Variadic = fit _ _ _ _ refl refl refl refl refl
uses false arity.Variadic = fit _ _ _ _ refl refl refl refl refl

-- as many types as an arity allows
of_arity : (anchor : Bool) (a : Arity) → Fit (several a anchor (kid (value one_type) (λ v. v)))
    (not anchor && not (is_single a)) type_looks (look.Punct c.Less ∷ comma_of a)
unfolding same_class
of_arity true arity.Single = fit _ _ _ _ refl refl refl refl refl
of_arity false arity.Single = fit _ _ _ _ refl refl refl refl refl
of_arity true arity.Optional = fit _ _ _ _ refl refl refl refl refl
of_arity false arity.Optional = fit _ _ _ _ refl refl refl refl refl
of_arity true arity.Variadic = fit _ _ _ _ refl refl refl refl refl
of_arity false arity.Variadic = fit _ _ _ _ refl refl refl refl refl

-- the types of all entries
of_entries : (some : Bool) → Fit (of_all some (kid (value one_type) (λ v. v))) (not some) type_looks
    (look.Punct c.Less ∷ look.Punct c.Comma ∷ [])
unfolding same_class
of_entries true = fit _ _ _ _ refl refl refl refl refl
of_entries false = fit _ _ _ _ refl refl refl refl refl

-- an attribute, by whether it is the anchor, a unit, and one that may be missing
of_attribute : (anchor unit missing : Bool) → Fit (attribute (anchor && unit) (not anchor && missing))
    (if anchor then unit else missing) (if not anchor || not unit then attr_looks else [])
    (if not anchor || not unit then attr_opens else [])
unfolding same_class
of_attribute true true missing = fit _ _ _ _ refl refl refl refl refl
of_attribute true false missing = fit _ _ _ _ refl refl refl refl refl
of_attribute false unit true = fit _ _ _ _ refl refl refl refl refl
of_attribute false unit false = fit _ _ _ _ refl refl refl refl refl

-- a symbol's name
of_symbol : (missing : Bool) → Fit (maybe missing (tok false (any_of c.SymbolName) name_at)) missing
    (look.Symbol ∷ []) []
unfolding same_class
of_symbol true = fit _ _ _ _ refl refl refl refl refl
of_symbol false = fit _ _ _ _ refl refl refl refl refl

-- digits
of_digits : (missing : Bool) → Fit (maybe missing digits) missing number_looks []
unfolding same_class
of_digits true = fit _ _ _ _ refl refl refl refl refl
of_digits false = fit _ _ _ _ refl refl refl refl refl

-- a piece that stands for something else
as-made : {A B : Type 0} {f : A → B} {g : Rule A} {empty : Bool} {first more : List Look}
    → Fit g empty first more → Fit (made f g) empty first more
as-made x = record { null = x.null; begins = x.begins; goes = x.goes; decided = x.decided }

or-none : (b : Bool) → b ≡ (b || false)
or-none true = refl
or-none false = refl

-- the columns fit the piece
as-fits : (op : OpDef) (anchor : Bool) (k : Kind)
    → Fit (piece op anchor k) (counts_empty op anchor k) (counts_starts op anchor k)
    (counts_open op anchor k)
    → Fits op anchor k
as-fits op anchor k x =
    record { empty = x.null; begins = x.begins; goes = x.goes; decided = x.decided }

fit-types : (op : OpDef) (anchor : Bool) (a : TypeArg)
    → Fit (types op anchor a) (not anchor && no_type op a) type_looks (type_opens op a)
fit-types op anchor (arg.Operand i) = as-made (of_arity anchor (arity_at op.operands i))
fit-types op anchor (arg.Result i) = as-made (of_arity anchor (arity_at op.results i))
fit-types op true arg.AllOperands = as-made (of_entries true)
fit-types op false arg.AllOperands = as-made (of_entries (has_single op.operands))
fit-types op true arg.AllResults = as-made (of_entries true)
fit-types op false arg.AllResults = as-made (of_entries (has_single op.results))

-- where an element is no anchor
plain : (op : OpDef) (k : Kind) → Fits op false k
unfolding same_class
plain op (ElementKind-F.Word w) = record {
  empty = refl;
  begins = λ t. or-none _;
  goes = λ t h. absurd (cc);
  decided = refl;
}
plain op (ElementKind-F.Punct class) = record {
  empty = refl;
  begins = λ t. or-none _;
  goes = λ t h. absurd (cc);
  decided = refl;
}
plain op ElementKind-F.Space = as-fits _ _ _ (fit _ _ _ _ refl refl refl refl refl)
plain op ElementKind-F.Newline = as-fits _ _ _ (fit _ _ _ _ refl refl refl refl refl)
plain op ElementKind-F.Empty = as-fits _ _ _ (fit _ _ _ _ refl refl refl refl refl)
plain op (ElementKind-F.Operand i) = as-fits _ _ _ (as-made (uses false (arity_at op.operands i)))
plain op (ElementKind-F.Attr i) =
    as-fits _ _ _ (of_attribute false (is_unit op i) (is_optional op i))
plain op (ElementKind-F.Region i) = as-fits _ _ _ (fit _ _ _ _ refl refl refl refl refl)
plain op (ElementKind-F.Successor i) = as-fits _ _ _ (fit _ _ _ _ refl refl refl refl refl)
plain op (ElementKind-F.SymbolName i) = as-fits _ _ _ (as-made (of_symbol (is_optional op i)))
plain op (ElementKind-F.IntText i k) = as-fits _ _ _ (as-made (of_digits (is_optional op i)))
plain op (ElementKind-F.Types a) = as-fits _ _ _ (fit-types op false a)
plain op (ElementKind-F.Functional a b) = as-fits _ _ _ (fit _ _ _ _ refl refl refl refl refl)
plain op ElementKind-F.Dict = as-fits _ _ _ (fit _ _ _ _ refl refl refl refl refl)
plain op ElementKind-F.DictKeyword = as-fits _ _ _ (fit _ _ _ _ refl refl refl refl refl)
plain op (ElementKind-F.Group first otherwise a) =
    as-fits _ _ _ (fit _ _ _ _ refl refl refl refl refl)

-- where it is one
anchored : (op : OpDef) (k : Kind) → can_anchor k ≡ true → Fits op true k
anchored op (ElementKind-F.Operand i) h = as-fits _ _ _ (as-made (uses true (arity_at op.operands i)))
anchored op (ElementKind-F.Attr i) h =
    as-fits _ _ _ (of_attribute true (is_unit op i) (is_optional op i))
anchored op (ElementKind-F.SymbolName i) h = as-fits _ _ _ (as-made (of_symbol false))
anchored op (ElementKind-F.IntText i k) h = as-fits _ _ _ (as-made (of_digits false))
anchored op (ElementKind-F.Types a) h = as-fits _ _ _ (fit-types op true a)
anchored op _ h = absurd (cc)

-- the columns fit each piece
pub fits : (op : OpDef) (anchor : Bool) (k : Kind) → (anchor ≡ true → can_anchor k ≡ true)
    → Fits op anchor k
fits op true k h = anchored op k (h refl)
fits op false k h = plain op k
