-- The forms of elements that were made.
use Rattle.std.proofs.Common.{◌≡◌, ℕ, List, sym, ◌∙◌, ap}
use Rattle.attr_value.specs.declared.kind.IntKind.{IntKind}
use Rattle.ir_lexer.specs.declared.class.Class.{Class}
use Rattle.ir_lexer.specs.Spelling.{Text}
use Rattle.dialect_defs.specs.declared.format.Element.{Element}
use Rattle.dialect_defs.specs.declared.format.ElementKind.{out-ElementKind, out-roll-ElementKind}
use Rattle.dialect_defs.specs.declared.format.ElementKind.TheVariants as kind
use Rattle.dialect_defs.specs.declared.format.ElementKind.TheOpen.{ElementKind-F}
use Rattle.dialect_defs.specs.declared.format.TypeArg.{TypeArg}
use Rattle.format_checker.specs.Columns.{form_of}

pub open-Word : (w : Text) → form_of (kind.Word w) ≡ ElementKind-F.Word w
open-Word w =
    ap out-ElementKind (sym (kind.rolls-Word w)) ∙ out-roll-ElementKind (ElementKind-F.Word w)

pub open-Punct : (class : Class) → form_of (kind.Punct class) ≡ ElementKind-F.Punct class
open-Punct class =
    ap out-ElementKind (sym (kind.rolls-Punct class)) ∙ out-roll-ElementKind (ElementKind-F.Punct class)

pub open-Space : form_of kind.Space ≡ ElementKind-F.Space
open-Space =
    ap out-ElementKind (sym kind.rolls-Space) ∙ out-roll-ElementKind ElementKind-F.Space

pub open-Newline : form_of kind.Newline ≡ ElementKind-F.Newline
open-Newline =
    ap out-ElementKind (sym kind.rolls-Newline) ∙ out-roll-ElementKind ElementKind-F.Newline

pub open-Empty : form_of kind.Empty ≡ ElementKind-F.Empty
open-Empty =
    ap out-ElementKind (sym kind.rolls-Empty) ∙ out-roll-ElementKind ElementKind-F.Empty

pub open-Operand : (i : ℕ) → form_of (kind.Operand i) ≡ ElementKind-F.Operand i
open-Operand i =
    ap out-ElementKind (sym (kind.rolls-Operand i)) ∙ out-roll-ElementKind (ElementKind-F.Operand i)

pub open-Attr : (i : ℕ) → form_of (kind.Attr i) ≡ ElementKind-F.Attr i
open-Attr i =
    ap out-ElementKind (sym (kind.rolls-Attr i)) ∙ out-roll-ElementKind (ElementKind-F.Attr i)

pub open-Region : (i : ℕ) → form_of (kind.Region i) ≡ ElementKind-F.Region i
open-Region i =
    ap out-ElementKind (sym (kind.rolls-Region i)) ∙ out-roll-ElementKind (ElementKind-F.Region i)

pub open-Successor : (i : ℕ) → form_of (kind.Successor i) ≡ ElementKind-F.Successor i
open-Successor i =
    ap out-ElementKind (sym (kind.rolls-Successor i)) ∙ out-roll-ElementKind (ElementKind-F.Successor i)

pub open-SymbolName : (i : ℕ) → form_of (kind.SymbolName i) ≡ ElementKind-F.SymbolName i
open-SymbolName i =
    ap out-ElementKind (sym (kind.rolls-SymbolName i)) ∙ out-roll-ElementKind (ElementKind-F.SymbolName i)

pub open-Types : (a : TypeArg) → form_of (kind.Types a) ≡ ElementKind-F.Types a
open-Types a =
    ap out-ElementKind (sym (kind.rolls-Types a)) ∙ out-roll-ElementKind (ElementKind-F.Types a)

pub open-Dict : form_of kind.Dict ≡ ElementKind-F.Dict
open-Dict =
    ap out-ElementKind (sym kind.rolls-Dict) ∙ out-roll-ElementKind ElementKind-F.Dict

pub open-DictKeyword : form_of kind.DictKeyword ≡ ElementKind-F.DictKeyword
open-DictKeyword =
    ap out-ElementKind (sym kind.rolls-DictKeyword) ∙ out-roll-ElementKind ElementKind-F.DictKeyword

pub open-IntText : (i : ℕ) (k : IntKind)
    → form_of (kind.IntText i k) ≡ ElementKind-F.IntText i k
open-IntText i k =
    ap out-ElementKind (sym (kind.rolls-IntText i k))
    ∙ out-roll-ElementKind (ElementKind-F.IntText i k)

pub open-Functional : (a b : TypeArg)
    → form_of (kind.Functional a b) ≡ ElementKind-F.Functional a b
open-Functional a b =
    ap out-ElementKind (sym (kind.rolls-Functional a b))
    ∙ out-roll-ElementKind (ElementKind-F.Functional a b)

pub open-Group : (first otherwise : List Element) (anchor : ℕ)
    → form_of (kind.Group first otherwise anchor) ≡ ElementKind-F.Group first otherwise anchor
open-Group first otherwise anchor =
    ap out-ElementKind (sym (kind.rolls-Group first otherwise anchor))
    ∙ out-roll-ElementKind (ElementKind-F.Group first otherwise anchor)
