-- The generic form of an operation: what is written of it is read as a form with its parts.
use Rattle.std.proofs.Common.{◌≡◌, ℕ, false, List, [], ◌∷◌, refl, sym, subst}
use Rattle.std.specs.List.{AllByRecursion, AllZip}
use Rattle.derived_printer.specs.ModuleMarks.{View, generic_marks, dict_marks}
use Rattle.derived_printer.specs.Spellable.{AreBytes}
use Rattle.derived_printer.specs.Spelling.{string_text}
use Rattle.derived_printer.specs.ValueMarks.{commas, in_parens, unless_empty}
use Rattle.derived_printer.proofs.Signs.{pass-any, given-sign, given-before}
use Rattle.derived_printer.proofs.Spelled.{string-spelled}
use Rattle.derived_printer.proofs.Strings.{string-back}
use Rattle.dialect_defs.specs.Operations.{Attrs}
use Rattle.generic_syntax.specs.declared.module_cst.BlockCst.{BlockCst}
use Rattle.generic_syntax.specs.declared.module_cst.CustomCst.{CustomCst}
use Rattle.generic_syntax.specs.declared.module_cst.FormCst.{FormCst}
use Rattle.generic_syntax.specs.declared.module_cst.GenericCst.{GenericCst, GenericCst-F}
use Rattle.generic_syntax.specs.declared.module_cst.GenericCst.{out-GenericCst, out-roll-GenericCst}
use Rattle.generic_syntax.specs.declared.module_cst.OpCst.{OpCst}
use Rattle.generic_syntax.specs.declared.module_cst.PartCst.{PartCst}
use Rattle.generic_syntax.specs.declared.module_cst.RegionCst.{RegionCst}
use Rattle.generic_syntax.specs.ModuleForms.{of_values}
use Rattle.generic_syntax.specs.Operations as op
use Rattle.generic_syntax.specs.Operations.{Customs, GenericParts, generic_of}
use Rattle.generic_syntax.specs.Pieces.{dictionary}
use Rattle.grammar.specs.Looks.{any_of}
use Rattle.ir_lexer.specs.declared.class.Class.TheVariants as c
use Rattle.ir_lexer.specs.Names.{literal_bytes}
use Rattle.ir_lexer.specs.Spelling.{Text}
use Rattle.module_meaning.specs.WholeModules.{Loaded}
use Rattle.module_text.proofs.Nesting.{inside}
use Rattle.module_text.proofs.Parts.{Given, IsUse, IsTarget, AreNamed, pair-given, uses-given}
use Rattle.module_text.proofs.Parts.{targets-given}
use Rattle.module_text.proofs.Ready.{TypeIsRight}
use Rattle.module_text.proofs.Values.{Spells, EntryIs, types-kid, outs-kid}
use Rattle.module_text.specs.WellFormed.{NamesAreSpellable}
use Rattle.text_layout.specs.Gives.{GivesKid}
use Rattle.text_layout.specs.Lines.{token}
use Rattle.text_layout.proofs.Gives.{gives-ret, gives-tok, gives-left, gives-right, gives-made}
use Rattle.text_layout.proofs.Gives.{gives-kid}
use Rattle.text_layout.proofs.Tidy.{tidy-token}

-- one level of a generic form
abbrev pub GenericSeen : Type 0
GenericSeen = GenericCst-F FormCst PartCst BlockCst CustomCst GenericCst OpCst RegionCst

-- The form has the parts of what is shown. Of its regions this is said apart.
pub record HasParts (v : View) (Regions : List RegionCst → Type 0) (s : GenericSeen) : Type 0 where
  pub name : s.name ≡ v.name
  pub uses : AllZip IsUse s.operands v.operands
  pub targets : AllZip IsTarget s.successors v.successors
  pub no_props : s.props ≡ []
  pub regions : Regions s.regions
  pub attrs : AllZip EntryIs s.attrs v.attrs
  pub inputs : AllZip Spells s.inputs v.operand_types
  pub outputs : AllZip Spells s.outputs v.result_types

module _ (cs : Customs) (n : ℕ) where
  -- the name as a string
  string-given : (name : Text) → AreBytes name
      → Given cs n op.string_name (token c.Str (string_text name) ∷ []) (λ t. t ≡ name)
  string-given name bytes =
      gives-tok false refl (any_of c.Str) (λ t. literal_bytes t.text) c.Str (string_text name)
      (tidy-token c.Str (string_text name) (string-spelled name bytes) refl)
      (λ place. pass-any c.Str (string_text name) place) (λ place. string-back name bytes)

  -- attributes, where there are some
  pub attrs-given : (attrs : Attrs)
      → GivesKid (inside cs n) (of_values dictionary) (dict_marks attrs)
      (λ es. AllZip EntryIs es attrs)
      → Given cs n op.attributes (unless_empty attrs (dict_marks attrs))
      (λ es. AllZip EntryIs es attrs)
  attrs-given [] x = gives-right (gives-ret [] tt)
  attrs-given (a ∷ attrs) x = gives-left (gives-kid x (λ es p. p))

  -- what a form is made of
  abbrev PartsAre : View → (List RegionCst → Type 0) → GenericParts → Type 0
  PartsAre v Regions x =
      (x.0 ≡ v.name)
      × (AllZip IsUse x.1.0 v.operands
      × (AllZip IsTarget x.1.1.0 v.successors
      × ((x.1.1.1.0 ≡ [])
      × (Regions x.1.1.1.1.0
      × (AllZip EntryIs x.1.1.1.1.1.0 v.attrs
      × (AllZip Spells x.1.1.1.1.1.1.0 v.operand_types
      × AllZip Spells x.1.1.1.1.1.1.1 v.result_types))))))

  made : (v : View) (Regions : List RegionCst → Type 0) (x : GenericParts) → PartsAre v Regions x
      → HasParts v Regions (out-GenericCst (generic_of x))
  made v Regions (name, (uses, (targets, (props, (regions, (attrs, types))))))
      (a, (b, (d, (e, (f, (g, (h, i))))))) =
      subst (HasParts v Regions) (sym (out-roll-GenericCst _)) (record {
        name = a;
        uses = b;
        targets = d;
        no_props = e;
        regions = f;
        attrs = g;
        inputs = h;
        outputs = i;
      })

  module _ (loaded : Loaded) (names : NamesAreSpellable loaded) where
    -- what is written of an operation behind its results is read as a form with its parts
    pub generic-given : (v : View) (Regions : List RegionCst → Type 0) → AreBytes v.name
        → AreNamed v.operands → AreNamed v.successors
        → Given cs n op.regions (unless_empty v.regions (in_parens (commas v.regions))) Regions
        → GivesKid (inside cs n) (of_values dictionary) (dict_marks v.attrs)
        (λ es. AllZip EntryIs es v.attrs)
        → AllByRecursion (TypeIsRight loaded) v.operand_types
        → AllByRecursion (TypeIsRight loaded) v.result_types
        → Given cs n op.generic (generic_marks v) (λ g. HasParts v Regions (out-GenericCst g))
    generic-given v Regions bytes operands successors regions attrs inputs outputs =
        gives-made
        (pair-given (string-given v.name bytes)
        (pair-given (uses-given cs n v.operands operands)
        (pair-given (targets-given cs n v.successors successors)
        (pair-given {ms = []} (gives-right (gives-ret [] refl))
        (pair-given regions
        (pair-given (attrs-given v.attrs attrs)
        (given-before (given-sign refl)
        (pair-given (gives-kid (types-kid loaded names cs n v.operand_types inputs) (λ us p. p))
        (given-before (given-sign refl)
        (gives-kid (outs-kid loaded names cs n v.result_types outputs) (λ us p. p)))))))))))
        (made v Regions)
