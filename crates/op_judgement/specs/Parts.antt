-- What is found of the values of an operation in generic form, together.
--
--   IsGenericFault loaded al g f     a type, an attribute or a key of the form is at fault
--   AreTypesFound .. g now types     the first fault of the types, and where there is none the ids
--   AreAttrs .. es now keys values   keys and values are the entries' attributes, by ascending key
--   ArePartsOf .. g now parts        the ids are those of what the form shows, without a fault
--   IsPartsOrFault .. g now found    so it is, or the first fault is found
--   IsShownBy now g parts o          o is what the form shows, by these ids
--   AreKnownParts len g parts        the ids are those of values of a table of len
--
-- Inside: no public clause rests on this.
use Rattle.std.specs.Prelude.{◌≡◌, ◌⊎◌, ℕ, List, ◌++◌, length, map, sum, bytes_eq, option_map}
use Rattle.std.specs.List.{AllByRecursion, IsDistinct}
use Rattle.std.specs.declared.option.Option.TheVariants.{Some, None}
use Rattle.std.specs.declared.result.Result.{Result}
use Rattle.std.specs.declared.result.Result.TheVariants.{Ok, Err}
use Rattle.attr_value.specs.declared.head.ValueId.{ValueId}
use Rattle.attr_value.specs.Heads.{Ascend}
use Rattle.attr_value.specs.Ids.{AreKnown}
use Rattle.attr_value.specs.Values.{Value}
use Rattle.dialect_defs.specs.Operations.{Operation, attr_at}
use Rattle.dialect_registry.specs.Parts.{Among}
use Rattle.first_fault.specs.declared.fault.Fault.{Fault}
use Rattle.first_fault.specs.Firsts.{IsFirst}
use Rattle.generic_syntax.specs.declared.cst.EntryCst.{EntryCst}
use Rattle.generic_syntax.specs.declared.module_cst.GenericCst.{GenericCst, out-GenericCst}
use Rattle.ir_lexer.specs.Spelling.{Text}
use Rattle.module_meaning.specs.Says.{keys_in, seen_in}
use Rattle.module_meaning.specs.WholeModules.{Loaded, IsGood}
use Rattle.op_judgement.specs.declared.parts.Parts.{Parts}
use Rattle.op_judgement.specs.declared.parts.Types.{Types}
use Rattle.op_judgement.specs.Entered.{IsFaultOfEntries}
use Rattle.op_judgement.specs.Found.{AreEach, AreValues, IsTreeFault}
use Rattle.op_judgement.specs.Shown.{block_counts, block_trees}
use Rattle.op_verifier.specs.Seen.{attrs_seen, values_at}
use Rattle.op_verifier.specs.Views.{listed_regions}
use Rattle.value_meaning.specs.Meaning.{Aliases}

-- the entries of the properties and of the dictionary
abbrev pub entries_of : GenericCst → List EntryCst
entries_of g = (out-GenericCst g).props ++ (out-GenericCst g).attrs

module _ (loaded : Loaded) (al : Aliases) where
  -- the type of an operand, of a result or of an argument is at fault, or an entry
  abbrev pub IsGenericFault : GenericCst → Fault → Type 0
  IsGenericFault g f =
      (Among (IsTreeFault loaded al) (out-GenericCst g).inputs f
      ⊎ Among (IsTreeFault loaded al) (out-GenericCst g).outputs f)
      ⊎ (IsFaultOfEntries loaded al (entries_of g) f
      ⊎ Among (Among (IsTreeFault loaded al)) (block_trees (out-GenericCst g).regions) f)

  -- the first fault of the types of operands and results, and where there is none the ids
  pub record AreTypesFound (g : GenericCst) (now : List Value) (types : Types) : Type 0 where
    pub first_is : IsFirst (λ f. Among (IsTreeFault loaded al) (out-GenericCst g).inputs f
        ⊎ Among (IsTreeFault loaded al) (out-GenericCst g).outputs f) types.first
    pub operands : types.first ≡ None
        → AreValues loaded al (out-GenericCst g).inputs now types.operands.items
    pub results : types.first ≡ None
        → AreValues loaded al (out-GenericCst g).outputs now types.results.items

  -- keys ascend, each with the good value that its entry spells
  pub record AreAttrs (es : List EntryCst) (now : List Value) (keys : List Text)
      (values : List ValueId) : Type 0 where
    pub ascend : Ascend keys
    pub counts : length values ≡ length keys
    pub known : AreKnown (length now) values
    pub same : (key : Text) → attr_at (seen_in al es) key
        ≡ option_map Some (attr_at (attrs_seen now keys values) key)
    pub distinct : IsDistinct bytes_eq (keys_in es)
    pub good : AllByRecursion (IsGood loaded) (values_at now values)

  -- the ids are those of what the form shows, and nothing is at fault
  pub record ArePartsOf (g : GenericCst) (now : List Value) (parts : Parts) : Type 0 where
    pub operands : AreValues loaded al (out-GenericCst g).inputs now parts.operands.items
    pub results : AreValues loaded al (out-GenericCst g).outputs now parts.results.items
    pub attrs : AreAttrs (entries_of g) now parts.keys parts.values
    pub args : AreEach loaded al (block_trees (out-GenericCst g).regions) now parts.args
    pub right : (f : Fault) → IsGenericFault g f → ⊥

  -- the ids, or the first fault
  abbrev pub IsPartsOrFault : GenericCst → List Value → Result Parts Fault → Type 0
  IsPartsOrFault g now (Ok parts) = ArePartsOf g now parts
  IsPartsOrFault g now (Err f) = IsFirst (IsGenericFault g) (Some f)

-- The operation has these types, attributes and regions, and as many successors as the form.
pub record IsShownBy (now : List Value) (g : GenericCst) (parts : Parts) (o : Operation) : Type 0
  where
    pub operands : o.operands ≡ values_at now parts.operands.items
    pub results : o.results ≡ values_at now parts.results.items
    pub successors : o.successors ≡ length (out-GenericCst g).successors
    pub attrs : (key : Text)
        → attr_at o.attrs key ≡ attr_at (attrs_seen now parts.keys parts.values) key
    pub regions : o.regions
        ≡ listed_regions now (block_counts (out-GenericCst g).regions) parts.args

-- ids are those of values of a table of len, keys ascend, and there are as many lists of arguments
-- as blocks
pub record AreKnownParts (len : ℕ) (g : GenericCst) (parts : Parts) : Type 0 where
  pub operands : AreKnown len parts.operands.items
  pub results : AreKnown len parts.results.items
  pub ascend : Ascend parts.keys
  pub counts : length parts.values ≡ length parts.keys
  pub values : AreKnown len parts.values
  pub args : AllByRecursion (AreKnown len) parts.args
  pub total : sum (block_counts (out-GenericCst g).regions) ≡ length parts.args
