-- What the tree of an operation tells of it: a list of facts.
--
-- The generic form and the custom forms tell facts of the same kinds, and whatever speaks of the
-- tree of an operation reads its facts alone. Operand entries, result entries, regions and
-- successors are known by their places in the definition, and attributes by their keys. What a
-- custom form leaves out, in a branch that isn't taken, it tells as absent: an attribute without a
-- value, a list without uses or types.
--
--   TypesOf                whose types are told
--   Fact                   one thing that a tree tells
--   generic_facts g        what the generic form tells
--   dict_in facts          the entries of the dictionary
--   Topic                  what a fact may tell of
--   is_of topic fact       the fact tells of it
--   tells facts topic      one of the facts does
--   Hides                  what a form hides: keys that its dictionary may not have, and sizes
--   CustomForms            what the custom form of each operation tells and hides
--   no_forms               the custom forms where no operation has one
--   form_name c, form_facts forms c, form_hides forms c
--                          the name in the tree of an operation, what it tells, and what it hides
use Rattle.std.specs.Prelude.{ℕ, suc, ◌==◌, Bool, true, false, ◌||◌, List, [], ◌∷◌, ◌++◌, bytes_eq}
use Rattle.std.specs.declared.option.Option.{Option}
use Rattle.attr_value.specs.declared.kind.IntKind.{IntKind}
use Rattle.generic_syntax.specs.declared.cst.EntryCst.{EntryCst}
use Rattle.generic_syntax.specs.declared.cst.ItemCst.{ItemCst}
use Rattle.generic_syntax.specs.declared.cst.NameCst.{NameCst}
use Rattle.generic_syntax.specs.declared.cst.ValueCst.{ValueCst}
use Rattle.generic_syntax.specs.declared.module_cst.BlockCst.{BlockCst}
use Rattle.generic_syntax.specs.declared.module_cst.CustomCst.{CustomCst, out-CustomCst}
use Rattle.generic_syntax.specs.declared.module_cst.FormCst.{FormCst, out-FormCst}
use Rattle.generic_syntax.specs.declared.module_cst.FormCst.TheOpen.{FormCst-F}
use Rattle.generic_syntax.specs.declared.module_cst.GenericCst.{GenericCst, out-GenericCst}
use Rattle.generic_syntax.specs.declared.module_cst.OpCst.{OpCst, out-OpCst}
use Rattle.generic_syntax.specs.declared.module_cst.PartCst.{PartCst}
use Rattle.generic_syntax.specs.declared.module_cst.RegionCst.{RegionCst}
use Rattle.generic_syntax.specs.declared.module_cst.UseCst.{UseCst}
use Rattle.ir_lexer.specs.Spelling.{Text}

-- whose types are told: those of one operand entry or result entry, or of all operands or results
pub data TypesOf : Type 0 where
  of_operand : ℕ → TypesOf
  of_result : ℕ → TypesOf
  all_operands : TypesOf
  all_results : TypesOf

-- one thing that a tree tells of its operation
pub data Fact : Type 0 where
  -- the uses of one operand entry
  uses_are : ℕ → List UseCst → Fact
  -- the uses of all operands, in order
  all_uses_are : List UseCst → Fact
  -- the types of these operands or results, in order
  types_are : TypesOf → List ValueCst → Fact
  -- the value of the attribute of a key, or that it is absent
  attr_is : Text → Option ValueCst → Fact
  -- the attribute of a key is the unit attribute
  unit_is : Text → Fact
  -- the attribute of a key is a string, shown as a name, or absent
  string_is : Text → Option NameCst → Fact
  -- the attribute of a key is a number of this type, shown alone, or absent
  number_is : Text → IntKind → Option ItemCst → Fact
  -- one region
  region_is : ℕ → RegionCst → Fact
  -- one successor
  successor_is : ℕ → NameCst → Fact
  -- the attributes of the dictionary
  dict_is : List EntryCst → Fact

-- the facts of successors, of which the first has the number i
abbrev pub successor_facts : ℕ → List NameCst → List Fact
successor_facts i [] = []
successor_facts i (s ∷ ss) = successor_is i s ∷ successor_facts (suc i) ss

-- the facts of regions, of which the first has the number i
abbrev pub region_facts : ℕ → List RegionCst → List Fact
region_facts i [] = []
region_facts i (r ∷ rs) = region_is i r ∷ region_facts (suc i) rs

-- what the generic form tells; its properties and its dictionary are one
abbrev pub generic_facts : GenericCst → List Fact
generic_facts g =
    let shown = out-GenericCst g in
    all_uses_are shown.operands ∷ types_are all_operands shown.inputs
    ∷ types_are all_results shown.outputs ∷ dict_is (shown.props ++ shown.attrs)
    ∷ (successor_facts 0 shown.successors ++ region_facts 0 shown.regions)

-- the entries of the dictionary, which is the first among the facts
abbrev pub dict_in : List Fact → List EntryCst
dict_in [] = []
dict_in (dict_is es ∷ facts) = es
dict_in (_ ∷ facts) = dict_in facts

-- ---- what facts tell of

-- what a fact may tell of: the dictionary, a region, a successor, the uses of one operand entry or
-- of all, the types of one result entry, or the attribute of a key
pub data Topic : Type 0 where
  dict_topic : Topic
  region_topic : ℕ → Topic
  successor_topic : ℕ → Topic
  operand_topic : ℕ → Topic
  all_uses_topic : Topic
  result_topic : ℕ → Topic
  attr_topic : Text → Topic

-- the fact tells of it
abbrev pub is_of : Topic → Fact → Bool
is_of dict_topic (dict_is es) = true
is_of dict_topic _ = false
is_of (region_topic j) (region_is i r) = i == j
is_of (region_topic j) _ = false
is_of (successor_topic j) (successor_is i s) = i == j
is_of (successor_topic j) _ = false
is_of (operand_topic j) (uses_are i us) = i == j
is_of (operand_topic j) _ = false
is_of all_uses_topic (all_uses_are us) = true
is_of all_uses_topic _ = false
is_of (result_topic j) (types_are (of_result i) ts) = i == j
is_of (result_topic j) _ = false
is_of (attr_topic key) (attr_is k v) = bytes_eq k key
is_of (attr_topic key) (unit_is k) = bytes_eq k key
is_of (attr_topic key) (string_is k n) = bytes_eq k key
is_of (attr_topic key) (number_is k kind n) = bytes_eq k key
is_of (attr_topic key) _ = false

-- one of the facts tells of it
abbrev pub tells : List Fact → Topic → Bool
tells [] topic = false
tells (fact ∷ facts) topic = is_of topic fact || tells facts topic

-- ---- forms

-- the keys that the dictionary of a form may not have, and whether the form hides the attributes
-- that give the sizes of the operands' and the results' segments
pub record Hides : Type 0 where
  pub keys : List Text
  pub operand_sizes : Bool
  pub result_sizes : Bool

-- the generic form hides nothing
abbrev pub nothing_hidden : Hides
nothing_hidden = record { keys = []; operand_sizes = false; result_sizes = false }

-- what the custom form of the operation of a name tells by its parts, and what it hides
pub record CustomForms : Type 0 where
  pub told : Text → List PartCst → List Fact
  pub hides : Text → Hides

-- no operation has a custom form, so none tells anything
abbrev pub no_forms : CustomForms
no_forms = record { told = λ name parts. []; hides = λ name. nothing_hidden }

-- one level of what stands behind the names of results
abbrev pub FormSeen : Type 0
FormSeen = FormCst-F FormCst PartCst BlockCst CustomCst GenericCst OpCst RegionCst

-- the name of the operation
abbrev pub name_in : FormSeen → Text
name_in (FormCst-F.Generic g) = (out-GenericCst g).name
name_in (FormCst-F.Custom k) = (out-CustomCst k).name

-- what the form tells
abbrev pub facts_in : CustomForms → FormSeen → List Fact
facts_in forms (FormCst-F.Generic g) = generic_facts g
facts_in forms (FormCst-F.Custom k) = forms.told (out-CustomCst k).name (out-CustomCst k).parts

-- what the form hides
abbrev pub hides_in : CustomForms → FormSeen → Hides
hides_in forms (FormCst-F.Generic g) = nothing_hidden
hides_in forms (FormCst-F.Custom k) = forms.hides (out-CustomCst k).name

-- the name of the operation in its tree
abbrev pub form_name : OpCst → Text
form_name c = name_in (out-FormCst (out-OpCst c).form)

-- what the tree of an operation tells
abbrev pub form_facts : CustomForms → OpCst → List Fact
form_facts forms c = facts_in forms (out-FormCst (out-OpCst c).form)

-- what the tree of an operation hides
abbrev pub form_hides : CustomForms → OpCst → Hides
form_hides forms c = hides_in forms (out-FormCst (out-OpCst c).form)
