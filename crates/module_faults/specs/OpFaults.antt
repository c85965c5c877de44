-- What is wrong with the tree of one operation: with its values, and with the operation.
--
-- Both go by what the tree tells, in whatever form it stands.
--
--   fact_values fact            the trees of values that a fact tells, in order
--   told_values facts           those of all facts
--   IsValueFault .. c f         a value of the operation's tree, or a key, breaks a rule
--   code_of rule, rank rule     the number that a refusal shows; the order of the rules
--   IsKnown loaded c d          d is a definition with the operation's name
--   ListsDiffer facts results   a list of types has another length than the uses or the names
--   BreaksOp .. c is_last rule  the first rule that the operation breaks
--   IsOpFault .. c is_last f    f is its fault, at its place and with the rule's rank
use Rattle.std.specs.Prelude.{◌≡◌, ◌≢◌, ◌⊎◌, ℕ, Bool, true, false, List, [], ◌∷◌, ◌++◌, length, map}
use Rattle.std.specs.Prelude.{sum, Contains}
use Rattle.std.specs.declared.option.Option.{Option}
use Rattle.std.specs.declared.option.Option.TheVariants.{Some, None}
use Rattle.attr_value.specs.declared.kind.IntKind.{IntKind}
use Rattle.dialect_defs.specs.declared.definition.OpDef.{OpDef}
use Rattle.first_fault.specs.declared.fault.Fault.{Fault}
use Rattle.generic_syntax.specs.declared.cst.EntryCst.{EntryCst, out-EntryCst}
use Rattle.generic_syntax.specs.declared.cst.ItemCst.{ItemCst}
use Rattle.generic_syntax.specs.declared.cst.ValueCst.{ValueCst}
use Rattle.generic_syntax.specs.declared.module_cst.ArgCst.{ArgCst}
use Rattle.generic_syntax.specs.declared.module_cst.BlockCst.{BlockCst, out-BlockCst}
use Rattle.generic_syntax.specs.declared.module_cst.OpCst.{OpCst, out-OpCst}
use Rattle.generic_syntax.specs.declared.module_cst.RegionCst.{out-RegionCst}
use Rattle.generic_syntax.specs.declared.module_cst.ResultCst.{ResultCst}
use Rattle.generic_syntax.specs.declared.module_cst.UseCst.{UseCst}
use Rattle.grammar.specs.Looks.{is_among}
use Rattle.module_faults.specs.declared.rule.OpRule.{OpRule}
use Rattle.module_faults.specs.declared.rule.OpRule.TheVariants.{Unknown, Arity, NotLast}
use Rattle.module_faults.specs.declared.rule.OpRule.TheVariants.{Unsatisfied}
use Rattle.module_meaning.specs.Completes.{IsUnsatisfied}
use Rattle.module_meaning.specs.Facts.{Fact, all_uses_are, types_are, attr_is}
use Rattle.module_meaning.specs.Facts.{number_is, region_is, dict_is}
use Rattle.module_meaning.specs.Facts.{all_operands, all_results, dict_in}
use Rattle.module_meaning.specs.Facts.{CustomForms, form_name, form_facts, form_hides}
use Rattle.module_meaning.specs.Names.{pack_size}
use Rattle.module_meaning.specs.Says.{keys_in, number_value}
use Rattle.module_meaning.specs.WholeModules.{Loaded}
use Rattle.value_meaning.specs.declared.code.TheConstants.{KEY_REPEATED, INT_RANGE}
use Rattle.value_meaning.specs.Faults.{IsFault}
use Rattle.value_meaning.specs.Meaning.{Aliases}

-- ---- values

-- a value that may be left out, as a list
abbrev pub if_there : Option ValueCst → List ValueCst
if_there None = []
if_there (Some v) = v ∷ []

-- the values of entries; a key alone has none
abbrev pub entries_values : List EntryCst → List ValueCst
entries_values [] = []
entries_values (e ∷ es) = if_there (out-EntryCst e).value ++ entries_values es

-- the types of a block's arguments
abbrev pub block_types : BlockCst → List ValueCst
block_types b = map (λ (x : ArgCst). x.ty) (out-BlockCst b).args

-- the types of the arguments of blocks, one block after the other
abbrev pub blocks_types : List BlockCst → List ValueCst
blocks_types [] = []
blocks_types (b ∷ bs) = block_types b ++ blocks_types bs

-- the trees of values that a fact tells
abbrev pub fact_values : Fact → List ValueCst
fact_values (types_are of trees) = trees
fact_values (attr_is key tree) = if_there tree
fact_values (dict_is entries) = entries_values entries
fact_values (region_is i r) = blocks_types (out-RegionCst r).blocks
fact_values _ = []

-- those of all facts
abbrev pub told_values : List Fact → List ValueCst
told_values [] = []
told_values (fact ∷ facts) = fact_values fact ++ told_values facts

-- an entry of a dictionary has a key that stands before it, or that the dictionary may not have
pub record IsKeyFault (forbidden : List (List ℕ)) (entries : List EntryCst) (f : Fault) : Type 0
  where
    pub before : List EntryCst
    pub entry : EntryCst
    pub after : List EntryCst
    pub cut : entries ≡ before ++ entry ∷ after
    pub wrong : Contains (keys_in before) (out-EntryCst entry).key
        ⊎ (is_among forbidden (out-EntryCst entry).key ≡ true)
    pub place : f.place ≡ (out-EntryCst entry).place
    pub code : f.code ≡ KEY_REPEATED

-- a number that is shown alone may not be written at its type
pub record IsNumberFault (facts : List Fact) (f : Fault) : Type 0 where
  pub key : List ℕ
  pub kind : IntKind
  pub item : ItemCst
  pub told : Contains facts (number_is key kind (Some item))
  pub wrong : number_value kind item ≡ None
  pub place : f.place ≡ item.place
  pub code : f.code ≡ INT_RANGE

module _ (loaded : Loaded) (forms : CustomForms) (aliases : Aliases) where
  -- one of the values that the tree tells has the fault
  pub record HasValueFault (c : OpCst) (f : Fault) : Type 0 where
    pub tree : ValueCst
    pub told : Contains (told_values (form_facts forms c)) tree
    pub fault : IsFault loaded.values loaded.tests loaded.types aliases 1 tree f

  -- a value of the operation's tree, a key, or a number that is shown alone breaks a rule
  abbrev pub IsValueFault : OpCst → Fault → Type 0
  IsValueFault c f =
      HasValueFault c f
      ⊎ (IsKeyFault (form_hides forms c).keys (dict_in (form_facts forms c)) f
      ⊎ IsNumberFault (form_facts forms c) f)

-- ---- the operation

-- the number that a refusal shows
abbrev pub code_of : OpRule → ℕ
code_of Unknown = 17
code_of Arity = 18
code_of NotLast = 21
code_of Unsatisfied = 19

-- the order of the rules at one operation
abbrev pub rank : OpRule → ℕ
rank Unknown = 0
rank Arity = 1
rank NotLast = 2
rank Unsatisfied = 3

-- a definition with the name in the operation's tree
pub record IsKnown (loaded : Loaded) (c : OpCst) (d : OpDef) : Type 0 where
  pub known : Contains loaded.ops d
  pub named : form_name c ≡ d.name

-- there are uses and types of all operands, not as many of the one as of the other
pub record UsesDiffer (facts : List Fact) : Type 0 where
  pub uses : List UseCst
  pub types : List ValueCst
  pub uses_told : Contains facts (all_uses_are uses)
  pub types_told : Contains facts (types_are all_operands types)
  pub differ : length uses ≢ length types

-- there are names and types of all results, and the names don't stand for as many
pub record ResultsDiffer (facts : List Fact) (results : List ResultCst) : Type 0 where
  pub types : List ValueCst
  pub told : Contains facts (types_are all_results types)
  pub named : results ≢ []
  pub differ : sum (map (λ (r : ResultCst). pack_size r.pack) results) ≢ length types

-- a list of types has another length than the uses, or than the values that names stand for
abbrev pub ListsDiffer : List Fact → List ResultCst → Type 0
ListsDiffer facts results = UsesDiffer facts ⊎ ResultsDiffer facts results

module _ (loaded : Loaded) (forms : CustomForms) (aliases : Aliases) where
  -- The first rule that an operation breaks: no definition has its name; lists differ; what is
  -- declared a terminator isn't the last; no operation completes the tree.
  pub data BreaksOp (c : OpCst) (is_last : Bool) : OpRule → Type 0 where
    unknown : ((d : OpDef) → IsKnown loaded c d → ⊥) → BreaksOp c is_last Unknown
    arity : (d : OpDef) → IsKnown loaded c d
        → ListsDiffer (form_facts forms c) (out-OpCst c).results → BreaksOp c is_last Arity
    not_last : (d : OpDef) → IsKnown loaded c d
        → (ListsDiffer (form_facts forms c) (out-OpCst c).results → ⊥)
        → d.terminator ≡ true → is_last ≡ false → BreaksOp c is_last NotLast
    unsatisfied : (d : OpDef) → IsKnown loaded c d
        → (ListsDiffer (form_facts forms c) (out-OpCst c).results → ⊥)
        → (d.terminator ≡ true → is_last ≡ true)
        → IsUnsatisfied loaded forms aliases c → BreaksOp c is_last Unsatisfied

  -- the fault of an operation, at its place; its number is the rule's rank
  pub record IsOpFault (c : OpCst) (is_last : Bool) (f : Fault) : Type 0 where
    pub rule : OpRule
    pub breaks : BreaksOp c is_last rule
    pub place : f.place ≡ (out-OpCst c).place
    pub code : f.code ≡ rank rule
