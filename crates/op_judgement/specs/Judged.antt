-- What the judgement of an operation's tree says.
--
-- The tree's values are judged first: where one is at fault, nothing else is said. Then the
-- operation is judged, by the rules in their order. Where it breaks none, the ids are those of an
-- operation that completes the tree.
--
--   operation_of now c ids     the operation of these ids, with the regions and as many successors
--                              as the tree has
--   AreKnownIds len ids        the ids are those of values of a table of len
--   AreIdsOf loaded al c now ids   the operation of these ids completes the tree
--   IsWrongOp .. rule          no value is at fault, and the operation breaks the rule
--   IsRightOp .. ids           no value is at fault, the operation breaks no rule, and these are its
--                              ids
--   IsJudgement .. judgement   what a judgement says
use Rattle.std.specs.Prelude.{◌≡◌, ℕ, Bool, List, length, map, slice_get}
use Rattle.std.specs.List.{AllByRecursion}
use Rattle.std.specs.declared.option.Option.TheVariants.{Some}
use Rattle.attr_value.specs.Heads.{Ascend}
use Rattle.attr_value.specs.Ids.{AreKnown}
use Rattle.attr_value.specs.Values.{Value}
use Rattle.dialect_defs.specs.declared.definition.OpDef.{OpDef}
use Rattle.dialect_defs.specs.Operations.{Operation}
use Rattle.first_fault.specs.declared.fault.Fault.{Fault}
use Rattle.first_fault.specs.Firsts.{IsFirst}
use Rattle.generic_syntax.specs.declared.module_cst.FormCst.{out-FormCst}
use Rattle.generic_syntax.specs.declared.module_cst.OpCst.{OpCst, out-OpCst}
use Rattle.module_faults.specs.declared.ids.OpIds.{OpIds}
use Rattle.module_faults.specs.declared.rule.OpRule.{OpRule}
use Rattle.module_faults.specs.OpFaults.{BreaksOp, IsValueFault}
use Rattle.module_faults.specs.Standings.{generic_regions}
use Rattle.module_meaning.specs.Completes.{OpCompletes}
use Rattle.module_meaning.specs.Facts.{form_name, no_forms}
use Rattle.module_meaning.specs.WholeModules.{IsGood, Loaded}
use Rattle.op_judgement.specs.declared.judge.Judgement.{Judgement}
use Rattle.op_judgement.specs.declared.judge.Judgement.TheVariants as judgement
use Rattle.op_judgement.specs.Shown.{block_counts, block_trees, successors_in}
use Rattle.op_verifier.specs.Seen.{attrs_seen, values_at}
use Rattle.op_verifier.specs.Views.{listed_regions}
use Rattle.value_meaning.specs.Meaning.{Aliases, value_of}

-- the operation of these ids, which has the tree's regions and as many successors as it shows
abbrev pub operation_of : List Value → OpCst → OpIds → Operation
operation_of now c ids = record {
  operands = values_at now ids.operands.items;
  results = values_at now ids.results.items;
  successors = length (successors_in (out-FormCst (out-OpCst c).form));
  attrs = attrs_seen now ids.keys ids.values;
  regions = listed_regions now (block_counts (generic_regions c)) ids.args;
}

-- the ids are those of values of a table of so many
pub record AreKnownIds (len : ℕ) (ids : OpIds) : Type 0 where
  pub operands : AreKnown len ids.operands.items
  pub results : AreKnown len ids.results.items
  pub values : AreKnown len ids.values
  pub args : AllByRecursion (AreKnown len) ids.args

module _ (loaded : Loaded) (al : Aliases) (c : OpCst) where
  -- The operation of these ids completes the tree. The definition is that at its place, keys
  -- strictly ascend, and each block of the tree has the arguments that stand at its place.
  pub record AreIdsOf (now : List Value) (ids : OpIds) : Type 0 where
    pub def : OpDef
    pub stands : slice_get loaded.ops ids.def ≡ Some def
    pub named : form_name c ≡ def.name
    pub completes : OpCompletes loaded no_forms al c (operation_of now c ids)
    pub known : AreKnownIds (length now) ids
    pub ascend : Ascend ids.keys
    pub counts : length ids.values ≡ length ids.keys
    pub good : AllByRecursion (IsGood loaded) (values_at now ids.values)
    pub args : map (map (value_of al)) (block_trees (generic_regions c))
        ≡ map (map Some) (map (values_at now) ids.args)
    pub good_args : AllByRecursion (AllByRecursion (IsGood loaded)) (map (values_at now) ids.args)

  -- no value of the tree is at fault
  abbrev pub NoValueFault : Type 0
  NoValueFault = (f : Fault) → IsValueFault loaded no_forms al c f → ⊥

  -- no value is at fault, but the operation breaks the rule
  pub record IsWrongOp (is_last : Bool) (rule : OpRule) : Type 0 where
    pub values : NoValueFault
    pub breaks : BreaksOp loaded no_forms al c is_last rule

  -- no value is at fault, no rule is broken, and the ids are those of what completes the tree
  pub record IsRightOp (is_last : Bool) (now : List Value) (ids : OpIds) : Type 0 where
    pub values : NoValueFault
    pub rules : (rule : OpRule) → BreaksOp loaded no_forms al c is_last rule → ⊥
    pub ids_of : AreIdsOf now ids

  -- what the judgement says: the first fault of a value, the rule that is broken, or the ids
  abbrev pub IsJudgement : Bool → List Value → Judgement → Type 0
  IsJudgement is_last now (judgement.Values f) =
      IsFirst (IsValueFault loaded no_forms al c) (Some f)
  IsJudgement is_last now (judgement.Operation rule) = IsWrongOp is_last rule
  IsJudgement is_last now (judgement.Right ids) = IsRightOp is_last now ids
