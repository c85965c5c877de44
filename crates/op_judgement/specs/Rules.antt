-- The rules on an operation in generic form, over the present table of values.
--
--   IsSatisfiedBy now tests d o    o meets the definition, and its operands and results have types
--   IsFoundAt b g place d          d is the definition with the form's name, at this place
--   IsPlaceOrRule b now .. r       the place of the definition, where no rule is broken; or the
--                                  first rule that is
--
-- Inside: no public clause rests on this.
use Rattle.std.specs.Prelude.{◌≡◌, ℕ, Bool, true, false, List, slice_get}
use Rattle.std.specs.List.{AllByRecursion}
use Rattle.std.specs.declared.option.Option.TheVariants.{Some, None}
use Rattle.std.specs.declared.result.Result.{Result}
use Rattle.std.specs.declared.result.Result.TheVariants.{Ok, Err}
use Rattle.attr_value.specs.Heads.{IsType}
use Rattle.attr_value.specs.Values.{Value}
use Rattle.dialect_defs.specs.declared.definition.OpDef.{OpDef}
use Rattle.dialect_defs.specs.Assignments.{Tests}
use Rattle.dialect_defs.specs.Operations.{MeetsDefinition, Operation}
use Rattle.dialect_registry.specs.Registered.{place_of}
use Rattle.generic_syntax.specs.declared.module_cst.GenericCst.{GenericCst, out-GenericCst}
use Rattle.generic_syntax.specs.declared.module_cst.ResultCst.{ResultCst}
use Rattle.module_faults.specs.declared.rule.OpRule.{OpRule}
use Rattle.module_faults.specs.declared.rule.OpRule.TheVariants.{Unknown, Arity, NotLast}
use Rattle.module_faults.specs.declared.rule.OpRule.TheVariants.{Unsatisfied}
use Rattle.op_judgement.specs.declared.parts.Parts.{Parts}
use Rattle.op_judgement.specs.Arity.{GenericListsDiffer}
use Rattle.op_judgement.specs.Grounds.{Basis}
use Rattle.op_judgement.specs.Parts.{IsShownBy}

-- the operation meets the definition, and its operands and results have types
pub record IsSatisfiedBy (now : List Value) (tests : Tests) (d : OpDef) (o : Operation) : Type 0
  where
    pub operands : AllByRecursion IsType o.operands
    pub results : AllByRecursion IsType o.results
    pub arguments : AllByRecursion (AllByRecursion (AllByRecursion IsType)) o.regions
    pub meets : MeetsDefinition now tests d o

-- the definition with the form's name, and its place
pub record IsFoundAt (b : Basis) (g : GenericCst) (place : ℕ) (d : OpDef) : Type 0 where
  pub found : place_of b.registry.ops (out-GenericCst g).name ≡ Some place
  pub stands : slice_get b.registry.ops place ≡ Some d

module _ (b : Basis) (now : List Value) (named : List ResultCst) (g : GenericCst) (is_last : Bool)
    (parts : Parts) where
  -- the lists are as long as each other
  abbrev pub DoFit : Type 0
  DoFit = GenericListsDiffer g named → ⊥

  -- the operation breaks the rule, and none before it
  abbrev pub BreaksForm : OpRule → Type 0
  BreaksForm Unknown = place_of b.registry.ops (out-GenericCst g).name ≡ None
  BreaksForm Arity =
      (place : ℕ) × (d : OpDef) × IsFoundAt b g place d × GenericListsDiffer g named
  BreaksForm NotLast =
      (place : ℕ) × (d : OpDef) × IsFoundAt b g place d × DoFit × (d.terminator ≡ true)
      × (is_last ≡ false)
  BreaksForm Unsatisfied =
      (place : ℕ) × (d : OpDef) × IsFoundAt b g place d × DoFit
      × (d.terminator ≡ true → is_last ≡ true)
      × ((o : Operation) → IsShownBy now g parts o → IsSatisfiedBy now b.tests d o → ⊥)

  -- the operation breaks no rule by its definition, which stands at this place
  pub record IsRightForm (place : ℕ) : Type 0 where
    pub def : OpDef
    pub found : IsFoundAt b g place def
    pub fit : DoFit
    pub last : def.terminator ≡ true → is_last ≡ true
    pub satisfied : (o : Operation) → IsShownBy now g parts o → IsSatisfiedBy now b.tests def o

  -- the place of the definition, or the first rule that is broken
  abbrev pub IsPlaceOrRule : Result ℕ OpRule → Type 0
  IsPlaceOrRule (Ok place) = IsRightForm place
  IsPlaceOrRule (Err rule) = BreaksForm rule
