-- What loadings that are alike refuse: the same trees, for the same fault.
use Rattle.std.proofs.Common.{◌≡◌, ◌∙◌, inl, inr, Bool, sym}
use Rattle.std.specs.declared.option.Option.TheVariants.{Some}
use Rattle.dialect_defs.specs.declared.definition.OpDef.{OpDef}
use Rattle.first_fault.specs.declared.fault.Fault.{Fault}
use Rattle.first_fault.proofs.Firsts.{first-same}
use Rattle.generic_syntax.specs.declared.module_cst.ModuleCst.{ModuleCst}
use Rattle.generic_syntax.specs.declared.module_cst.OpCst.{OpCst}
use Rattle.loading_laws.specs.Alike.{AreAlike}
use Rattle.loading_laws.proofs.SameModules.{nearly-alike}
use Rattle.loading_laws.proofs.SameOperations.{partner, unsatisfied-alike}
use Rattle.loading_laws.proofs.SameValues.{alike-back, fault-alike, valued-alike}
use Rattle.module_faults.specs.declared.rule.OpRule.{OpRule}
use Rattle.module_faults.specs.ModuleFaults.{IsValuesFault, IsOperationsFault, IsUsesFault}
use Rattle.module_faults.specs.ModuleFaults.{IsRefusal, IsFaultless}
use Rattle.module_faults.specs.ModuleFaults.{by_names, by_values, by_operations, by_uses}
use Rattle.module_faults.specs.OpFaults.{IsValueFault, IsKnown, BreaksOp, unknown, arity, not_last}
use Rattle.module_faults.specs.OpFaults.{unsatisfied, rank}
use Rattle.module_meaning.specs.AliasValues.{no_aliases}
use Rattle.module_meaning.specs.Facts.{CustomForms}
use Rattle.module_meaning.specs.WholeModules.{Loaded}
use Rattle.value_meaning.specs.Meaning.{Aliases}

-- ---- one operation

module _ (one two : Loaded) (alike : AreAlike one two) where
  -- a value of an operation's tree
  pub value-fault-alike : (forms : CustomForms) (aliases : Aliases) (c : OpCst) (f : Fault)
      → IsValueFault one forms aliases c f → IsValueFault two forms aliases c f
  value-fault-alike forms aliases c f (inl has) = inl (record {
    tree = has.tree;
    told = has.told;
    fault = fault-alike one two alike _ f has.fault;
  })
  value-fault-alike forms aliases c f (inr other) = inr other

  -- a definition of an operation's name, which is a terminator in both or in none
  known-alike : (c : OpCst) (d : OpDef) → IsKnown one c d
      → (e : OpDef) × IsKnown two c e × (d.terminator ≡ e.terminator)
  known-alike c d is =
      let found = partner one two alike d is.known in
      let like = found.2 in
      (found.0, record { known = found.1; named = is.named ∙ like.name }, like.terminator)

-- the first rule that an operation breaks
pub breaks-op-alike : (one two : Loaded) → AreAlike one two → (forms : CustomForms)
    (aliases : Aliases) (c : OpCst) (is_last : Bool) {rule : OpRule}
    → BreaksOp one forms aliases c is_last rule → BreaksOp two forms aliases c is_last rule
breaks-op-alike one two alike forms aliases c is_last (unknown none) =
    unknown (λ e is.
    let found = known-alike two one (alike-back one two alike) c e is in none found.0 found.1)
breaks-op-alike one two alike forms aliases c is_last (arity d is differ) =
    let found = known-alike one two alike c d is in arity found.0 found.1 differ
breaks-op-alike one two alike forms aliases c is_last (not_last d is same ends last) =
    let found = known-alike one two alike c d is in
    not_last found.0 found.1 same (sym found.2 ∙ ends) last
breaks-op-alike one two alike forms aliases c is_last (unsatisfied d is same ends none) =
    let found = known-alike one two alike c d is in
    unsatisfied found.0 found.1 same (λ e. ends (found.2 ∙ e))
    (unsatisfied-alike one two alike forms aliases c none)

-- ---- a module

module _ (one two : Loaded) (alike : AreAlike one two) (forms : CustomForms) (tree : ModuleCst)
  where
    -- a value
    pub values-fault-alike : (f : Fault) → IsValuesFault one forms tree f
        → IsValuesFault two forms tree f
    values-fault-alike f (inl alias) = inl (record {
      before = alias.before;
      alias = alias.alias;
      after = alias.after;
      cut = alias.cut;
      valued = valued-alike one two alike no_aliases alias.before alias.valued;
      fault = fault-alike one two alike _ f alias.fault;
    })
    values-fault-alike f (inr (inl value)) = inr (inl (record {
      op = value.op;
      is_last = value.is_last;
      stands = value.stands;
      valued = valued-alike one two alike no_aliases tree.aliases value.valued;
      fault = value-fault-alike one two alike forms _ value.op f value.fault;
    }))
    values-fault-alike f (inr (inr region)) = inr (inr region)

    -- an operation
    pub operations-fault-alike : (f : Fault) → IsOperationsFault one forms tree f
        → IsOperationsFault two forms tree f
    operations-fault-alike f p = record {
      op = p.op;
      is_last = p.is_last;
      stands = p.stands;
      fault = record {
        rule = p.fault.rule;
        breaks = breaks-op-alike one two alike forms _ p.op p.is_last p.fault.breaks;
        place = p.fault.place;
        code = p.fault.code;
      };
    }

    -- the type of a use
    pub uses-fault-alike : (f : Fault) → IsUsesFault one forms tree f → IsUsesFault two forms tree f
    uses-fault-alike f p = record {
      module_is = p.module_is;
      completes = nearly-alike one two alike forms tree p.module_is p.completes;
      fault = p.fault;
    }

-- a module is refused for the same fault
pub refusal-alike : (one two : Loaded) → AreAlike one two → (forms : CustomForms)
    (tree : ModuleCst) (f : Fault) → IsRefusal one forms tree f → IsRefusal two forms tree f
refusal-alike one two alike forms tree f refused =
    let back = alike-back one two alike in
    let values = values-fault-alike one two alike forms tree in
    let values-back = values-fault-alike two one back forms tree in
    let operations = operations-fault-alike one two alike forms tree in
    let operations-back = operations-fault-alike two one back forms tree in
    let uses = uses-fault-alike one two alike forms tree in
    let uses-back = uses-fault-alike two one back forms tree in
    elim refused [
      | by_names first ↦ by_names first
      | by_values names first ↦ by_values names
          (first-same (IsValuesFault one forms tree) (IsValuesFault two forms tree) (Some f)
          values values-back first)
      | by_operations names no_value rule first code ↦
          by_operations names (λ g p. no_value g (values-back g p)) rule
          (first-same (IsOperationsFault one forms tree) (IsOperationsFault two forms tree)
          (Some (record { place = f.place; code = rank rule })) operations operations-back first)
          code
      | by_uses names no_value no_operation first ↦
          by_uses names (λ g p. no_value g (values-back g p))
          (λ g p. no_operation g (operations-back g p))
          (first-same (IsUsesFault one forms tree) (IsUsesFault two forms tree) (Some f) uses
          uses-back first)
    ]

-- a module without faults has none
pub faultless-alike : (one two : Loaded) → AreAlike one two → (forms : CustomForms)
    (tree : ModuleCst) → IsFaultless one forms tree → IsFaultless two forms tree
faultless-alike one two alike forms tree none =
    let back = alike-back one two alike in
    record {
      names = none.names;
      values = λ f p. none.values f (values-fault-alike two one back forms tree f p);
      operations = λ f p. none.operations f (operations-fault-alike two one back forms tree f p);
      uses = λ f p. none.uses f (uses-fault-alike two one back forms tree f p);
    }
