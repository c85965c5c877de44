-- What the stages of values and of operations refuse, and what is known where neither has a fault,
-- by what is found of aliases, regions and operations.
--
--   faulty-found, known-found     an alias has a fault, or all are known
--   found-over               what is found of operations, over the table before, where all are known
--   alias-refused            the refusal where an alias has a fault
--   values-refused           where none has, but a region or a value of an operation
--   fault-ranked             the number of an operation's fault is the rank of a rule
--   operations-refused       the refusal where an operation has a fault
--   found-judged             what is found where nothing has a fault
use Rattle.std.proofs.Common.{◌≡◌, ℕ, List, length, ap, subst, sym, ◌∙◌, refl, true, false, Bool}
use Rattle.std.specs.Prelude.{if◌then◌else◌}
use Rattle.std.specs.declared.option.Option.{Option}
use Rattle.std.specs.declared.option.Option.TheVariants.{Some, None}
use Rattle.attr_value.specs.Values.{Value}
use Rattle.constraint_solver.specs.Grown.{Extends}
use Rattle.dialect_defs.specs.declared.definition.TypeDef.{TypeDef}
use Rattle.dialect_defs.specs.Assignments.{Tests}
use Rattle.dialect_registry.specs.Registered.{IsSound, Registered}
use Rattle.elaborate.proofs.ComposingFaults.{first-of-operations, first-of-values}
use Rattle.elaborate.proofs.ComposingFaults.{first-with-alias}
use Rattle.elaborate.specs.Aliases.{AreDefined, AreKnownSo, IsFaultyAlias}
use Rattle.elaborate.specs.declared.operations.Found.{Found}
use Rattle.elaborate.specs.Elaborated.{loaded_of}
use Rattle.elaborate.specs.Judged.{AreJudged, IsStageRefusal, of_values, of_operations}
use Rattle.elaborate.specs.Operations.{AreFound, IsOpFaultAmong, IsValueFaultAmong}
use Rattle.elaborate.specs.Regions.{IsDeepRegion}
use Rattle.first_fault.specs.declared.fault.Fault.{Fault}
use Rattle.first_fault.specs.Firsts.{IsFirst, comes_before, earlier_of}
use Rattle.generic_syntax.specs.declared.module_cst.AliasCst.{AliasCst}
use Rattle.generic_syntax.specs.declared.module_cst.ModuleCst.{ModuleCst}
use Rattle.module_faults.specs.declared.rule.OpRule.{OpRule}
use Rattle.module_faults.specs.ModuleFaults.{IsOperationsFault, IsValuesFault, NoValuesFault}
use Rattle.module_faults.specs.OpFaults.{code_of, rank}
use Rattle.module_faults.specs.Standings.{Standing, standings}
use Rattle.module_meaning.specs.AliasValues.{HaveValues, no_aliases, values_under}
use Rattle.module_meaning.specs.Completes.{aliases_of}
use Rattle.module_meaning.specs.Facts.{no_forms}
use Rattle.module_meaning.specs.WholeModules.{Loaded}
use Rattle.op_judgement.specs.Grounds.{IsGround, basis, loaded_by}
use Rattle.value_meaning.specs.declared.env.Aliases.{Aliases}
use Rattle.value_meaning.specs.Meaning.{Aliases as Values}

-- ---- what is found of aliases

module _ (old now : List Value) (tests : Tests) (types : List TypeDef) (xs ys : List AliasCst)
    (aliases : Aliases) (first : Option Fault)
    (defined : AreDefined old tests types xs now aliases first) (listed : xs ≡ ys) where
  -- one has a fault
  pub faulty-found : (f : Fault) → first ≡ Some f → IsFaultyAlias old tests types ys f
  faulty-found f is = subst (λ zs. IsFaultyAlias old tests types zs f) listed
      (subst (AreDefined old tests types xs now aliases) is defined)

  -- all are known
  pub known-found : first ≡ None → AreKnownSo old tests types ys now aliases
  known-found is = subst (λ zs. AreKnownSo old tests types zs now aliases) listed
      (subst (AreDefined old tests types xs now aliases) is defined)

-- aliases that are known are ground for judging operations
known-ground : (tests : Tests) (count : ℕ) (r : Registered) (xs : List AliasCst)
    (old now : List Value) (aliases : Aliases) → Extends old now → IsSound (length old) count r
    → AreKnownSo old tests r.types xs now aliases
    → IsGround (basis tests count r aliases) old (values_under no_aliases xs) now
known-ground tests count r xs old now aliases grown sound known = record {
  grown = grown;
  sound = sound;
  agree = λ is_type name i. known.same i is_type name;
}

-- what is found of operations, over the table before, where all aliases are known
pub found-over : (tests : Tests) (count : ℕ) (r : Registered) (tree : ModuleCst)
    (old now new : List Value) (aliases : Aliases) (listed : List Standing) (found : Found)
    → Extends old now → IsSound (length old) count r
    → AreKnownSo old tests r.types tree.aliases now aliases → listed ≡ standings tree
    → ((before : List Value) (al : Values) → IsGround (basis tests count r aliases) before al now
    → AreFound (loaded_by (basis tests count r aliases) before) al listed new found)
    → AreFound (loaded_of old tests r) (aliases_of tree) (standings tree) new found
found-over tests count r tree old now new aliases listed found grown sound known stands over =
    subst (λ ss. AreFound (loaded_of old tests r) (aliases_of tree) ss new found) stands
    (over old (aliases_of tree)
    (known-ground tests count r tree.aliases old now aliases grown sound known))

-- ---- two faults of which none is there

some-none : (f : Fault) → Some f ≡ None → ⊥
some-none f e = absurd (cc)

chosen-none : (b : Bool) (f g : Fault) → (if b then Some f else Some g) ≡ None → ⊥
chosen-none true f g e = some-none f e
chosen-none false f g e = some-none g e

left-none : (a b : Option Fault) → earlier_of a b ≡ None → a ≡ None
left-none None b e = refl
left-none (Some f) None e = absurd (some-none f e)
left-none (Some f) (Some g) e = absurd (chosen-none (comes_before g f) g f e)

right-none : (a b : Option Fault) → earlier_of a b ≡ None → b ≡ None
right-none None b e = e
right-none (Some f) None e = refl
right-none (Some f) (Some g) e = absurd (chosen-none (comes_before g f) g f e)

module _ (loaded : Loaded) (tree : ModuleCst) where
  -- an alias has a fault, and the earlier of it and of a region that nests too deep counts
  pub alias-refused : (f g : Fault) (deep : Option Fault)
      → IsFaultyAlias loaded.values loaded.tests loaded.types tree.aliases f
      → IsFirst (IsDeepRegion (standings tree)) deep → earlier_of (Some f) deep ≡ Some g
      → IsStageRefusal loaded tree g
  alias-refused f g deep faulty first is =
      of_values (subst (IsFirst (IsValuesFault loaded no_forms tree)) is
      (first-with-alias loaded tree f deep faulty first))

  module _ (now : List Value) (deep : Option Fault) (found : Found)
      (valued : HaveValues loaded.values loaded.tests loaded.types no_aliases tree.aliases)
      (shallow : IsFirst (IsDeepRegion (standings tree)) deep)
      (all : AreFound loaded (aliases_of tree) (standings tree) now found) where
    -- a region or a value of an operation has a fault
    pub values-refused : (g : Fault) → earlier_of deep found.values ≡ Some g
        → IsStageRefusal loaded tree g
    values-refused g is =
        of_values (subst (IsFirst (IsValuesFault loaded no_forms tree)) is
        (first-of-values loaded tree deep found.values valued shallow all.values))

    module _ (clean : earlier_of deep found.values ≡ None) where
      no-values : NoValuesFault loaded no_forms tree
      no-values = subst (IsFirst (IsValuesFault loaded no_forms tree)) clean
          (first-of-values loaded tree deep found.values valued shallow all.values)

      first-operation : IsFirst (IsOpFaultAmong loaded (aliases_of tree) (standings tree))
          found.operations
      first-operation = all.operations (right-none deep found.values clean)

      -- the number of an operation's fault is the rank of a rule
      pub fault-ranked : (f : Fault) → found.operations ≡ Some f
          → (rule : OpRule) × (f.code ≡ rank rule)
      fault-ranked f is =
          let first = subst (IsFirst (IsOpFaultAmong loaded (aliases_of tree) (standings tree))) is
          first-operation in
          (first.0.fault.rule, first.0.fault.code)

      -- an operation has a fault, and the refusal shows the number of the rule
      pub operations-refused : (f g : Fault) (rule : OpRule) → found.operations ≡ Some f
          → f.code ≡ rank rule → g.place ≡ f.place → g.code ≡ code_of rule
          → IsStageRefusal loaded tree g
      operations-refused f g rule is ranked place code =
          of_operations no-values rule
          (subst (IsFirst (IsOperationsFault loaded no_forms tree)) same
          (first-of-operations loaded tree found.operations first-operation)) code
        where
          same : found.operations ≡ Some (record { place = g.place; code = rank rule })
          same = is ∙ ap Some (λ i. record { place = sym place i; code = ranked i })

      -- nothing has a fault
      pub found-judged : found.operations ≡ None → AreJudged loaded tree now found.ids.items
      found-judged none = record {
        valued = valued;
        shallow = subst (IsFirst (IsDeepRegion (standings tree)))
            (left-none deep found.values clean) shallow;
        values = subst (IsFirst (IsValueFaultAmong loaded (aliases_of tree) (standings tree)))
            (right-none deep found.values clean) all.values;
        operations = subst (IsFirst (IsOpFaultAmong loaded (aliases_of tree) (standings tree))) none
            first-operation;
        each = all.ids (right-none deep found.values clean) none;
      }
