-- A module is refused for one fault: where a stage has a say, no other has, and of its faults one
-- is the first.
use Rattle.std.proofs.Common.{◌≡◌, ◌∙◌, ◌==◌, ℕ, if◌then◌else◌, refl, sym, ap}
use Rattle.std.specs.declared.option.Option.TheVariants.{Some}
use Rattle.first_fault.specs.declared.fault.Fault.{Fault}
use Rattle.first_fault.specs.Firsts.{IsFirst}
use Rattle.first_fault.proofs.Firsts.{first-once}
use Rattle.generic_syntax.specs.declared.module_cst.ModuleCst.{ModuleCst}
use Rattle.module_faults.specs.declared.rule.OpRule.{OpRule}
use Rattle.module_faults.specs.declared.rule.OpRule.TheVariants.{Unknown, Arity, NotLast}
use Rattle.module_faults.specs.declared.rule.OpRule.TheVariants.{Unsatisfied}
use Rattle.module_faults.specs.ModuleFaults.{IsNamesFault, IsValuesFault, IsOperationsFault}
use Rattle.module_faults.specs.ModuleFaults.{IsUsesFault, IsRefusal, by_names, by_values}
use Rattle.module_faults.specs.ModuleFaults.{by_operations, by_uses, IsFaultless}
use Rattle.module_faults.specs.OpFaults.{code_of, rank}
use Rattle.module_meaning.specs.Facts.{CustomForms}
use Rattle.module_meaning.specs.WholeModules.{Loaded}

-- there is one first fault
first-fault-once : (P : Fault → Type 0) (f g : Fault) → IsFirst P (Some f) → IsFirst P (Some g)
    → f ≡ g
first-fault-once P f g x y =
    let once = first-once P f g x y in λ i. record { place = once.0 i; code = once.1 i }

-- the number that a refusal shows for a rule of this rank
abbrev code_of_rank : ℕ → ℕ
code_of_rank n =
    if n == rank Unknown then code_of Unknown
    else if n == rank Arity then code_of Arity
    else if n == rank NotLast then code_of NotLast else code_of Unsatisfied

ranked : (rule : OpRule) → code_of rule ≡ code_of_rank (rank rule)
ranked Unknown = refl
ranked Arity = refl
ranked NotLast = refl
ranked Unsatisfied = refl

module _ (loaded : Loaded) (forms : CustomForms) (tree : ModuleCst) where
  -- of the faults of operations one is shown, since ranks tell rules apart
  operations-once : (f g : Fault) (r s : OpRule)
      → IsFirst (IsOperationsFault loaded forms tree)
      (Some (record { place = f.place; code = rank r }))
      → IsFirst (IsOperationsFault loaded forms tree)
      (Some (record { place = g.place; code = rank s }))
      → f.code ≡ code_of r → g.code ≡ code_of s → f ≡ g
  operations-once f g r s x y is also =
      let once = first-once (IsOperationsFault loaded forms tree)
      (record { place = f.place; code = rank r }) (record { place = g.place; code = rank s }) x y in
      let codes = is ∙ ranked r ∙ ap code_of_rank once.1 ∙ sym (ranked s) ∙ sym also in
      λ i. record { place = once.0 i; code = codes i }

  pub refusal-once : (f g : Fault) → IsRefusal loaded forms tree f → IsRefusal loaded forms tree g
      → f ≡ g
  refusal-once f g (by_names x) (by_names y) = first-fault-once (IsNamesFault tree) f g x y
  refusal-once f g (by_names x) (by_values names y) = absurd (names f x.0)
  refusal-once f g (by_names x) (by_operations names values rule y code) = absurd (names f x.0)
  refusal-once f g (by_names x) (by_uses names values operations y) = absurd (names f x.0)
  refusal-once f g (by_values names x) (by_names y) = absurd (names g y.0)
  refusal-once f g (by_values names x) (by_values also y) =
      first-fault-once (IsValuesFault loaded forms tree) f g x y
  refusal-once f g (by_values names x) (by_operations also values rule y code) =
      absurd (values f x.0)
  refusal-once f g (by_values names x) (by_uses also values operations y) = absurd (values f x.0)
  refusal-once f g (by_operations names values rule x code) (by_names y) = absurd (names g y.0)
  refusal-once f g (by_operations names values rule x code) (by_values also y) =
      absurd (values g y.0)
  refusal-once f g (by_operations names values r x is) (by_operations also fine s y code) =
      operations-once f g r s x y is code
  refusal-once f g (by_operations names values rule x code) (by_uses also fine operations y) =
      absurd (operations (record { place = f.place; code = rank rule }) x.0)
  refusal-once f g (by_uses names values operations x) (by_names y) = absurd (names g y.0)
  refusal-once f g (by_uses names values operations x) (by_values also y) =
      absurd (values g y.0)
  refusal-once f g (by_uses names values operations x) (by_operations also fine rule y code) =
      absurd (operations (record { place = g.place; code = rank rule }) y.0)
  refusal-once f g (by_uses names values operations x) (by_uses also fine others y) =
      first-fault-once (IsUsesFault loaded forms tree) f g x y

  -- a module without faults isn't refused
  pub refused-faulty : (f : Fault) → IsFaultless loaded forms tree → IsRefusal loaded forms tree f
      → ⊥
  refused-faulty f none (by_names x) = none.names f x.0
  refused-faulty f none (by_values names x) = none.values f x.0
  refused-faulty f none (by_operations names values rule x code) =
      none.operations (record { place = f.place; code = rank rule }) x.0
  refused-faulty f none (by_uses names values operations x) = none.uses f x.0
