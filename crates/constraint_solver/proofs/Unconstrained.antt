-- Definitions that keep to nothing: any values are parameters of an instance, as many as there are.
-- The values themselves are the assignment, each at the number of its variable.
use Rattle.std.proofs.Common.{◌≡◌, ◌∙◌, ◌↔◌, ℕ, zero, suc, ◌+◌, inl, inr, List, [], ◌∷◌}
use Rattle.std.proofs.Common.{length, map, refl, ap, sym, subst, arith}
use Rattle.std.proofs.lemmas.List.{length-map}
use Rattle.std.proofs.lemmas.Option.{slice_get-map}
use Rattle.std.specs.Option.{option_map}
use Rattle.std.specs.Prelude.{slice_get}
use Rattle.std.specs.declared.option.Option.TheVariants.{Some}
use Rattle.attr_value.specs.Values.{Value}
use Rattle.dialect_defs.specs.declared.body.Constraint.{Constraint}
use Rattle.dialect_defs.specs.declared.definition.TypeDef.{TypeDef}
use Rattle.dialect_defs.specs.declared.entry.Entry.{Entry}
use Rattle.dialect_defs.specs.Assignments.{Tests, Assignment, HaveEach, Keeps, MeetsBody}
use Rattle.dialect_defs.specs.Bodies.{IsSoundAt}
use Rattle.dialect_defs.specs.Goodness.{vars_of}
use Rattle.constraint_solver.specs.Definitions.{IsInstanceOf, IsSoundDef, IsUnconstrained}
use Rattle.constraint_solver.proofs.Filled.{have-lengths, length-vars}

-- parameters that are the variables from n on have the values that an assignment has from n on
have-own : (a : Assignment) (params : List Entry) (kids : List Value) (n : ℕ)
    → length kids ≡ length params
    → ((i : ℕ) (param : Entry) → slice_get params i ≡ Some param → param.var.0 ≡ n + i)
    → ((i : ℕ) (x : Value) → slice_get kids i ≡ Some x → slice_get a (n + i) ≡ Some (Some x))
    → HaveEach a (vars_of params) kids
have-own a [] [] n many own has = tt
have-own a [] (x ∷ kids) n many own has = absurd (omega arith)
have-own a (p ∷ params) [] n many own has = absurd (omega arith)
have-own a (p ∷ params) (x ∷ kids) n many own has = (
  subst (λ v. slice_get a v ≡ Some (Some x)) (sym (own zero p refl)) (has zero x refl),
  have-own a params kids (n + 1) (omega arith)
      (λ i param is. let next : n + suc i ≡ n + 1 + i = omega arith in
      own (suc i) param is ∙ next)
      (λ i y is. let next : n + suc i ≡ n + 1 + i = omega arith in
      subst (λ v. slice_get a v ≡ Some (Some y)) next (has (suc i) y is)),
)

module _ (values : List Value) (tests : Tests) (d : TypeDef) (free : IsUnconstrained d) where
  -- the values as an assignment
  abbrev given : List Value → Assignment
  given kids = map Some kids

  meets-given : (kids : List Value) → length kids ≡ length d.params
      → MeetsBody values tests d.body (given kids)
  meets-given kids many = record {
    size = length-map kids Some ∙ many ∙ sym free.many;
    each = λ v c x is has. subst (λ k. Keeps values tests (given kids) k x)
        (sym (free.free v.0 c is)) tt;
  }

  has-given : (kids : List Value) (i : ℕ) (x : Value) → slice_get kids i ≡ Some x
      → slice_get (given kids) (0 + i) ≡ Some (Some x)
  has-given kids i x is =
      let here : 0 + i ≡ i = omega arith in
      subst (λ k. slice_get (given kids) k ≡ Some (Some x)) (sym here)
      (slice_get-map Some kids i ∙ ap (option_map Some) is)

  -- instances are all lists of as many values as there are parameters
  pub unconstrained-instances : (kids : List Value)
      → IsInstanceOf values tests d kids ↔ (length kids ≡ length d.params)
  unconstrained-instances kids = (
    λ instance. sym (sym (length-vars d.params)
        ∙ have-lengths instance.assignment (vars_of d.params) kids instance.params),
    λ many. record {
      assignment = given kids;
      meets = meets-given kids many;
      params = have-own (given kids) d.params kids 0 many
          (λ i param is. let here : i ≡ 0 + i = omega arith in free.own i param is ∙ here)
          (has-given kids);
    },
  )

-- each constraint of a definition that instances can be asked of may be its variable's
pub sound-at : {len count : ℕ} {d : TypeDef} → IsSoundDef len count d → (v : ℕ) (c : Constraint)
    → slice_get d.body.vars v ≡ Some c → IsSoundAt len count v c
sound-at {len} {count} {d} sound v c is = elim sound.either [
  | inl body ↦ body.body.each v c is
  | inr free ↦ subst (IsSoundAt len count v) (sym (free.free v c is)) tt
]
