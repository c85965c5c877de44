-- What a parametric constraint forces: a part for each parameter of a value.
use Rattle.std.proofs.Common.{◌≡◌, ◌∙◌, ℕ, Bool, List, length, sym, subst}
use Rattle.attr_value.specs.declared.head.Head.{Head}
use Rattle.attr_value.specs.declared.head.Head.TheVariants as h
use Rattle.attr_value.specs.declared.head.ValueId.{ValueId}
use Rattle.attr_value.specs.Ids.{kids_at}
use Rattle.attr_value.specs.Values.{Value, value, list_of}
use Rattle.attr_value.proofs.Kids.{length-kids-at}
use Rattle.dialect_defs.specs.declared.body.Constraint.TheVariants.{Parametric}
use Rattle.dialect_defs.specs.declared.body.VarId.{VarId}
use Rattle.dialect_defs.specs.Assignments.{Tests, Assignment, HaveEach, Keeps}
use Rattle.constraint_solver.specs.Search.{Refuted}
use Rattle.constraint_solver.proofs.Filled.{have-lengths}

module _ (values : List Value) (tests : Tests) (is_type : Bool) (name : List ℕ)
    (parts : List VarId) (head : Head) (ids : List ValueId) (x : Value)
    (is : x ≡ value head (kids_at values ids)) where
  abbrev Kept : Assignment → Type 0
  Kept a = Keeps values tests a (Parametric is_type name parts) x

  abbrev Parted : Assignment → Type 0
  Parted a = HaveEach a parts (list_of (kids_at values ids))

  kept-is : (a : Assignment) → Kept a → (head ≡ h.Dialect is_type name) × Parted a
  kept-is a kept = subst (λ y. Keeps values tests a (Parametric is_type name parts) y) is kept

  -- a value of the name keeps to the constraint where its parts have the parameters
  pub kept-of-parts : head ≡ h.Dialect is_type name → (a : Assignment) → Parted a → Kept a
  kept-of-parts named a parted =
      subst (λ y. Keeps values tests a (Parametric is_type name parts) y) (sym is) (named, parted)

  -- and its parts have the parameters where it keeps to it
  pub parts-of-kept : (a : Assignment) → Kept a → Parted a
  parts-of-kept a kept = (kept-is a kept).1

  -- a value of another name is refused
  pub kind-refuted : (old : Assignment) → (head ≡ h.Dialect is_type name → ⊥) → Refuted old Kept
  kind-refuted old other a under kept = other (kept-is a kept).0

  -- so is one of another number of parameters
  pub count-refuted : (old : Assignment) → (length parts ≡ length ids → ⊥) → Refuted old Kept
  count-refuted old other a under kept =
      other (have-lengths a parts (list_of (kids_at values ids)) (parts-of-kept a kept)
      ∙ length-kids-at values ids)
