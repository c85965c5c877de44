-- What is asked of a definition, of its lists as they are lent.
use Rattle.std.proofs.Common.{◌≡◌, ℕ, ◌<◌, ◌≤◌, List, Some, length, slice_get, sym, subst}
use Rattle.std.specs.List.{AllByRecursion}
use Rattle.dialect_defs.specs.Bodies.{AreBelow}
use Rattle.dialect_defs.specs.declared.body.Constraint.{Constraint}
use Rattle.dialect_defs.specs.declared.body.TheConstants.{VARIABLE_LIMIT}
use Rattle.dialect_defs.specs.declared.definition.OpDef.{OpDef}
use Rattle.dialect_defs.specs.declared.entry.AttrEntry.{AttrEntry}
use Rattle.dialect_defs.specs.declared.entry.Entry.{Entry}
use Rattle.type_infer.specs.Determined.{named_in}
use Rattle.type_infer.specs.Rule.{HasOrderedBody}

module _ (op : OpDef) (vars : List Constraint) (is_vars : vars ≡ op.body.vars) where
  abbrev AreOrdered : List Constraint → Type 0
  AreOrdered l = (v : ℕ) (c : Constraint) → slice_get l v ≡ Some c → AreBelow v (named_in c)

  pub ordered-vars : HasOrderedBody op → AreOrdered vars
  ordered-vars has =
      subst AreOrdered (sym is_vars) (λ v c is. has.named (record { 0 = v }) c is)

  pub ordered-entries : (entries slice : List Entry) → slice ≡ entries
      → AllByRecursion (λ (e : Entry). e.var.0 < length op.body.vars) entries
      → AllByRecursion (λ (e : Entry). e.var.0 < length vars) slice
  ordered-entries entries slice is below =
      subst (λ (vs : List Constraint). AllByRecursion (λ (e : Entry). e.var.0 < length vs) slice)
      (sym is_vars)
      (subst (AllByRecursion (λ (e : Entry). e.var.0 < length op.body.vars)) (sym is) below)

  pub entries-ordered : (entries slice : List Entry) → slice ≡ entries
      → AllByRecursion (λ (e : Entry). e.var.0 < length vars) slice
      → AllByRecursion (λ (e : Entry). e.var.0 < length op.body.vars) entries
  entries-ordered entries slice is below =
      subst (AllByRecursion (λ (e : Entry). e.var.0 < length op.body.vars)) is
      (subst (λ (vs : List Constraint). AllByRecursion (λ (e : Entry). e.var.0 < length vs) slice)
      is_vars below)

  pub ordered-attrs : (attrs slice : List AttrEntry) → slice ≡ attrs
      → AllByRecursion (λ (e : AttrEntry). e.var.0 < length op.body.vars) attrs
      → AllByRecursion (λ (e : AttrEntry). e.var.0 < length vars) slice
  ordered-attrs attrs slice is below =
      subst (λ (vs : List Constraint). AllByRecursion (λ (e : AttrEntry). e.var.0 < length vs) slice)
      (sym is_vars)
      (subst (AllByRecursion (λ (e : AttrEntry). e.var.0 < length op.body.vars)) (sym is) below)

  attrs-ordered : (attrs slice : List AttrEntry) → slice ≡ attrs
      → AllByRecursion (λ (e : AttrEntry). e.var.0 < length vars) slice
      → AllByRecursion (λ (e : AttrEntry). e.var.0 < length op.body.vars) attrs
  attrs-ordered attrs slice is below =
      subst (AllByRecursion (λ (e : AttrEntry). e.var.0 < length op.body.vars)) is
      (subst (λ (vs : List Constraint). AllByRecursion (λ (e : AttrEntry). e.var.0 < length vs) slice)
      is_vars below)

  -- the parts make the whole
  pub ordered-body : (operands results : List Entry) (attrs : List AttrEntry)
      → operands ≡ op.operands → results ≡ op.results → attrs ≡ op.attrs
      → length vars ≤ VARIABLE_LIMIT → AreOrdered vars
      → AllByRecursion (λ (e : Entry). e.var.0 < length vars) operands
      → AllByRecursion (λ (e : Entry). e.var.0 < length vars) results
      → AllByRecursion (λ (e : AttrEntry). e.var.0 < length vars) attrs → HasOrderedBody op
  ordered-body operands results attrs is_operands is_results is_attrs few ordered one two three =
      record {
        few = subst (λ (l : List Constraint). length l ≤ VARIABLE_LIMIT) is_vars few;
        named = λ v c is. (subst AreOrdered is_vars ordered) v.0 c is;
        operands = entries-ordered op.operands operands is_operands one;
        results = entries-ordered op.results results is_results two;
        attrs = attrs-ordered op.attrs attrs is_attrs three;
      }
